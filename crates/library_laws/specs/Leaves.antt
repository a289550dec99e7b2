-- The slots of library types, counted: each is found by going through Options and Arrays from the type of an argument or of a field, and
-- such a type has a name beside it. So there are no more slots than such names. By induction on the levels and on the pool. Assumes nothing.
use Prim.Native.Nat.{ℕ, zero, suc, ◌+◌, ◌*◌, ◌≤◌, ◌<◌}
use native.Mathlib.Omega.{arith}
use Rattle.std.proofs.Common.{add-one}
use Rattle.std.specs.Prelude.{◌≡◌, Bool, cond, ◌||◌, ◌&&◌, ◌⊎◌, length, get_or, eqb}
use Rattle.std.proofs.Math.Path.{refl}
use Rattle.std.proofs.Math.Bool.{true, false, not}
use Rattle.std.proofs.lemmas.Bool.{false≢true}
use Rattle.std.proofs.Math.Logic.{inl, inr}
use mathlib.Core.List.{List, [], ◌∷◌, ◌++◌}
use Rattle.std.proofs.Math.ListN.{length-append}
use borrow.Author.Tests.{eq-eqb, ne_eqb}
use Rattle.tok.specs.Word.{kind_of, payload_of}
use Rattle.tok.specs.Text.{Texts, name_bytes, same_bytes}
use Rattle.tok.specs.Name.{in_library}
use Rattle.tok.proofs.NameLaws.{good_name-kind}
use Rattle.ptype.specs.Words.{inner_word, field_count, fields_from, unfolded, ty_of}
use Rattle.ptype.specs.Kinds.{wraps, names, one_of, shape, is_plain, is_wrap, is_record, is_named}
use Rattle.ptype.proofs.UnfoldLaws.{unfolded-none, unfolded-plain, unfolded-wrap, unfolded_record, unfolded-named}
use Rattle.ptype.specs.Inside.{wrapped, in_field}
use Rattle.library.specs.Pool.{Pool}
use Rattle.library.specs.Slots.{slot_names, slot_names_in, name_among}
use Rattle.library.specs.TypeWords.{TypeWord, either_true}
use Rattle.library.specs.PoolRead.{PoolFine}
use Rattle.library.specs.PoolTypes.{type-inside}
use Rattle.rules.specs.Promises.{Every}
use Rattle.library_laws.specs.Slots.{slots_in}
use Rattle.library_laws.specs.Bindings.{among-left, among-right}

-- the slot at the end of a type's Options and Arrays, if there is one
unfoldable pub leaf_names : Texts → (types : List ℕ) → (deep w : ℕ) → List (List ℕ)
leaf_names t types zero w = []
leaf_names t types (suc f) w = cond (wraps (kind_of w)) (leaf_names t types f (inner_word types w)) (cond (eqb (kind_of w) 10) (name_bytes t w ∷ []) [])

-- those of the words of a list that stand behind a name; `prev` is the word before the list
unfoldable pub leaves_after : Texts → (types : List ℕ) → (prev : ℕ) → List ℕ → List (List ℕ)
leaves_after t types prev [] = []
leaves_after t types prev (w ∷ ws) = cond (eqb (kind_of prev) 12 && not (eqb (kind_of w) 12)) (leaf_names t types 33 w) [] ++ leaves_after t types w ws

-- the field types of a pool
abbrev pub field_leaves : Texts → (pool : List ℕ) → List (List ℕ)
field_leaves t pool = leaves_after t pool 0 pool

-- some types
unfoldable pub leaves_of : Texts → (types ws : List ℕ) → List (List ℕ)
leaves_of t types [] = []
leaves_of t types (w ∷ ws) = leaf_names t types 33 w ++ leaves_of t types ws

-- ── How many ──

module _ (t : Texts) (types : List ℕ) where
  one-most : (b c : Bool) (xs : List (List ℕ)) (n : List ℕ) → length xs ≤ 1 → length (cond b xs (cond c (n ∷ []) [])) ≤ 1
  one-most true c xs n h = h
  one-most false true xs n h = omega arith
  one-most false false xs n h = omega arith

  leaf-most : (f w : ℕ) → length (leaf_names t types f w) ≤ 1
  unfolding leaf_names
  leaf-most zero w = omega arith
  leaf-most (suc f) w = one-most (wraps (kind_of w)) (eqb (kind_of w) 10) _ _ (leaf-most f (inner_word types w))

  pub leaves_of-most : (ws : List ℕ) → length (leaves_of t types ws) ≤ length ws
  unfolding leaves_of
  leaves_of-most [] = omega arith
  leaves_of-most (w ∷ ws) = simp length-append (omega (arith, leaf-most 33 w, leaves_of-most ws))

  -- a name, which counts for the word behind it
  abbrev credit : ℕ → ℕ
  credit w = cond (eqb (kind_of w) 12) 1 0

  counted : (a b : Bool) (xs : List (List ℕ)) (m l : ℕ) → length xs ≤ 1 → 2 * m ≤ l + cond b 1 0
      → 2 * (length (cond (a && not b) xs []) + m) ≤ suc l + cond a 1 0
  counted true true xs m l h k = omega arith
  counted true false xs m l h k = omega arith
  counted false true xs m l h k = omega arith
  counted false false xs m l h k = omega arith

  leaves_after-most : (prev : ℕ) (ws : List ℕ) → 2 * length (leaves_after t types prev ws) ≤ length ws + credit prev
  unfolding leaves_after
  leaves_after-most prev [] = omega arith
  leaves_after-most prev (w ∷ ws) =
      simp length-append (counted (eqb (kind_of prev) 12) (eqb (kind_of w) 12) (leaf_names t types 33 w) (length (leaves_after t types w ws)) (length ws) (leaf-most 33 w) (leaves_after-most w ws))

pub field_leaves-most : (t : Texts) (pool : List ℕ) → 2 * length (field_leaves t pool) ≤ length pool
field_leaves-most t pool = omega (arith, leaves_after-most t pool 0 pool)

-- ── Which ──

pub among-either : (n : List ℕ) (xs ys : List (List ℕ)) → name_among n (xs ++ ys) ≡ true → (name_among n xs ≡ true) ⊎ (name_among n ys ≡ true)
unfolding name_among
among-either n [] ys e = inr e
among-either n (x ∷ xs) ys e = elim (either_true (same_bytes n x) (name_among n (xs ++ ys)) e) [
  | inl h ↦ inl (rw h refl)
  | inr h ↦ elim (among-either n xs ys h) [ inl k ↦ inl (or_right (same_bytes n x) k) | inr k ↦ inr k ]
]
  where
    or_right : (a : Bool) {b : Bool} → b ≡ true → (a || b) ≡ true
    or_right true e = refl
    or_right false e = e

module _ (t : Texts) (types : List ℕ) (n : List ℕ) where
  leaf-more : (f g w : ℕ) → f ≤ g → name_among n (leaf_names t types f w) ≡ true → name_among n (leaf_names t types g w) ≡ true
  unfolding leaf_names name_among
  leaf-more zero g w l e = absurd (false≢true e)
  leaf-more (suc f) zero w l e = absurd (omega arith)
  leaf-more (suc f) (suc g) w l e =
      let x : ℕ = inner_word types w in
      by (leaf_names t types f x) (leaf_names t types g x) _ (wraps (kind_of w)) (leaf-more f g x (omega arith)) e
    where
      by : (xs ys zs : List (List ℕ)) (b : Bool) → (name_among n xs ≡ true → name_among n ys ≡ true) → name_among n (cond b xs zs) ≡ true → name_among n (cond b ys zs) ≡ true
      by xs ys zs true h e = h e
      by xs ys zs false h e = e

  leaves_at : (prev : ℕ) (ws : List ℕ) (i : ℕ) → i < length ws → kind_of (get_or (prev ∷ ws) i 0) ≡ 12 → (kind_of (get_or ws i 0) ≡ 12 → ⊥)
      → name_among n (leaf_names t types 33 (get_or ws i 0)) ≡ true → name_among n (leaves_after t types prev ws) ≡ true
  unfolding leaves_after
  leaves_at prev [] i l k d e = absurd (omega arith)
  leaves_at prev (w ∷ ws) zero l k d e = rw (eq-eqb _ _ k, ne_eqb _ _ d) (among-left n (leaf_names t types 33 w) (leaves_after t types w ws) e)
  leaves_at prev (w ∷ ws) (suc i) l k d e =
      among-right n (cond (eqb (kind_of prev) 12 && not (eqb (kind_of w) 12)) (leaf_names t types 33 w) []) (leaves_after t types w ws) (leaves_at w ws i (omega arith) k d e)

-- a field of the pool at index j: its name, and its type behind it
record FieldAt (p : Pool) (j : ℕ) : Type 0 where
  name : kind_of (get_or p.words j 0) ≡ 12
  type : TypeWord p p.size (get_or p.words (j + 1) 0)
  inside : j + 1 < length p.words

module _ (p : Pool) (fine : PoolFine p) (whole : length p.words ≡ p.size) (n : List ℕ) where
  abbrev Leaf : (f w : ℕ) → Type 0
  Leaf f w = name_among n (leaf_names p.texts p.words f w) ≡ true

  abbrev Other : Type 0
  Other = name_among n (field_leaves p.texts p.words) ≡ true

  field-leaf : (f j : ℕ) → f ≤ 33 → FieldAt p j → Leaf f (get_or p.words (j + 1) 0) → Other
  field-leaf f j l h e =
      leaves_at p.texts p.words n 0 p.words (j + 1) h.inside (rw (add-one j) h.name) (λ k. omega (arith, h.type.kind.high))
      (leaf-more p.texts p.words n f 33 (get_or p.words (j + 1) 0) l e)

  fields-covered : (f : ℕ) → f ≤ 33
      → ((v : ℕ) → TypeWord p p.size v → name_among n (slot_names (unfolded p.texts p.words f v)) ≡ true → (Leaf f v) ⊎ Other)
      → (at k : ℕ) → ((i j : ℕ) → i < k → j ≡ at + 2 * i → FieldAt p j)
      → name_among n (slot_names_in (fields_from (unfolded p.texts p.words f) p.texts p.words at k)) ≡ true → Other
  unfolding fields_from slot_names name_among
  fields-covered f l go at zero h e = absurd (false≢true e)
  fields-covered f l go at (suc k) h e =
      let one = h 0 at (omega arith) (omega arith) in
      elim (among-either n (slot_names (unfolded p.texts p.words f (get_or p.words (at + 1) 0))) _ e) [
        | inl a ↦ elim (go (get_or p.words (at + 1) 0) one.type a) [ inl b ↦ field-leaf f at l one b | inr b ↦ b ]
        | inr a ↦ fields-covered f l go (at + 2) k (λ i j m q. h (suc i) j (omega arith) (omega arith)) a
      ]

  -- a slot of a type is the one at the end of its Options and Arrays, or that of a field of the pool
  covered : (f w : ℕ) → f ≤ 33 → TypeWord p p.size w → name_among n (slot_names (unfolded p.texts p.words f w)) ≡ true → (Leaf f w) ⊎ Other
  unfolding leaf_names slot_names name_among
  covered zero w l t e = absurd (false≢true (rw (unfolded-none p.texts p.words w {deep = 0} refl) at e))
  covered (suc f) w l t e = elim (shape (kind_of w)) [
    | is_plain h ↦ absurd (false≢true (rw (unfolded-plain p.texts p.words w {deep = suc f} refl refl h) at e))
    | is_wrap h ↦
        let d = rw (unfolded-wrap p.texts p.words w {deep = suc f} refl refl h) at e in
        elim (covered f (inner_word p.words w) (omega arith) (type-inside fine t (wrapped h)) d) [ inl a ↦ inl (rw h a) | inr a ↦ inr a ]
    | is_record h ↦
        let d = rw (unfolded_record p.texts p.words w {deep = suc f} refl refl h) at e in
        let b = t.list h in
        let pairs = ((fine.each (payload_of w) b.below).list b.count).pairs in
        inr (fields-covered f (omega arith) (λ v. covered f v (omega arith)) (payload_of w + 1) (field_count p.words w)
        (λ i j m q. rw q (record {
          name = good_name-kind in_library p.texts.library _ (pairs i m).name;
          type = type-inside fine t (in_field h i m);
          inside = omega (arith, b.whole);
        })) d)
    | is_named h ↦ inl (slot-leaf h (rw (unfolded-named p.texts p.words w {deep = suc f} refl refl h) at e))
  ]
    where
      slot-leaf : names (kind_of w) ≡ true → name_among n (elim (eqb (kind_of w) 10) [ true ↦ name_bytes p.texts w ∷ [] | false ↦ [] ]) ≡ true
          → name_among n (cond (wraps (kind_of w)) (leaf_names p.texts p.words f (inner_word p.words w)) (cond (eqb (kind_of w) 10) (name_bytes p.texts w ∷ []) [])) ≡ true
      slot-leaf h e = elim (one_of 9 10 (kind_of w) h) [
        | inl k ↦ absurd (false≢true (rw k at e))
        | inr k ↦ rw k (rw k at e)
      ]

  -- THE LAW: the slots of some types are among those counted.
  pub slots-counted : (ws : List ℕ) → Every (TypeWord p p.size) ws → name_among n (slots_in p.texts p.words ws) ≡ true
      → name_among n (leaves_of p.texts p.words ws ++ field_leaves p.texts p.words) ≡ true
  unfolding Every slots_in leaves_of name_among ty_of
  slots-counted [] h e = absurd (false≢true e)
  slots-counted (w ∷ ws) h e =
      let own : List (List ℕ) = leaf_names p.texts p.words 33 w in
      let rest : List (List ℕ) = leaves_of p.texts p.words ws in
      let last : List (List ℕ) = field_leaves p.texts p.words in
      elim (among-either n (slot_names (unfolded p.texts p.words 33 w)) _ e) [
        | inl a ↦ elim (covered 33 w (omega arith) h.0 a) [
          | inl b ↦ among-left n (own ++ rest) last (among-left n own rest b)
          | inr b ↦ among-right n (own ++ rest) last b
        ]
        | inr a ↦ elim (among-either n rest last (slots-counted ws h.1 a)) [
          | inl b ↦ among-left n (own ++ rest) last (among-right n own rest b)
          | inr b ↦ among-right n (own ++ rest) last b
        ]
      ]
