-- Bindings of slots have distinct names, all of them from the types that were bound: so there are no more of them than such names. By
-- induction over types, and over the bindings with one name taken away each time. Assumes nothing.
use Rattle.std.specs.Prelude.{ℕ, suc, ◌+◌, ◌-◌, ◌≤◌, ◌≡◌, refl, Bool, ◌||◌, List, [], ◌∷◌, ◌++◌, length, get_or, eqb}
use Rattle.std.proofs.Common.{arith, sym, ap, ◌∙◌, inl, inr}
use Rattle.std.proofs.Math.Bool.{true, false, or-true}
use Rattle.std.proofs.lemmas.Bool.{false≢true}
use Rattle.std.proofs.Math.Option.{Option, none, some}
use Rattle.tok.specs.Word.{kind_of, payload_of}
use Rattle.tok.specs.Text.{Texts, same_bytes}
use Rattle.tok.proofs.TextLaws.{same_bytes-true, eq_same_bytes}
use Rattle.ptype.specs.Ty.{Ty, Fields, plain, wrap, rec, named, no_field, field, same_ty}
use Rattle.ptype.specs.Words.{inner_word, field_count, ty_of}
use Rattle.ptype.specs.Slots.{Binding, bound_to, Bound, all_bound, conflict, void_slot, and_then, bind_found, bind_one, bind_slots, bind_fields}
use Rattle.slots.specs.Bindings.{bindings_after}
use Rattle.slots.specs.BindLaws.{Extends, same, more, extends-trans, bind-extends}
use Rattle.library.specs.Slots.{slot_names, slot_names_in, name_among}
use Rattle.library.specs.TypeWords.{either_true}
use Rattle.rules.specs.Promises.{Every}

-- a binding of one of some names
abbrev Of : List (List ℕ) → Binding → Type 0
Of names b = name_among b.slot names ≡ true

-- names that are all among others
pub record Part (names others : List (List ℕ)) : Type 0 where
  pub each : (n : List ℕ) → name_among n names ≡ true → name_among n others ≡ true

-- Bindings of slots that have these names, each bound once.
pub record Held (names : List (List ℕ)) (bs : List Binding) : Type 0 where
  pub among : Every (λ b. name_among b.slot names ≡ true) bs
  pub once : Extends [] bs

pub held_none : (names : List (List ℕ)) → Held names []
unfolding Every
held_none names = record { among = tt; once = same }

-- ── Names among names ──

pub among-left : (n : List ℕ) (xs ys : List (List ℕ)) → name_among n xs ≡ true → name_among n (xs ++ ys) ≡ true
unfolding name_among
among-left n [] ys e = absurd (false≢true e)
among-left n (x ∷ xs) ys e = elim (either_true (same_bytes n x) (name_among n xs) e) [
  | inl s ↦ rw s refl
  | inr s ↦ rw (among-left n xs ys s) (or-true (same_bytes n x))
]

pub among-right : (n : List ℕ) (xs ys : List (List ℕ)) → name_among n ys ≡ true → name_among n (xs ++ ys) ≡ true
unfolding name_among
among-right n [] ys e = e
among-right n (x ∷ xs) ys e = rw (among-right n xs ys e) (or-true (same_bytes n x))

-- ── Binding ──

module _ (texts : Texts) (types : List ℕ) (names : List (List ℕ)) where
  found_among : (s : List ℕ) (a : ℕ) (bs : List Binding) (o : Option ℕ) → name_among s names ≡ true → Every (Of names) bs → Every (Of names) (bindings_after (bind_found texts types s a bs o))
  unfolding bind_found bindings_after Every
  found_among s a bs none n h = (n, h)
  found_among s a bs (some e) n h = go (same_ty (ty_of texts types e) (ty_of texts types a))
    where
      go : (q : Bool) → Every (Of names) (bindings_after (elim q [ true ↦ all_bound bs | false ↦ conflict bs s e a ]))
      go true = h
      go false = h

  one-among : (s : List ℕ) (a : ℕ) (bs : List Binding) → name_among s names ≡ true → Every (Of names) bs → Every (Of names) (bindings_after (bind_one texts types s a bs))
  unfolding bind_one bindings_after
  one-among s a bs n h = go (eqb (kind_of a) 1)
    where
      go : (q : Bool) → Every (Of names) (bindings_after (elim q [ true ↦ void_slot bs s | false ↦ bind_found texts types s a bs (bound_to s bs) ]))
      go true = h
      go false = found_among s a bs (bound_to s bs) n h

  if_among : (q : Bool) (r : Bound) (bs : List Binding) → Every (Of names) bs → Every (Of names) (bindings_after r) → Every (Of names) (bindings_after (elim q [ true ↦ r | false ↦ all_bound bs ]))
  unfolding bindings_after
  if_among true r bs h k = k
  if_among false r bs h k = h

  then-among : (r : Bound) (f : List Binding → Bound) → Every (Of names) (bindings_after r) → ((bs : List Binding) → Every (Of names) bs → Every (Of names) (bindings_after (f bs)))
      → Every (Of names) (bindings_after (and_then r f))
  unfolding and_then bindings_after
  then-among (all_bound bs) f h k = k bs h
  then-among (conflict bs s x a) f h k = h
  then-among (void_slot bs s) f h k = h

  left-among : (q : Bool) (r : Bound) (f : List Binding → Bound) (bs : List Binding) → Every (Of names) bs → Every (Of names) (bindings_after r)
      → ((bs : List Binding) → Every (Of names) bs → Every (Of names) (bindings_after (f bs))) → Every (Of names) (bindings_after (elim q [ true ↦ all_bound bs | false ↦ and_then r f ]))
  unfolding bindings_after
  left-among true r f bs h k l = h
  left-among false r f bs h k l = then-among r f k l

  slot-among : (k : ℕ) (n : List ℕ) (a : ℕ) (bs : List Binding) (q : Bool)
      → Part (elim q [ true ↦ n ∷ [] | false ↦ [] ]) names → Every (Of names) bs → Every (Of names) (bindings_after (elim q [ true ↦ bind_one texts types n a bs | false ↦ all_bound bs ]))
  unfolding bindings_after name_among
  slot-among k n a bs true p h = one-among n a bs (p.each n (rw (eq_same_bytes n n refl) refl)) h
  slot-among k n a bs false p h = h

  mutual
    unfolding bind_slots bindings_after slot_names

    bind-among : (t : Ty) (w : ℕ) (bs : List Binding) → Part (slot_names t) names → Every (Of names) bs → Every (Of names) (bindings_after (bind_slots texts types t w bs))
    bind-among (plain k) w bs p h = h
    bind-among (wrap k t) w bs p h = if_among (eqb (kind_of w) k) (bind_slots texts types t (inner_word types w) bs) bs h (bind-among t (inner_word types w) bs p h)
    bind-among (rec fs) w bs p h =
        if_among (eqb (kind_of w) 8) (bind_fields texts types fs (payload_of w + 1) (field_count types w) bs) bs h
        (fields-among fs (payload_of w + 1) (field_count types w) bs p h)
    bind-among (named k n) w bs p h = slot-among k n w bs (eqb k 10) p h

    fields-among : (fs : Fields) (at left : ℕ) (bs : List Binding) → Part (slot_names_in fs) names → Every (Of names) bs → Every (Of names) (bindings_after (bind_fields texts types fs at left bs))
    fields-among no_field at left bs p h = h
    fields-among (field n t fs) at left bs p h =
        left-among (eqb left 0) (bind_slots texts types t (get_or types (at + 1) 0) bs) (λ cs. bind_fields texts types fs (at + 2) (left - 1) cs) bs h
        (bind-among t (get_or types (at + 1) 0) bs (record { each = λ m e. p.each m (among-left m (slot_names t) (slot_names_in fs) e) }) h)
        (λ cs k. fields-among fs (at + 2) (left - 1) cs (record { each = λ m e. p.each m (among-right m (slot_names t) (slot_names_in fs) e) }) k)

  -- Binding a type whose slots have these names keeps it.
  pub held-bind : (t : Ty) (w : ℕ) (bs : List Binding) → Part (slot_names t) names → Held names bs → Held names (bindings_after (bind_slots texts types t w bs))
  held-bind t w bs p h = record { among = bind-among t w bs p h.among; once = extends-trans h.once (bind-extends texts types t w bs) }

-- ── How many ──

-- names without the first that is one
unfoldable without : List ℕ → List (List ℕ) → List (List ℕ)
without n [] = []
without n (x ∷ xs) = elim (same_bytes n x) [ true ↦ xs | false ↦ x ∷ without n xs ]

without-length : (n : List ℕ) (xs : List (List ℕ)) → name_among n xs ≡ true → length xs ≡ suc (length (without n xs))
unfolding without name_among
without-length n [] e = absurd (false≢true e)
without-length n (x ∷ xs) e = go (without-length n xs) (same_bytes n x) e
  where
    go : (name_among n xs ≡ true → length xs ≡ suc (length (without n xs))) → (q : Bool) → (q || name_among n xs) ≡ true
        → suc (length xs) ≡ suc (length {A = List ℕ} (elim q [ true ↦ xs | false ↦ x ∷ without n xs ]))
    go next true e = refl
    go next false e = ap suc (next e)

without-keeps : (m n : List ℕ) (xs : List (List ℕ)) → same_bytes n m ≡ false → name_among m xs ≡ true → name_among m (without n xs) ≡ true
unfolding without name_among
without-keeps m n [] d e = e
without-keeps m n (x ∷ xs) d e = go (without-keeps m n xs d) (same_bytes n x) refl
  where
    go : (name_among m xs ≡ true → name_among m (without n xs) ≡ true) → (q : Bool) → same_bytes n x ≡ q → name_among m (elim q [ true ↦ xs | false ↦ x ∷ without n xs ]) ≡ true
    go next true s = elim (either_true (same_bytes m x) (name_among m xs) e) [
      | inl h ↦ absurd (false≢true (sym d ∙ eq_same_bytes n m (same_bytes-true n x s ∙ sym (same_bytes-true m x h))))
      | inr h ↦ h
    ]
    go next false s = elim (either_true (same_bytes m x) (name_among m xs) e) [
      | inl h ↦ rw h refl
      | inr h ↦ rw (next h) (or-true (same_bytes m x))
    ]

keep_all : (n : List ℕ) (names : List (List ℕ)) (bs : List Binding) → bound_to n bs ≡ none → Every (Of names) bs → Every (Of (without n names)) bs
unfolding bound_to Every
keep_all n names [] e h = tt
keep_all n names (b ∷ bs) e h = go (λ d. keep_all n names bs d h.1) (same_bytes n b.slot) refl e
  where
    go : (bound_to n bs ≡ none → Every (Of (without n names)) bs) → (q : Bool) → same_bytes n b.slot ≡ q
        → ◌≡◌ {A = Option ℕ} (elim q [ true ↦ some b.word | false ↦ bound_to n bs ]) none → (Of (without n names) b) × Every (Of (without n names)) bs
    go next true s e = let z : ◌≡◌ {A = ℕ} 0 1 = cc in absurd (omega arith)
    go next false s e = (without-keeps b.slot n names s h.0, next e)

bindings-most : (bs : List Binding) → Extends [] bs → (names : List (List ℕ)) → Every (Of names) bs → length bs ≤ length names
unfolding Every
bindings-most _ same names h = omega arith
bindings-most _ (more {bs' = bs} {s = s} e n) names h =
    omega (arith, bindings-most bs e (without s names) (keep_all s names bs n h.1), without-length s names h.0)

every-part : (names others : List (List ℕ)) → Part names others → (bs : List Binding) → Every (Of names) bs → Every (Of others) bs
unfolding Every
every-part names others p [] h = tt
every-part names others p (b ∷ bs) h = (p.each b.slot h.0, every-part names others p bs h.1)

-- THE LAW: there are no more bindings than names that hold all of theirs.
pub held-most : (names others : List (List ℕ)) → Part names others → (bs : List Binding) → Held names bs → length bs ≤ length others
held-most names others p bs h = bindings-most bs h.once others (every-part names others p bs h.among)
