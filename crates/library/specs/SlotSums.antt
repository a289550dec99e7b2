-- Whether a slot stands in a library type, found without unfolding it: from how many pool words before each index hold one.
-- A type holds a slot where one of the words that it refers to does, and those lie between two indices. Definitions, and the law.
-- Assumes nothing.
use Prim.Native.Nat.{ℕ, zero, suc, ◌+◌, ◌*◌, ◌≤◌, ◌<◌}
use Rattle.std.specs.Prelude.{◌≡◌, Bool, true, false, ◌||◌, List, length, get_or, set, replicate, ltb, eqb}
use Rattle.std.proofs.Math.Path.{refl, sym, ap}
use Rattle.std.proofs.Common.{ap₂, ◌∙◌, true≢false, add-one, length-set, get_or-set_same, get_or-set_other}
use Rattle.std.proofs.Math.Logic.{inl, inr}
use Rattle.std.proofs.Math.Bool.{cond}
use native.Mathlib.Omega.{arith}
use Rattle.std.proofs.Math.Nat.{add-zero, add-suc}
use Rattle.std.proofs.lemmas.List.{length-replicate}
use Rattle.std.proofs.Math.Seq.{set_out}
use Rattle.std.proofs.Math.Decide.{dec_lt, ℕ_discrete}
use borrow.Author.Tests.{lt-ltb, le-ltb, ne_eqb}
use Rattle.tok.specs.Word.{kind_of, payload_of}
use Rattle.tok.specs.Text.{Texts}
use Rattle.tok.proofs.NameLaws.{good_name-kind}
use Rattle.ptype.specs.Ty.{contains_slot, any_slot}
use Rattle.ptype.specs.Words.{field_count, fields_from}
use Rattle.ptype.specs.Kinds.{wraps, names, one_of, Plain, shape, is_plain, is_wrap, is_record, is_named}
use Rattle.ptype.specs.Inside.{Refers}
use Rattle.ptype.proofs.InsideLaws.{refers-more}
use Rattle.library.specs.Pool.{Pool, pool_word, pool_in}
use Rattle.library.specs.Slots.{pool_ty}
use Rattle.library.specs.TypeWords.{TypeWord, good_type-true}
use Rattle.library.specs.PoolRead.{PoolFine}
use Rattle.library.specs.PoolTrees.{type-refers, pool_backward, pool_ty-plain, pool_ty-wrap, pool_ty_record, pool_ty-named}

-- how many pool words before index i hold a slot
unfoldable pub slots_before : Pool → (i : ℕ) → ℕ
slots_before p zero = 0
slots_before p (suc i) = slots_before p i + cond (contains_slot (pool_ty p (pool_word p i))) 1 0

-- Whether a word holds a slot, where `before` counts them: a Slot does, an Option or Array if the word that it refers to does, a Record
-- if one of its list does.
unfoldable pub slot_by : (before : ℕ → ℕ) → (types : List ℕ) → (w : ℕ) → Bool
slot_by before types w =
    cond (eqb (kind_of w) 10) true
    (cond (wraps (kind_of w)) (ltb (before (payload_of w)) (before (payload_of w + 1)))
    (cond (eqb (kind_of w) 8) (ltb (before (payload_of w + 1)) (before (payload_of w + 1 + 2 * field_count types w))) false))

-- no slot counted and nothing marked
unfoldable pub zeros : ℕ → List ℕ
zeros n = replicate n 0

-- The counts as they are filled in, one pool word after another: how many of those before index j hold a slot stands at j.
unfoldable pub add_sum : (types : List ℕ) → (i : ℕ) → List ℕ → List ℕ
add_sum types i sums = set sums (i + 1) (get_or sums i 0 + cond (slot_by (λ j. get_or sums j 0) types (get_or types i 0)) 1 0)

unfoldable pub sums_to : (types : List ℕ) → (i : ℕ) → List ℕ
sums_to types zero = zeros 8193
sums_to types (suc i) = add_sum types i (sums_to types i)

-- ── By shape ──

or_second : (a b : Bool) → (a || b) ≡ false → b ≡ false
or_second true b e = absurd (true≢false e)
or_second false b e = e

module _ (before : ℕ → ℕ) (types : List ℕ) (w : ℕ) where
  slot_by-plain : Plain (kind_of w) → slot_by before types w ≡ false
  unfolding slot_by
  slot_by-plain h = rw (or_second (eqb (kind_of w) 9) (eqb (kind_of w) 10) h.no_name, h.no_wrap, ne_eqb (kind_of w) 8 h.no_record) refl

  pub slot_by-wrap : wraps (kind_of w) ≡ true → slot_by before types w ≡ ltb (before (payload_of w)) (before (payload_of w + 1))
  unfolding slot_by
  slot_by-wrap h = elim (one_of 6 7 (kind_of w) h) [ inl e ↦ rw e refl | inr e ↦ rw e refl ]

  pub slot_by_record : kind_of w ≡ 8 → slot_by before types w ≡ ltb (before (payload_of w + 1)) (before (payload_of w + 1 + 2 * field_count types w))
  unfolding slot_by
  slot_by_record e = rw e refl

  slot_by-named : names (kind_of w) ≡ true → slot_by before types w ≡ eqb (kind_of w) 10
  unfolding slot_by
  slot_by-named h = elim (one_of 9 10 (kind_of w) h) [ inl e ↦ rw e refl | inr e ↦ rw e refl ]

-- only the counts up to what a word refers to matter
pub slot_by-same : (f g : ℕ → ℕ) (types : List ℕ) (own w : ℕ) → Refers types own w → ((j : ℕ) → j ≤ own → f j ≡ g j) → slot_by f types w ≡ slot_by g types w
slot_by-same f g types own w r h = elim (shape (kind_of w)) [
  | is_plain k ↦ slot_by-plain f types w k ∙ sym (slot_by-plain g types w k)
  | is_wrap k ↦
      let b = r.to_inner k in
      slot_by-wrap f types w k ∙ ap₂ ltb (h (payload_of w) (omega arith)) (h (payload_of w + 1) (omega arith)) ∙ sym (slot_by-wrap g types w k)
  | is_record k ↦
      let b = r.to_fields k in
      slot_by_record f types w k ∙ ap₂ ltb (h (payload_of w + 1) (omega arith)) (h (payload_of w + 1 + 2 * field_count types w) b) ∙ sym (slot_by_record g types w k)
  | is_named k ↦ slot_by-named f types w k ∙ sym (slot_by-named g types w k)
]

-- ── The counts ──

module _ (p : Pool) where
  pub slots_before-next : (i : ℕ) → slots_before p (i + 1) ≡ slots_before p i + cond (contains_slot (pool_ty p (pool_word p i))) 1 0
  unfolding slots_before
  slots_before-next i = rw (add-one i) refl

  slots_before_grow : (i k : ℕ) → slots_before p i ≤ slots_before p (i + k)
  unfolding slots_before
  slots_before_grow i zero = rw add-zero (omega arith)
  slots_before_grow i (suc k) = rw add-suc (omega (arith, slots_before_grow i k))

  -- one more slot or none
  rises : (b : Bool) (x y : ℕ) → y ≡ x + cond b 1 0 → ltb x y ≡ b
  rises true x y e = lt-ltb x y (omega arith)
  rises false x y e = le-ltb x y (omega arith)

  -- a slot among the first or among those after
  rises-more : (b : Bool) (x y z : ℕ) → y ≡ x + cond b 1 0 → y ≤ z → (b || ltb y z) ≡ ltb x z
  rises-more true x y z e l = sym (lt-ltb x z (omega arith))
  rises-more false x y z e l = ap (λ v. ltb v z) (e ∙ add-zero x)

  -- ── What they tell of a word ──

  name-none : (i : ℕ) → kind_of (pool_word p i) ≡ 12 → slots_before p (i + 1) ≡ slots_before p i
  unfolding contains_slot
  name-none i k =
      slots_before-next i
      ∙ rw (pool_ty-plain p (pool_word p i) (record { no_wrap = rw k refl; no_record = λ e. omega arith; no_name = rw k refl })) (add-zero (slots_before p i))

  -- the fields of a list, whose names hold none
  slots-fields : (at n : ℕ) → ((k i : ℕ) → k < n → i ≡ at + 2 * k → kind_of (pool_word p i) ≡ 12)
      → any_slot (fields_from (pool_ty p) p.texts p.words at n) ≡ ltb (slots_before p at) (slots_before p (at + 2 * n))
  unfolding fields_from any_slot
  slots-fields at zero h = sym (le-ltb (slots_before p at) (slots_before p (at + 0)) (rw add-zero (omega arith)))
  slots-fields at (suc n) h =
      let one : at + 2 ≡ at + 1 + 1 = omega arith in
      let e : slots_before p (at + 2) ≡ slots_before p at + cond (contains_slot (pool_ty p (pool_word p (at + 1)))) 1 0 =
      ap (slots_before p) one ∙ slots_before-next (at + 1) ∙ rw (name-none at (h 0 at (omega arith) (omega arith))) refl in
      let r : at + 2 * suc n ≡ at + 2 + 2 * n = omega arith in
      rw (r, slots-fields (at + 2) n (λ k i l q. h (suc k) i (omega arith) (omega arith)))
      (rises-more (contains_slot (pool_ty p (pool_word p (at + 1)))) (slots_before p at) (slots_before p (at + 2)) (slots_before p (at + 2 + 2 * n)) e (slots_before_grow (at + 2) (2 * n)))

  module _ (fine : PoolFine p) (own w : ℕ) (l : own ≤ p.size) (t : TypeWord p own w) where
    refers : Refers p.words p.size w
    refers = refers-more l (type-refers t)

    -- a type word, by the words that it refers to
    slot_is : slot_by (slots_before p) p.words w ≡ contains_slot (pool_ty p w)
    unfolding contains_slot
    slot_is = elim (shape (kind_of w)) [
      | is_plain h ↦ slot_by-plain _ _ w h ∙ rw (pool_ty-plain p w h) refl
      | is_wrap h ↦
          slot_by-wrap _ _ w h
          ∙ rises (contains_slot (pool_ty p (pool_word p (payload_of w)))) _ _ (slots_before-next (payload_of w))
          ∙ rw (pool_ty-wrap p w (pool_backward fine) refers h) refl
      | is_record h ↦
          let b = t.list h in
          let pairs = ((fine.each (payload_of w) (omega (arith, b.below))).list b.count).pairs in
          slot_by_record _ _ w h
          ∙ sym (slots-fields (payload_of w + 1) (field_count p.words w) (λ k i m e. rw e (good_name-kind _ _ _ (pairs k m).name)))
          ∙ rw (pool_ty_record p w (pool_backward fine) refers h) refl
      | is_named h ↦ slot_by-named _ _ w h ∙ rw (pool_ty-named p w h) refl
    ]

    -- THE LAW: with right counts up to the word's own index, the test is `contains_slot` of its tree.
    pub slot_by-is : (before : ℕ → ℕ) → ((j : ℕ) → j ≤ own → before j ≡ slots_before p j) → slot_by before p.words w ≡ contains_slot (pool_ty p w)
    slot_by-is before h = slot_by-same before (slots_before p) p.words own w (type-refers t) h ∙ slot_is

  -- a word of the pool, of whatever kind
  pub slot_by-at : PoolFine p → (i : ℕ) → i < p.size → (before : ℕ → ℕ) → ((j : ℕ) → j ≤ i → before j ≡ slots_before p j)
      → slot_by before p.words (pool_word p i) ≡ contains_slot (pool_ty p (pool_word p i))
  unfolding contains_slot
  slot_by-at fine i l before h = elim (fine.each i l).kinds [
    | inl k ↦ flat (record { no_wrap = rw k refl; no_record = λ e. omega arith; no_name = rw k refl })
    | inr r ↦ elim r [
      | inl k ↦ flat (record { no_wrap = rw k refl; no_record = λ e. omega arith; no_name = rw k refl })
      | inr k ↦ slot_by-is fine i (pool_word p i) (omega arith) (good_type-true p i (pool_word p i) ((fine.each i l).type k)) before h
    ]
  ]
    where
      flat : Plain (kind_of (pool_word p i)) → slot_by before p.words (pool_word p i) ≡ contains_slot (pool_ty p (pool_word p i))
      flat h = slot_by-plain before p.words (pool_word p i) h ∙ rw (pool_ty-plain p (pool_word p i) h) refl

-- ── As they are filled in ──

pub get_d_zeros : (n j : ℕ) → get_or (zeros n) j 0 ≡ 0
unfolding zeros
get_d_zeros zero j = refl
get_d_zeros (suc n) zero = refl
get_d_zeros (suc n) (suc j) = get_d_zeros n j

pub length-zeros : (n : ℕ) → length (zeros n) ≡ n
unfolding zeros
length-zeros n = length-replicate {A = ℕ} n 0

length-add_sum : (types : List ℕ) (i : ℕ) (sums : List ℕ) → length (add_sum types i sums) ≡ length sums
unfolding add_sum
length-add_sum types i sums = length-set sums (i + 1) _

pub length-sums_to : (types : List ℕ) (i : ℕ) → length (sums_to types i) ≡ 8193
unfolding sums_to
length-sums_to types zero = length-zeros 8193
length-sums_to types (suc i) = length-add_sum types i (sums_to types i) ∙ length-sums_to types i

-- no count is larger than the words counted
at_most_one : (b : Bool) → cond b 1 0 ≤ 1
at_most_one true = omega arith
at_most_one false = omega arith

set-small : (l : List ℕ) (k v n : ℕ) → v ≤ n → ((j : ℕ) → get_or l j 0 ≤ n) → (j : ℕ) → get_or (set l k v) j 0 ≤ n
set-small l k v n h all j = elim (ℕ_discrete j k) [
  | yes e ↦ elim (dec_lt k (length l)) [
    | yes m ↦ rw (e, get_or-set_same l k v 0 m) h
    | no m ↦ rw (set_out l k v (omega arith)) (all j)
  ]
  | no d ↦ rw (get_or-set_other l k j v 0 d) (all j)
]

pub sums_small : (types : List ℕ) (i j : ℕ) → get_or (sums_to types i) j 0 ≤ i
unfolding sums_to add_sum
sums_small types zero j = rw (get_d_zeros 8193 j) (omega arith)
sums_small types (suc i) j =
    set-small (sums_to types i) (i + 1) _ (suc i)
    (omega (arith, sums_small types i i, at_most_one (slot_by (λ k. get_or (sums_to types i) k 0) types (get_or types i 0))))
    (λ k. omega (arith, sums_small types i k)) j

-- THE LAW: of an accepted pool they are right.
pub sums_right : (t : Texts) (types : List ℕ) → PoolFine (pool_in t types) → (i : ℕ) → i ≤ length types → i ≤ 8192
    → (j : ℕ) → j ≤ i → get_or (sums_to types i) j 0 ≡ slots_before (pool_in t types) j
unfolding sums_to add_sum slots_before
sums_right t types fine zero l m j h =
    let e : j ≡ 0 = omega arith in
    rw e (get_d_zeros 8193 0)
sums_right t types fine (suc i) l m j h = elim (ℕ_discrete j (i + 1)) [
  | yes e ↦
      rw (e, get_or-set_same (sums_to types i) (i + 1) _ 0 (rw length-sums_to (omega arith)), slots_before-next (pool_in t types) i)
      (ap₂ (λ a b. a + cond b 1 0)
      (sums_right t types fine i (omega arith) (omega arith) i (omega arith))
      (slot_by-at (pool_in t types) fine i l _ (sums_right t types fine i (omega arith) (omega arith))))
  | no d ↦ get_or-set_other (sums_to types i) (i + 1) j _ 0 d ∙ sums_right t types fine i (omega arith) (omega arith) j (omega arith)
]
