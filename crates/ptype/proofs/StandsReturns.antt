-- What `stands_in` and `stands_among` return, by the kind of the word and by the fields that are left; and that Unknown and
-- a slot are found in a word just where its tree contains them. By the laws of unfolding. Assumes nothing.
use Prim.Native.Nat.{ℕ, zero, suc, ◌+◌, ◌-◌}
use mathlib.Core.Path.{◌≡◌, refl, sym, ap, ◌∙◌}
use mathlib.Core.Logic.{inl, inr}
use mathlib.Core.Bool.{Bool, true, false, ◌||◌, true≢false}
use native.Mathlib.Omega.{arith}
use mathlib.Core.List.{List}
use lib.Dec.{eqb}
use lib.ListN.{get_or}
use borrow.Author.Tests.{ne_eqb}
use Rattle.tok.specs.Word.{kind_of, payload_of}
use Rattle.tok.specs.Text.{Texts}
use Rattle.ptype.specs.Ty.{contains_unknown, any_unknown, contains_slot, any_slot}
use Rattle.ptype.specs.Words.{unknown_word, inner_word, field_count, fields_from, unfolded}
use Rattle.ptype.specs.Stands.{found_from, found_among, found_within, of_kind}
use Rattle.ptype.specs.Kinds.{wraps, names, one_of, shape, is_plain, is_wrap, is_record, is_named}
use Rattle.ptype.proofs.UnfoldLaws.{one_less, unfolded-plain, unfolded-wrap, unfolded_record, unfolded-named}

taken : {A : Type 0} (a b : A) (q : Bool) → q ≡ true → elim q [ true ↦ a | false ↦ b ] ≡ a
taken a b q e = rw e

not_taken : {A : Type 0} (a b : A) (q : Bool) → q ≡ false → elim q [ true ↦ a | false ↦ b ] ≡ b
not_taken a b q e = rw e

-- One level of a type, by the kind of its word.
module _ (leaf : ℕ → Bool) (types : List ℕ) (f w : ℕ) where
  pub at-wrap : wraps (kind_of w) ≡ true → found_within leaf types (suc f) w ≡ found_within leaf types f (inner_word types w)
  unfolding found_within
  at-wrap h = taken _ (elim (eqb (kind_of w) 8) [ true ↦ found_among (λ v. found_within leaf types f v) types w | false ↦ leaf w ]) (wraps (kind_of w)) h

  flat : wraps (kind_of w) ≡ false → found_within leaf types (suc f) w ≡ elim (eqb (kind_of w) 8) [ true ↦ found_among (λ v. found_within leaf types f v) types w | false ↦ leaf w ]
  unfolding found_within
  flat h = not_taken (found_within leaf types f (inner_word types w)) _ (wraps (kind_of w)) h

  pub at_record : kind_of w ≡ 8 → found_within leaf types (suc f) w ≡ found_among (found_within leaf types f) types w
  at_record h = flat (rw h) ∙ taken _ (leaf w) (eqb (kind_of w) 8) (rw h)

  pub at_leaf : wraps (kind_of w) ≡ false → (kind_of w ≡ 8 → ⊥) → found_within leaf types (suc f) w ≡ leaf w
  at_leaf a b = flat a ∙ not_taken (found_among (λ v. found_within leaf types f v) types w) _ (eqb (kind_of w) 8) (ne_eqb (kind_of w) 8 b)

-- The same, as the code has it: i is what the call gave, r the result.
module _ (leaf : ℕ → Bool) (types : List ℕ) (w : ℕ) {deep : ℕ} where
  pub found-below : deep ≡ 0 → leaf unknown_word ≡ found_within leaf types deep w
  unfolding found_within
  found-below e = rw e

  module _ (p : deep ≡ 0 → ⊥) where
    level : found_within leaf types deep w ≡ found_within leaf types (suc (deep - 1)) w
    level = ap (λ d. found_within leaf types d w) (one_less p)

    pub found-wrap : {i : ℕ} {r : Bool} → wraps (kind_of w) ≡ true → i ≡ inner_word types w → r ≡ found_within leaf types (deep - 1) i → r ≡ found_within leaf types deep w
    found-wrap h ei e = e ∙ ap (λ v. found_within leaf types (deep - 1) v) ei ∙ sym (level ∙ at-wrap leaf types (deep - 1) w h)

    pub found_record : {r : Bool} → kind_of w ≡ 8 → r ≡ found_among (found_within leaf types (deep - 1)) types w → r ≡ found_within leaf types deep w
    found_record h e = e ∙ sym (level ∙ at_record leaf types (deep - 1) w h)

    pub found_leaf : wraps (kind_of w) ≡ false → (kind_of w ≡ 8 → ⊥) → leaf w ≡ found_within leaf types deep w
    found_leaf a b = sym (level ∙ at_leaf leaf types (deep - 1) w a b)

-- The fields that are left, n from an index on: at first all; then s is what all the fields say, by the loop's invariant.
module _ (types : List ℕ) (go : ℕ → Bool) (at : ℕ) {n : ℕ} where
  pub found-all : (w : ℕ) → at ≡ payload_of w + 1 → n ≡ field_count types w → found_among go types w ≡ found_from go types at n
  found-all w ea en = rw (en, ea)

  module _ {s : Bool} (inv : s ≡ found_from go types at n) where
    pub found_none : n ≡ 0 → false ≡ s
    unfolding found_from
    found_none e = rw (inv, e)

    module _ {w : ℕ} {q : Bool} (p : n ≡ 0 → ⊥) (ew : w ≡ get_or types (at + 1) 0) (eq : q ≡ go w) where
      next : s ≡ q || found_from go types (at + 2) (n - 1)
      unfolding found_from
      next = inv ∙ ap (λ d. found_from go types at d) (one_less p) ∙ rw (← ew, ← eq)

      pub found_first : q ≡ true → true ≡ s
      found_first e = rw (next, e)

      pub found-rest : {at' n' : ℕ} → at' ≡ at + 2 → n' ≡ n - 1 → q ≡ false → s ≡ found_from go types at' n'
      found-rest ea en e = rw (ea, en, next, e)

-- a word with a name holds no other
pub named-flat : (k : ℕ) → names k ≡ true → (wraps k ≡ false) × (k ≡ 8 → ⊥)
named-flat k h = elim (one_of 9 10 k h) [ inl e ↦ (rw e, λ z. omega (arith, e)) | inr e ↦ (rw e, λ z. omega (arith, e)) ]

no-unknown : (k : ℕ) → names k ≡ true → eqb k 11 ≡ false
no-unknown k h = elim (one_of 9 10 k h) [ inl e ↦ rw e | inr e ↦ rw e ]

-- Kind 11 is found in a word where its tree contains Unknown, and kind 10 where it contains a slot.
module _ (t : Texts) (types : List ℕ) where
  from-unknown : (f : ℕ) → ((v : ℕ) → found_within (of_kind 11) types f v ≡ contains_unknown (unfolded t types f v)) → (at n : ℕ)
      → found_from (found_within (of_kind 11) types f) types at n ≡ any_unknown (fields_from (unfolded t types f) t types at n)
  unfolding found_from contains_unknown fields_from
  from-unknown f e at zero = refl
  from-unknown f e at (suc n) = rw (e (get_or types (at + 1) 0), from-unknown f e (at + 2) n)

  pub found_unknown : (deep w : ℕ) → found_within (of_kind 11) types deep w ≡ contains_unknown (unfolded t types deep w)
  unfolding found_within contains_unknown unfolded
  found_unknown zero w = refl
  found_unknown (suc f) w = elim (shape (kind_of w)) [
    | is_plain h ↦ rw (unfolded-plain t types w {deep = suc f} refl refl h) (at_leaf (of_kind 11) types f w h.no_wrap h.no_record)
    | is_wrap h ↦ rw (unfolded-wrap t types w {deep = suc f} refl refl h) (at-wrap (of_kind 11) types f w h ∙ found_unknown f (inner_word types w))
    | is_record h ↦
        rw (unfolded_record t types w {deep = suc f} refl refl h)
        (at_record (of_kind 11) types f w h ∙ from-unknown f (λ v. found_unknown f v) (payload_of w + 1) (field_count types w))
    | is_named h ↦
        rw (unfolded-named t types w {deep = suc f} refl refl h)
        (at_leaf (of_kind 11) types f w (named-flat (kind_of w) h).0 (named-flat (kind_of w) h).1 ∙ no-unknown (kind_of w) h)
  ]

  from-slot : (f : ℕ) → ((v : ℕ) → found_within (of_kind 10) types f v ≡ contains_slot (unfolded t types f v)) → (at n : ℕ)
      → found_from (found_within (of_kind 10) types f) types at n ≡ any_slot (fields_from (unfolded t types f) t types at n)
  unfolding found_from contains_slot fields_from
  from-slot f e at zero = refl
  from-slot f e at (suc n) = rw (e (get_or types (at + 1) 0), from-slot f e (at + 2) n)

  pub found_slot : (deep w : ℕ) → found_within (of_kind 10) types deep w ≡ contains_slot (unfolded t types deep w)
  unfolding found_within contains_slot unfolded
  found_slot zero w = refl
  found_slot (suc f) w = elim (shape (kind_of w)) [
    | is_plain h ↦
        rw (unfolded-plain t types w {deep = suc f} refl refl h)
        (at_leaf (of_kind 10) types f w h.no_wrap h.no_record ∙ ne_eqb (kind_of w) 10 (λ e. true≢false (rw e at h.no_name)))
    | is_wrap h ↦ rw (unfolded-wrap t types w {deep = suc f} refl refl h) (at-wrap (of_kind 10) types f w h ∙ found_slot f (inner_word types w))
    | is_record h ↦
        rw (unfolded_record t types w {deep = suc f} refl refl h)
        (at_record (of_kind 10) types f w h ∙ from-slot f (λ v. found_slot f v) (payload_of w + 1) (field_count types w))
    | is_named h ↦ rw (unfolded-named t types w {deep = suc f} refl refl h) (at_leaf (of_kind 10) types f w (named-flat (kind_of w) h).0 (named-flat (kind_of w) h).1)
  ]
