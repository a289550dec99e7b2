-- Where a bound slot is found in a word, its tree has one. By the laws of unfolding. Assumes nothing.
use Rattle.std.specs.Prelude.{Option as Found, Some, None}
use mathlib.Core.Path.{◌≡◌, refl, ◌∙◌}
use mathlib.Core.Bool.{true, false, true≢false}
use mathlib.Core.Option.{Option}
use mathlib.Core.List.{List}
use Prim.Native.Nat.{ℕ, zero, suc, ◌+◌}
use lib.Dec.{eqb}
use lib.ListN.{get_or}
use borrow.Author.Tests.{eq-eqb, ne_eqb}
use Rattle.tok.specs.Word.{kind_of, payload_of}
use Rattle.tok.specs.Text.{Texts, name_bytes}
use Rattle.ptype.specs.Words.{inner_word, field_count, fields_from, unfolded}
use Rattle.ptype.specs.Kinds.{shape, is_plain, is_wrap, is_record, is_named}
use Rattle.ptype.specs.Stands.{found_from, found_within}
use Rattle.ptype.proofs.StandsReturns.{at-wrap, at_record, at_leaf, named-flat}
use Rattle.ptype.proofs.UnfoldLaws.{unfolded-plain, unfolded-wrap, unfolded_record, unfolded-named}
use Rattle.ptype.specs.Slots.{Binding, bound_to, is_some, has_bound_slot, any_bound_slot}
use Rattle.slots.specs.Bindings.{found_of, is_bound_slot}
use Rattle.slots.specs.BindLaws.{if_true, if_false}

-- whether a slot is bound
module _ (f : Found ℕ) {o : Option ℕ} (h : found_of f ≡ o) where
  pub found-bound : {w : ℕ} → f ≡ Some w → true ≡ is_some o
  found-bound e = rw (← h, e)

  pub found_none : f ≡ None → false ≡ is_some o
  found_none e = rw (← h, e)

-- a word, by its kind
module _ (t : Texts) (bs : List Binding) where
  pub slot-is : (w : ℕ) → kind_of w ≡ 10 → is_bound_slot bs t w ≡ is_some (bound_to (name_bytes t w) bs)
  slot-is w e = if_true (is_some (bound_to (name_bytes t w) bs)) false (eqb (kind_of w) 10) (eq-eqb (kind_of w) 10 e)

  pub no_slot : (w : ℕ) → (kind_of w ≡ 10 → ⊥) → is_bound_slot bs t w ≡ false
  no_slot w n = if_false (is_some (bound_to (name_bytes t w) bs)) false (eqb (kind_of w) 10) (ne_eqb (kind_of w) 10 n)

-- and a type
module _ (t : Texts) (bs : List Binding) (types : List ℕ) where
  from_bound : (f : ℕ) → ((v : ℕ) → found_within (is_bound_slot bs t) types f v ≡ has_bound_slot bs (unfolded t types f v)) → (at n : ℕ)
      → found_from (found_within (is_bound_slot bs t) types f) types at n ≡ any_bound_slot bs (fields_from (unfolded t types f) t types at n)
  unfolding found_from has_bound_slot fields_from
  from_bound f e at zero = refl
  from_bound f e at (suc n) = rw (e (get_or types (at + 1) 0), from_bound f e (at + 2) n)

  pub found_bound_slot : (deep w : ℕ) → found_within (is_bound_slot bs t) types deep w ≡ has_bound_slot bs (unfolded t types deep w)
  unfolding found_within has_bound_slot unfolded
  found_bound_slot zero w = refl
  found_bound_slot (suc f) w = elim (shape (kind_of w)) [
    | is_plain h ↦
        rw (unfolded-plain t types w {deep = suc f} refl refl h)
        (at_leaf (is_bound_slot bs t) types f w h.no_wrap h.no_record ∙ no_slot t bs w (λ e. true≢false (rw e at h.no_name)))
    | is_wrap h ↦ rw (unfolded-wrap t types w {deep = suc f} refl refl h) (at-wrap (is_bound_slot bs t) types f w h ∙ found_bound_slot f (inner_word types w))
    | is_record h ↦
        rw (unfolded_record t types w {deep = suc f} refl refl h)
        (at_record (is_bound_slot bs t) types f w h ∙ from_bound f (λ v. found_bound_slot f v) (payload_of w + 1) (field_count types w))
    | is_named h ↦
        rw (unfolded-named t types w {deep = suc f} refl refl h)
        (at_leaf (is_bound_slot bs t) types f w (named-flat (kind_of w) h).0 (named-flat (kind_of w) h).1)
  ]
