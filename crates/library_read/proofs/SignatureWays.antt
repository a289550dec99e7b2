-- Types of a signature as the code tries them: slots by the counts, a return type's by the marks. Assumes nothing.
use Prim.Native.Nat.{ℕ, zero, suc, ◌+◌, ◌*◌, ◌≤◌, ◌<◌}
use mathlib.Core.Path.{◌≡◌, refl, sym, ap, ap₂, subst, ◌∙◌}
use mathlib.Core.Bool.{Bool, true, false, not, ◌&&◌, and-eq-true_iff}
use mathlib.Core.List.{List, [], ◌∷◌, map}
use native.Mathlib.Omega.{arith}
use native.Mathlib.Decide.{dec_lt}
use native.Mathlib.Numerals.{add-one, add-two}
use lib.ListN.{length, get_or, take, drop}
use lib.Seq.{drop-cons}
use lib.Dec.{eqb}
use borrow.Author.Tests.{not-true, not-false}
use Rattle.tok.specs.Text.{Texts}
use Rattle.ptype.specs.Ty.{contains_slot}
use Rattle.library.specs.Pool.{Pool, pool_in, good_type}
use Rattle.library.specs.Slots.{pool_ty, no_slot, return_stands}
use Rattle.library.specs.Each.{Each}
use Rattle.library.specs.TypeWords.{TypeWord, good_type-true}
use Rattle.library.specs.SlotSums.{slot_by, slot_by-is}
use Rattle.library.specs.SlotMarks.{types_in}
use Rattle.library.specs.ReturnSlots.{reached_from, stands_by, stands-none, stands_by-is}
use Rattle.library.specs.Package.{Param, params_from}
use Rattle.library.specs.PackageRecords.{good_signature_type}
use Rattle.library.specs.PackagesRead.{ParamFine}
use Rattle.library_slots.specs.Named.{of_pairs, argued, wanted, NamesStand, ReturnAsked}
use Rattle.library_slots.specs.NamedLaws.{Selves, names_stand, pairs_selves, ret_selves}
use Rattle.library_read.specs.Ready.{Ready, Ordered, Placed}

module _ (t : Texts) (types sums : List ℕ) (ready : Ready t types sums) (flag w : ℕ) where
  abbrev p : Pool
  p = pool_in t types

  -- the counts tell whether a slot stands in a good type
  slot-told : good_type p (length types) w ≡ true → {s : Bool} → s ≡ slot_by (λ j. get_or sums j 0) types w → s ≡ contains_slot (pool_ty p w)
  slot-told g e = e ∙ slot_by-is p ready.fine (length types) w (omega arith) (good_type-true p (length types) w g) (λ j. get_or sums j 0) ready.counts

  module _ {r : Bool} (er : r ≡ good_type p (length types) w) where
    module _ (y : not r ≡ false) where
      good : good_type p (length types) w ≡ true
      good = sym er ∙ not-false r y

      pub type-plain : {s : Bool} → eqb flag 1 ≡ false → s ≡ slot_by (λ j. get_or sums j 0) types w → not s ≡ good_signature_type p flag w
      unfolding good_signature_type no_slot
      type-plain d e = rw (good, d) (ap not (slot-told good e))

  -- ── The return type ──

  module _ (args : List ℕ) {r : Bool} (er : r ≡ good_signature_type p flag w) where
    module _ (y : not r ≡ false) {s : Bool} (es : s ≡ slot_by (λ j. get_or sums j 0) types w) (fine : Each (TypeWord p (length types)) args) where
      signature-good : good_signature_type p flag w ≡ true
      signature-good = sym er ∙ not-false r y

      type-good : good_type p (length types) w ≡ true
      unfolding good_signature_type
      type-good = ((and-eq-true_iff (good_type p (length types) w) _).0 signature-good).0

      pub return-none : not s ≡ true → true ≡ (good_signature_type p flag w && return_stands p args w)
      return-none n =
          rw signature-good
          (sym (stands-none t types ready.fine ready.room args w fine (good_type-true p _ w type-good) (sym (slot-told type-good es) ∙ not-true s n)))

      by_names : {u : Bool} → u ≡ stands_by t types args w → u ≡ (good_signature_type p flag w && return_stands p args w)
      by_names e =
          rw signature-good (e ∙ stands_by-is t types ready.fine ready.room args w fine (good_type-true p _ w type-good))

      by_order : (words order : List ℕ) (n first end : ℕ) → Ordered t words types order n → Placed words args w first end → 0 < n → {u : Bool}
          → NamesStand t words order n (argued (length types) (reached_from types args) first end) (wanted (length types) (reached_from types (w ∷ [])) end) u
          → u ≡ (good_signature_type p flag w && return_stands p args w)
      unfolding argued wanted
      by_order words order n first end o q l {u} h =
          rw signature-good
          (names_stand t words types order n (o.named l).listed o.there ready.fine (of_pairs first end) (λ x. eqb x end) args w fine (good_type-true p _ w type-good)
          (subst (Selves t words (of_pairs first end)) (sym q.types_are) (pairs_selves t words first q.count end q.ends q.low q.high q.within))
          (ret_selves t words w end q.ret-is (omega (arith, q.low, q.ends)) q.high)
          u h)

      pub return-asked : (words order : List ℕ) (n first end : ℕ) → Ordered t words types order n → Placed words args w first end → {u : Bool}
          → ReturnAsked t types args w order n first end u → u ≡ (good_signature_type p flag w && return_stands p args w)
      return-asked words order n first end o q {u} h = elim (dec_lt 0 n) [
        | yes l ↦ by_order words order n first end o q l (h.named words l (o.named l).grouped)
        | no l ↦ by_names (h.plain (omega arith))
      ]

-- ── The types of the arguments ──

pub types-of-pairs : (words : List ℕ) (k at : ℕ) → at + 2 * k ≤ length words → types_in (take (2 * k) (drop at words)) ≡ map (λ a. a.type) (params_from words at k)
unfolding types_in params_from
types-of-pairs words zero at l = refl
types-of-pairs words (suc k) at l =
    let two : 2 * suc k ≡ suc (suc (2 * k)) = omega arith in
    rw (two, drop-cons words at 0 (omega arith), drop-cons words (suc at) 0 (omega arith), add-one at, add-two at)
    (ap₂ (λ x xs. x ∷ xs) refl (types-of-pairs words k (suc (suc at)) (omega arith)))

pub fine-types : (p : Pool) (b : Bool) (xs : List Param) → Each (ParamFine p b) xs → Each (TypeWord p p.size) (map (λ a. a.type) xs)
unfolding Each
fine-types p b [] h = tt
fine-types p b (a ∷ xs) h = (good_type-true p _ a.type h.0.type.good, fine-types p b xs h.1)
