-- Two entries that change places lose none, nor does a front that is rearranged alone. Assumes nothing.
use Prim.Native.Nat.{ℕ, ◌-◌, ◌+◌, ◌≤◌, ◌<◌}
use mathlib.Core.Path.{◌≡◌, sym, ap, ◌∙◌}
use mathlib.Core.List.{List, ◌++◌}
use native.Mathlib.Omega.{arith}
use native.Mathlib.Decide.{ℕ_discrete, dec_lt}
use lib.ListN.{length, get_or, set, take, drop, length-set, get_or-append}
use lib.Seq.{get_or-set_same, get_or-set_other, get_or-append_right}
use Rattle.std.proofs.Common.{length-append, length-drop, length-take-le, get_or-take, get_or-drop}
use Rattle.name_order.specs.Order.{place_in, Listed, Rearranged}
use Rattle.name_order.specs.OrderLaws.{rearranged-then}

-- all entries rearranged twice
pub all_rearranged : {a b c : List ℕ} → Rearranged a b (length a) → Rearranged b c (length b) → Rearranged a c (length a)
all_rearranged f g = rearranged-then f (rw f.long at g)

module _ (order : List ℕ) (i j : ℕ) (li : i < length order) (lj : j < length order) where
  abbrev swapped : List ℕ
  swapped = set (set order i (get_or order j 0)) j (get_or order i 0)

  at_second : get_or swapped j 0 ≡ get_or order i 0
  at_second = get_or-set_same (set order i (get_or order j 0)) j _ 0 (rw length-set lj)

  at_first : get_or swapped i 0 ≡ get_or order j 0
  at_first = elim (ℕ_discrete i j) [
    | yes e ↦ ap (λ k. get_or swapped k 0) e ∙ at_second ∙ ap (λ k. get_or order k 0) e
    | no d ↦ get_or-set_other (set order i (get_or order j 0)) j i _ 0 d ∙ get_or-set_same order i _ 0 li
  ]

  at_other : (r : ℕ) → (r ≡ i → ⊥) → (r ≡ j → ⊥) → get_or swapped r 0 ≡ get_or order r 0
  at_other r di dj = get_or-set_other (set order i (get_or order j 0)) j r _ 0 dj ∙ get_or-set_other order i r _ 0 di

  pub swap_rearranges : (n : ℕ) → i < n → j < n → Rearranged order swapped n
  swap_rearranges n mi mj = record {
    long = simp length-set;
    all = λ p h. kept p h (ℕ_discrete h.rank i) (ℕ_discrete h.rank j);
    only = λ p h. back p h (ℕ_discrete h.rank i) (ℕ_discrete h.rank j);
  }
    where
      kept : (p : ℕ) (h : Listed order n p) → Dec (h.rank ≡ i) → Dec (h.rank ≡ j) → Listed swapped n p
      kept p h (yes e) f = record { rank = j; below = mj; is = ap place_in (at_second ∙ ap (λ k. get_or order k 0) (sym e)) ∙ h.is }
      kept p h (no d) (yes e) = record { rank = i; below = mi; is = ap place_in (at_first ∙ ap (λ k. get_or order k 0) (sym e)) ∙ h.is }
      kept p h (no d) (no f) = record { rank = h.rank; below = h.below; is = ap place_in (at_other h.rank d f) ∙ h.is }

      back : (p : ℕ) (h : Listed swapped n p) → Dec (h.rank ≡ i) → Dec (h.rank ≡ j) → Listed order n p
      back p h (yes e) f = record { rank = j; below = mj; is = ap place_in (sym at_first ∙ ap (λ k. get_or swapped k 0) (sym e)) ∙ h.is }
      back p h (no d) (yes e) = record { rank = i; below = mi; is = ap place_in (sym at_second ∙ ap (λ k. get_or swapped k 0) (sym e)) ∙ h.is }
      back p h (no d) (no f) = record { rank = h.rank; below = h.below; is = ap place_in (sym (at_other h.rank d f)) ∙ h.is }

-- What lies behind the front stays.
module _ (a f : List ℕ) (k : ℕ) (l : k ≤ length a) (g : Rearranged (take k a) f (length (take k a))) where
  long : length f ≡ k
  long = g.long ∙ length-take-le k a l

  front : (r : ℕ) → r < k → get_or (f ++ drop k a) r 0 ≡ get_or f r 0
  front r b = get_or-append f (drop k a) 0 r (omega (arith, long))

  behind : (r : ℕ) → k ≤ r → get_or (f ++ drop k a) r 0 ≡ get_or a r 0
  behind r b =
      let there : k + (r - length f) ≡ r = omega (arith, long) in
      get_or-append_right f (drop k a) r 0 (omega (arith, long)) ∙ get_or-drop k a (r - length f) 0 ∙ ap (λ i. get_or a i 0) there

  pub front_rearranged : Rearranged a (f ++ drop k a) (length a)
  front_rearranged = record {
    long = length-append f (drop k a) ∙ omega (arith, long, length-drop k a);
    all = λ p h. kept p h (dec_lt h.rank k);
    only = λ p h. back p h (dec_lt h.rank k);
  }
    where
      kept : (p : ℕ) (h : Listed a (length a) p) → Dec (h.rank < k) → Listed (f ++ drop k a) (length a) p
      kept p h (yes b) =
          let there = g.all p (record { rank = h.rank; below = omega (arith, length-take-le k a l); is = ap place_in (get_or-take k a h.rank 0 b) ∙ h.is }) in
          let low : there.rank < k = omega (arith, there.below, length-take-le k a l) in
          record { rank = there.rank; below = omega arith; is = ap place_in (front there.rank low) ∙ there.is }
      kept p h (no b) = record { rank = h.rank; below = h.below; is = ap place_in (behind h.rank (omega arith)) ∙ h.is }

      back : (p : ℕ) (h : Listed (f ++ drop k a) (length a) p) → Dec (h.rank < k) → Listed a (length a) p
      back p h (yes b) =
          let there = g.only p (record { rank = h.rank; below = omega (arith, length-take-le k a l); is = ap place_in (sym (front h.rank b)) ∙ h.is }) in
          let low : there.rank < k = omega (arith, there.below, length-take-le k a l) in
          record { rank = there.rank; below = omega arith; is = ap place_in (sym (get_or-take k a there.rank 0 low)) ∙ there.is }
      back p h (no b) = record { rank = h.rank; below = h.below; is = ap place_in (sym (behind h.rank (omega arith))) ∙ h.is }
