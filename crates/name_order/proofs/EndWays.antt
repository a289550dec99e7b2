-- Entries told, and the end of a group: the next new name after its first entry. Assumes nothing.
use Prim.Native.Nat.{ℕ, ◌+◌, ◌-◌, ◌*◌, ◌/◌, ◌%◌, ◌≤◌, ◌<◌, min}
use mathlib.Core.Path.{◌≡◌, sym, ap, ◌∙◌}
use mathlib.Core.Bool.{Bool, true, false}
use mathlib.Core.List.{List}
use native.Mathlib.Omega.{arith}
use native.Mathlib.Decide.{dec_lt}
use lib.ListN.{length, get_or, take, drop, get_or-eq_default}
use Rattle.std.proofs.Common.{get_or-take, get_or-drop, length-take-le, length-drop}
use borrow.Author.Tests.{eq-eqb, ne_eqb}
use Rattle.name_order.specs.Order.{place_in, new_in, GroupEnd}

pub told-new : (e : ℕ) {new : Bool} → new ≡ true → (place_in (2 * (e / 2) + 1) ≡ place_in e) × (new_in (2 * (e / 2) + 1) ≡ new)
told-new e y = (omega arith, eq-eqb ((2 * (e / 2) + 1) % 2) 1 (omega arith) ∙ sym y)

pub told_same : (e : ℕ) {new : Bool} → new ≡ false → (place_in (2 * (e / 2)) ≡ place_in e) × (new_in (2 * (e / 2)) ≡ new)
told_same e y = (omega arith, ne_eqb (2 * (e / 2) % 2) 1 (λ z. omega arith) ∙ sym y)

-- the entries of the list from one up to another
module _ (order : List ℕ) (end from : ℕ) where
  abbrev rest : List ℕ
  rest = take (end - from) (drop from order)

  long : end ≤ length order → length rest ≡ end - from
  long l = length-take-le (end - from) (drop from order) (omega (arith, length-drop from order))

  there : (k : ℕ) → k < end - from → get_or rest k 0 ≡ get_or order (from + k) 0
  there k l = get_or-take (end - from) (drop from order) k 0 l ∙ get_or-drop from order k 0

  -- an entry before the next new name, of which k stand there, after a group's first
  listed : {at k : ℕ} → from ≡ min (at + 1) end → k ≤ end - from → ((j : ℕ) → j < k → new_in (get_or rest j 0) ≡ false)
      → (i : ℕ) → at < i → i < from + k → new_in (get_or order i 0) ≡ false
  listed from-is m inner i o p =
      let back : from + (i - from) ≡ i = omega (arith, from-is) in
      ap (λ j. new_in (get_or order j 0)) (sym back) ∙ ap new_in (sym (there (i - from) (omega (arith, m, from-is)))) ∙ inner (i - from) (omega (arith, from-is))

  -- the entries from the one after a group's first up to the last of n
  module _ {at n k : ℕ} (end-is : end ≡ min n (length order)) (from-is : from ≡ min (at + 1) end) (m : k ≤ length rest)
      (inner : (j : ℕ) → j < k → new_in (get_or rest j 0) ≡ false) where
    pub end-found : from + k < end → (k < length rest → new_in (get_or rest k 0) ≡ true) → GroupEnd order at n (from + k)
    end-found l next =
        let e = long (omega (arith, end-is)) in
        record {
          after = omega (arith, from-is);
          within = omega (arith, end-is);
          inner = listed from-is (omega (arith, m, e)) inner;
          next = λ _. ap new_in (sym (there k (omega arith))) ∙ next (omega (arith, e));
        }

    -- entries past the list are 0, and none is new
    pub end_none : at < n → end ≤ from + k → GroupEnd order at n n
    end_none l q =
        let e = long (omega (arith, end-is)) in
        record {
          after = l;
          within = omega arith;
          inner = λ i o p. elim (dec_lt i end) [
            | yes y ↦ listed from-is (omega (arith, m, e)) inner i o (omega arith)
            | no y ↦ ap new_in (get_or-eq_default order 0 (omega (arith, end-is)))
          ];
          next = λ o. absurd (omega arith);
        }
