-- The bound of what is owed, and the turns of a loop. Assumes nothing.
use Prim.Native.Nat.{ℕ, suc, ◌+◌, ◌-◌, ◌≤◌, ◌<◌}
use native.Mathlib.Omega.{arith}
use Rattle.std.specs.Prelude.{Result, Ok, Err}
use mathlib.Core.Bool.{Bool, true, ◌&&◌, and-eq-true_iff}
use mathlib.Core.Path.{◌≡◌, sym, ◌∙◌}
use lib.Dec.{leb, ltb}
use borrow.Author.Tests.{leb-true}
use Rattle.tok.specs.Reader.{most_words}
use Rattle.reader.specs.declared.Fault.{Fault}
use Rattle.reader.specs.Reading.{Reader}
use Rattle.reader.specs.Repeated.{Repeated, none_left, one_more, one_stops}

-- what an admitted word owes lies within the most words
pub owed-within : (at least n : ℕ) (good r : Bool) → r ≡ (ltb at most_words && (good && leb (least + n) most_words)) → r ≡ true → least + n ≤ 8192
owed-within at least n good r e h = leb-true (least + n) 8192 ((and-eq-true_iff good _).0 ((and-eq-true_iff (ltb at most_words) _).0 (sym e ∙ h)).1).1

-- A loop's turns, of which i are behind.
module _ {one : Reader → ℕ → Result Reader Fault → Type 0} {count : ℕ} {from : Reader} where
  pub all_left : {to : Result Reader Fault} → Repeated one 0 (count - 0) from to → Repeated one 0 count from to
  all_left h = let e : count - 0 ≡ count = omega arith in rw e at h

module _ {one : Reader → ℕ → Result Reader Fault → Type 0} {count i : ℕ} {from : Reader} where
  pub turn_stops : {fault : Fault} → i < count → one from i (Err fault) → Repeated one i (count - i) from (Err fault)
  turn_stops l h = let e : count - i ≡ suc (count - (i + 1)) = omega arith in rw e (one_stops h)

  pub turn_more : {mid : Reader} {to : Result Reader Fault} → i < count → one from i (Ok mid) → Repeated one (i + 1) (count - (i + 1)) mid to
      → Repeated one i (count - i) from to
  turn_more l h rest = let e : count - i ≡ suc (count - (i + 1)) = omega arith in rw e (one_more h rest)

  pub none_after : count ≤ i → Repeated one i (count - i) from (Ok from)
  none_after h = let e : count - i ≡ 0 = omega arith in rw e none_left
