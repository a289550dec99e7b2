-- What is left of a room where one takes its words, and that there are too few. Assumes nothing.
use Prim.Native.Nat.{ℕ, ◌-◌, ◌≤◌, ◌<◌}
use native.Mathlib.Omega.{arith}
use mathlib.Core.Path.{◌≡◌, ◌∙◌}
use Rattle.std.specs.Prelude.{Option, None, Some, Result, Ok, Err, SomeIff, ok_or}
use Rattle.reader.specs.declared.Fault.{Fault}

module _ {left need : ℕ} where
  pub too_few : (o : Option ℕ) {r : Result ℕ Fault} (f : Fault) → SomeIff o (need ≤ left) (left - need) → r ≡ ok_or o (record { 0 = 0 }) → r ≡ Err f
      → (left < need) × (◌≡◌ {A = Fault} f (record { 0 = 0 }))
  too_few None f s e p = (omega (arith, s), cc)
  too_few (Some k) f s e p = cc

  pub enough : (o : Option ℕ) {r : Result ℕ Fault} (k : ℕ) → SomeIff o (need ≤ left) (left - need) → r ≡ ok_or o (record { 0 = 0 }) → r ≡ Ok k
      → (need ≤ left) × (k ≡ left - need)
  enough None k s e p = cc
  enough (Some j) k s e p = (s.0, (let q : k ≡ j = cc in q ∙ s.1))
