-- The check's answer as the exported function tells it: six numbers (document 01, "An answer", "Answers that end the check"). Definitions.
use Rattle.std.specs.Prelude.{ℕ, ◌≡◌, List}
use Rattle.refusals.specs.Inputs.{Inputs, Buffers}
use Rattle.rules.specs.Check.{check_of}
use Rattle.ending.specs.Numbers.{told}

-- buffers b came in and b' went out: the numbers and every buffer are what the rules end in
pub record Tells (i : Inputs) (b b' : Buffers) (answer : List ℕ) : Type 0 where
  pub numbers : answer ≡ told (check_of i b)
  pub after : b' ≡ (check_of i b).after
