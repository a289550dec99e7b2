-- How many bytes are handed to the system: no contract can say what it does with them. Definitions.
use Rattle.std.specs.Prelude.{◌≡◌, ℕ, ◌+◌, ◌≤◌}
use Rattle.commands.specs.Digits.{IsDigitCount}

-- of a number in decimal
pub record NumberBytes (n r : ℕ) : Type 0 where
  pub fewest : IsDigitCount 10 1 n r
  pub few : r ≤ 20

-- of " refused ", a number, a blank and a place
pub record RefusedBytes (number place r : ℕ) : Type 0 where
  pub first : ℕ
  pub second : ℕ
  pub first_is : NumberBytes number first
  pub second_is : NumberBytes place second
  pub all : r ≡ 10 + first + second
