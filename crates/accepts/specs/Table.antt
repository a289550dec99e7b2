-- `Demand1`: the table of "Answers that end the check", whatever is given. Numbers 1 to 6 leave every buffer, 7 to 9 zero them, an answer uses
-- what is lent and leaves what lies past it. Assumes nothing.
use Prim.Native.Nat.{◌≤◌}
use Rattle.std.proofs.Math.Option.{Option, none, some}
use Rattle.tok.specs.Step.{Refusal}
use Rattle.rules.specs.Walk.{walk}

-- the number of a refusal before the walk
unfoldable pub Early : Option Refusal → Type 0
Early none = Unit {0}
Early (some r) = (1 ≤ r.number) × (r.number ≤ 6)
