-- `tok::same_by` meets its contract. The loop's invariant: each byte passed is equal; so is the last part. The measure is what is left of the
-- length. Assumes nothing.
use Rattle.std.proofs.Common.{◌≡◌, ℕ, ◌-◌, ◌<◌, length, get_or}
use Rattle.tok.proofs.same_by.Given as goal

abbrev pub invariant-loop-i : goal.invariant-loop-i
invariant-loop-i g l = (k : ℕ) → k < l.i → get_or l.a k 0 ≡ get_or l.b k 0

abbrev pub decreases-loop-i : goal.decreases-loop-i
decreases-loop-i g l = length l.a - l.i
