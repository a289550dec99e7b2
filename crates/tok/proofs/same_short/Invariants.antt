-- `tok::same_short` meets its contract. The loop's invariant: each byte from i on is equal. Then the strings are equal at the end, and where
-- a byte differs they are not. Assumes nothing.
use Rattle.std.proofs.Common.{◌≡◌, ℕ, ◌<◌, ◌≤◌, length, get_or}
use Rattle.tok.proofs.same_short.Given as goal

abbrev pub invariant-loop-i : goal.invariant-loop-i
invariant-loop-i l = (k : ℕ) → l.i ≤ k → k < length l.a → get_or l.a k 0 ≡ get_or l.b k 0
