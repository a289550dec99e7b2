-- `tok::same_part` meets its contract. The loop's invariant: the strings are equal exactly where no byte passed differs and what is left is
-- equal. Assumes nothing.
use Rattle.std.proofs.Common.{◌≡◌, ◌&&◌, length, drop, eqb}
use Rattle.tok.specs.Text.{same_bytes}
use Rattle.tok.proofs.same_part.Given as goal

abbrev pub invariant-loop-x : goal.invariant-loop-x
invariant-loop-x l = same_bytes l.a l.b ≡ (eqb l.differ 0 && same_bytes (drop (length l.yielded) l.a) (drop (length l.yielded) l.b))
