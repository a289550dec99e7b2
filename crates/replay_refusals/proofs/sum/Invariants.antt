-- `replay_refusals::sum` is safe: the loop's invariant is that the sum is below the modulus. Assumes nothing.
use Rattle.std.proofs.Common.{◌<◌}
use Rattle.replay_refusals.proofs.sum.Given as goal

abbrev pub invariant-loop-x : goal.invariant-loop-x
invariant-loop-x g l = l.sum < 4294967291
