-- `utf8::well_formed` meets its contract: an ASCII string is well formed. The loop's invariant: the whole is well formed exactly where what is left is.
-- The measure is what is left of the length, and each turn takes a character off. Assumes nothing.
use Rattle.std.proofs.Common.{◌≡◌, length}
use Rattle.utf8.specs.Rfc3629.{well_formed}
use Rattle.utf8.proofs.well_formed.Given as goal

abbrev pub invariant-loop-rest : goal.invariant-loop-rest
invariant-loop-rest l = well_formed l.s ≡ well_formed l.rest

abbrev pub decreases-loop-rest : goal.decreases-loop-rest
decreases-loop-rest l = length l.rest
