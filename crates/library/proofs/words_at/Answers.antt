-- `library::words_at` meets its contract: start and end are held to the end of the list. Assumes nothing.
use Rattle.std.proofs.Common.{arith}
use Rattle.library.proofs.AccessWays.{part_held}
use Rattle.library.proofs.words_at.Goals as goal

pub returns : goal.returns
returns c = part_held _ _ _ c.min-start.ensures (omega (arith, c.min-start.ensures, c.min-long.ensures))
