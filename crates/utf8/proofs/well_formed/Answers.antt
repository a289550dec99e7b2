use Rattle.std.proofs.Common.{arith}
use Rattle.std.proofs.lemmas.Grind.{common_steps}
use Rattle.utf8.proofs.Laws.{empty, ascii-well}
use Rattle.utf8.proofs.well_formed.Goals as goal

pub returns-then-is_ascii : goal.returns-then-is_ascii
returns-then-is_ascii c = grind (arith, common_steps, ascii-well)

pub returns : goal.returns
returns c = grind (arith, common_steps, empty)
