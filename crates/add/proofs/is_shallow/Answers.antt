-- `add::is_shallow` meets its contract by that of `ptype::depth`. Assumes nothing.
use mathlib.Core.Path.{ap}
use lib.Dec.{leb}
use Rattle.add.proofs.is_shallow.Goals as goal

pub returns : goal.returns
returns c = λ t. ap (λ d. leb d 32) (c.depth.ensures t)
