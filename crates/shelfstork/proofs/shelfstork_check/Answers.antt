-- `shelfstork::shelfstork_check` meets its contract, by `check`'s. Assumes nothing.
use Rattle.shelfstork.proofs.Returns.{tells}
use Rattle.shelfstork.proofs.shelfstork_check.Goals as goal

-- src/lib.rt:34:1
pub returns : goal.returns
returns c = tells c.check-checked.result c.check-checked.ensures c.numbers.ensures
