-- `display::show_types` meets its contract: every word of a list is at a step of 1. Assumes nothing.
use Rattle.display.proofs.EveryLaws.{every-word}
use Rattle.ptype.specs.Types.{type_at}
use Rattle.display.proofs.show_types.Goals as goal

pub returns : goal.returns
returns c = rw (← every-word (type_at c.args.types.now) c.args.words.now) c.show_every.ensures
