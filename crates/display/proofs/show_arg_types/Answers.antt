-- `display::show_arg_types` meets its contract: the types of the arguments are at a step of 2. Assumes nothing.
use mathlib.Core.Path.{refl}
use Rattle.display.proofs.EveryLaws.{arguments}
use Rattle.display.proofs.show_arg_types.Goals as goal

pub returns : goal.returns
returns c = rw (arguments c.args.types.now.texts.now c.args.types.now.words.now c.args.words.now c.word_at-n.ensures refl) c.show_every.ensures
