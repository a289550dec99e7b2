-- `node_parts::arguments` meets its contract. Assumes nothing.
use mathlib.Core.Path.{refl}
use Rattle.ast.specs.KindLaws.{node-number, node-not}
use Rattle.node_parts.proofs.Ways.{here-arguments, none-arguments}
use Rattle.node_parts.proofs.arguments.Goals as goal

pub returns-in-Fn : goal.returns-in-Fn
returns-in-Fn c = here-arguments _ _ _ c.word_at.ensures _ refl _ (node-number _ c.in-Fn.ensures) c.word_after.ensures

pub returns-in_default : goal.returns-in_default
returns-in_default c = none-arguments _ _ _ c.word_at.ensures _ refl (node-not _ c.of.ensures c.in_default.not-Fn)
