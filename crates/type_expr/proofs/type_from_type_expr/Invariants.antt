-- `type_expr::type_from_type_expr` meets its contract. The loop's invariant: the whole meets what the part meets that is gone on with. The
-- levels fall. Assumes nothing.
use Rattle.ast.specs.TypeExpr.{type_of}
use Rattle.places.specs.Levels.{levels_of}
use Rattle.type_expr.specs.Trees.{tree}
use Rattle.type_expr.proofs.DeepReturns.{Same}
use Rattle.type_expr.proofs.type_from_type_expr.Given as goal

abbrev pub invariant-loop-arena : goal.invariant-loop-arena
invariant-loop-arena l = Same (type_of l.image.words l.t) l.initial.arena l.arena l.here

abbrev pub decreases-loop-arena : goal.decreases-loop-arena
decreases-loop-arena l = levels_of (tree l.here)
