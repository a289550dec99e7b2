-- `type_expr::type_token` meets its contract. The loop's invariant: the token is that of the type inside. The levels fall. Assumes nothing.
use Rattle.std.specs.Prelude.{◌≡◌}
use Rattle.ast.specs.TypeExpr.{type_of, type_token}
use Rattle.places.specs.Levels.{levels_of}
use Rattle.type_expr.specs.Trees.{tree}
use Rattle.type_expr.proofs.type_token.Given as goal

abbrev pub invariant-loop-inner : goal.invariant-loop-inner
invariant-loop-inner l = type_token (type_of l.image.words l.t) ≡ type_token (tree l.here)

abbrev pub decreases-loop-inner : goal.decreases-loop-inner
decreases-loop-inner l = levels_of (tree l.here)
