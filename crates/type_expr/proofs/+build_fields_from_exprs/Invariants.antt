-- `type_expr::build` and `type_expr::fields_from_exprs` meet their contracts: one law for each return. The levels fall.
-- The loop's invariant: the steps of all fields go on with those of the fields that are left, which have no more levels. Assumes nothing.
use Rattle.std.specs.Prelude.{◌+◌, ◌*◌}
use Rattle.places.specs.Levels.{levels_of, most_levels}
use Rattle.type_expr.specs.Trees.{tree, trees}
use Rattle.type_expr.proofs.FieldReturns.{Building}
use Rattle.type_expr.proofs.+build_fields_from_exprs.Given as goal

abbrev pub decreases-build : goal.decreases-build
decreases-build l = levels_of (tree l.expr.now) * 2

abbrev pub decreases-fields_from_exprs : goal.decreases-fields_from_exprs
decreases-fields_from_exprs l = most_levels (trees l.fields.now) * 2 + 1

abbrev pub invariant-fields_from_exprs-loop-expr : goal.invariant-fields_from_exprs-loop-expr
invariant-fields_from_exprs-loop-expr l = Building l.fields l.initial.arena l.expr-iterator l.arena
