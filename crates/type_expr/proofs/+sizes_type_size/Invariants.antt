-- `type_expr::type_size` and `type_expr::sizes` meet their contracts: by the equations of `size_of` for each kind. The levels fall. The loop's
-- invariant: what was summed, with what is left, is the whole. Assumes nothing.
use Rattle.std.specs.Prelude.{◌+◌, ◌*◌, ◌≤◌, ◌≡◌}
use Rattle.places.specs.Levels.{levels_of, most_levels}
use Rattle.type_expr.specs.Trees.{tree, trees}
use Rattle.type_expr.specs.Sizes.{sizes_of}
use Rattle.type_expr.proofs.+sizes_type_size.Given as goal

abbrev pub decreases-sizes : goal.decreases-sizes
decreases-sizes l = most_levels (trees l.fields.now) * 2 + 1

abbrev pub decreases-type_size : goal.decreases-type_size
decreases-type_size l = levels_of (tree l.expr.now) * 2

abbrev pub invariant-sizes-loop-expr : goal.invariant-sizes-loop-expr
invariant-sizes-loop-expr l =
    (sizes_of (trees l.fields) ≡ l.sum + sizes_of (trees l.expr-iterator)) × (most_levels (trees l.expr-iterator) ≤ most_levels (trees l.fields))
