-- `type_expr::deep_field` meets its contract. The loop's invariant: the steps of all fields go on with those of the fields that are left, of
-- which one has more than 32 levels. Assumes nothing.
use Rattle.type_expr.proofs.FieldReturns.{Before}
use Rattle.type_expr.proofs.deep_field.Given as goal

abbrev pub invariant-loop-expr : goal.invariant-loop-expr
invariant-loop-expr l = Before l.fields l.initial.arena l.expr-iterator l.arena
