-- `type_expr::set_pairs` meets its contract. The loop's invariant: all pairs written are those that are left, written over what was set.
-- Assumes nothing.
use Rattle.type_expr.proofs.FieldReturns.{Writing}
use Rattle.type_expr.proofs.set_pairs.Given as goal

abbrev pub invariant-loop-name : goal.invariant-loop-name
invariant-loop-name l = Writing l.fields l.initial.types l.used l.place l.name-iterator l.types l.end l.to
