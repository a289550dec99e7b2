-- `operators::result_kind` meets its contract: the table's entry, and none past its ends. Assumes nothing.
use Rattle.rules.specs.Operators.{operator_tables, arithmetic, remainder, equality, order}
use Rattle.operators.proofs.KindLaws.{none_past, none-kind, some-kind}
use Rattle.operators.proofs.result_kind.Goals as goal

pub returns-then-class-ge4 : goal.returns-then-class-ge4
returns-then-class-ge4 c = rw (← c.number-l.ensures, ← c.number-r.ensures) (none_past c.args.op _ _ c.class_of-class.ensures c.then-class-ge4.either)

pub returns-in-None : goal.returns-in-None
unfolding operator_tables arithmetic remainder equality order
returns-in-None c = rw (← c.number-l.ensures, ← c.number-r.ensures) (none-kind c.args.op _ _ c.class_of-class.ensures c.from.ensures c.in-None.is)

pub returns-in_default : goal.returns-in_default
unfolding operator_tables arithmetic remainder equality order
returns-in_default c = rw (← c.number-l.ensures, ← c.number-r.ensures) (some-kind c.args.op _ _ c.class_of-class.ensures c.from.ensures c.in_default.not-None)
