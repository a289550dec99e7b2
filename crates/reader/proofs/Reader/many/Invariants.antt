-- `reader::Reader::many` meets its contract: where the turns that are left come to, all come to. Assumes nothing.
use Rattle.std.specs.Prelude.{Result}
use Rattle.std.proofs.Common.{◌-◌}
use Rattle.reader.specs.declared.Fault.{Fault}
use Rattle.reader.specs.Reading.{Reader}
use Rattle.reader.specs.Repeated.{Repeated}
use Rattle.reader.proofs.Reader.many.Given as goal

abbrev pub invariant-loop-i : goal.invariant-loop-i
invariant-loop-i g l =
    (to : Result Reader Fault) → Repeated (goal.F-post g l.fn.one) l.i (l.count - l.i) l.to to
    → Repeated (goal.F-post g l.fn.one) 0 l.count l.initial.to to
