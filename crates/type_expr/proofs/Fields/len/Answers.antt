use Rattle.std.specs.Prelude.{length}
use Rattle.std.proofs.Common.{arith, sym, ap, ◌∙◌}
use Rattle.type_expr.proofs.Reading.{pairs-long}
use Rattle.type_expr.proofs.Fields.len.Goals as goal

pub returns : goal.returns
returns c = (sym (pairs-long _ _ _) ∙ ap length c.self.view_is, omega (arith, c.self.invariant.room))
