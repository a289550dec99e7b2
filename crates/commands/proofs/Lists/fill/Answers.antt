-- `commands::Lists::fill` meets its contract. Assumes nothing.
use Rattle.std.proofs.Common.{arith}
use Rattle.commands.proofs.Changing.{same_lent, fill-script, fill-image, fill-text, fill-library}
use Rattle.commands.proofs.Lists.fill.Goals as goal

pub returns-in-0 : goal.returns-in-0
returns-in-0 c =
    (same_lent c.args.self.now, fill-script _ _ _ _ _ _ _ c.register-list.ensures c.register.ensures c.register-2.ensures c.in-0.is c.apply.ensures)

pub returns-in-1 : goal.returns-in-1
returns-in-1 c =
    (same_lent c.args.self.now, fill-image _ _ _ _ _ _ _ c.register-list.ensures c.register.ensures c.register-2.ensures c.in-1.is c.apply-in-1.ensures)

pub returns-in-2 : goal.returns-in-2
returns-in-2 c = (
  same_lent c.args.self.now,
  fill-text _ _ _ _ _ _ _ c.register-list.ensures c.register.ensures c.register-2.ensures c.in-2.is c.apply-in-2.ensures,
)

pub returns-in_default : goal.returns-in_default
returns-in_default c = (
  same_lent c.args.self.now,
  fill-library _ _ _ _ _ _ _ c.register-list.ensures c.register.ensures c.register-2.ensures (omega arith) (omega arith) (omega arith)
      c.apply-in_default.ensures,
)
