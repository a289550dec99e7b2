-- `commands::Lists::change` meets its contract. Assumes nothing.
use Rattle.std.proofs.Common.{arith}
use Rattle.commands.specs.Becoming.{lists_of}
use Rattle.commands.proofs.Changing.{same_lent, change_pattern, change_fill, change_length, change_data, change_other}
use Rattle.commands.proofs.Lists.change.Goals as goal

pub returns-in-1 : goal.returns-in-1
returns-in-1 c = rw (change_pattern (lists_of c.args.self.now) _ _ _ _ c.in-1.is) c.pattern.ensures

pub returns-in-2 : goal.returns-in-2
returns-in-2 c = rw (change_fill (lists_of c.args.self.now) c.args.c.op _ _ _ (omega arith) c.in-2.is) c.fill.ensures

pub returns-in-3 : goal.returns-in-3
returns-in-3 c = (same_lent c.args.self.now, rw (change_length (lists_of c.args.self.now) c.args.c.op _ _ _ (omega arith) (omega arith) c.in-3.is, c.put.ensures))

pub returns-in-8-to-4294967295 : goal.returns-in-8-to-4294967295
returns-in-8-to-4294967295 c = rw (change_data (lists_of c.args.self.now) c.args.c.op _ _ _ (omega arith) (omega arith) (omega arith) (omega arith)) c.put_data.ensures

pub returns-in_default : goal.returns-in_default
returns-in_default c = (same_lent c.args.self.now, change_other (lists_of c.args.self.now) c.args.c.op _ _ _ (omega arith) (omega arith) (omega arith) (omega arith))
