-- `commands::Lists::put_data` meets its contract. Assumes nothing.
use Rattle.std.proofs.Common.{arith}
use Rattle.commands.proofs.Changing.{same_lent, data_script, data_image, data_text, data_library}
use Rattle.commands.proofs.Lists.put_data.Goals as goal

pub returns-in-0 : goal.returns-in-0
returns-in-0 c = (same_lent c.args.self.now, data_script _ _ _ _ _ _ _ _ c.in-0.is c.eight_bytes.ensures _)

pub returns-in-1 : goal.returns-in-1
returns-in-1 c = (same_lent c.args.self.now, data_image _ _ _ _ _ _ _ _ c.in-1.is c.two_words.ensures _)

pub returns-in-2 : goal.returns-in-2
returns-in-2 c = (same_lent c.args.self.now, data_text _ _ _ _ _ _ _ _ c.in-2.is c.eight_bytes-in-2.ensures _)

pub returns-in_default : goal.returns-in_default
returns-in_default c = (same_lent c.args.self.now, data_library _ _ _ _ _ _ _ _ (omega arith) (omega arith) (omega arith) c.two_words-in_default.ensures _)
