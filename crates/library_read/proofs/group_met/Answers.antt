-- `library_read::group_met` meets its contract: one is of the group where an entry of its name is found. Assumes nothing.
use Rattle.std.proofs.Common.{◌∙◌}
use Rattle.library_read.proofs.GroupWays.{met-is}
use Rattle.library_read.proofs.group_met.Goals as goal

pub returns : goal.returns
returns c = c.is_some.ensures ∙ met-is _ _ _ c.name_bytes-name.ensures _ _ _ c.find.ensures.is
