-- `tok::is_name` meets its contract: a name has no more bytes than its word says. Assumes nothing.
use Rattle.std.proofs.lemmas.Bool.{lt-leb}
use Rattle.tok.proofs.SameLaws.{short-name}
use Rattle.tok.proofs.is_name.Goals as goal

pub returns-else-name_length-name : goal.returns-else-name_length-name
returns-else-name_length-name c = rw (lt-leb _ _ c.if-name_length-name.false) (short-name _ _ _ c.name_length.ensures c.if-name_length-name.false)
