-- `rows_window::WindowWriter::is_full` meets its contract, by its two tests. Assumes nothing.
use Rattle.rows_window.proofs.Pieces.{full-by-room, passing}
use Rattle.rows_window.proofs.WindowWriter.is_full.Goals as goal

pub returns-then-self-eq0 : goal.returns-then-self-eq0
returns-then-self-eq0 c = full-by-room _ c.if-self-eq0.true

pub returns-else-self-eq0 : goal.returns-else-self-eq0
returns-else-self-eq0 c = passing _ c.if-self-eq0.false
