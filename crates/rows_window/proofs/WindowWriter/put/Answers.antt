-- `rows_window::WindowWriter::put` meets its contract: what is behind the bytes passed over is written by `display`'s writer. Assumes nothing.
use borrow.Author.Rules.{rules}
use mathlib.Core.Path.{refl}
use Rattle.rows_window.proofs.Pieces.{put_shows}
use Rattle.rows_window.proofs.WindowWriter.put.Goals as goal

pub returns : goal.returns
returns c = put_shows {w = c.args.self.now} c.args.piece.now c.min-passed.ensures c.put.ensures.1 (search rules) refl refl
