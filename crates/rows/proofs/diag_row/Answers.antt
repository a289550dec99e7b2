-- `rows::diag_row` meets its contract: the words that it reads, and its pieces, one after the other. Assumes nothing.
use mathlib.Core.Path.{refl, ◌∙◌}
use Rattle.rows_window.specs.ShowingLaws.{◌and_then◌, shows_as}
use Rattle.tok.specs.Text.{text}
use Rattle.rows.specs.LinesLaws.{diag_pieces}
use Rattle.rows.proofs.Read.{diag_read}
use Rattle.rows.proofs.diag_row.Goals as goal

pub returns : goal.returns
unfolding text
returns c =
    let read =
    diag_read _ _ refl c.word_at.ensures c.payload-code.ensures c.word_at-start.ensures refl c.word_at-len.ensures refl c.word_at-from.ensures refl
    c.word_at-size.ensures refl c.part.ensures in
    let pieces = c.put.ensures and_then c.put_number.ensures and_then c.put_number-2.ensures and_then c.put_number-3.ensures and_then c.put-2.ensures and_then c.put-3.ensures in
    shows_as (read ∙ diag_pieces _ _ _ _) pieces
