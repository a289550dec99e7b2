-- `rows::fn_row` meets its contract: the words that it reads, and its pieces, one after the other. Assumes nothing.
use mathlib.Core.Path.{refl, ◌∙◌}
use Rattle.rows_window.specs.ShowingLaws.{◌and_then◌, shows_as}
use Rattle.tok.specs.Text.{text}
use Rattle.rows.specs.LinesLaws.{fn_pieces}
use Rattle.rows.proofs.Read.{fn-read}
use Rattle.rows.proofs.fn_row.Goals as goal

pub returns : goal.returns
unfolding text
returns c =
    let read = fn-read _ _ _ refl c.word_at-name.ensures c.word_at-n.ensures refl c.word_at-ret.ensures in
    let pieces = c.put.ensures and_then c.put-2.ensures and_then c.put-3.ensures and_then c.show_arguments.ensures and_then c.show_type.ensures and_then c.put-4.ensures in
    shows_as (read ∙ fn_pieces _ _ _ _ _ _ _ c.name_bytes.ensures) pieces
