use native.Mathlib.Omega.{arith}
use borrow.Author.Rules.{rules}
use Rattle.tok.specs.Text.{text}
use Rattle.display.specs.WritingLaws.{writing}
use Rattle.err_text.proofs.SaidLaws.{said-turn, said-end}
use Rattle.err_text.proofs.put_pieces.Goals as goal

pub returns-in_err-put_piece : goal.returns-in_err-put_piece
returns-in_err-put_piece c =
    let e = said-turn c.args.pieces.now {i = c.loop-piece.piece-index} c.piece-item.result (search rules) c.piece-item.is in grind writing

pub loop-piece-preserved : goal.loop-piece-preserved
loop-piece-preserved c =
    let e = said-turn c.args.pieces.now {i = c.loop-piece.piece-index} c.piece-item.result (search rules) c.piece-item.is in grind writing

pub returns : goal.returns
unfolding text
returns c = let e = said-end c.args.pieces.now {i = c.loop-piece.piece-index} (omega arith) in grind writing
