-- `err_text::put_pieces` meets its contract. The loop's invariant: the pieces passed are written, the others are owed. Assumes nothing.
use lib.ListN.{drop}
use Rattle.display.specs.WritingLaws.{Owes}
use Rattle.err_text.specs.Pieces.{said}
use Rattle.err_text.proofs.put_pieces.Given as goal

abbrev pub invariant-loop-piece : goal.invariant-loop-piece
invariant-loop-piece l = Owes l.initial.out (said l.pieces) l.out (said (drop l.piece-index l.pieces))
