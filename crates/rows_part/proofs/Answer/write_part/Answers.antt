-- `rows_part::Answer::write_part` meets its contract, by the two ways that a part ends. Assumes nothing.
use mathlib.Core.Path.{refl}
use borrow.Author.Rules.{rules}
use Rattle.rows_part.proofs.Ways.{part-ends, part-goes}
use Rattle.rows_part.proofs.Answer.write_part.Goals as goal

pub returns-then-n-room : goal.returns-then-n-room
returns-then-n-room c =
    part-ends _ _ c.put_row.ensures refl refl refl (search rules) c.min-room.ensures c.min-n.ensures c.if-n-room.true c.next.ensures

pub returns : goal.returns
returns c = part-goes _ _ c.put_row.ensures refl refl refl (search rules) c.min-room.ensures c.min-n.ensures c.if-n-room.false
