-- `tok::same_name` meets its contract; equal words stand for one name. Assumes nothing.
use Rattle.std.proofs.Common.{eq-eqb}
use Rattle.tok.proofs.SameLaws.{same_word}
use Rattle.tok.proofs.same_name.Goals as goal

pub returns-then-a-b : goal.returns-then-a-b
returns-then-a-b c = rw (eq-eqb _ _ c.if-a-b.true) (same_word _ _ _ c.if-a-b.true)
