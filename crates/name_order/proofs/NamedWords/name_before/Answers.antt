-- `name_order::NamedWords::name_before` meets its contract: std's order of bytes, and no name comes before itself. Assumes nothing.
use Rattle.std.proofs.Common.{eq-eqb, ◌∙◌}
use Rattle.name_order.proofs.BytesWays.{before-is, none-before-same}
use Rattle.name_order.proofs.NamedWords.name_before.Goals as goal

pub returns-then-a-b : goal.returns-then-a-b
returns-then-a-b c = c.is_lt.ensures ∙ rw (← c.name_bytes.ensures, ← c.name_bytes-then-a-b.ensures) (before-is _ _ _ c.cmp.ensures)

pub returns-else-a-b : goal.returns-else-a-b
returns-else-a-b c = rw (eq-eqb _ _ c.if-a-b.false) (none-before-same _ _ _ c.if-a-b.false)
