-- `display::Writer::put` meets its contract: as many bytes are copied as there are or have room. Assumes nothing.
use mathlib.Core.Path.{refl}
use Rattle.display.proofs.Copying.{copied_none, copied_all, copied_full}
use Rattle.display.proofs.Writer.put.Goals as goal

pub returns-then-self-end : goal.returns-then-self-end
returns-then-self-end c = (refl, copied_none _ _ _ c.if-self-end.true)

pub returns-then-piece-end : goal.returns-then-piece-end
returns-then-piece-end c = (refl, copied_all _ _ _ c.if-self-end.false c.if-piece-end.true c.copy.ensures)

pub returns-else-piece-end : goal.returns-else-piece-end
returns-else-piece-end c = (refl, copied_full _ _ _ c.if-self-end.false c.if-piece-end.false c.copy-else-piece-end.ensures)
