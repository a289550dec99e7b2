-- `reader::Reader::owing` meets its contract: a law for each way out, a good word, and an offending one or none. Assumes nothing.
use mathlib.Core.Path.{sym, refl, ◌∙◌}
use native.Mathlib.Omega.{arith}
use Rattle.reader.specs.Laws.{short, offends, taken}
use Rattle.reader.proofs.Ways.{owed-within}
use Rattle.reader.proofs.Reader.owing.Goals as goal
use Rattle.reader.proofs.Reader.owing.Goals.{else-self-via-then-self+else-admits, else-self-via-else-self}

pub returns-then-admits : goal.returns-then-admits
returns-then-admits c = rw (← c.self.view_is) (taken _ _ _ _ _ c.if-self.true (sym c.admits.ensures ∙ c.if-admits.true), refl)

pub overflow_add-result-then-admits : goal.overflow_add-result-then-admits
overflow_add-result-then-admits c = omega (arith, owed-within c.self.inside.at c.self.inside.least c.args.owes c.args.good _ c.admits.ensures c.if-admits.true)

pub returns-else-self : goal.returns-else-self
returns-else-self c = rw (← c.self.view_is) (elim c.else-self.branch [
  | else-self-via-then-self+else-admits w ↦ (offends _ _ _ _ _ _ w.if-self.true (sym w.admits.ensures ∙ w.if-admits.false), tt)
  | else-self-via-else-self w ↦ (short _ _ _ _ _ _ w.if-self.false, tt)
])
