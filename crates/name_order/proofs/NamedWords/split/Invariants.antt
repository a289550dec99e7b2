-- `name_order::NamedWords::split` meets its contract. The loop's invariant, `Telling`: the entries before rank i are told.
-- Assumes nothing.
use Rattle.name_order.proofs.SplitWays.{Telling}
use Rattle.name_order.proofs.NamedWords.split.Given as goal

abbrev pub invariant-loop-i : goal.invariant-loop-i
invariant-loop-i l = Telling l.self.texts.now l.self.words.now l.initial.order l.order l.i
