-- `library::Entries::find` meets its contract. The loop's invariant: the group is looked for among the entries that are left. Assumes nothing.
use Rattle.library.proofs.EntryWays.{Left}
use Rattle.library.proofs.Entries.find.Given as goal

abbrev pub invariant-loop-left : goal.invariant-loop-left
invariant-loop-left l = Left l.texts l.name l.self.words l.self.flagged l.self.from l.self.count l.at l.left
