-- `group_select::put_candidates` meets its contract. The loop's invariant: the candidates that are left are owed. Assumes nothing.
use Rattle.group_select.proofs.Candidates.{Listing}
use Rattle.group_select.proofs.put_candidates.Given as goal

abbrev pub invariant-loop-candidate : goal.invariant-loop-candidate
invariant-loop-candidate l = Listing l.types.texts.now l.types.words.now l.group l.initial.out l.out l.candidate-iterator l.before
