-- `err_calls::put_candidates` meets its contract. The loop's invariant: i candidates are written, the others are owed. Assumes nothing.
use mathlib.Core.List.{map}
use Rattle.tok.specs.Text.{text}
use Rattle.display.specs.Joined.{joined, sig}
use Rattle.display.specs.WritingLaws.{Owes}
use Rattle.err_calls.specs.Candidates.{candidates_at}
use Rattle.err_calls.proofs.CandidateLaws.{owed}
use Rattle.err_calls.proofs.put_candidates.Given as goal

abbrev pub invariant-loop-i : goal.invariant-loop-i
invariant-loop-i l =
    let t = l.types.texts.now in
    let types = l.types.words.now in
    Owes l.initial.out (joined (text " | ") (map sig (candidates_at t types l.words l.starts))) l.out (owed t types l.words l.starts l.i)
