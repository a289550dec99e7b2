-- `selection::position` meets its contract. The outer loop's invariant: the first that fits is among the candidates that are left. The inner
-- loop's: the types so far are equal. Assumes nothing.
use Rattle.std.proofs.Common.{◌≡◌, map}
use Rattle.ptype.specs.Types.{type_at}
use Rattle.selection.specs.Candidates.{position_of}
use Rattle.selection.proofs.Ways.{Alike}
use Rattle.selection.proofs.position.Given as goal

abbrev pub invariant-candidates : goal.invariant-candidates
invariant-candidates l =
    let first = position_of (type_at l.types) (map (type_at l.types) l.provided) in
    first l.group ≡ first l.candidate-iterator

abbrev pub invariant-loop-i : goal.invariant-loop-i
invariant-loop-i l = Alike (type_at l.types) l.candidate.params l.provided l.i
