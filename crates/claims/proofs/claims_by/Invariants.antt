-- `claims::claims_by` meets its contract. The loop's invariant, `ToClaim`: the claims of the nodes that are left give the whole. Assumes nothing.
use Rattle.image_laws.specs.OutlineAt.{parts_from}
use Rattle.claims.proofs.ClaimWays.{ToClaim}
use Rattle.claims.proofs.claims_by.Given as goal

abbrev pub invariant-loop-i : goal.invariant-loop-i
invariant-loop-i l = ToClaim l.words (parts_from l.words 1 4 l.roots) l.n l.initial.nodes l.initial.slots l.nodes l.slots l.at l.i
