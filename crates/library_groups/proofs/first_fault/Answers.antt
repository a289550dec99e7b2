use Rattle.std.proofs.Common.{refl, ◌∙◌}
use Rattle.library_groups.proofs.FaultWays.{all-begin, all_more, all_done, lowest_there, faults_there}
use Rattle.library_groups.proofs.first_fault.Goals as goal

pub loop-group-init : goal.loop-group-init
loop-group-init c = rw (c.into_iter-group-iterator.ensures.into_iter_gives ∙ c.of-group-items.ensures) (refl, all-begin)

pub loop-group-preserved : goal.loop-group-preserved
loop-group-preserved c =
    let next = rw c.loop-group.invariant.0 at c.in-Some.ensures.steps in
    (next.1, all_more c.loop-group.invariant.1 next.0.ends (lowest_there next.0 c.lowest.ensures) (faults_there next.0 c.fault_in-best.ensures))

pub returns : goal.returns
returns c =
    let over = rw c.loop-group.invariant.0 at c.in-None.ensures.steps in
    λ t g. all_done c.loop-group.invariant.1 over.0 t g
