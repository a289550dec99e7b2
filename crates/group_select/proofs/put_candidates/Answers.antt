use Rattle.std.proofs.Common.{◌∙◌}
use Rattle.tok.specs.Text.{text}
use Rattle.display.specs.WritingLaws.{writing}
use Rattle.group_select.proofs.Candidates.{candidate_is, listing-begin, listing-over, listing-turn, listing-more}
use Rattle.group_select.proofs.put_candidates.Goals as goal

pub loop-candidate-init : goal.loop-candidate-init
loop-candidate-init c = listing-begin _ _ _ _ (c.into_iter-candidate-iterator.ensures.into_iter_gives ∙ c.iter-candidate-items.ensures)

pub returns-in_err-put_separator : goal.returns-in_err-put_separator
unfolding text
returns-in_err-put_separator c =
    let i = c.loop-candidate.invariant.owes in
    let e = listing-turn _ _ _ c.loop-candidate.invariant c.in-Some.ensures.steps in grind writing

pub returns-in_err-put_candidate : goal.returns-in_err-put_candidate
unfolding text
returns-in_err-put_candidate c =
    let i = c.loop-candidate.invariant.owes in
    let p = rw (candidate_is _ _ _ _ _ c.candidate.view_is) at c.put_candidate.ensures in
    let e = listing-turn _ _ _ c.loop-candidate.invariant c.in-Some.ensures.steps in grind writing

pub loop-candidate-preserved : goal.loop-candidate-preserved
unfolding text
loop-candidate-preserved c =
    let i = c.loop-candidate.invariant.owes in
    let p = rw (candidate_is _ _ _ _ _ c.candidate.view_is) at c.put_candidate.ensures in
    let e = listing-turn _ _ _ c.loop-candidate.invariant c.in-Some.ensures.steps in
    listing-more _ _ _ c.loop-candidate.invariant c.in-Some.ensures.steps (grind writing)

pub returns : goal.returns
returns c = let e = listing-over _ _ _ c.loop-candidate.invariant c.in-None.ensures.steps.0 in grind writing
