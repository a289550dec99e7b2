-- `claims::mark_parts` meets its contract. Assumes nothing.
use Rattle.claims.proofs.mark_parts.Goals as goal

pub mark_run-requires : goal.mark_run-requires
mark_run-requires c = c.in-Run.ensures.small

pub returns-in-Run : goal.returns-in-Run
returns-in-Run c = rw c.in-Run.ensures.are at c.mark_run.ensures

pub mark_cases-requires : goal.mark_cases-requires
mark_cases-requires c = c.in-Cases.ensures.small

pub returns-in-Cases : goal.returns-in-Cases
returns-in-Cases c = rw c.in-Cases.ensures.are at c.mark_cases.ensures
