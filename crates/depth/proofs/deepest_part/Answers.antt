-- `depth::deepest_part` meets its contract. Assumes nothing.
use mathlib.Core.Path.{ap, ◌∙◌}
use Rattle.ast.specs.Depth.{deepest}
use Rattle.depth.proofs.deepest_part.Goals as goal

pub deepest_run-requires : goal.deepest_run-requires
deepest_run-requires c = c.in-Run.ensures.small

pub returns-in-Run : goal.returns-in-Run
returns-in-Run c = c.deepest_run.ensures ∙ ap (deepest c.args.depths.now) c.in-Run.ensures.are

pub deepest_cases-requires : goal.deepest_cases-requires
deepest_cases-requires c = c.in-Cases.ensures.small

pub returns-in-Cases : goal.returns-in-Cases
returns-in-Cases c = c.deepest_cases.ensures ∙ ap (deepest c.args.depths.now) c.in-Cases.ensures.are
