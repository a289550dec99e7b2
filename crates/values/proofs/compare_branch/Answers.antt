-- `values::compare_branch` meets its contract of a known answer: the types are equal, or 24 is told. Assumes nothing.
use Rattle.rules.specs.Steps.{if_known, ty, tree, ty_tree}
use Rattle.std.proofs.Common.{rules}
use Rattle.state.specs.World.{stepped}
use Rattle.tok.specs.Step.{when}
use Rattle.values.specs.Answers.{compare_branch}
use Rattle.values.proofs.Told.{told-steps}
use Rattle.values.proofs.compare_branch.Goals as goal

pub returns-then-same_type : goal.returns-then-same_type
unfolding compare_branch if_known ty tree ty_tree when stepped
returns-then-same_type c = search rules

pub returns : goal.returns
unfolding compare_branch if_known ty tree ty_tree when
returns c ls v =
    told-steps c.args.n c.match_cases-reported.ensures.reports c.told.ensures
    (λ rest. rw (c.in-Known.is, ← c.word_at-w.ensures, ← c.word_at-d.ensures, ← c.same_type.ensures, c.if-same_type.false))
