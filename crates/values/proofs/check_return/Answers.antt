-- `values::check_return` meets its contract of a known answer: the types are equal, or 9 is told. Assumes nothing.
use Rattle.rules.specs.Rules.{check_return}
use Rattle.rules.specs.Steps.{if_known, ty, tree, ty_tree}
use Rattle.std.proofs.Common.{rules}
use Rattle.state.specs.World.{stepped}
use Rattle.tok.specs.Step.{when}
use Rattle.values.proofs.Told.{told-steps}
use Rattle.values.proofs.check_return.Goals as goal

pub returns-then-same_type : goal.returns-then-same_type
unfolding check_return if_known ty tree ty_tree when stepped
returns-then-same_type c = search rules

pub returns : goal.returns
unfolding check_return if_known ty tree ty_tree when
returns c ls v e is =
    told-steps c.args.n c.bad_return-reported.ensures.reports c.told.ensures
    (λ rest. rw (c.in-Known.is, is, ← c.word_at-w.ensures, ← c.same_type.ensures, c.if-same_type.false))
