-- `values::condition` meets its contract of a known condition: it is Bool, or 23 is told. Assumes nothing.
use Rattle.rules.specs.Rules.{condition}
use Rattle.rules.specs.Steps.{if_known, ty, tree, ty_tree}
use Rattle.tok.specs.Step.{when}
use Rattle.ptype.specs.Words.{ways, unfolded, ty_of}
use Rattle.state.specs.World.{stepped}
use Rattle.values.proofs.Told.{told-steps}
use Rattle.values.proofs.condition.Goals as goal

pub returns-then-same_type : goal.returns-then-same_type
unfolding condition if_known ty tree ty_tree when ty_of unfolded ways stepped
returns-then-same_type c ls v = record { step = λ rest. rw (c.in-Known.is, ← c.word_at-w.ensures, ← c.same_type.ensures, c.if-same_type.true) }

pub returns : goal.returns
unfolding condition if_known ty tree ty_tree when ty_of unfolded ways
returns c ls v =
    told-steps c.args.n c.bad_condition-reported.ensures.reports c.told.ensures
    (λ rest. rw (c.in-Known.is, ← c.word_at-w.ensures, ← c.same_type.ensures, c.if-same_type.false))
