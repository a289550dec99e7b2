-- `values::member_types` meets its contract: silent, alike, or 2 is told. Assumes nothing.
use Rattle.rules.specs.declared.Member.TheVariants.{Differs as differs}
use Rattle.rules.specs.Rules.{member_types}
use Rattle.rules.specs.Steps.{ty, tree, ty_tree}
use Rattle.std.proofs.Common.{rules}
use Rattle.state.specs.World.{stepped}
use Rattle.tok.specs.Step.{when}
use Rattle.values.proofs.Told.{told-gives}
use Rattle.values.proofs.member_types.Goals as goal

pub returns-then-contains_unknown : goal.returns-then-contains_unknown
unfolding member_types ty tree ty_tree when stepped
returns-then-contains_unknown c = search rules

pub returns-then-same_type : goal.returns-then-same_type
unfolding member_types ty tree ty_tree when stepped
returns-then-same_type c = search rules

pub returns : goal.returns
unfolding member_types ty tree ty_tree when
returns c ls v =
    told-gives c.args.n c.members_differ-reported.ensures.reports differs c.told.ensures
    (λ rest.
    rw (← c.word_at-f.ensures, ← c.word_at-t.ensures, ← c.contains_unknown.ensures c.args.types.now.texts.now, c.if-contains_unknown.false)
    (rw (← c.contains_unknown-else-contains_unknown.ensures c.args.types.now.texts.now, c.if-contains_unknown-2.false, ← c.same_type.ensures, c.if-same_type.false)))
