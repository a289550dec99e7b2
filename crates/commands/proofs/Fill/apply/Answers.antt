use Rattle.std.proofs.Common.{refl, ap, set, ◌∙◌}
use Rattle.commands.proofs.Changing.{fill_begins, fill-next, fill-ends}
use Rattle.commands.proofs.Fill.apply.Goals as goal

pub loop-init : goal.loop-init
loop-init g c = fill_begins g.T.Element.held _ _ _ _ _ _

pub loop-preserved : goal.loop-preserved
loop-preserved g c = fill-next g.T.Element.held _ _ _ _ _ _ _ c.loop.invariant c.loop-test.true (c.set_item.ensures ∙ ap (set _ _) c.of.ensures) refl refl

pub returns : goal.returns
returns g c = fill-ends g.T.Element.held _ _ _ _ _ _ _ c.loop.invariant c.loop-test.false
