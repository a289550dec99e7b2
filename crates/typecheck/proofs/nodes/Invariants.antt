-- `typecheck::nodes` meets its contract. The loop's invariant, `Turn`: the nodes that are left lead on to the whole list. Assumes nothing.
use Rattle.std.proofs.Common.{◌+◌, ◌-◌}
use Rattle.tok.specs.Text.{texts_of}
use Rattle.state.specs.World.{no_more}
use Rattle.visit.specs.Whole.{lent}
use Rattle.walk_laws.specs.Lists.{Turn}
use Rattle.typecheck.proofs.nodes.Given as goal

abbrev pub invariant-loop-place : goal.invariant-loop-place
invariant-loop-place l = Turn l.sources.texts.now l.sources.image.now.words l.sources.image.now.places l.sources.library.now l.owner l.at l.k l.initial.here
    (lent l.initial.slots l.initial.functions l.initial.types l.initial.diagnostics l.initial.messages l.initial.scratch no_more)
    l.place (l.at + l.k - l.place) l.answer l.here (lent l.slots l.functions l.types l.diagnostics l.messages l.scratch no_more)
