-- `commands::Fill::apply` meets its contract. The loop's invariant: what is left of the fill makes of the slice what the whole makes of it at first.
-- Assumes nothing.
use Rattle.std.proofs.Common.{◌≡◌, ◌-◌}
use Rattle.commands.specs.Changes.{filled}
use Rattle.commands.proofs.Fill.apply.Given as goal

abbrev pub invariant-loop : goal.invariant-loop
invariant-loop g l =
    filled g.T.Element.held l.initial.out l.self.stride l.self.start l.self.count l.self.value l.self.step
    ≡ filled g.T.Element.held l.out l.self.stride l.at (l.self.count - l.counter) l.w l.self.step
