-- `branches::compare_branches` meets its contract. The loop's invariant: i branches are compared, the others follow. Assumes nothing.
use Rattle.std.specs.Prelude.{◌≡◌, ◌+◌, length}
use Rattle.branches.proofs.Compare.{Compared}
use Rattle.branches.proofs.compare_branches.Given as goal

abbrev pub invariant-loop : goal.invariant-loop
invariant-loop l =
    Compared l.types.texts.now l.node.n l.default l.node.image.now.words l.node.image.now.places
    (l.node.at + 3) l.count l.slots l.types.words.now l.initial.diagnostics l.initial.messages l.initial.here l.counter l.place l.diagnostics l.messages l.here
    × (length l.diagnostics ≡ length l.initial.diagnostics) × (length l.messages ≡ length l.initial.messages)
