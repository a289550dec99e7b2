-- `parameters::fn_arguments` meets its contract. The loop's invariant: k arguments are bound. Assumes nothing.
use Rattle.parameters.specs.Arguments.{ArgumentsReady}
use Rattle.parameters.proofs.Returns.{Arguing}
use Rattle.parameters.proofs.fn_arguments.Given as goal

abbrev pub invariant-loop-k : goal.invariant-loop-k
invariant-loop-k l =
    ArgumentsReady l.image.words l.image.places l.initial.after l.initial.scratch l.slot l.at l.count
    × Arguing l.image.words l.n l.slot l.at l.k l.initial.after l.initial.slots l.initial.types l.initial.scratch l.after l.slots l.types l.scratch
