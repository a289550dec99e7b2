-- `externs::extern_arguments` meets its contract. The loop's invariant: k arguments are written. Assumes nothing.
use Rattle.externs.specs.Entries.{ArgumentsRoom}
use Rattle.externs.proofs.Returns.{Writing}
use Rattle.externs.proofs.extern_arguments.Given as goal

abbrev pub invariant-loop-k : goal.invariant-loop-k
invariant-loop-k l =
    ArgumentsRoom l.image.words l.image.places l.initial.scratch l.from l.at l.count
    × Writing l.image.words l.n l.from l.at l.k l.initial.types l.initial.after l.initial.scratch l.types l.after l.scratch
