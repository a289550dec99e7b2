-- `extern_package::extern_functions` meets its contract. The loop's invariant: k functions are written. Assumes nothing.
use Rattle.extern_package.specs.Packing.{FunctionsRoom}
use Rattle.extern_package.proofs.FunctionReturns.{Packing}
use Rattle.extern_package.proofs.extern_functions.Given as goal

abbrev pub invariant-loop : goal.invariant-loop
invariant-loop l =
    (h : FunctionsRoom l.image.words l.image.places l.initial.scratch l.from l.at l.count)
    × Packing l.image.words l.image.places l.n l.from l.at l.count h.end l.counter l.initial.types l.initial.after l.initial.scratch l.types l.after l.scratch l.place l.to
