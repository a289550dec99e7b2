-- `imports::import_all` meets its contract. The loop's invariant: what is left of the paths goes on where k of them ended. Assumes nothing.
use Rattle.imports.proofs.Returns.{Importing}
use Rattle.imports.proofs.import_all.Given as goal

abbrev pub invariant-loop-k : goal.invariant-loop-k
invariant-loop-k l =
    let from = l.initial in
    Importing l.sources.texts.now l.sources.library.now l.sources.image.now.words l.n l.at l.count from.after from.diagnostics from.messages from.scratch l.k l.after l.diagnostics l.messages l.scratch
