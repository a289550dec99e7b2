-- `library::Package::end` meets its contract, by the end of its functions. Assumes nothing.
use Rattle.std.proofs.Common.{◌+◌, min, ap, ◌∙◌, length}
use Rattle.library.specs.Package.{functions_end}
use Rattle.library.proofs.AccessWays.{end-past}
use Rattle.library.proofs.Package.end.Goals as goal

pub returns-then-self : goal.returns-then-self
returns-then-self c = end-past _ _ c.if-self.true

pub returns-else-self : goal.returns-else-self
returns-else-self c =
    c.functions_end.ensures ∙ ap (λ k. min (functions_end c.args.self.now.words.now (c.args.self.now.at + 2) k) (length c.args.self.now.words.now)) c.function_count.ensures
