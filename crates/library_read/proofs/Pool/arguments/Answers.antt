-- `library_read::Pool::arguments` meets its contract: each turn reads one. Assumes nothing.
use Rattle.std.proofs.Common.{rules}
use Rattle.library_read.proofs.RecordWays.{arguments-all}
use Rattle.library_read.proofs.Pool.arguments.Goals as goal

pub returns : goal.returns
returns c = λ flag s. arguments-all _ _ (λ from i to h. search rules) c.many.ensures
