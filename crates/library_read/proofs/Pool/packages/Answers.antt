-- `library_read::Pool::packages` meets its contract: each turn reads one. Assumes nothing.
use Rattle.std.proofs.Common.{rules}
use Rattle.library_read.specs.Ready.{OrderedIn}
use Rattle.library_read.proofs.RecordWays.{packages-all}
use Rattle.library_read.proofs.Pool.packages.Goals as goal

pub returns : goal.returns
returns c = λ o. packages-all _ _ (λ at i to e h. let w : OrderedIn at.words c.args.self.now = rw e o in search rules) c.many.ensures
