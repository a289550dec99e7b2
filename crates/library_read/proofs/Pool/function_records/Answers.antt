-- `library_read::Pool::function_records` meets its contract: each turn reads one beside those before it. Assumes nothing.
use Rattle.std.proofs.Common.{◌≡◌, true, ltb, rules, sym, ap, arith}
use borrow.Author.Tests.{ltb-true}
use Rattle.library.specs.Signatures.{entries_from}
use Rattle.library.specs.Package.{function_at}
use Rattle.library.specs.PackagesRead.{GroupFine}
use Rattle.library_read.specs.Ready.{pool, OrderedIn}
use Rattle.library_read.proofs.RecordWays.{functions-begin, functions-kept, functions-all}
use Rattle.library_read.proofs.Pool.function_records.Goals as goal

pub returns : goal.returns
returns c = λ o.
    let words = ap (λ r. r.words) c.from.view_is in
    let first = ap (λ r. r.at) c.from.view_is in
    let start = c.args.from in
    functions-all
    (λ mid k to h one.
    let ordered : OrderedIn mid.words c.args.self.now = rw h.same o in
    let fine : ltb mid.at c.kept_up_to-kept.result ≡ true → GroupFine (pool c.args.self.now) (entries_from start.words 1 start.at k) (function_at mid.words mid.at) =
    (λ y. functions-kept h _ _ _ (sym (ap pool c.self.view_is)) (rw (words, first) at c.kept_up_to-kept.ensures) (ltb-true _ _ y)) in
    search rules)
    c.args.count (omega arith) functions-begin c.many.ensures
