-- `bench_run::bench` meets its contract: the rows that begin where `begin` says are the bench's. Assumes nothing.
use Rattle.std.proofs.lemmas.Result.{IfOk-weaker}
use Rattle.bench_run.proofs.Ways.{benched}
use Rattle.bench_run.proofs.bench.Goals as goal

pub returns : goal.returns
returns g c = IfOk-weaker _ _ _ (λ _ h. benched _ c.begin-begun.ensures c.script.ensures c.library_text.ensures h) c.print_rows.ensures
