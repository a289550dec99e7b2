-- `bench_run::run` meets its contract, by the check's. Assumes nothing.
use borrow.Author.Rules.{rules}
use Rattle.rows_begin.specs.RunLaws.{runs}
use Rattle.bench_run.proofs.run.Goals as goal

-- src/lib.rt:94:1
pub returns : goal.returns
returns c = runs _ _ _ c.check-checked.result c.check-checked.ensures.0 c.check-checked.ensures.1 (search rules) c.rows_of.ensures c.slot_count.ensures
