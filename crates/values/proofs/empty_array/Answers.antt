-- `values::empty_array` meets its contract: 1 is told. Assumes nothing.
use Rattle.state.specs.Reporting.{poisons-step}
use Rattle.values.proofs.empty_array.Goals as goal

pub returns : goal.returns
returns c s t = rw c.told.ensures (poisons-step c.args.n c.empty_array-reported.ensures.reports)
