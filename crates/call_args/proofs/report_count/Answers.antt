-- `call_args::report_count` meets its contract: diagnostic 19. Assumes nothing.
use Rattle.state.specs.Reporting.{reports_step}
use Rattle.call_args.proofs.report_count.Goals as goal

pub returns : goal.returns
returns c = λ s t. rw c.told.ensures (reports_step _ c.argument_count-reported.ensures.reports)
