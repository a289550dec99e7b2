-- `call_args::check_plain` meets its contract: another number of arguments, or each argument. Assumes nothing.
use mathlib.Core.Path.{◌∙◌}
use Rattle.call_args.proofs.Plain.{miscounted, miscounted-full, counted, counted-stops}
use Rattle.call_args.proofs.check_plain.Goals as goal

pub returns-in_err-used : goal.returns-in_err-used
returns-in_err-used c =
    miscounted-full _ _ _ _ _ c.args.signature.now _ _ _ _ _ _ _ _
    c.argument_count-required.ensures c.return_type-ret.ensures c.if-call-required.true (c.report_count.ensures _ _) c.in_err-used.was c.from_residual.ensures.1

pub returns-then-call-required : goal.returns-then-call-required
returns-then-call-required c =
    miscounted _ _ _ _ _ c.args.signature.now _ _ _ _ _ _ _ _
    c.argument_count-required.ensures c.return_type-ret.ensures c.if-call-required.true (c.report_count.ensures _ _) c.in_ok-used.was c.set_known.ensures

pub plain_arguments-requires : goal.plain_arguments-requires
plain_arguments-requires c = record { nodes = c.requires; counts = c.if-call-required.false ∙ c.argument_count-required.ensures }

pub returns-in_err-used-2 : goal.returns-in_err-used-2
returns-in_err-used-2 c =
    counted-stops _ _ _ _ _ c.args.signature.now _ _ _ _ _ _ _ _
    c.argument_count-required.ensures c.return_type-ret.ensures c.if-call-required.false c.plain_arguments.ensures c.in_err-used-2.was c.from_residual-in_err-used-2.ensures.1

pub returns : goal.returns
returns c =
    counted _ _ _ _ _ c.args.signature.now _ _ _ _ _ _ _ _ c.argument_count-required.ensures c.return_type-ret.ensures c.if-call-required.false c.plain_arguments.ensures c.in_ok-used-2.was
    c.set_known-2.ensures
