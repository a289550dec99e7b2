-- `slotted_call::check_slotted` meets its contract: another number of arguments, an argument that is refused, or the return type. Assumes
-- nothing.
use mathlib.Core.Path.{◌∙◌}
use Rattle.slotted_call.proofs.Returns.{miscounted, miscounted-full, call-refused, return-meant, call-returned}
use Rattle.slotted_call.proofs.check_slotted.Goals as goal

pub returns-in_err-used : goal.returns-in_err-used
returns-in_err-used c =
    miscounted-full _ _ _ _ _ c.args.signature.now _ _ _ _ _ _ _ _ c.argument_count-required.ensures c.if-call-required.true (c.report_count.ensures _ _) c.in_err-used.was c.from_residual.ensures.1

pub returns-then-call-required : goal.returns-then-call-required
returns-then-call-required c =
    miscounted _ _ _ _ _ c.args.signature.now _ _ _ _ _ _ _ _ c.argument_count-required.ensures c.if-call-required.true (c.report_count.ensures _ _) c.in_ok-used.was

pub slotted_arguments-requires : goal.slotted_arguments-requires
slotted_arguments-requires c = record {
  ready = rw c.new-bindings.ensures.none_yet.0 c.requires;
  counts = c.if-call-required.false ∙ c.argument_count-required.ensures;
  fresh = c.new-bindings.ensures.none_yet.1;
}

pub returns-in_err-used-2 : goal.returns-in_err-used-2
returns-in_err-used-2 c =
    call-refused _ _ _ _ _ c.args.signature.now _ _ _ _ _ _ _ _ c.argument_count-required.ensures c.if-call-required.false c.slotted_arguments.ensures c.in_err-used-2.was
    c.from_residual-in_err-used-2.ensures.1

pub returned-requires : goal.returned-requires
returned-requires c =
    return-meant _ _ c.args.call.slot c.args.callee.token _ c.args.signature.now _ _ _ _ _ _ _ _ c.argument_count-required.ensures c.if-call-required.false c.slotted_arguments.ensures
    c.in_ok-used-2.was
    c.return_type-ret.ensures c.requires.ret

pub returns : goal.returns
returns c =
    call-returned _ _ _ _ _ c.args.signature.now _ _ _ _ _ _ _ _ c.argument_count-required.ensures c.if-call-required.false c.slotted_arguments.ensures c.in_ok-used-2.was
    c.return_type-ret.ensures (rw (← c.bound-held.ensures.0, ← c.bound-held.ensures.1) c.returned.ensures)
