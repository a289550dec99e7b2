use Rattle.std.proofs.lemmas.Result.{err_from_is_err_and}
use mathlib.Core.Path.{◌≡◌, refl, sym, ◌∙◌}
use native.Mathlib.Omega.{arith}
use Rattle.tok.specs.Word.{kind_of}
use Rattle.ptype.specs.TypeKindLaws.{type-number, type-not, type-wraps, type-flat}
use Rattle.slots.proofs.BindReturns.{within_none, within-slot, within-other, within-plain, within-wrap, within_record, fields-over, left-all, left-stop, left-next}
use Rattle.slots.proofs.+bind_fields_bind_within.Goals as goal

pub bind_fields-loop-k-init : goal.bind_fields-loop-k-init
bind_fields-loop-k-init t c = left-all _ _ _ _ _ _ _ _ (omega arith) (omega arith) (omega arith) (omega arith)

pub bind_fields-returns-in_err-bind_within : goal.bind_fields-returns-in_err-bind_within
bind_fields-returns-in_err-bind_within t c =
    let p = err_from_is_err_and c.from_residual.result c.from_residual.ensures.1 in
    let left = c.loop-k.invariant in
    let stop = left-stop left (λ z. omega (arith, c.min-k-end.ensures)) (λ z. omega (arith, c.min-k-end.ensures)) c.field_type.ensures c.field_type-in-loop-k.ensures in
    rw (p.1, p.2) (stop c.in_err-bind_within.ensures)

pub bind_fields-loop-k-preserved : goal.bind_fields-loop-k-preserved
bind_fields-loop-k-preserved t c =
    let left = c.loop-k.invariant in
    let next = left-next left (λ z. omega (arith, c.min-k-end.ensures)) (λ z. omega (arith, c.min-k-end.ensures)) c.field_type.ensures c.field_type-in-loop-k.ensures in
    next (omega arith) (omega arith) (omega arith) (omega arith) c.in_ok-bind_within.ensures

pub bind_fields-returns : goal.bind_fields-returns
bind_fields-returns t c = c.loop-k.invariant.leads _ _ (fields-over _ _ _ _ _ _ _ _ (omega (arith, c.min-k-end.ensures)))

pub bind_within-returns-then-depth-eq0 : goal.bind_within-returns-then-depth-eq0
bind_within-returns-then-depth-eq0 t c = within_none _ _ _ _ _ _ c.if-depth-eq0.true

pub bind_within-returns-in-Slot : goal.bind_within-returns-in-Slot
bind_within-returns-in-Slot t c = within-slot _ _ _ _ _ _ c.if-depth-eq0.false (type-number _ c.in-Slot.ensures) c.bind_one.ensures

pub bind_within-returns-then-kind : goal.bind_within-returns-then-kind
bind_within-returns-then-kind t c =
    let differ : kind_of c.args.provided ≡ kind_of c.args.expected → ⊥ = λ e. c.if-kind.true (c.kind.ensures ∙ sym e ∙ sym c.kind-2.ensures) in
    within-other _ _ _ _ _ _ c.if-depth-eq0.false refl (type-not _ c.of-wanted.ensures c.in_default.not-Slot) differ

pub bind_within-returns-in-Option : goal.bind_within-returns-in-Option
bind_within-returns-in-Option t c =
    let same = sym c.kind-2.ensures ∙ sym c.if-kind.false ∙ c.kind.ensures in
    within-wrap _ _ _ _ _ _ c.if-depth-eq0.false (type-wraps _ c.of-wanted.ensures c.in-Option.is) same c.inner.ensures c.inner-in-Option.ensures c.bind_within.ensures

pub bind_within-returns-in-Record : goal.bind_within-returns-in-Record
bind_within-returns-in-Record t c =
    let same = sym c.kind-2.ensures ∙ sym c.if-kind.false ∙ c.kind.ensures in
    let is_record = type-number _ c.in-Record.ensures in
    within_record _ _ _ _ _ _ c.if-depth-eq0.false is_record (same ∙ is_record) c.payload.ensures c.field_count.ensures
    c.payload-in-Record.ensures c.field_count-in-Record.ensures c.bind_fields.ensures

pub bind_within-returns-in_default-wanted : goal.bind_within-returns-in_default-wanted
bind_within-returns-in_default-wanted t c =
    let at = c.of-wanted.ensures in
    let no = c.in_default-wanted in
    within-plain _ _ _ _ _ _ c.if-depth-eq0.false (type-not _ at c.in_default.not-Slot) (type-flat _ at no.not-Option no.not-Array) (type-not _ at no.not-Record)
