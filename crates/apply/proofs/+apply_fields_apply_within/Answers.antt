use Rattle.std.proofs.lemmas.Result.{err_from_is_err_and}
use mathlib.Core.Path.{refl}
use native.Mathlib.Omega.{arith}
use Rattle.ptype.specs.TypeKindLaws.{type-number, type-not, type-flat}
use Rattle.apply.proofs.Returns.{none-given, slot-given, free-given, wrap-stop, wrap-put, record_refused, record_closed, rest-given}
use Rattle.apply.proofs.FieldReturns.{applying_all, applying_stop, applying_next, record_stop, record_setting, record_put}
use Rattle.apply.proofs.+apply_fields_apply_within.Goals as goal

pub apply_fields-loop-i-init : goal.apply_fields-loop-i-init
apply_fields-loop-i-init t c = applying_all _ _ _ _ _ _ _ (omega arith) (omega arith) c.requires.0.0 c.requires.1

pub apply_fields-returns-in_err-apply_within : goal.apply_fields-returns-in_err-apply_within
apply_fields-returns-in_err-apply_within t c =
    let p = err_from_is_err_and c.from_residual.result c.from_residual.ensures.1 in
    rw (p.1, p.2) (applying_stop c.loop-i.invariant (λ z. omega arith) c.first.ensures c.field_type-x.ensures c.in_err-apply_within.ensures)

pub apply_fields-loop-i-preserved : goal.apply_fields-loop-i-preserved
apply_fields-loop-i-preserved t c =
    applying_next c.loop-i.invariant (λ z. omega arith) c.first.ensures c.field_type-x.ensures (omega arith) (omega arith) c.in_ok-apply_within.ensures

pub apply_fields-returns-in_err-new : goal.apply_fields-returns-in_err-new
apply_fields-returns-in_err-new t c =
    let p = err_from_is_err_and c.from_residual-in_err-new.result c.from_residual-in_err-new.ensures.1 in
    rw (p.1, p.2) (record_stop c.loop-i.invariant (omega arith) c.in_err-new.ensures)

pub apply_fields-set_pairs-requires : goal.apply_fields-set_pairs-requires
apply_fields-set_pairs-requires t c =
    let v = c.loop-i.invariant in
    let o = c.in_ok-new.ensures in
    record_setting v (omega arith) o (omega (arith, o.allocates.keeps, v.keeps, c.requires.0.1)) c.requires.1 c.payload-place.ensures

pub apply_fields-returns : goal.apply_fields-returns
apply_fields-returns t c = record_put c.loop-i.invariant (omega arith) c.in_ok-new.ensures c.payload-place.ensures refl refl c.set_pairs.ensures

pub apply_within-returns-then-depth-eq0 : goal.apply_within-returns-then-depth-eq0
apply_within-returns-then-depth-eq0 t c = none-given _ _ _ _ _ _ c.if-depth-eq0.true

pub apply_within-returns-in-Slot : goal.apply_within-returns-in-Slot
apply_within-returns-in-Slot t c = slot-given _ _ _ _ _ _ c.if-depth-eq0.false refl (type-number _ c.in-Slot.ensures) c.slot_type.ensures

pub apply_within-returns-then-not-has_bound_slot_within : goal.apply_within-returns-then-not-has_bound_slot_within
apply_within-returns-then-not-has_bound_slot_within t c =
    let no_slot = type-not _ c.of-kind.ensures c.in_default.not-Slot in
    free-given _ _ _ _ _ _ c.if-depth-eq0.false refl c.first.ensures no_slot c.has_bound_slot_within.ensures c.if-not-has_bound_slot_within.true

pub apply_within-returns-in_err-new-in-Option : goal.apply_within-returns-in_err-new-in-Option
apply_within-returns-in_err-new-in-Option t c =
    let p = err_from_is_err_and c.from_residual.result c.from_residual.ensures.1 in
    let no_slot = type-not _ c.of-kind.ensures c.in_default.not-Slot in
    let has = c.has_bound_slot_within.ensures in
    rw (p.1, p.2) (wrap-stop _ _ _ _ _ _ c.if-depth-eq0.false refl c.first.ensures no_slot has c.if-not-has_bound_slot_within.false
    c.first-in-Option.ensures c.in-Option.is c.of-kind.ensures c.inner-x.ensures c.in_err-new-in-Option.ensures)

pub apply_within-returns-in_ok-new-in-Option : goal.apply_within-returns-in_ok-new-in-Option
apply_within-returns-in_ok-new-in-Option t c =
    let no_slot = type-not _ c.of-kind.ensures c.in_default.not-Slot in
    let has = c.has_bound_slot_within.ensures in
    wrap-put _ _ _ _ _ _ c.if-depth-eq0.false refl c.first.ensures no_slot has c.if-not-has_bound_slot_within.false
    c.first-in-Option.ensures c.in-Option.is c.of-kind.ensures c.inner-x.ensures c.in_ok-new-in-Option.ensures c.add_wrap.ensures

pub apply_within-returns-in_ok-new-in-Record : goal.apply_within-returns-in_ok-new-in-Record
apply_within-returns-in_ok-new-in-Record t c =
    let no_slot = type-not _ c.of-kind.ensures c.in_default.not-Slot in
    let is_record = type-number _ c.in-Record.ensures in
    let has = c.has_bound_slot_within.ensures in
    record_closed _ _ _ _ _ _ c.if-depth-eq0.false refl c.first.ensures no_slot has c.if-not-has_bound_slot_within.false
    c.first-in-Record.ensures is_record c.payload-at.ensures c.field_count-n.ensures c.in_ok-new-in-Record.ensures c.close_record.ensures

pub apply_within-returns-in_err-new-in-Record : goal.apply_within-returns-in_err-new-in-Record
apply_within-returns-in_err-new-in-Record t c =
    let p = err_from_is_err_and c.from_residual-in_err-new-in-Record.result c.from_residual-in_err-new-in-Record.ensures.1 in
    let no_slot = type-not _ c.of-kind.ensures c.in_default.not-Slot in
    let is_record = type-number _ c.in-Record.ensures in
    let has = c.has_bound_slot_within.ensures in
    rw (p.1, p.2) (record_refused _ _ _ _ _ _ c.if-depth-eq0.false refl c.first.ensures no_slot has c.if-not-has_bound_slot_within.false
    c.first-in-Record.ensures is_record c.payload-at.ensures c.field_count-n.ensures c.in_err-new-in-Record.ensures)

pub apply_within-returns-in_default-kind : goal.apply_within-returns-in_default-kind
apply_within-returns-in_default-kind t c =
    let at = c.of-kind.ensures in
    let no = c.in_default-kind in
    let no_slot = type-not _ at c.in_default.not-Slot in
    let has = c.has_bound_slot_within.ensures in
    let rest = rest-given _ _ _ _ _ _ c.if-depth-eq0.false refl c.first.ensures no_slot has c.if-not-has_bound_slot_within.false in
    rest (type-flat _ at no.not-Option no.not-Array) (type-not _ at no.not-Record)
