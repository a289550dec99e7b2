use mathlib.Core.Path.{refl}
use Rattle.ptype.specs.TypeKindLaws.{type-number, type-not, type-wraps, type-flat}
use native.Mathlib.Omega.{arith}
use Rattle.ptype.proofs.SizeReturns.{room_bottom, room-wrap, room_record, room-here, room-all, room-none, room-more}
use Rattle.ptype.proofs.+room_after_room_after_fields.Goals as goal

pub room_after-returns-then-room-eq0 : goal.room_after-returns-then-room-eq0
room_after-returns-then-room-eq0 t c = λ x. omega arith

pub room_after-returns-then-levels-eq0 : goal.room_after-returns-then-levels-eq0
room_after-returns-then-levels-eq0 t c = λ x. room_bottom x _ _ _ c.if-levels-eq0.true

pub room_after-returns-in-Option : goal.room_after-returns-in-Option
room_after-returns-in-Option t c =
    λ x. room-wrap x _ _ _ c.if-levels-eq0.false refl (type-wraps _ c.of.ensures c.in-Option.is) c.inner.ensures (c.room_after.ensures x)

pub room_after-returns-in-Record : goal.room_after-returns-in-Record
room_after-returns-in-Record t c =
    λ x. room_record x _ _ _ c.if-levels-eq0.false refl (type-number _ c.in-Record.ensures) (c.room_after_fields.ensures x)

pub room_after-returns-in_default : goal.room_after-returns-in_default
room_after-returns-in_default t c =
    λ x. room-here x _ _ _ c.if-levels-eq0.false refl (type-flat _ c.of.ensures c.in_default.not-Option c.in_default.not-Array) (type-not _ c.of.ensures c.in_default.not-Record)

pub room_after_fields-loop-k-init : goal.room_after_fields-loop-k-init
room_after_fields-loop-k-init t c = λ x. room-all x _ _ _ _ (omega arith) (omega arith)

pub room_after_fields-returns-then-here-eq0 : goal.room_after_fields-returns-then-here-eq0
room_after_fields-returns-then-here-eq0 t c = λ x. omega (arith, c.loop-k.invariant x)

pub room_after_fields-loop-k-preserved : goal.room_after_fields-loop-k-preserved
room_after_fields-loop-k-preserved t c =
    λ x. room-more x _ _ _ _ (c.loop-k.invariant x) (omega arith) (omega arith) (omega arith) c.field_type.ensures (c.room_after-here.ensures x)

pub room_after_fields-returns : goal.room_after_fields-returns
room_after_fields-returns t c = λ x. room-none x _ _ _ _ (c.loop-k.invariant x) (omega arith)
