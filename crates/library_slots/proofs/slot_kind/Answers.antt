-- `library_slots::slot_kind` meets its contract. Assumes nothing.
use Rattle.std.proofs.Common.{sym, eq-eqb, ne_eqb}
use Rattle.ptype.specs.TypeKindLaws.{type-number, type-not}
use Rattle.library_slots.proofs.slot_kind.Goals as goal

pub returns-in-Slot : goal.returns-in-Slot
returns-in-Slot c = sym (eq-eqb _ 10 (type-number _ c.in-Slot.ensures))

pub returns-in_default : goal.returns-in_default
returns-in_default c = sym (ne_eqb _ 10 (type-not _ c.of.ensures c.in_default.not-Slot))
