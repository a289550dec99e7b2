-- `library_slots::has_slot` meets its contract: kind by kind. Assumes nothing.
use mathlib.Core.Path.{refl, sym, ◌∙◌}
use mathlib.Core.Logic.{inl, inr}
use Rattle.std.proofs.Common.{ne_eqb}
use Rattle.tok.specs.Word.{kind_of}
use Rattle.ptype.specs.TypeKindLaws.{type-number, type-not, type-flat}
use Rattle.library.specs.SlotSums.{slot_by}
use Rattle.library_slots.proofs.has_slot.Goals as goal

pub returns-in-Slot : goal.returns-in-Slot
unfolding slot_by
returns-in-Slot c = rw (type-number (kind_of c.args.w) c.in-Slot.ensures) refl

pub returns-in-Option : goal.returns-in-Option
unfolding slot_by
returns-in-Option c = elim c.in-Option.is [
  | inl p ↦ rw (type-number (kind_of c.args.w) (sym p ∙ c.of.ensures), c.item_at.ensures, c.item_at-in-Option.ensures, c.payload-q.ensures) refl
  | inr p ↦ rw (type-number (kind_of c.args.w) (sym p ∙ c.of.ensures), c.item_at.ensures, c.item_at-in-Option.ensures, c.payload-q.ensures) refl
]

pub returns-in-Record : goal.returns-in-Record
unfolding slot_by
returns-in-Record c =
    rw (type-number (kind_of c.args.w) c.in-Record.ensures, c.item_at-in-Record.ensures, c.item_at-in-Record-2.ensures, c.field_count-n.ensures, c.payload-q.ensures) refl

pub returns-in_default : goal.returns-in_default
unfolding slot_by
returns-in_default c =
    let none = c.in_default in
    let slot = ne_eqb (kind_of c.args.w) 10 (type-not _ c.of.ensures none.not-Slot) in
    let record-kind = ne_eqb (kind_of c.args.w) 8 (type-not _ c.of.ensures none.not-Record) in
    rw (slot, type-flat _ c.of.ensures none.not-Option none.not-Array, record-kind) refl
