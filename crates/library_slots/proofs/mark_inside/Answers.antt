-- `library_slots::mark_inside` meets its contract: kind by kind. Assumes nothing.
use mathlib.Core.Path.{refl, ◌∙◌}
use Rattle.std.proofs.Common.{ne_eqb}
use Rattle.tok.specs.Word.{kind_of}
use Rattle.ptype.specs.TypeKindLaws.{type-number, type-not, type-wraps, type-flat}
use Rattle.library.specs.SlotMarks.{mark_inside}
use Rattle.library_slots.proofs.mark_inside.Goals as goal

pub returns-in-Option : goal.returns-in-Option
unfolding mark_inside
returns-in-Option c = rw (type-wraps _ c.of.ensures c.in-Option.is, ← c.payload-q.ensures) c.set_item.ensures

pub returns-in-Record : goal.returns-in-Record
unfolding mark_inside
returns-in-Record c =
    rw (type-number (kind_of c.args.w) c.in-Record.ensures) (c.mark_fields.ensures ∙ rw (c.payload-q.ensures, c.field_count.ensures) refl)

pub returns-in_default : goal.returns-in_default
unfolding mark_inside
returns-in_default c =
    let none = c.in_default in
    rw (type-flat _ c.of.ensures none.not-Option none.not-Array, ne_eqb _ 8 (type-not (kind_of c.args.w) c.of.ensures none.not-Record)) refl
