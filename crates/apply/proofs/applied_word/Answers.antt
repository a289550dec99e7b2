-- `apply::applied_word` meets its contract: by the kind of the word. Assumes nothing.
use mathlib.Core.Path.{refl, ◌∙◌}
use native.Mathlib.Omega.{arith}
use Rattle.ptype.specs.TypeKindLaws.{type-number, type-not, type-wraps, type-flat}
use Rattle.slots.specs.Bindings.{bound_slots}
use Rattle.apply.proofs.Returns.{wrap-number}
use Rattle.apply.proofs.SizeReturns.{record_least, none-word, slot-word, same_word, wrap-word, record_word}
use Rattle.apply.proofs.applied_word.Goals as goal

pub returns-then-depth-eq0 : goal.returns-then-depth-eq0
returns-then-depth-eq0 c = none-word _ _ _ _ _ _ _ c.if-depth-eq0.true

pub returns-in-Slot : goal.returns-in-Slot
returns-in-Slot c = slot-word _ _ _ _ _ _ _ c.if-depth-eq0.false refl (type-number _ c.in-Slot.ensures) c.slot_type.ensures

pub returns-then-size-eq0 : goal.returns-then-size-eq0
returns-then-size-eq0 c = same_word _ _ _ _ _ _ _ c.if-depth-eq0.false refl (type-not _ c.of-kind.ensures c.in_default.not-Slot) c.if-size-eq0.true

pub returns-in-Option : goal.returns-in-Option
returns-in-Option c =
    let no_slot = type-not _ c.of-kind.ensures c.in_default.not-Slot in
    let word = rw (wrap-number _ c.of-kind.ensures c.in-Option.is) at c.word.ensures in
    wrap-word _ _ _ _ _ _ _ c.if-depth-eq0.false refl no_slot c.if-size-eq0.false (type-wraps _ c.of-kind.ensures c.in-Option.is) word

pub returns-in_default-kind : goal.returns-in_default-kind
returns-in_default-kind c =
    let no_slot = type-not _ c.of-kind.ensures c.in_default.not-Slot in
    let flat = type-flat _ c.of-kind.ensures c.in_default-kind.not-Option c.in_default-kind.not-Array in
    record_word _ _ _ _ _ _ _ c.if-depth-eq0.false refl no_slot c.if-size-eq0.false flat c.field_count.ensures c.word-in_default-kind.ensures

pub overflow_sub-end-in_default-kind : goal.overflow_sub-end-in_default-kind
overflow_sub-end-in_default-kind c =
    let bound = bound_slots c.args.old.now.texts.now c.args.bindings.now in
    let flat = type-flat _ c.of-kind.ensures c.in_default-kind.not-Option c.in_default-kind.not-Array in
    let least = record_least c.args.old.now.texts.now bound c.args.old.now.words.now c.args.w c.args.depth c.if-depth-eq0.false refl (λ z. c.if-size-eq0.false (c.requires.0 ∙ z)) flat in
    omega (arith, c.requires.0, c.requires.1.0, c.field_count.ensures, least)
