-- `library_slots::return_stands` meets its contract: the marks of the arguments and of the return type, and then their names, in order or one by
-- one. Assumes nothing.
use mathlib.Core.Path.{refl, sym, ◌∙◌}
use mathlib.Core.Bool.{true≢false}
use Rattle.std.proofs.Common.{eq-eqb, eqb-true}
use Rattle.library_slots.proofs.NamedWays.{unmarked-are, asked-named, asked-slot, asked-other}
use Rattle.library_slots.proofs.return_stands.Goals as goal

pub returns-then-n-gt0 : goal.returns-then-n-gt0
returns-then-n-gt0 c =
    asked-named _ _ _ _ _ _ _ _ _ _ _ _ _ _ _ unmarked-are c.mark_types.ensures c.spread.ensures unmarked-are c.mark_inside.ensures c.spread-2.ensures
    c.if-n-gt0.true (c.names_stand.ensures _)

pub returns-then-slot_kind : goal.returns-then-slot_kind
returns-then-slot_kind c =
    asked-slot _ _ _ _ _ _ _ _ _ _ _ _ _ _ _ unmarked-are c.mark_types.ensures c.spread.ensures unmarked-are c.mark_inside.ensures c.spread-2.ensures
    c.if-n-gt0.false refl (eqb-true _ _ (sym c.slot_kind.ensures ∙ c.if-slot_kind.true)) c.among.ensures

pub returns-else-slot_kind : goal.returns-else-slot_kind
returns-else-slot_kind c =
    asked-other _ _ _ _ _ _ _ _ _ _ _ _ _ _ _ unmarked-are c.mark_types.ensures c.spread.ensures unmarked-are c.mark_inside.ensures c.spread-2.ensures
    c.if-n-gt0.false refl (λ z. true≢false (sym (eq-eqb _ _ z) ∙ sym c.slot_kind.ensures ∙ c.if-slot_kind.false)) c.any_missing.ensures refl
