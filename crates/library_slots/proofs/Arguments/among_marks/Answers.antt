-- `library_slots::Arguments::among_marks` meets its contract: the indices are gone through. Assumes nothing.
use Rattle.std.proofs.Common.{Bool, ℕ, rules, refl, length, get_or, ◌∙◌, arith}
use Rattle.std.specs.Prelude.{◌&&◌, false}
use Rattle.std.proofs.lemmas.Iterator.{YieldsList-from_range}
use Rattle.std.proofs.lemmas.Iterator.Search.{any_from_yields_List}
use Rattle.tok.specs.Text.{name_bytes}
use Rattle.library.specs.SlotMarks.{is_slot}
use Rattle.library_slots.proofs.NameWays.{marked-any}
use Rattle.library_slots.proofs.Arguments.among_marks.Goals as goal

pub returns : goal.returns
returns c =
    let given = c.args.self.now in
    let slot : ℕ → Bool = λ i. is_slot given.texts.now (name_bytes given.texts.now c.args.named) (get_or given.pool.now i 0) in
    any_from_yields_List (λ i. get_or given.marks.now i false && slot i) _ _ c.any.result c.any.ensures.ran
    (YieldsList-from_range 0 (length given.pool.now) (length given.pool.now) refl (omega arith)) (λ x b q k. search rules)
    ∙ marked-any given.marks.now slot slot (length given.pool.now) (λ i l e. refl)
