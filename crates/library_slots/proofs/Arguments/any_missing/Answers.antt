-- `library_slots::Arguments::any_missing` meets its contract: the indices are gone through, and a word that the arguments reach is not missing.
-- Assumes nothing.
use Rattle.std.proofs.Common.{Bool, ℕ, rules, refl, length, get_or, ◌∙◌, arith}
use Rattle.std.specs.Prelude.{◌&&◌, not, false}
use Rattle.std.proofs.lemmas.Iterator.{YieldsList-from_range}
use Rattle.std.proofs.lemmas.Iterator.Search.{any_from_yields_List}
use Rattle.library.specs.SlotMarks.{types_in}
use Rattle.library.specs.ReturnSlots.{missing}
use Rattle.library_slots.proofs.NameWays.{marked-any, not-missing}
use Rattle.library_slots.proofs.Arguments.any_missing.Goals as goal

pub returns : goal.returns
returns c =
    let given = c.args.self.now in
    let wanting : ℕ → Bool = λ i. missing given.texts.now given.pool.now (types_in given.pairs.now) given.marks.now (get_or given.pool.now i 0) in
    let unreached : ℕ → Bool = λ i. not (get_or given.marks.now i false) && wanting i in
    any_from_yields_List (λ i. get_or c.args.marks.now i false && unreached i) _ _ c.any.result c.any.ensures.ran
    (YieldsList-from_range 0 (length given.pool.now) (length given.pool.now) refl (omega arith)) (λ x b q k. search rules)
    ∙ marked-any c.args.marks.now wanting unreached (length given.pool.now) (λ i l e. not-missing given.texts.now given.pool.now (types_in given.pairs.now) given.marks.now i l)
