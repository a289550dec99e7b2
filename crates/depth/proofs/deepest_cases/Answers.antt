use native.Mathlib.Omega.{arith}
use native.Mathlib.Nat.{sub-zero}
use Rattle.depth.proofs.PartWays.{cases-to-measure, cases-placed, case-more, default_end}
use Rattle.depth.proofs.deepest_cases.Goals as goal

pub loop-init : goal.loop-init
loop-init c = rw sub-zero (cases-placed (cases-to-measure c.requires.0))

pub loop-preserved : goal.loop-preserved
loop-preserved c =
    let d = c.max-d.ensures in
    let body = c.deepest_words.ensures in
    cases-placed (case-more c.loop.invariant.1 (omega arith) (omega arith) c.word_at.ensures c.item_at.ensures d c.word_at-n.ensures (omega arith) body c.max-d-in-loop.ensures)

pub returns : goal.returns
returns c = default_end c.loop.invariant.1 (omega arith) c.saturating_sub-n.ensures c.deepest_words-2.ensures c.max.ensures
