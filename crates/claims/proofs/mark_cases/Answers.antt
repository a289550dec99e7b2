use mathlib.Core.Path.{refl, ◌∙◌}
use native.Mathlib.Omega.{arith}
use native.Mathlib.Nat.{sub-zero}
use Rattle.std.proofs.lemmas.Result.{err_from_is_err_and}
use Rattle.claims.proofs.MarkWays.{cases-to_mark, condition-stop, body-stop, cases-placed, case-more, default_end}
use Rattle.claims.proofs.mark_cases.Goals as goal

pub loop-init : goal.loop-init
loop-init c = rw sub-zero (cases-placed (cases-to_mark c.requires.0))

pub returns-in_err-mark : goal.returns-in_err-mark
returns-in_err-mark c =
    let p = err_from_is_err_and c.from_residual.result c.from_residual.ensures.1 in
    rw p.1 (condition-stop c.loop.invariant.1 (omega arith) c.word_at.ensures c.in_err-mark.ensures refl)

pub returns-in_err-mark_words : goal.returns-in_err-mark_words
returns-in_err-mark_words c =
    let p = err_from_is_err_and c.from_residual-in_err-mark_words.result c.from_residual-in_err-mark_words.ensures.1 in
    rw p.1 (body-stop c.loop.invariant.1 (omega arith) c.word_at.ensures c.in_ok-mark.ensures refl c.word_at-n.ensures c.in_err-mark_words.ensures refl)

pub loop-preserved : goal.loop-preserved
loop-preserved c =
    cases-placed (case-more c.loop.invariant.1 (omega arith) c.word_at.ensures c.in_ok-mark.ensures refl c.word_at-n.ensures c.in_ok-mark_words.ensures (omega arith) (omega arith) refl)

pub shape_of-marks : goal.shape_of-marks
shape_of-marks c = c.mark_words-2.ensures.long ∙ c.loop.invariant.1.long

pub returns : goal.returns
returns c = default_end c.loop.invariant.1 (omega arith) c.saturating_sub.ensures c.mark_words-2.ensures
