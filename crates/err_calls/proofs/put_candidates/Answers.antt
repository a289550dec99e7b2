use native.Mathlib.Omega.{arith}
use Rattle.tok.specs.Text.{text}
use Rattle.display.specs.WritingLaws.{writing}
use Rattle.err_calls.proofs.CandidateLaws.{candidates-start, candidates-turn, candidates-end}
use Rattle.err_calls.proofs.put_candidates.Goals as goal

pub loop-i-init : goal.loop-i-init
loop-i-init c = let e = candidates-start c.args.types.now.texts.now c.args.types.now.words.now c.args.words.now c.args.starts.now in grind writing

pub returns-in_err-put_separator : goal.returns-in_err-put_separator
unfolding text
returns-in_err-put_separator c =
    let e = candidates-turn c.args.types.now.texts.now c.args.types.now.words.now c.args.words.now c.args.starts.now {i = c.loop-i.i} (omega arith) in grind writing

pub returns-in_err-put_candidate : goal.returns-in_err-put_candidate
unfolding text
returns-in_err-put_candidate c =
    let e = candidates-turn c.args.types.now.texts.now c.args.types.now.words.now c.args.words.now c.args.starts.now {i = c.loop-i.i} (omega arith) in grind writing

pub loop-i-preserved : goal.loop-i-preserved
unfolding text
loop-i-preserved c =
    let e = candidates-turn c.args.types.now.texts.now c.args.types.now.words.now c.args.words.now c.args.starts.now {i = c.loop-i.i} (omega arith) in grind writing

pub returns : goal.returns
returns c = let e = candidates-end c.args.types.now.texts.now c.args.types.now.words.now c.args.words.now c.args.starts.now {i = c.loop-i.i} (omega arith) in grind writing
