use mathlib.Core.Path.{refl}
use Prim.Native.Nat.{◌+◌, ◌*◌}
use native.Mathlib.Nat.{mul-le-mul_right}
use native.Mathlib.Omega.{arith}
use Rattle.tok.specs.Text.{text}
use Rattle.ptype.specs.Types.{type_at}
use Rattle.display.specs.WritingLaws.{writing}
use Rattle.display.proofs.EveryLaws.{every-start, every-turn, every-end}
use Rattle.display.proofs.show_every.Goals as goal

pub loop-done-init : goal.loop-done-init
loop-done-init c =
    let e = every-start (type_at c.args.types.now) c.args.words.now c.args.first c.args.step c.args.count in
    grind writing

pub overflow_mul-step : goal.overflow_mul-step
overflow_mul-step c = let m = mul-le-mul_right c.loop-done.done c.requires.0 in omega (arith, m, c.requires)

pub overflow_add-first : goal.overflow_add-first
overflow_add-first c = let m = mul-le-mul_right c.loop-done.done c.requires.0 in omega (arith, m, c.requires)

pub returns-in_err-put_separator : goal.returns-in_err-put_separator
unfolding text
returns-in_err-put_separator c =
    let e = every-turn (type_at c.args.types.now) c.args.words.now
    (c.args.first + c.args.step * c.loop-done.done) c.args.step {count = c.args.count} {done = c.loop-done.done} (omega arith) refl in
    grind writing

pub returns-in_err-show_type : goal.returns-in_err-show_type
unfolding text
returns-in_err-show_type c =
    let e = every-turn (type_at c.args.types.now) c.args.words.now
    (c.args.first + c.args.step * c.loop-done.done) c.args.step {count = c.args.count} {done = c.loop-done.done} (omega arith) c.word_at.ensures in
    grind writing

pub loop-done-preserved : goal.loop-done-preserved
unfolding text
loop-done-preserved c =
    let e = every-turn (type_at c.args.types.now) c.args.words.now
    (c.args.first + c.args.step * c.loop-done.done) c.args.step {count = c.args.count} {done = c.loop-done.done} (omega arith) c.word_at.ensures in
    grind writing

pub returns : goal.returns
returns c =
    let e = every-end (type_at c.args.types.now) c.args.words.now
    (c.args.first + c.args.step * c.loop-done.done) c.args.step {count = c.args.count} {done = c.loop-done.done} (omega arith) in
    grind writing
