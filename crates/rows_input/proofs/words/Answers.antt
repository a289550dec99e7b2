use lib.ListN.{length, length-set}
use Prim.Native.Nat.{◌-◌}
use native.Mathlib.Omega.{arith}
use Rattle.rows_input.proofs.Parts.{words-none, words-turn, words-done}
use borrow.Author.Rules.{rules}
use Rattle.rows_input.proofs.words.Goals as goal

pub loop-i-init : goal.loop-i-init
loop-i-init c = (words-none c.args.out.now c.args.bytes.now c.args.at, omega arith, search rules)

pub loop-i-preserved : goal.loop-i-preserved
loop-i-preserved c = (words-turn c.args.out.now c.args.bytes.now c.args.at c.loop-i.i c.loop-i.invariant.0 c.word.ensures, omega arith, simp length-set c.loop-i.invariant.2)

pub shape_of-out : goal.shape_of-out
shape_of-out c = c.loop-i.invariant.2

pub returns : goal.returns
returns c = words-done c.args.out.now c.args.bytes.now c.args.at c.loop-i.i c.args.k c.loop-i.invariant.0 c.loop-i.invariant.1 (omega (arith, c.min-i-end.ensures))
