use native.Mathlib.Omega.{arith}
use Rattle.functions.specs.Entering.{copy_begin, copy_more}
use Rattle.functions.proofs.Returns.{copied}
use Rattle.functions.proofs.copy_pairs.Goals as goal

pub loop-k-init : goal.loop-k-init
loop-k-init c = (c.requires, copy_begin _ _ c.args.at c.args.from)

pub loop-k-preserved : goal.loop-k-preserved
loop-k-preserved c =
    (c.loop-k.invariant.0, copy_more c.args.functions.now c.args.scratch.now c.args.at c.args.from c.loop-k.k c.loop-k.invariant.1 c.word_at-name.ensures c.word_at-ty.ensures c.set_pair.ensures)

pub returns : goal.returns
returns c = copied c.args.functions.now c.args.scratch.now c.args.at c.args.from (omega arith) (omega arith) c.loop-k.invariant.1
