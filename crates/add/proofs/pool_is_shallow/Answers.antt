use mathlib.Core.Path.{sym, ap, ◌∙◌}
use native.Mathlib.Omega.{arith}
use lib.ListN.{length}
use Rattle.add.specs.ShallowBy.{all_shallow_by}
use Rattle.add.proofs.ShallowByLaws.{turn_end, turn-next, turn-stop, all-fresh}
use Rattle.add.proofs.pool_is_shallow.Goals as goal

pub returns-then-not-word_is_shallow : goal.returns-then-not-word_is_shallow
returns-then-not-word_is_shallow c =
    let e = ap (all_shallow_by c.args.types.now c.args.pool.now) (sym (c.fill.ensures.after (λ y e. omega (arith, e)))) ∙ c.loop-w.invariant.0
    ∙ turn-stop c.args.types.now c.args.pool.now c.loop-w.w-index _ (omega arith) c.word_is_shallow.ensures c.if-not-word_is_shallow.true in
    let z = all-fresh _ _ (length c.args.known.now) e in
    (e, z.0, z.1)

pub loop-w-preserved : goal.loop-w-preserved
loop-w-preserved c = (
  c.loop-w.invariant.0 ∙ turn-next c.args.types.now c.args.pool.now c.loop-w.w-index _ (omega arith) c.word_is_shallow.ensures c.if-not-word_is_shallow.false,
  c.word_is_shallow.auto.known ∙ c.loop-w.invariant.1,
)

pub returns : goal.returns
returns c =
    let e = ap (all_shallow_by c.args.types.now c.args.pool.now) (sym (c.fill.ensures.after (λ y e. omega (arith, e)))) ∙ c.loop-w.invariant.0
    ∙ turn_end c.args.types.now c.args.pool.now c.loop-w.w-index _ (omega arith) in
    let z = all-fresh _ _ (length c.args.known.now) e in
    (e, z.0, z.1)
