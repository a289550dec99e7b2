use mathlib.Core.Path.{refl}
use native.Mathlib.Omega.{arith}
use Rattle.tok.specs.Text.{name_bytes}
use Rattle.scope.proofs.EnvWays.{env-begin, env-poisoned, env-bound, env-past, env-none}
use Rattle.scope.proofs.env_get.Goals as goal

pub loop-k-init : goal.loop-k-init
loop-k-init c = (c.name_bytes-wanted.ensures, env-begin _ _ _ _ _)

pub overflow_add-at : goal.overflow_add-at
overflow_add-at c = omega (arith, c.loop-k.invariant.1.within)

pub overflow_mul-at : goal.overflow_mul-at
overflow_mul-at c = omega (arith, c.loop-k.invariant.1.within)

pub returns-then-is_poisoned : goal.returns-then-is_poisoned
returns-then-is_poisoned c =
    rw (← c.loop-k.invariant.0)
    (env-poisoned c.loop-k.invariant.1 c.loop-k-test.true c.word_at-w.ensures c.local_name.ensures refl c.is_name.ensures c.if-is_name.true c.is_poisoned.ensures c.if-is_poisoned.true)

pub overflow_add-at-then-is_name : goal.overflow_add-at-then-is_name
overflow_add-at-then-is_name c = omega (arith, c.loop-k.invariant.1.within)

pub returns-then-is_name : goal.returns-then-is_name
returns-then-is_name c =
    rw (← c.loop-k.invariant.0)
    (env-bound c.loop-k.invariant.1 c.loop-k-test.true c.word_at-w.ensures c.local_name.ensures refl c.is_name.ensures c.if-is_name.true c.is_poisoned.ensures c.if-is_poisoned.false c.word_at.ensures)

pub loop-k-smaller : goal.loop-k-smaller
loop-k-smaller c = omega arith

pub loop-k-preserved : goal.loop-k-preserved
loop-k-preserved c =
    (c.loop-k.invariant.0, env-past c.loop-k.invariant.1 c.loop-k-test.true c.word_at-w.ensures c.local_name.ensures refl c.is_name.ensures c.if-is_name.false)

pub returns : goal.returns
returns c = rw (← c.loop-k.invariant.0) (env-none c.loop-k.invariant.1 c.loop-k-test.false)
