-- `depth_of` meets its contract: each return is a law of `DepthReturns`, over what the calls gave. Assumes nothing.
use native.Mathlib.Omega.{arith}
use Prim.Native.Nat.{◌-◌}
use Rattle.ptype.specs.TypeKindLaws.{type-number, type-not, type-wraps, type-flat}
use Rattle.ptype.proofs.DepthReturns.{depth-none, depth-wrap, depth_record, depth-flat, depth-fits, deepest-fits}
use Rattle.ptype.proofs.+depth_of.Goals as goal
use mathlib.Core.Path.{refl}

pub returns-then-levels-eq0 : goal.returns-then-levels-eq0
returns-then-levels-eq0 t c = λ x. depth-none x _ _ c.if-levels-eq0.true

pub overflow_add-result : goal.overflow_add-result
overflow_add-result t c = record { fits = omega (arith, depth-fits c.args.types.now (c.args.levels - 1) c.inner.result c.depth_of.ensures) }

pub overflow_add-result-in-Record : goal.overflow_add-result-in-Record
overflow_add-result-in-Record t c = record { fits = omega (arith, deepest-fits c.args.types.now (c.args.levels - 1) c.args.w c.record_depth.ensures) }

pub returns-in-Option : goal.returns-in-Option
returns-in-Option t c = λ x. depth-wrap x _ _ c.if-levels-eq0.false refl (type-wraps _ c.of.ensures c.in-Option.is) c.inner.ensures (c.depth_of.ensures x)

pub returns-in-Record : goal.returns-in-Record
returns-in-Record t c = λ x. depth_record x _ _ c.if-levels-eq0.false refl (type-number _ c.in-Record.ensures) (c.record_depth.ensures x)

pub returns-in_default : goal.returns-in_default
returns-in_default t c =
    let flat = type-flat _ c.of.ensures c.in_default.not-Option c.in_default.not-Array in
    let no_record = type-not _ c.of.ensures c.in_default.not-Record in
    λ x. depth-flat x _ _ c.if-levels-eq0.false refl flat no_record
