use mathlib.Core.Path.{refl, sym, ap, ◌∙◌}
use Rattle.ptype.specs.Gauge.{gauged}
use native.Mathlib.Omega.{arith}
use Rattle.ptype.proofs.GaugeReturns.{gauge-none, gauge-wrap, gauge_record, gauge-flat, list_hit, list-noted, list-cut, fields-first, fields-next}
use Rattle.ptype.proofs.GaugeLaws.{gauge-counts, list_counts}
use borrow.Author.Rules.{rules}
use Rattle.ptype.specs.TypeKindLaws.{type-number, type-not, type-wraps, type-flat}
use Prim.Native.Nat.{◌-◌}
use Rattle.ptype.proofs.+deepest_of_depth_within.Goals as goal

pub deepest_of-returns-then-mark-gt0 : goal.deepest_of-returns-then-mark-gt0
deepest_of-returns-then-mark-gt0 t c =
    list_hit _ _ _ _ _ c.payload-at.ensures c.mark_at-mark.ensures c.if-mark-gt0.true c.min.ensures

pub deepest_of-loop-k-init : goal.deepest_of-loop-k-init
deepest_of-loop-k-init t c = (fields-first _ _ _ _ (omega arith) (omega arith), refl)

pub deepest_of-loop-k-preserved : goal.deepest_of-loop-k-preserved
deepest_of-loop-k-preserved t c = (
  c.loop-k.invariant.0 ∙ fields-next _ _ _ _ _ (omega arith) (omega arith) (omega arith) c.field_type.ensures c.depth_within-deep.ensures c.max-most.ensures,
  c.depth_within-deep.auto.known ∙ c.loop-k.invariant.1,
)

pub deepest_of-returns-then-most-levels : goal.deepest_of-returns-then-most-levels
deepest_of-returns-then-most-levels t c =
    list-noted _ _ _ _ _ c.payload-at.ensures c.mark_at-mark.ensures (omega arith) _ _ _ _ c.loop-k.invariant.0 (omega arith) c.if-most-levels.true
    ∙ ap (gauged _) (sym c.set_item.ensures)

pub deepest_of-returns-else-most-levels : goal.deepest_of-returns-else-most-levels
deepest_of-returns-else-most-levels t c =
    list-cut _ _ _ _ _ c.payload-at.ensures c.mark_at-mark.ensures (omega arith) _ _ _ _ c.loop-k.invariant.0 (omega arith) c.if-most-levels.false

pub depth_within-returns-then-levels-eq0 : goal.depth_within-returns-then-levels-eq0
depth_within-returns-then-levels-eq0 t c = gauge-none _ _ _ c.if-levels-eq0.true

pub depth_within-depth_within-requires : goal.depth_within-depth_within-requires
depth_within-depth_within-requires t c = (search rules, omega arith)

pub depth_within-overflow_add-result : goal.depth_within-overflow_add-result
depth_within-overflow_add-result t c =
    record { fits = omega (arith, gauge-counts c.args.types.now (c.args.levels - 1) c.inner.result c.args.known.now c.depth_within.ensures) }

pub depth_within-returns-in-Option : goal.depth_within-returns-in-Option
depth_within-returns-in-Option t c =
    gauge-wrap _ _ _ c.if-levels-eq0.false refl (type-wraps _ c.of.ensures c.in-Option.is) c.inner.ensures c.depth_within.ensures

pub depth_within-deepest_of-requires : goal.depth_within-deepest_of-requires
depth_within-deepest_of-requires t c = (search rules, omega arith)

pub depth_within-overflow_add-result-in-Record : goal.depth_within-overflow_add-result-in-Record
depth_within-overflow_add-result-in-Record t c =
    record { fits = omega (arith, list_counts c.args.types.now (c.args.levels - 1) c.args.w c.args.known.now c.deepest_of.ensures) }

pub depth_within-returns-in-Record : goal.depth_within-returns-in-Record
depth_within-returns-in-Record t c =
    let e = type-number _ c.in-Record.ensures in
    gauge_record _ _ _ c.if-levels-eq0.false refl (rw e refl) e c.deepest_of.ensures

pub depth_within-returns-in_default : goal.depth_within-returns-in_default
depth_within-returns-in_default t c =
    gauge-flat _ _ _ c.if-levels-eq0.false refl (type-flat _ c.of.ensures c.in_default.not-Option c.in_default.not-Array) (type-not _ c.of.ensures c.in_default.not-Record)
