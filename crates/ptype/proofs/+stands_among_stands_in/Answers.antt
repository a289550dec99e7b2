use mathlib.Core.Path.{◌∙◌}
use native.Mathlib.Omega.{arith}
use Rattle.ptype.specs.TypeKindLaws.{type-number, type-not, type-wraps, type-flat}
use Rattle.ptype.proofs.MarkLaws.{free-hit, free_set}
use Rattle.ptype.proofs.StandsReturns.{found-below, found-wrap, found_record, found_leaf, found_none, found_first, found-rest}
use Rattle.ptype.proofs.+stands_among_stands_in.Goals as goal

pub stands_among-returns-then-is_free : goal.stands_among-returns-then-is_free
stands_among-returns-then-is_free g t c =
    (free-hit _ _ c.args.w _ c.requires c.payload-at.ensures c.mark_at.ensures (rw c.is.ensures at (c.is_free.ensures c.if-is_free.true)), c.requires)

pub stands_among-returns-then-stands_in : goal.stands_among-returns-then-stands_in
stands_among-returns-then-stands_in g t c =
    (found_first _ _ _ c.loop-i.invariant.0 (omega arith) c.field_type.ensures c.stands_in.ensures.0 c.if-stands_in.true, c.stands_in.ensures.1)

pub stands_among-loop-i-preserved : goal.stands_among-loop-i-preserved
stands_among-loop-i-preserved g t c = (
  found-rest _ _ _ c.loop-i.invariant.0 (omega arith) c.field_type.ensures c.stands_in.ensures.0 (omega arith) (omega arith) c.if-stands_in.false,
  c.stands_in.ensures.1,
  c.stands_in.auto.free ∙ c.loop-i.invariant.2,
)

pub stands_among-returns-then-depth-lt255 : goal.stands_among-returns-then-depth-lt255
stands_among-returns-then-depth-lt255 g t c =
    let e = found_none _ _ _ c.loop-i.invariant.0 (omega arith) in
    (e, rw c.set_item.ensures (free_set _ _ c.args.w _ c.loop-i.invariant.1 c.payload-at.ensures e))

pub stands_among-returns-else-depth-lt255 : goal.stands_among-returns-else-depth-lt255
stands_among-returns-else-depth-lt255 g t c = (found_none _ _ _ c.loop-i.invariant.0 (omega arith), c.loop-i.invariant.1)

pub stands_in-returns-then-depth-eq0 : goal.stands_in-returns-then-depth-eq0
stands_in-returns-then-depth-eq0 g t c = (c.is.ensures ∙ found-below _ _ c.args.w c.if-depth-eq0.true, c.requires)

pub stands_in-returns-in-Option : goal.stands_in-returns-in-Option
stands_in-returns-in-Option g t c =
    (found-wrap _ _ c.args.w c.if-depth-eq0.false (type-wraps _ c.of.ensures c.in-Option.is) c.inner.ensures c.stands_in.ensures.0, c.stands_in.ensures.1)

pub stands_in-returns-in-Record : goal.stands_in-returns-in-Record
stands_in-returns-in-Record g t c =
    (found_record _ _ c.args.w c.if-depth-eq0.false (type-number _ c.in-Record.ensures) c.stands_among.ensures.0, c.stands_among.ensures.1)

pub stands_in-returns-in_default : goal.stands_in-returns-in_default
stands_in-returns-in_default g t c =
    let flat = type-flat _ c.of.ensures c.in_default.not-Option c.in_default.not-Array in
    let no_record = type-not _ c.of.ensures c.in_default.not-Record in
    (c.is-in_default.ensures ∙ found_leaf _ _ c.args.w c.if-depth-eq0.false flat no_record, c.requires)
