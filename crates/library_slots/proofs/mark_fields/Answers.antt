use Rattle.std.proofs.Common.{◌-◌, refl, arith}
use Rattle.library_slots.proofs.MarkWays.{to_mark, to_mark_less, marked-over}
use Rattle.library_slots.proofs.mark_fields.Goals as goal

pub loop-i-init : goal.loop-i-init
loop-i-init c = (c.args.n, to_mark refl refl)

pub loop-i-preserved : goal.loop-i-preserved
loop-i-preserved c =
    let h = c.loop-i.invariant.1 in
    (c.loop-i.invariant.0 - 1, to_mark_less h (omega (arith, h.place, c.loop-i-test.true, c.min-end.ensures)) refl c.set_item.ensures)

pub returns : goal.returns
returns c = marked-over c.loop-i.invariant.1 (omega (arith, c.loop-i-test.false, c.min-end.ensures, c.loop-i.invariant.1.long))

pub returns-2 : goal.returns-2
returns-2 c =
    let h = c.loop-i.invariant.1 in
    let next = to_mark_less h {left' = c.loop-i.invariant.0 - 1} (omega (arith, h.place, c.loop-i-test.true, c.min-end.ensures)) refl c.set_item.ensures in
    marked-over next (omega (arith, c.min-end.ensures, next.long))
