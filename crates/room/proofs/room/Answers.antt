use mathlib.Core.Path.{ap, ◌∙◌}
use mathlib.Core.Option.{some}
use Rattle.std.proofs.lemmas.Result.{err_from_is_err_and}
use Rattle.reader.specs.declared.Fault.{Fault}
use Rattle.room.proofs.Left.{too_few, enough}
use Rattle.room.proofs.Ways.{to-fit, no_room, fit-more, fit-end, slots-short, functions-short, fits}
use Rattle.room.proofs.room.Goals as goal

pub returns-then-slots-slot_count : goal.returns-then-slots-slot_count
returns-then-slots-slot_count c = slots-short c.args.words.now _ _ c.slot_count.ensures c.if-slots-slot_count.true

pub loop-init : goal.loop-init
loop-init c = to-fit _ _ _ _ c.root_count.ensures

pub returns-in_err-left : goal.returns-in_err-left
returns-in_err-left c =
    let p = err_from_is_err_and c.from_residual.result c.from_residual.ensures.1 in
    let t = too_few c.checked_sub.result c.in_err-left.field-0.0 c.checked_sub.ensures c.ok_or.ensures.value c.in_err-left.was in
    rw (p.1, p.2) (ap (λ (f : Fault). some f.0) t.1 ∙ functions-short c.args.words.now _ _ c.slot_count.ensures c.node_count-n.ensures c.if-slots-slot_count.false
    (no_room c.loop.invariant c.loop-test.true c.entry_words.ensures t.0))

pub loop-preserved : goal.loop-preserved
loop-preserved c =
    let t = enough c.checked_sub.result c.in_ok-left.left c.checked_sub.ensures c.ok_or.ensures.value c.in_ok-left.was in
    rw t.1 (fit-more c.loop.invariant c.loop-test.true c.entry_words.ensures t.0 c.after-at.ensures)

pub returns : goal.returns
returns c = fits c.args.words.now _ _ c.slot_count.ensures c.node_count-n.ensures c.if-slots-slot_count.false (fit-end c.loop.invariant c.loop-test.false)
