use Rattle.values.proofs.FieldReturns.{find_here, find_later, find_none}
use Rattle.std.proofs.Common.{◌≡◌, ℕ, ◌+◌, ◌*◌, ◌-◌, arith}
use Rattle.values.proofs.find_field.Goals as goal

pub returns-then-is_name : goal.returns-then-is_name
returns-then-is_name c =
    find_here c.args.types.now.texts.now c.args.types.now.words.now c.args.name _ c.loop-i.invariant (omega arith) c.word_at.ensures
    (rw (← c.name_bytes-wanted.ensures) c.is_name.ensures) c.if-is_name.true c.field_type.ensures

pub loop-i-preserved : goal.loop-i-preserved
loop-i-preserved c =
    let first : ℕ = c.payload-first.result + 1 in
    let at : first + 2 * (c.loop-i.i + 1) ≡ first + 2 * c.loop-i.i + 2 = omega arith in
    let left : c.field_count-count.result - (c.loop-i.i + 1) ≡ c.field_count-count.result - c.loop-i.i - 1 = omega arith in
    rw (at, left) (find_later c.args.types.now.texts.now c.args.types.now.words.now c.args.name _ c.loop-i.invariant (omega arith) c.word_at.ensures
    (rw (← c.name_bytes-wanted.ensures) c.is_name.ensures) c.if-is_name.false)

pub returns : goal.returns
returns c = find_none c.args.types.now.texts.now c.args.types.now.words.now c.args.name _ c.loop-i.invariant (omega arith)
