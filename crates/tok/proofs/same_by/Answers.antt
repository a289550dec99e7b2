use Rattle.std.proofs.Common.{◌+◌, ◌-◌, length, arith}
use Rattle.tok.proofs.SameLaws.{part-differs, parts_more, parts-over}
use Rattle.tok.proofs.same_by.Goals as goal

pub returns-then-not-same_part : goal.returns-then-not-same_part
returns-then-not-same_part g c =
    let i = length c.args.a.now - g.row.N in
    part-differs _ _ i (i + g.row.N - i) c.same_part.ensures c.if-not-same_part.true

pub returns-then-not-same_part-2 : goal.returns-then-not-same_part-2
returns-then-not-same_part-2 g c =
    let i = c.loop-i.i in
    part-differs _ _ i (i + g.row.N - i) c.same_part-in-loop-i.ensures c.if-not-same_part-2.true

pub loop-i-preserved : goal.loop-i-preserved
loop-i-preserved g c =
    let i = c.loop-i.i in
    parts_more _ _ i (i + g.row.N - i) c.loop-i.invariant (omega arith) c.same_part-in-loop-i.ensures c.if-not-same_part-2.false

pub returns-else-not-same_part : goal.returns-else-not-same_part
returns-else-not-same_part g c =
    let last = length c.args.a.now - g.row.N in
    parts-over _ _ c.loop-i.i c.loop-i.invariant c.requires.0 last (last + g.row.N - last) c.loop-i-test.false (omega arith) c.same_part.ensures c.if-not-same_part.false

pub returns-else-not-same_part-2 : goal.returns-else-not-same_part-2
returns-else-not-same_part-2 g c =
    let i = c.loop-i.i in
    let last = length c.args.a.now - g.row.N in
    let passed = parts_more _ _ i (i + g.row.N - i) c.loop-i.invariant {n = g.row.N} (omega arith) c.same_part-in-loop-i.ensures c.if-not-same_part-2.false in
    parts-over _ _ (i + g.row.N) passed c.requires.0 last (last + g.row.N - last) (omega arith) (omega arith) c.same_part.ensures c.if-not-same_part.false
