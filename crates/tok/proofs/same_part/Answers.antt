use Rattle.std.proofs.Common.{◌≡◌, ◌+◌, ◌∷◌, [], ◌++◌, length, length-append, arith}
use Rattle.std.proofs.lemmas.Slice.Zip.{zip_turn, zip_end}
use Rattle.tok.proofs.SameLaws.{same_more, same_over}
use Rattle.tok.proofs.same_part.Goals as goal

pub loop-x-preserved : goal.loop-x-preserved
loop-x-preserved c =
    let i = length c.loop-x.yielded in
    let t = zip_turn c.args.a.now c.args.b.now c.loop-x.yielded _ _ c.next.new.self _ (cc) (cc) c.loop-x.yielded_by _ c.in-Some.is c.next.ensures.steps in
    let n : length (c.loop-x.yielded ++ (c.in-Some.x, c.in-Some.y) ∷ []) ≡ i + 1 = length-append c.loop-x.yielded _ in
    let m = same_more c.args.a.now c.args.b.now i c.loop-x.differ c.requires c.loop-x.invariant t.0 in
    rw (n, t.2 0, t.3 0) m

pub returns : goal.returns
returns c =
    let e = zip_end c.args.a.now c.args.b.now c.loop-x.yielded _ _ c.next.new.self _ (cc) (cc) c.loop-x.yielded_by c.in-None.is c.next.ensures.steps in
    same_over _ _ (length c.loop-x.yielded) c.loop-x.differ c.requires c.loop-x.invariant (omega arith)
