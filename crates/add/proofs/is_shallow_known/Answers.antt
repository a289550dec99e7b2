-- `add::is_shallow_known` meets its contract by that of `ptype::depth_known`. Assumes nothing.
use Rattle.add.proofs.ShallowByLaws.{one-asked, one_sure}
use Rattle.add.proofs.is_shallow_known.Goals as goal

pub returns : goal.returns
returns c =
    let e = one-asked _ _ _ c.depth_known.ensures.0 in
    (e, one_sure _ _ _ e)
