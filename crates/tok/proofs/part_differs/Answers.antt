-- `tok::part_differs` meets its contract: the part that it finds. Assumes nothing.
use Rattle.std.proofs.Common.{◌-◌, ap, length}
use Rattle.tok.proofs.PartLaws.{part-there}
use Rattle.tok.proofs.part_differs.Goals as goal

pub returns : goal.returns
returns c =
    part-there _ _ c.args.part c.requires.0 (ap (λ x. length c.args.a.now - 4 - x) c.min.ensures) c.same_part.ensures
