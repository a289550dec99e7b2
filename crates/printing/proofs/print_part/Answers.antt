-- `printing::print_part` meets its contract, by `write_part`'s. Assumes nothing.
use Rattle.std.proofs.Common.{arith}
use Rattle.printing.proofs.Ways.{part_room, whole_part}
use Rattle.printing.proofs.print_part.Goals as goal

pub slice_bounds-write_all-end : goal.slice_bounds-write_all-end
slice_bounds-write_all-end g c = omega (arith, part_room _ _ _ (whole_part _ _ _ c.requires c.write_part-part.ensures.answer), c.write_part-part.auto)

pub returns : goal.returns
returns g c = whole_part _ _ _ c.requires c.write_part-part.ensures.answer
