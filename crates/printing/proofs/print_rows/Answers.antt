use Rattle.std.proofs.Common.{refl, arith}
use Rattle.printing.specs.Loop.{turn_nearer, turn-total, turn-within}
use Rattle.printing.proofs.Ways.{total_first, handed-all, handed-cut}
use Rattle.printing.proofs.print_rows.Goals as goal

pub rows-init : goal.rows-init
rows-init g c = (omega arith, total_first _ _, omega arith)

pub print_part-requires : goal.print_part-requires
print_part-requires g c = omega (arith, c.if-skip-ge-MOST.false)

pub rows-smaller : goal.rows-smaller
rows-smaller g c = turn_nearer _ _ _ c.in-Some.is c.in_ok-part.ensures

pub rows-preserved : goal.rows-preserved
rows-preserved g c = (
  turn-within _ _ _ c.in-Some.is c.in_ok-part.ensures c.rows.invariant.0,
  turn-total _ _ _ _ c.in-Some.is c.in_ok-part.ensures refl c.rows.invariant.1,
  omega arith,
)

pub rows-smaller-then-skip-eq0 : goal.rows-smaller-then-skip-eq0
rows-smaller-then-skip-eq0 g c = turn_nearer _ _ _ c.in-Some.is c.in_ok-part.ensures

pub rows-preserved-then-skip-eq0 : goal.rows-preserved-then-skip-eq0
rows-preserved-then-skip-eq0 g c = (
  turn-within _ _ _ c.in-Some.is c.in_ok-part.ensures c.rows.invariant.0,
  turn-total _ _ _ _ c.in-Some.is c.in_ok-part.ensures refl c.rows.invariant.1,
  omega arith,
)

pub returns : goal.returns
returns g c = handed-all _ _ _ _ c.in_default.is c.rows.invariant.2 c.rows.invariant.1

pub returns-then-skip-ge-MOST : goal.returns-then-skip-ge-MOST
returns-then-skip-ge-MOST g c = handed-cut _ _ _ _ _ c.in-Some.is c.if-skip-ge-MOST.true c.rows.invariant.0
