-- Room in scratch and in the functions buffer, as the functions of the walk ask for it. Laws of it. Assumes nothing.
use Rattle.std.specs.Prelude.{ℕ, ◌+◌, ◌≤◌, List, length}
use Rattle.std.proofs.Common.{arith}
use Rattle.state.specs.Signatures.{entries_end}
use Rattle.visit.specs.declared.State.{State}
use Rattle.visit.specs.Whole.{Lent}
use Rattle.visit.specs.Reach.{held_reach}
use Rattle.visit.specs.Within.{top, Within}
use Rattle.visit.specs.StoreLaws.{reach-after}

-- `room` words are free between the names in scope and the packages held, which end at word 8,192 of scratch at most
pub record Free (room : ℕ) (st : State) (scratch : List ℕ) : Type 0 where
  pub between : top st + room ≤ st.held
  pub few : st.packages + st.held ≤ 8192
  pub ends : held_reach scratch st.held st.packages ≤ 8192
  pub long : 8192 ≤ length scratch

-- `rows` words of the functions buffer are free after its entries
pub record FreeRows (rows : ℕ) (st : State) (functions : List ℕ) : Type 0 where
  pub after : entries_end functions 0 0 st.functions + rows ≤ length functions

module _ {room : ℕ} {st : State} {scratch : List ℕ} (f : Free room st scratch) where
  pub held_low : st.held ≤ 8192
  held_low = omega (arith, reach-after scratch st.packages st.held, f.ends)

  pub free-top : top st + room ≤ 8192
  free-top = omega (arith, held_low, f.between)

  pub free-less : {r : ℕ} → r ≤ room → Free r st scratch
  free-less h = record { between = omega (arith, f.between); few = f.few; ends = f.ends; long = f.long }

-- what is left after a step that kept within its part
pub free-then : {r₁ r₂ w : ℕ} {st st' : State} {b b' : Lent} → Free (r₁ + r₂) st b.scratch → Within r₁ w st b st' b' → Free r₂ st' b'.scratch
free-then f p = record { between = omega (arith, f.between, p.taken); few = omega (arith, f.few, p.packages); ends = omega (arith, f.ends, p.held); long = omega (arith, f.long, p.scratch) }

pub rows_then : {r w₁ w₂ : ℕ} {st st' : State} {b b' : Lent} → FreeRows (w₁ + w₂) st b.functions → Within r w₁ st b st' b' → FreeRows w₂ st' b'.functions
rows_then f p = record { after = omega (arith, f.after, p.written, p.functions) }
