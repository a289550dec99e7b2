-- One rule read several times: where the code's loop comes to, by what is known of each turn. A relation.
use Rattle.std.specs.Prelude.{ℕ, suc, ◌+◌, Result, Ok, Err}
use Rattle.reader.specs.declared.Fault.{Fault}
use Rattle.reader.specs.Reading.{Reader}

-- `one from i to`: what is known of the turn before which i others were.
pub data Repeated (one : Reader → ℕ → Result Reader Fault → Type 0) : (i count : ℕ) → Reader → Result Reader Fault → Type 0 where
  none_left : {i : ℕ} {from : Reader} → Repeated one i 0 from (Ok from)
  one_more : {i count : ℕ} {from mid : Reader} {to : Result Reader Fault} → one from i (Ok mid) → Repeated one (i + 1) count mid to
      → Repeated one i (suc count) from to
  one_stops : {i count : ℕ} {from : Reader} {fault : Fault} → one from i (Err fault) → Repeated one i (suc count) from (Err fault)
