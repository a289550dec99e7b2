-- The ways out of the loop. Assumes nothing.
use Rattle.std.specs.Prelude.{Option, None, Some}
use Rattle.std.proofs.Common.{◌≡◌, ℕ, ◌+◌, ◌%◌, ◌^◌, ◌<◌, ◌≤◌, length, sym, ap, ◌∙◌, zero-add, arith}
use Rattle.std.proofs.lemmas.Option.{none-some, same_Some}
use Rattle.rows_part.specs.declared.Row.{Row}
use Rattle.rows_part.specs.declared.Part.{Part}
use Rattle.rows_part.specs.Printing.{Answer, rest_at, part_of, room_at}
use Rattle.rows_part.specs.PrintingLaws.{part_bytes, room_whole}
use Rattle.printing.specs.Loop.{size_of}
use Rattle.printing.specs.Handed.{Handed}

-- a part has no more bytes than the buffer
pub part_room : (a : Answer) (row : Row) (skip : ℕ) {p : Part} → p ≡ part_of 4096 a (Some row) skip → p.bytes ≤ 4096
part_room a row skip q = rw q (part_bytes 4096 a (Some row) skip)

-- a part uses the whole buffer
pub whole_part : (a : Answer) (row : Row) (skip : ℕ) {p : Part} → skip < 2 ^ 63 → p ≡ part_of (room_at skip 4096) a (Some row) skip → p ≡ part_of 4096 a (Some row) skip
whole_part a row skip h q = q ∙ ap (λ (n : ℕ). part_of n a (Some row) skip) (room_whole skip 4096 (omega arith))

-- ---- what was handed over
-- at first nothing
pub total_first : (a : Answer) (first : Option Row) → (0 + length (rest_at a first 0)) % 2 ^ 64 ≡ length (rest_at a first 0) % 2 ^ 64
total_first a first = rw (zero-add (length (rest_at a first 0)))

-- where no row is left
pub handed-all : (a : Answer) (next first : Option Row) (skip : ℕ) {total : ℕ} → next ≡ None → total % 2 ^ 64 ≡ total
    → (total + length (rest_at a next skip)) % 2 ^ 64 ≡ length (rest_at a first 0) % 2 ^ 64 → Handed a first (Some total)
unfolding rest_at
handed-all a next first skip {total} e l t =
    let t' : (total + 0) % 2 ^ 64 ≡ length (rest_at a first 0) % 2 ^ 64 = rw e at t in
    record { all = λ n q. let m = same_Some _ _ q in omega (arith, t', l, m); cut = λ q. absurd (none-some _ (sym q)) }

-- in a row that is too long
pub handed-cut : (a : Answer) (next : Option Row) (row : Row) (first : Option Row) (skip : ℕ) → next ≡ Some row → 2 ^ 62 ≤ skip → skip ≤ size_of a next → Handed a first None
unfolding size_of
handed-cut a next row first skip e h l =
    let l' = rw e at l in
    record { all = λ n q. absurd (none-some _ q); cut = λ _. record { row = row; long = omega (arith, h, l') } }
