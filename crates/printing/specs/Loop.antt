-- The loop over the rows ends: each part leaves less to print, or fewer rows. Assumes nothing.
use Rattle.std.specs.Prelude.{◌≡◌, ℕ, ◌+◌, ◌-◌, ◌%◌, ◌^◌, ◌<◌, ◌≤◌, min, List, ◌++◌, length, take, drop, replicate, Option, None, Some}
use Rattle.std.proofs.Common.{◌∙◌, arith, length-append, length-take}
use Rattle.std.proofs.Math.Path.{ap}
use Rattle.std.proofs.lemmas.List.{length-replicate}
use borrow.Author.Tests.{lt-ltb, le-ltb}
use Rattle.ptype.specs.Add.{write}
use Rattle.display.specs.WriteLaws.{length-write}
use Rattle.rows_part.specs.declared.Row.{Row}
use Rattle.rows_part.specs.declared.Part.{Part}
use Rattle.rows_part.specs.Printing.{Answer, row_of, next_in, rest_at, part_of}
use Rattle.rows_part.specs.PrintingLaws.{part-next, part_bytes}
use Rattle.rows_part.specs.RowsEnd.{left_at, left_behind, next_nearer, by_order}

-- the bytes and rows that are left
abbrev pub left : Answer → Option Row → (skip : ℕ) → ℕ
left a next skip = length (rest_at a next skip) + left_behind a next

-- how many bytes a row has, if there is one
unfoldable pub size_of : Answer → Option Row → ℕ
size_of a None = 0
size_of a (Some row) = length (row_of a row)

module _ (a : Answer) (row : Row) (skip : ℕ) where
  abbrev room : List ℕ
  room = replicate 4096 0

  abbrev part : Part
  part = part_of 4096 a (Some row) skip

  -- the bytes of a part are no longer left
  bytes-less : length (rest_at a (Some row) skip) ≡ part.bytes + length (rest_at a part.row part.skip)
  bytes-less =
      let l : length room ≡ 4096 = length-replicate {A = ℕ} 4096 0 in
      let w : List ℕ = write room 0 (drop skip (row_of a row)) in
      let lw : length w ≡ 4096 = length-write room 0 (drop skip (row_of a row)) ∙ l in
      let e : rest_at a (Some row) skip ≡ take part.bytes w ++ rest_at a part.row part.skip = rw l at (part-next room a (Some row) skip 4096 (omega arith)) in
      let lt : length (take part.bytes w) ≡ min part.bytes (length w) = length-take part.bytes w in
      ap length e ∙ length-append (take part.bytes w) (rest_at a part.row part.skip) ∙ omega (arith, part_bytes 4096 a (Some row) skip)

  -- Each part brings the end nearer.
  pub part_nearer : left a part.row part.skip < left a (Some row) skip
  unfolding part_of left_behind
  part_nearer =
      by_order (min (length (row_of a row) - skip) 4096) 4096
      (λ k.
      let e : part.row ≡ next_in a row = rw (lt-ltb (min (length (row_of a row) - skip) 4096) 4096 k) in
      let n : left_behind a part.row < left_at a row = rw e (next_nearer a row) in
      omega (arith, bytes-less))
      (λ k.
      let e : part.row ≡ Some row = rw (le-ltb (min (length (row_of a row) - skip) 4096) 4096 k) in
      let n : left_behind a part.row ≡ left_at a row = ap (left_behind a) e in
      omega (arith, bytes-less))

  -- the same of a row and a part in variables
  pub turn_nearer : {next : Option Row} {p : Part} → next ≡ Some row → p ≡ part → left a p.row p.skip < left a next skip
  turn_nearer n e = rw (n, e) part_nearer

  -- the bytes counted and those left are as many as before
  pub turn-total : (total : ℕ) {next : Option Row} {p : Part} {total' z : ℕ} → next ≡ Some row → p ≡ part → total' ≡ (total + p.bytes) % 2 ^ 64
      → (total + length (rest_at a next skip)) % 2 ^ 64 ≡ z → (total' + length (rest_at a p.row p.skip)) % 2 ^ 64 ≡ z
  turn-total total {z = z} n e t h =
      let k : total + length (rest_at a (Some row) skip) ≡ total + (part.bytes + length (rest_at a part.row part.skip)) = ap (λ (n : ℕ). total + n) bytes-less in
      let h' : (total + length (rest_at a (Some row) skip)) % 2 ^ 64 ≡ z = rw n at h in
      rw (e, rw e at t) (omega (arith, h', k))

  -- no more is passed over than there is
  pub turn-within : {next : Option Row} {p : Part} → next ≡ Some row → p ≡ part → skip ≤ size_of a next → p.skip ≤ size_of a p.row
  unfolding part_of size_of
  turn-within n e h =
      let h' : skip ≤ length (row_of a row) = rw n at h in
      by_order (min (length (row_of a row) - skip) 4096) 4096
      (λ k.
      let t = lt-ltb (min (length (row_of a row) - skip) 4096) 4096 k in
      rw (e, t) (omega arith))
      (λ k.
      let t = le-ltb (min (length (row_of a row) - skip) 4096) 4096 k in
      rw (e, t) (omega arith))
