-- `printing::print_rows` meets its contract: each part leaves less to print, or fewer rows; the bytes counted and those left are as many as at first.
-- Assumes nothing.
use Rattle.std.proofs.Common.{◌≡◌, ◌+◌, ◌%◌, ◌^◌, ◌≤◌, length}
use Rattle.rows_part.specs.Printing.{rest_at}
use Rattle.printing.specs.Loop.{left, size_of}
use Rattle.printing.proofs.print_rows.Given as goal

abbrev pub invariant-rows : goal.invariant-rows
invariant-rows g l =
    (l.skip ≤ size_of l.answer l.next) × ((l.total + length (rest_at l.answer l.next l.skip)) % 2 ^ 64 ≡ length (rest_at l.answer l.begun.first 0) % 2 ^ 64)
    × (l.total % 2 ^ 64 ≡ l.total)

abbrev pub decreases-rows : goal.decreases-rows
decreases-rows g l = left l.answer l.next l.skip
