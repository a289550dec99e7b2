-- What was handed to the system to be printed: how many bytes of rows. What it does with them no contract can say. Definitions.
use Rattle.std.specs.Prelude.{◌≡◌, ℕ, ◌%◌, ◌^◌, ◌≤◌, List, Option, None, Some, length}
use Rattle.refusals.specs.Inputs.{Buffers}
use Rattle.bench_rows.specs.Bench.{lent, bench_of}
use Rattle.rows_part.specs.declared.Row.{Row}
use Rattle.rows_part.specs.Printing.{Answer, row_of, rest_at}
use Rattle.rows_begin.specs.declared.Begun.{Begun}
use Rattle.rows_begin.specs.Beginning.{Begins, printed_from}

-- a row of more bytes than any machine prints
pub record LongRow (a : Answer) : Type 0 where
  pub row : Row
  pub long : 2 ^ 62 ≤ length (row_of a row)

-- all rows from one on, if there is one, counted as far as 64 bits do; or as far as a row that is too long
pub record Handed (a : Answer) (first : Option Row) (r : Option ℕ) : Type 0 where
  pub all : (bytes : ℕ) → r ≡ Some bytes → bytes ≡ length (rest_at a first 0) % 2 ^ 64
  pub cut : r ≡ None → LongRow a

-- the rows of an input
pub record Benched (input : List ℕ) (r : Option ℕ) : Type 0 where
  pub after : Buffers
  pub begun : Begun
  pub begins : Begins input lent after begun
  pub all : (bytes : ℕ) → r ≡ Some bytes → bytes ≡ length (bench_of input) % 2 ^ 64
  pub cut : r ≡ None → LongRow (printed_from input after begun)
