-- What is printed from the first row on is what document 01 says of the input. Assumes nothing.
use Rattle.std.specs.Prelude.{ℕ, ◌≡◌, refl, Bool, true, false, List}
use Rattle.refusals.specs.Inputs.{Buffers}
use Rattle.bench_rows.specs.Bench.{fits, inputs_in, lent, bench_of}
use Rattle.rows.specs.Lines.{input_row}
use Rattle.rows_part.specs.Printing.{rest_at}
use Rattle.rows_part.specs.PrintingLaws.{rows-first, input_first}
use Rattle.rows_begin.specs.declared.Begun.{Begun}
use Rattle.rows_begin.specs.Beginning.{ended_from, Begins, printed_from}

-- With buffers "as long as can be used", it is what the bench prints: `rows_part`'s `part-next` says the same of each part printed.
pub begins_bench : (bytes : List ℕ) {b' : Buffers} {r : Begun} → Begins bytes lent b' r → rest_at (printed_from bytes b' r) r.first 0 ≡ bench_of bytes
unfolding bench_of input_row rest_at
begins_bench bytes {b'} {r} h = go (fits bytes) refl
  where
    go : (t : Bool) → fits bytes ≡ t → rest_at (printed_from bytes b' r) r.first 0 ≡ bench_of bytes
    go true e = rw (h.begun, h.after, e, bench_of) (rows-first (inputs_in bytes) (ended_from bytes lent))
    go false e = rw (h.begun, h.after, e, bench_of) (input_first _)
