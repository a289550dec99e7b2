-- What is promised of the bench's rows: a type; its proof is a value of it (crate `rows_laws`). Definitions.
use Rattle.std.specs.Prelude.{ℕ, ◌≡◌, true, List}
use Rattle.utf8.specs.Rfc3629.{well_formed}
use Rattle.bench_rows.specs.Bench.{bench_of}

-- "names are read, and messages written, only as UTF-8 well formed by it [RFC 3629]": and so are the rows that show them, of whatever input
unfoldable pub RowsWellFormed : Type 0
RowsWellFormed = (bytes : List ℕ) → well_formed (bench_of bytes) ≡ true
