-- The way out of `bench`. Assumes nothing.
use Prim.Native.Nat.{ℕ, ◌%◌, ◌^◌}
use mathlib.Core.Path.{◌≡◌, ap, ◌∙◌}
use mathlib.Core.List.{List}
use lib.ListN.{length}
use Rattle.std.specs.Prelude.{Option}
use Rattle.tok.specs.Text.{texts_of}
use Rattle.refusals.specs.Inputs.{Buffers}
use Rattle.bench_rows.specs.Bench.{inputs_in, lent}
use Rattle.rows_part.specs.Printing.{answer_of}
use Rattle.rows_begin.specs.declared.Begun.{Begun}
use Rattle.rows_begin.specs.Beginning.{Begins}
use Rattle.rows_begin.specs.BeginningLaws.{begins_bench}
use Rattle.printing.specs.Handed.{Handed, Benched}

-- from the input on
pub benched : (input : List ℕ) {after : Buffers} {begun : Begun} {r : Option ℕ} {script library : List ℕ} → Begins input lent after begun
    → script ≡ (inputs_in input).script → library ≡ (inputs_in input).library_text
    → Handed (answer_of (texts_of script library) after.slots after.types after.functions after.diagnostics after.messages begun.last begun.words begun.count) begun.first r
    → Benched input r
benched input {after} {begun} b es el h =
    let k = rw (es, el) at h in
    record { after = after; begun = begun; begins = b; all = λ n q. k.all n q ∙ ap (λ (l : List ℕ). length l % 2 ^ 64) (begins_bench input b); cut = k.cut }
