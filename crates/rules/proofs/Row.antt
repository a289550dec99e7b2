-- A row: a script without library, and the rows that the bench prints. The expected rows are the Rust's.
use Prim.Native.Nat.{ℕ}
use mathlib.Core.List.{List, [], ◌∷◌}
use lib.ListN.{replicate}
use Rattle.refusals.specs.Inputs.{Inputs, Buffers}
use Rattle.rules.specs.Run.{rows_run}

pub record Row : Type 0 where
  pub script : List ℕ
  pub image : List ℕ
  pub expected : List ℕ

-- "library 0 0": no package, no text
abbrev pub inputs_of : Row → Inputs
inputs_of r = record { script = r.script; image = r.image; library_text = []; library = 0 ∷ 0 ∷ [] }

-- "It lends each buffer as long as can be used."
abbrev pub lent : Buffers
lent = record {
  slots = replicate 4097 0;
  functions = replicate 8192 0;
  types = replicate 8192 0;
  diagnostics = replicate 1536 0;
  messages = replicate 65536 0;
  scratch = replicate 16384 0;
}

unfoldable pub computed : Row → List ℕ
computed r = rows_run (inputs_of r) lent

unfoldable pub expected_of : Row → List ℕ
expected_of r = r.expected
