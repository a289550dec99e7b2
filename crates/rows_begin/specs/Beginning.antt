-- From the printing program's input to the rows that it prints (document 01, "Bench rows"). Definitions.
use Rattle.std.specs.Prelude.{ℕ, min, ◌≡◌, cond, List, Option, Some, Ok, Err}
use Rattle.ast.specs.Image.{slot_count}
use Rattle.refusals.specs.Inputs.{Inputs, Buffers, texts_in}
use Rattle.rules.specs.Check.{Ended, check_of}
use Rattle.bench_rows.specs.Bench.{fits, inputs_in}
use Rattle.ending.specs.Ended.{Checked}
use Rattle.rows_part.specs.declared.Row.{Row}
use Rattle.rows_part.specs.declared.Row.TheVariants.{Slot, Refused, Input}
use Rattle.rows_part.specs.Printing.{Answer, answer_of, first_of}
use Rattle.rows_begin.specs.declared.Begun.{Begun}

-- what is printed, of what the check ended in and the number of slots
abbrev pub begun_in : (slots : ℕ) → Ended → Begun
begun_in v e = record { first = Some (first_of e); last = v; words = e.function_words; types = e.type_words; count = e.diagnostics; bytes = e.message_bytes }

-- a row alone, of no answer; or none
abbrev pub alone : Option Row → Begun
alone row = record { first = row; last = 0; words = 0; types = 0; count = 0; bytes = 0 }

-- a count as a word holds it
abbrev pub narrowed : ℕ → ℕ
narrowed n = min n 4294967295

-- the same of the check's answer in code
unfoldable pub begun_of : (slots : ℕ) → Checked → Begun
begun_of v (Ok c) = record { first = Some (Slot 0); last = v; words = narrowed c.function_words; types = c.type_words; count = narrowed c.diagnostics; bytes = c.message_bytes }
begun_of v (Err r) = record { first = Some (Refused r.number r.place); last = v; words = 0; types = 0; count = 0; bytes = 0 }

-- the check of inputs: buffers b came in and b' went out
pub record Runs (i : Inputs) (b b' : Buffers) (r : Begun) : Type 0 where
  pub begun : r ≡ begun_in (slot_count i.image) (check_of i b)
  pub after : b' ≡ (check_of i b).after

-- what the check of an input's parts ends in
abbrev pub ended_from : (bytes : List ℕ) → Buffers → Ended
ended_from bytes b = check_of (inputs_in bytes) b

-- an input: "lengths that don't fit the input print `input`", and then the buffers are as they were
pub record Begins (bytes : List ℕ) (b b' : Buffers) (r : Begun) : Type 0 where
  pub begun : r ≡ cond (fits bytes) (begun_in (slot_count (inputs_in bytes).image) (ended_from bytes b)) (alone (Some Input))
  pub after : b' ≡ cond (fits bytes) (ended_from bytes b).after b

-- what the rows of an input are printed from
abbrev pub printed_from : (bytes : List ℕ) → Buffers → Begun → Answer
printed_from bytes b r =
    answer_of
    (texts_in (inputs_in bytes))
    b.slots
    b.types
    b.functions
    b.diagnostics
    b.messages
    r.last
    r.words
    r.count
