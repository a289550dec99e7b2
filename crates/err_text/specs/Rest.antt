-- "A message is written from the first free byte onwards": "the rest of the message buffer is lent on to each writer as a mutable part" (document 01).
-- Definitions.
use Rattle.std.specs.Prelude.{ℕ, min, ◌≡◌, List, ◌++◌, length, take, Option}
use Rattle.tok.specs.declared.Span.{Span}
use Rattle.err.specs.declared.Counts.{Counts}
use Rattle.err.specs.Message.{Diagnostic}
use Rattle.err.specs.Report.{Reports}

-- The first free byte. Where more bytes are counted than are lent it is the buffer's end, and the rest is empty.
abbrev pub first_free : (messages : List ℕ) → Counts → ℕ
first_free ms c = min c.bytes (length ms)

-- The bytes before it stay whatever the answer, a refusal too, since "the rest of the message buffer is lent on to each writer as a mutable part".
abbrev pub FrontStays : (before : List ℕ) → Counts → (after : List ℕ) → Type 0
FrontStays before c after = take (first_free before c) after ≡ take (first_free before c) before

-- A diagnostic told in the rest: the diagnostics ds and the rest came in with the counts c, ds' and rest' are they now, r the answer.
-- Whatever bytes stand before the rest, up to the first free one: in the whole buffer the diagnostic is told, and they stay.
pub record ReportsIn (d : Diagnostic) (ds rest : List ℕ) (c : Counts) (ds' rest' : List ℕ) (r : Option Counts) : Type 0 where
  pub whole : (before : List ℕ) → length before ≡ first_free (before ++ rest) c → Reports d ds (before ++ rest) c ds' (before ++ rest') r

-- A diagnostic of a code, a place and its two texts.
abbrev pub told : (code : ℕ) → Span → (message primary : List ℕ) → Diagnostic
told code span message primary = record { code = code; span = span; message = message; primary = primary }
