-- One diagnostic written (document 01, "An answer", refusal 9): its record and its bytes, and the room that they need. Definitions.
use Rattle.std.specs.Prelude.{ℕ, ◌+◌, ◌*◌, ◌-◌, ◌/◌, ◌%◌, ◌^◌, min, ◌≡◌, Bool, ◌&&◌, cond, leb, ltb}
use Rattle.std.specs.Prelude.{List, [], ◌∷◌, ◌++◌, length, Option, Some, None, Ok, Err, ⊤}
use Rattle.std.specs.Prelude.{Result as Answered}
use Rattle.tok.specs.Word.{word_of}
use Rattle.tok.specs.Step.{Result, ok, refused, Step, Refusal, refusal, ◌>>=◌, look, give, refuse, when}
use Rattle.tok.specs.declared.Span.{Span}
use Rattle.ptype.specs.Add.{Buffer, buffer, write, append}
use Rattle.display.specs.declared.Full.{Full}
use Rattle.err.specs.declared.Counts.{Counts}
use Rattle.err.specs.Message.{Diagnostic}

-- The two buffers that a diagnostic goes to. Of the first, `used` counts diagnostics, of six words each.
pub record Output : Type 0 where
  pub diagnostics : Buffer
  pub messages : Buffer

-- "Words are 32 bits": a number as a word. A span lies within the script text, so that nothing of it is lost.
abbrev pub as_word : ℕ → ℕ
as_word n = n % 2 ^ 32

-- "diagnostics of six words: kind 13 with the code, span start, span length, message start, message length, length of the primary message"
unfoldable pub six_words : Diagnostic → (messageStart : ℕ) → List ℕ
six_words d at = word_of 13 d.code ∷ as_word d.span.start ∷ as_word d.span.len ∷ at ∷ length d.message ∷ length d.primary ∷ []

-- a message and its primary message, "which follows it"
abbrev pub bytes_of : Diagnostic → List ℕ
bytes_of d = d.message ++ d.primary

-- "At most .. 256 diagnostics and 65,536 message bytes are used", and no more than are lent
abbrev pub most_diagnostics : (words : List ℕ) → ℕ
most_diagnostics words = min (length words / 6) 256

abbrev pub most_bytes : (bytes : List ℕ) → ℕ
most_bytes bytes = min (length bytes) 65536

abbrev pub has_room : Output → Diagnostic → Bool
has_room o d =
    ltb o.diagnostics.used (most_diagnostics o.diagnostics.words)
    && leb (o.messages.used + length (bytes_of d)) (most_bytes o.messages.words)

-- one more diagnostic, six words after those used
abbrev pub one_more : Buffer → List ℕ → Buffer
one_more b six = buffer (write b.words (6 * b.used) six) (b.used + 1)

-- the two buffers after it: "A message is written from the first free byte onwards."
abbrev pub added : Output → Diagnostic → Output
added o d = record { diagnostics = one_more o.diagnostics (six_words d o.messages.used); messages = append o.messages (bytes_of d) }

-- Typechecker::report, of node n: one step. "diagnostics or messages full | 9 | the node"
unfoldable pub tell : (n : ℕ) → Diagnostic → Step Output Refusal (Unit {0})
tell n d = do
  o ← look
  when (has_room o d) (give tt (added o d)) (refuse (refusal 9 n))

-- ---- what the functions answer
-- the buffers as they are lent, and the counts of what is used
abbrev pub output : (diagnostics messages : List ℕ) → Counts → Output
output ds ms c = record { diagnostics = buffer ds c.diagnostics; messages = buffer ms c.bytes }

-- The paper's number and values for each case, of node n: told, with the buffers and the counts after it; or refusal 9.
unfoldable pub ended : (n : ℕ) → (diagnostics messages : List ℕ) → Option Counts → Result Output Refusal (Unit {0})
ended n ds ms (Some c) = ok tt (output ds ms c)
ended n ds ms None = refused (refusal 9 n)

-- The contract of every writer of a diagnostic: ds and ms with their counts c came in, ds' and ms' are the buffers now, r the answer.
-- After 9 it says nothing of the buffers: "all outputs and scratch zero to their ends", which the check does at its end, whatever they held.
pub record Reports (d : Diagnostic) (ds ms : List ℕ) (c : Counts) (ds' ms' : List ℕ) (r : Option Counts) : Type 0 where
  pub step : (n : ℕ) → tell n d (output ds ms c) ≡ ended n ds' ms' r

-- ---- the record alone
-- The texts of a diagnostic were written from the first free byte on, the message up to the place m and the primary message up to p.
-- They are in order and within the limit, and a record is free:
abbrev pub fits : (diagnostics : List ℕ) → Counts → (m p : ℕ) → Bool
fits ds c m p = ltb c.diagnostics (most_diagnostics ds) && (leb c.bytes m && (leb m p && leb p 65536))

-- the record: the lengths are those between the places
abbrev pub placed_record : Counts → (code : ℕ) → Span → (m p : ℕ) → List ℕ
placed_record c code span m p = word_of 13 code ∷ as_word span.start ∷ as_word span.len ∷ c.bytes ∷ (m - c.bytes) ∷ (p - m) ∷ []

-- the diagnostics after it, and the answer; where a text had no room, none is written
unfoldable pub placed : List ℕ → Counts → (code : ℕ) → Span → (texts : Answered ⊤ Full) → (m p : ℕ) → List ℕ
placed ds c code span (Ok x) m p = cond (fits ds c m p) (write ds (6 * c.diagnostics) (placed_record c code span m p)) ds
placed ds c code span (Err x) m p = ds

unfoldable pub placed_answer : List ℕ → Counts → (texts : Answered ⊤ Full) → (m p : ℕ) → Option Counts
placed_answer ds c (Ok x) m p = cond (fits ds c m p) (Some (record { diagnostics = c.diagnostics + 1; bytes = p })) None
placed_answer ds c (Err x) m p = None
