-- The check as a whole: every answer, and every buffer afterwards, for all inputs (document 01, "An answer", "Answers that end the check"). Definitions.
use Rattle.std.specs.Prelude.{ℕ, List, length, replicate}
use Rattle.std.proofs.Math.Option.{Option, none, some}
use Rattle.tok.specs.Step.{Result, ok, refused, Refusal}
use Rattle.refusals.specs.Inputs.{Inputs, Buffers}
use Rattle.refusals.specs.Refusals.{refusal_of}
use Rattle.rules.specs.World.{World}
use Rattle.rules.specs.Steps.{Done}
use Rattle.rules.specs.Walk.{walk_of}

-- "Returned: 0, a zero place, and how many function words, type words, diagnostics and message bytes are used", or a refusal's number and
-- place, "counts all 0"; and the buffers afterwards
pub record Ended : Type 0 where
  pub number : ℕ
  pub place : ℕ
  pub function_words : ℕ
  pub type_words : ℕ
  pub diagnostics : ℕ
  pub message_bytes : ℕ
  pub after : Buffers

abbrev pub refused_with : Refusal → Buffers → Ended
refused_with r b = record { number = r.number; place = r.place; function_words = 0; type_words = 0; diagnostics = 0; message_bytes = 0; after = b }

-- "zero to their ends"
abbrev pub zeros : List ℕ → List ℕ
zeros l = replicate (length l) 0

-- "only inputs [left]; all outputs and scratch zero to their ends"
unfoldable pub zeroed : Buffers → Buffers
zeroed b = record {
  slots = zeros b.slots;
  functions = zeros b.functions;
  types = zeros b.types;
  diagnostics = zeros b.diagnostics;
  messages = zeros b.messages;
  scratch = zeros b.scratch;
}

-- "What lies past the used part stays": the walk's buffers as they are. "Scratch is all zero."
unfoldable pub end_of : Buffers → Result World Refusal Done → Ended
end_of b (ok a s) = record {
  number = 0;
  place = 0;
  function_words = s.functions.used;
  type_words = s.types.used;
  diagnostics = s.diagnostics.used;
  message_bytes = s.messages.used;
  after = record {
    slots = s.slots;
    functions = s.functions.words;
    types = s.types.words;
    diagnostics = s.diagnostics.words;
    messages = s.messages.words;
    scratch = zeros b.scratch;
  };
}
end_of b (refused r) = refused_with r (zeroed b)

-- "Numbers 1 to 6 are tried in that order before the walk", and leave every buffer as it was.
unfoldable pub unless_refused : Option Refusal → Inputs → Buffers → Ended
unless_refused (some r) i b = refused_with r b
unless_refused none i b = end_of b (walk_of i b)

unfoldable pub check_of : Inputs → Buffers → Ended
check_of i b = unless_refused (refusal_of i b) i b
