-- What the check answers, as document 01's number, place and counts ("An answer", "Answers that end the check"), and what its parts hand to
-- each other. Definitions.
use Rattle.std.specs.Prelude.{ℕ, ◌≤◌, ◌≡◌, cond, List, eqb, length, Result as Answered, Ok, Err}
use Rattle.tok.specs.Step.{Result, refused, refusal, Refusal, next}
use Rattle.refusals.specs.Inputs.{Inputs, Buffers}
use Rattle.refuse.specs.declared.Cause.{Cause}
use Rattle.refuse.specs.declared.Cause.TheVariants.{Scratch, Library, Image, Claims, Depth, Room}
use Rattle.rules.specs.declared.Answer.{Answer}
use Rattle.rules.specs.World.{World}
use Rattle.rules.specs.Steps.{Done, skip}
use Rattle.rules.specs.Walk.{walk_of}
use Rattle.rules.specs.Check.{Ended, refused_with}
use Rattle.state.specs.declared.Refusal.{Refusal as InWalk}
use Rattle.state.specs.Refused.{refusal_of}
use Rattle.state.specs.Signatures.{entries_end}
use Rattle.visit.specs.declared.State.{State}
use Rattle.visit.specs.Whole.{Lent, Visit, visited}
use Rattle.ending.specs.declared.AnswerCounts.{AnswerCounts}
use Rattle.ending.specs.declared.Refused.{Refused}

-- how much an answer uses, or a refusal
abbrev pub Checked : Type 0
Checked = Answered AnswerCounts Refused

-- The paper's number, place and counts for each of them, with the buffers afterwards.
abbrev pub ended_of : Checked → Buffers → Ended
ended_of (Ok c) b = record {
  number = 0;
  place = 0;
  function_words = c.function_words;
  type_words = c.type_words;
  diagnostics = c.diagnostics;
  message_bytes = c.message_bytes;
  after = b;
}
ended_of (Err r) b = refused_with (refusal r.number r.place) b

-- Which of them an end is answered by: counts where the number is 0, else a refusal. So no refusal of number 0 is ever answered.
abbrev pub checked_of : Ended → Checked
checked_of e =
    cond (eqb e.number 0)
    (Ok (record { function_words = e.function_words; type_words = e.type_words; diagnostics = e.diagnostics; message_bytes = e.message_bytes }))
    (Err (record { number = e.number; place = e.place }))

-- r is the answer where the rules end in e, with the buffers afterwards: it means that, and no other case does
pub record EndsAs (e : Ended) (after : Buffers) (r : Checked) : Type 0 where
  pub means : e ≡ ended_of r after
  pub only : r ≡ checked_of e

-- what is found before the walk
unfoldable pub before_of : Cause → Refused
before_of Scratch = record { number = 1; place = 0 }
before_of (Library word) = record { number = 2; place = word }
before_of (Image word) = record { number = 3; place = word }
before_of (Claims node) = record { number = 4; place = node }
before_of (Depth node) = record { number = 5; place = node }
before_of Room = record { number = 6; place = 0 }

-- what is found in the walk
abbrev pub within_of : InWalk → Refused
within_of e = record { number = (refusal_of e).number; place = (refusal_of e).place }

-- what is used where the walk has ended
abbrev pub counts_of : (functions : List ℕ) → State → AnswerCounts
counts_of functions st = record {
  function_words = entries_end functions 0 0 st.functions;
  type_words = st.used.types;
  diagnostics = st.used.told.diagnostics;
  message_bytes = st.used.told.bytes;
}

-- what the roots answered with the state then, or a refusal of any number
abbrev pub RootsAnswered : Type 0
RootsAnswered = Answered (Answer × State) Refused

-- what their visits gave as that
abbrev pub answered_of : Visit Answer → RootsAnswered
answered_of (Ok r) = Ok r
answered_of (Err e) = Err (within_of e)

-- how the walk ends where its roots were visited: what the last of them answered does not matter
abbrev pub over_of : (library : List ℕ) → Lent → RootsAnswered → Result World Refusal Done
over_of library b (Ok r) = next (visited library b (Ok r)) (λ _. skip)
over_of library b (Err r) = refused (refusal r.number r.place)

-- the entries of the functions buffer lie in it; a refusal has a number
unfoldable pub EndsWell : (functions : List ℕ) → RootsAnswered → Type 0
EndsWell functions (Ok (a, st)) = entries_end functions 0 0 st.functions ≤ length functions
EndsWell functions (Err r) = r.number ≡ 0 → ⊥

-- the walk of accepted inputs: b came in, b' are the buffers now, r is what the roots answered
pub record WalkEnds (i : Inputs) (b : Buffers) (b' : Lent) (r : RootsAnswered) : Type 0 where
  pub step : walk_of i b ≡ over_of i.library b' r
  pub well : EndsWell b'.functions r
