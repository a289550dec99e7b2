-- The world of the rules, from the lent buffers and what is used of them. Definitions.
use Rattle.std.specs.Prelude.{ℕ, ◌≡◌, List, Result as Answered, Ok, Err}
use Rattle.tok.specs.Step.{Result, ok, refused, Refusal}
use Rattle.ptype.specs.Add.{Buffer, buffer}
use Rattle.library.specs.Package.{Function, Package}
use Rattle.rules.specs.World.{Local, Log, World, Walk}
use Rattle.state.specs.declared.Kept.{Kept}
use Rattle.state.specs.declared.Used.{Used}
use Rattle.state.specs.declared.Refusal.{Refusal as Refused}
use Rattle.state.specs.Refused.{refusal_of}

-- what a step gives with what is used then, or a refusal
abbrev pub Step : Type 0 → Type 0
Step A = Answered (A × Used) Refused

-- the buffers that later requests lend: none yet
pub record More : Type 0 where

abbrev pub no_more : More
no_more = record {}

-- the log of the rules, from these buffers and what is used of them
abbrev pub log_of : More → Kept → Log
log_of o k = record {}

-- and back
abbrev pub more_of : Log → More
more_of l = record {}

-- what a plain step neither reads nor changes
pub record Rest : Type 0 where
  pub functions : Buffer
  pub env : List Local
  pub packages : List Package
  pub own : List Function
  pub more : More

abbrev pub world : Rest → (slots types diagnostics messages : List ℕ) → Used → World
world r s t d m u = record {
  slots = s;
  functions = r.functions;
  types = buffer t u.types;
  diagnostics = buffer d u.told.diagnostics;
  messages = buffer m u.told.bytes;
  env = r.env;
  packages = r.packages;
  own = r.own;
  log = log_of r.more u.kept;
}

-- What a step comes to. After a refusal the rules say nothing of the buffers: the check sets them to zero.
unfoldable pub stepped : {A : Type 0} → Rest → (slots types diagnostics messages : List ℕ) → Step A → Result World Refusal A
stepped r s t d m (Ok (a, u)) = ok a (world r s t d m u)
stepped r s t d m (Err e) = refused (refusal_of e)

-- the step, or visit, with what its answer stands for in the rules
unfoldable pub with_answer : {A B S : Type 0} → (A → B) → Answered (A × S) Refused → Answered (B × S) Refused
with_answer f (Ok (a, u)) = Ok (f a, u)
with_answer f (Err e) = Err e

-- The contract of a plain step: slots, types, diagnostics and messages came in with `u` used of them, s' t' d' m' are they now, r the answer.
pub record Steps {A : Type 0} (rule : Walk A) (s t d m : List ℕ) (u : Used) (s' t' d' m' : List ℕ) (r : Step A) : Type 0 where
  pub step : (rest : Rest) → rule (world rest s t d m u) ≡ stepped rest s' t' d' m' r
