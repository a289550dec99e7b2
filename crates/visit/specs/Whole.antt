-- The world of the rules, from all lent buffers and the walk's state. Definitions.
use Rattle.std.specs.Prelude.{ℕ, List, Result as Answered, Ok, Err}
use Rattle.tok.specs.Step.{Result, ok, refused, Refusal}
use Rattle.ptype.specs.Add.{buffer}
use Rattle.rules.specs.World.{World}
use Rattle.state.specs.declared.Refusal.{Refusal as Refused}
use Rattle.state.specs.Refused.{refusal_of}
use Rattle.state.specs.Signatures.{entries_end, own_in}
use Rattle.state.specs.Store.{env_up, held_from}
use Rattle.state.specs.World.{More, Rest, world}
use Rattle.visit.specs.declared.State.{State}

-- the six lent buffers, and those that later requests lend
pub record Lent : Type 0 where
  pub slots : List ℕ
  pub functions : List ℕ
  pub types : List ℕ
  pub diagnostics : List ℕ
  pub messages : List ℕ
  pub scratch : List ℕ
  pub more : More

abbrev pub lent : (slots functions types diagnostics messages scratch : List ℕ) → More → Lent
lent s f t d m e o = record { slots = s; functions = f; types = t; diagnostics = d; messages = m; scratch = e; more = o }

-- how many words of the functions buffer are used
abbrev pub function_words : State → Lent → ℕ
function_words st b = entries_end b.functions 0 0 st.functions

abbrev pub rest_of : (library : List ℕ) → State → Lent → Rest
rest_of library st b = record {
  functions = buffer b.functions (function_words st b);
  env = env_up b.scratch st.names.base st.names.depth;
  packages = held_from library b.scratch st.held st.packages;
  own = own_in b.functions st.functions;
  more = b.more;
}

abbrev pub whole : (library : List ℕ) → State → Lent → World
whole library st b = world (rest_of library st b) b.slots b.types b.diagnostics b.messages st.used

-- What visiting gives with the state then, or a refusal
abbrev pub Visit : Type 0 → Type 0
Visit A = Answered (A × State) Refused

-- and what that comes to
unfoldable pub visited : {A : Type 0} → (library : List ℕ) → Lent → Visit A → Result World Refusal A
visited library b (Ok (a, st)) = ok a (whole library st b)
visited library b (Err e) = refused (refusal_of e)
