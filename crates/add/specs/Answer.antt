-- What an answer of adding a type means. Definitions.
use Rattle.std.specs.Prelude.{◌≡◌, List, ℕ, length, Result as Answered, Ok, Err, OnErr}
use Rattle.tok.specs.Text.{Texts}
use Rattle.tok.specs.Step.{Result, ok, refused, Step, Refusal, refusal}
use Rattle.ptype.specs.Add.{Buffer, buffer}
use Rattle.add.specs.declared.AddError.{AddError}
use Rattle.add.specs.declared.Arena.{Arena}
use Rattle.add.specs.declared.AddError.TheVariants.{Full, TooDeep}

-- the new type's word, and how many words are used with it
abbrev pub Added : Type 0
Added = Answered (ℕ × ℕ) AddError

-- "types buffer full | 7", "type depth 33 | 8"
abbrev pub number_of : AddError → ℕ
number_of Full = 7
number_of TooDeep = 8

-- an answer, and the words that the buffer then holds, as the result of a step of node n
abbrev pub result_of : (n : ℕ) → Added → (words : List ℕ) → Result Buffer Refusal ℕ
result_of n (Ok (w, u)) words = ok w (buffer words u)
result_of n (Err e) words = refused (refusal (number_of e) n)

-- the words after a step: those that it gives, or, where it is refused, those that were there
abbrev pub words_after : {A : Type 0} → (old : List ℕ) → Result Buffer Refusal A → List ℕ
words_after old (ok a b) = b.words
words_after old (refused e) = old

-- the arena's words, and how many of them are used
abbrev pub buffer_of : Arena → Buffer
buffer_of a = buffer a.words.now a.used

-- what an arena answers, with how many words it then uses
abbrev pub answer_of : Answered ℕ AddError → (used : ℕ) → Added
answer_of (Ok w) u = Ok (w, u)
answer_of (Err e) u = Err e

-- Steps, of any texts and any node, on an arena: their answer r, and the arena after them, to which the same words are lent. Where they are
-- refused, the rules leave open what the words hold ("Reading the promises", 1).
pub record Allocates (steps : Texts → (n : ℕ) → Step Buffer Refusal ℕ) (a : Arena) (r : Answered ℕ AddError) (a' : Arena) : Type 0 where
  pub lent : a'.words.ghost_name ≡ a.words.ghost_name
  pub keeps : length a'.words.now ≡ length a.words.now
  pub result : (t : Texts) (n : ℕ) → steps t n (buffer_of a) ≡ result_of n (answer_of r a'.used) a'.words.now

-- One step: that, every word after it, and how many are used: as the count is lent too, a refused step leaves it as it was.
pub record Adds (step : Texts → (n : ℕ) → Step Buffer Refusal ℕ) (a : Arena) (r : Answered ℕ AddError) (a' : Arena) : Type 0 where
  pub allocates : Allocates step a r a'
  pub words : (t : Texts) (n : ℕ) → a'.words.now ≡ words_after a.words.now (step t n (buffer_of a))
  pub used : OnErr r (a'.used ≡ a.used)
