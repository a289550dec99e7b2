-- The library's pool at the front of the types buffer, and every library type measured (document 01, "Answers that end the
-- check"). Definitions.
use Rattle.std.specs.Prelude.{◌≡◌, Bool, true, ◌&&◌, cond, List, [], ◌∷◌, ℕ, length, leb}
use Rattle.tok.specs.Word.{kind_of}
use Rattle.tok.specs.Text.{Texts}
use Rattle.tok.specs.Step.{ok, refused, Step, Refusal, refusal, ◌>>=◌, return, look, give, refuse, when}
use Rattle.ptype.specs.Add.{Buffer, buffer, write, type_room}
use Rattle.add.specs.Answer.{words_after}
use Rattle.add.specs.Parts.{shallow}

-- "Then the pool is copied (7)": "N for the pool". "The types buffer begins with the library pool".
unfoldable pub copy_pool : (n : ℕ) → (pool : List ℕ) → Step Buffer Refusal (Unit {0})
copy_pool n pool = do
  b ← look
  when (leb (length pool) (type_room b)) (give tt (buffer (write b.words 0 pool) (length pool))) (refuse (refusal 7 n))

-- what copying the pool answers, of any node n and however much was used: whether it fits; and every word of the buffer after it
pub record Copies (pool old : List ℕ) (r : Bool) (new : List ℕ) : Type 0 where
  pub result : (n used : ℕ) → copy_pool n pool (buffer old used) ≡ cond r (ok tt (buffer new (length pool))) (refused (refusal 7 n))
  pub words : (n used : ℕ) → new ≡ words_after old (copy_pool n pool (buffer old used))

-- a type word: kinds 1 to 11; a field count has kind 0, a name 12
abbrev pub is_type : (word : ℕ) → Bool
is_type w = leb 1 (kind_of w) && leb (kind_of w) 11

-- every type word of the pool, those of field lists too
unfoldable pub pool_types : List ℕ → List ℕ
pool_types [] = []
pool_types (w ∷ ws) = cond (is_type w) (w ∷ pool_types ws) (pool_types ws)

-- every word of a list is of a type at most 32 deep
unfoldable pub all_shallow : Texts → (types : List ℕ) → (words : List ℕ) → Bool
all_shallow texts types [] = true
all_shallow texts types (w ∷ ws) = shallow texts types w && all_shallow texts types ws

-- "and every library type measured (8)": "N for the library"
unfoldable pub measure : Texts → (n : ℕ) → (words : List ℕ) → Step Buffer Refusal (Unit {0})
measure texts n words = do
  b ← look
  when (all_shallow texts b.words words) (return tt) (refuse (refusal 8 n))
