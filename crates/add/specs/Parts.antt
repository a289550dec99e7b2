-- A Record added in parts, for code in which its pairs arise one after the other: `add_record` of ptype's Add is these parts in
-- order (PartsLaws). Definitions.
use Rattle.std.specs.Prelude.{Bool, List, [], ◌∷◌, ℕ, ◌+◌, ◌*◌, leb}
use Rattle.tok.specs.Word.{payload_of, word_of}
use Rattle.tok.specs.Text.{Texts}
use Rattle.tok.specs.Step.{Step, Refusal, refusal, ◌>>=◌, return, look, give, refuse, when}
use Rattle.ptype.specs.Ty.{depth_of}
use Rattle.ptype.specs.Words.{ty_of}
use Rattle.ptype.specs.Add.{Buffer, buffer, write, type_room}

-- "Record of n fields 1 + 2n": room for all of them (7), and the count. The pairs are written after that.
unfoldable pub opened : (n fields : ℕ) → Step Buffer Refusal ℕ
opened n fields = do
  b ← look
  when (leb (b.used + (1 + 2 * fields)) (type_room b))
      (give (word_of 8 b.used) (buffer (write b.words b.used (fields ∷ [])) (b.used + (1 + 2 * fields))))
      (refuse (refusal 7 n))

-- where the pair of field k stands, of the Record that a word refers to
abbrev pub pair_place : (word k : ℕ) → ℕ
pair_place w k = payload_of w + 1 + 2 * k

-- pairs, name and type of each, written into an opened Record from field k on
unfoldable pub paired : (k : ℕ) → (pairs : List ℕ) → (word : ℕ) → Step Buffer Refusal ℕ
paired k pairs w = do
  b ← look
  give w (buffer (write b.words (pair_place w k) pairs) b.used)

-- "type depth 32 (a type with nothing inside is 1)"
abbrev pub shallow : Texts → (types : List ℕ) → (word : ℕ) → Bool
shallow texts types w = leb (depth_of (ty_of texts types w)) 32

-- "type depth 33 | 8": the type of a word that stands in the buffer, measured
unfoldable pub measured : Texts → (n : ℕ) → (word : ℕ) → Step Buffer Refusal ℕ
measured texts n w = do
  b ← look
  when (shallow texts b.words w) (return w) (refuse (refusal 8 n))

-- Steps that give the pairs from field k on; then the Record of all fields is opened and those pairs are written into it. That is
-- what a recursion over the fields does: it adds what is inside on its way down, and writes the pairs on its way back.
unfoldable pub record_from : (n fields k : ℕ) → Step Buffer Refusal (List ℕ) → Step Buffer Refusal ℕ
record_from n fields k steps = do
  pairs ← steps
  w ← opened n fields
  paired k pairs w
