-- Adding Option, Array and Record types to the types buffer: refusals 7 and 8. Definitions.
use Rattle.std.specs.Prelude.{ℕ, ◌+◌, ◌/◌, min, List, [], ◌∷◌, ◌++◌, length, take, drop, leb}
use Rattle.tok.specs.Word.{word_of}
use Rattle.tok.specs.Text.{Texts}
use Rattle.tok.specs.Step.{Step, Refusal, refusal, ◌>>=◌, look, give, refuse, when}
use Rattle.ptype.specs.Ty.{depth_of}
use Rattle.ptype.specs.Words.{ty_of}

-- New words over the front of a list, nothing past its end: what a writer does to the part that is lent to it.
unfoldable pub overwrite : List ℕ → (new : List ℕ) → List ℕ
overwrite [] new = []
overwrite (x ∷ xs) [] = x ∷ xs
overwrite (x ∷ xs) (y ∷ ys) = y ∷ overwrite xs ys

-- new words from place `at` on; all before them and after them stays
unfoldable pub write : List ℕ → (at : ℕ) → (new : List ℕ) → List ℕ
write l at new = take at l ++ overwrite (drop at l) new

-- "`Vec` becomes a lent buffer with a count": the buffer whole, and how much of it is used
pub record Buffer : Type 0 where
  pub words : List ℕ
  pub used : ℕ

abbrev pub buffer : List ℕ → ℕ → Buffer
buffer w u = record { words = w; used = u }

-- more words after those used
unfoldable pub append : Buffer → List ℕ → Buffer
append b new = buffer (write b.words b.used new) (b.used + length new)

-- "At most 8,192 words of the types buffer .. are used", and no more than are lent
abbrev pub type_room : Buffer → ℕ
type_room b = min (length b.words) 8192

-- One step of node n: new words, and a type word of the kind that refers to the first of them.
-- "types buffer full | 7 | node whose rule runs"; "type depth 33 | 8 | the node"; "in one step 7, 8, 9".
unfoldable pub add_type : Texts → (n kind : ℕ) → (new : List ℕ) → Step Buffer Refusal ℕ
add_type texts n kind new = do
  b ← look
  when (leb (b.used + length new) (type_room b))
      (let word : ℕ = word_of kind b.used in
      when (leb (depth_of (ty_of texts (append b new).words word)) 32) (give word (append b new)) (refuse (refusal 8 n)))
      (refuse (refusal 7 n))

-- "Option and Array add one word": the inner type's word. arena.alloc(inner)
unfoldable pub add_wrap : Texts → (n kind inner : ℕ) → Step Buffer Refusal ℕ
add_wrap texts n kind inner = add_type texts n kind (inner ∷ [])

-- "Record of n fields 1 + 2n": the count, then name and type of each, given as one list. arena.alloc_slice(fields)
unfoldable pub add_record : Texts → (n : ℕ) → (pairs : List ℕ) → Step Buffer Refusal ℕ
add_record texts n pairs = add_type texts n 8 (length pairs / 2 ∷ pairs)
