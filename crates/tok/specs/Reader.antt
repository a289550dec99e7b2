-- Reading words forward (document 01, "Answers that end the check"). Definitions.
-- "The offending word is the first at which, reading forward, the fault is certain": each word is held to the rule of its
-- own field, given the words before it; and a count or length offends where the words owed cannot lie within 8,192.
use Rattle.std.specs.Prelude.{ℕ, zero, suc, ◌+◌, Bool, true, false, ◌&&◌, cond, List, [], ◌∷◌, leb, ltb}
use Rattle.std.proofs.Math.Option.{Option, none, some}
use Rattle.tok.specs.Step.{Result, ok, refused, Step, ◌>>=◌, return}

-- The reader stands before word number `at`; `rest` are the words from there on. `least` is the fewest words that the
-- whole can have, by the counts and lengths read so far: `at` plus the words still owed.
pub record Cursor : Type 0 where
  pub rest : List ℕ
  pub at : ℕ
  pub least : ℕ

-- reading is refused with the place of the first offending word
abbrev pub Read : Type 0 → Type 0
Read A = Step Cursor ℕ A

-- "image and library 8,192 words each"
abbrev pub most_words : ℕ
most_words = 8192

-- One word. It offends if its field's rule does not hold of it, or if with what it owes more the whole passes 8,192 words.
-- Where there is no word the place is the length: "first offending word, or its length". "A buffer over 8,192 words
-- offends at word 8,192."
unfoldable pub take_word : (rule : ℕ → Bool) (owes : ℕ → ℕ) (at least : ℕ) → List ℕ → Result Cursor ℕ ℕ
take_word rule owes at least [] = refused at
take_word rule owes at least (w ∷ rest) =
    cond (ltb at most_words && (rule w && leb (least + owes w) most_words))
    (ok w (record { rest = rest; at = at + 1; least = least + owes w }))
    (refused at)

-- a word that owes more words after it: a count or a length
abbrev pub owing : (rule : ℕ → Bool) (owes : ℕ → ℕ) → Read ℕ
owing rule owes = λ c. take_word rule owes c.at c.least c.rest

-- a word that owes none
abbrev pub word : (rule : ℕ → Bool) → Read ℕ
word rule = owing rule (λ _. 0)

abbrev pub below : ℕ → Read ℕ
below n = word (λ w. ltb w n)

-- the same read n times, one after the other
unfoldable pub many : {A : Type 0} → ℕ → Read A → Read (List A)
many zero m = return []
many (suc n) m = do
  a ← m
  others ← many n m
  return (a ∷ others)

-- "nothing after": words that are left offend, at the first
unfoldable pub ends_at : (at : ℕ) → Cursor → List ℕ → Result Cursor ℕ (Unit {0})
ends_at at c [] = ok tt c
ends_at at c (w ∷ rest) = refused at

abbrev pub ends : Read (Unit {0})
ends = λ c. ends_at c.at c c.rest

-- the reader before the first word; `least` words are owed from the start
abbrev pub start : (least : ℕ) → List ℕ → Cursor
start least words = record { rest = words; at = 0; least = least }

-- the place of the first offending word, or none
unfoldable pub fault_of : {A : Type 0} → Result Cursor ℕ A → Option ℕ
fault_of (ok a c) = none
fault_of (refused p) = some p

-- "each text 65,536 bytes"; "a text over its limit comes first, with place 0"
abbrev pub most_bytes : ℕ
most_bytes = 65536

unfoldable pub unless_long : {A : Type 0} → (long : Bool) → Result Cursor ℕ A → Result Cursor ℕ A
unless_long true r = refused 0
unless_long false r = r
