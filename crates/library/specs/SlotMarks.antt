-- Which slots stand in some library types, found without unfolding them: marks on the pool words that they refer to, spread from the
-- highest index down. Definitions; their laws are in SlotReach.
use Rattle.std.specs.Prelude.{ℕ, zero, suc, ◌+◌, Bool, true, false, cond, ◌&&◌, ◌||◌, List, [], ◌∷◌, get_or, set, replicate, eqb}
use Rattle.tok.specs.Word.{kind_of, payload_of}
use Rattle.tok.specs.Text.{Texts, name_bytes, same_bytes}
use Rattle.ptype.specs.Words.{field_count}
use Rattle.ptype.specs.Kinds.{wraps}

-- no marks on n words
unfoldable pub unmarked : ℕ → List Bool
unmarked n = replicate n false

-- marks at index `at` and every second one after it, n in all: the type words of a field list
unfoldable pub mark_fields : List Bool → (at n : ℕ) → List Bool
mark_fields marks at zero = marks
mark_fields marks at (suc n) = mark_fields (set marks at true) (at + 2) n

-- marks on the words that a type word refers to
unfoldable pub mark_inside : (types : List ℕ) → (w : ℕ) → List Bool → List Bool
mark_inside types w marks =
    cond (wraps (kind_of w)) (set marks (payload_of w) true)
    (cond (eqb (kind_of w) 8) (mark_fields marks (payload_of w + 2) (field_count types w)) marks)

-- of each of some type words
unfoldable pub mark_all : (types : List ℕ) → List ℕ → List Bool → List Bool
mark_all types [] marks = marks
mark_all types (w ∷ ws) marks = mark_all types ws (mark_inside types w marks)

-- and on those that the marked words below index i refer to, from the highest down
unfoldable pub spread : (types : List ℕ) → (i : ℕ) → List Bool → List Bool
spread types zero marks = marks
spread types (suc i) marks = spread types i (cond (get_or marks i false) (mark_inside types (get_or types i 0) marks) marks)

-- whether a test holds at a marked index below i
unfoldable pub any_marked : (marks : List Bool) → (test : ℕ → Bool) → (i : ℕ) → Bool
any_marked marks test zero = false
any_marked marks test (suc i) = get_or marks i false && test i || any_marked marks test i

-- whether a word is the slot of a name
unfoldable pub is_slot : Texts → (name : List ℕ) → (w : ℕ) → Bool
is_slot texts name w = eqb (kind_of w) 10 && same_bytes name (name_bytes texts w)

-- whether one of some words is
unfoldable pub any_slot_of : Texts → (name : List ℕ) → List ℕ → Bool
any_slot_of texts name [] = false
any_slot_of texts name (w ∷ ws) = is_slot texts name w || any_slot_of texts name ws

-- the types of some pairs: "name and type for each argument"
unfoldable pub types_in : (pairs : List ℕ) → List ℕ
types_in [] = []
types_in (n ∷ []) = []
types_in (n ∷ t ∷ pairs) = t ∷ types_in pairs
