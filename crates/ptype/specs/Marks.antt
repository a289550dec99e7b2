-- What was found of a field list, marked at its index in a list of bytes, so that the list is not gone through again at the next place where it
-- stands. A mark of 0 says nothing. Definitions.
use Rattle.std.specs.Prelude.{ℕ, suc, ◌+◌, ◌-◌, ◌≤◌, ◌<◌, min, ◌≡◌, Bool, true, false, List, get_or}
use Rattle.tok.specs.Word.{payload_of}
use Rattle.tok.specs.Text.{Texts}
use Rattle.ptype.specs.Ty.{Fields, deepest}
use Rattle.ptype.specs.Words.{fields_from, unfolded}
use Rattle.ptype.specs.Stands.{found_from, found_within}

-- the fields of the list at index q, f levels deep
abbrev pub fields_at : Texts → List ℕ → (f q : ℕ) → Fields
fields_at t types f q = fields_from (unfolded t types f) t types (q + 1) (payload_of (get_or types q 0))

-- Depths: a mark is the depth of the deepest field, and 1. It holds for any levels, which only cut.
pub record Depths (types known : List ℕ) : Type 0 where
  pub each : (q : ℕ) → (get_or known q 0 ≡ 0 → ⊥) → (t : Texts) (f : ℕ) → deepest (fields_at t types f q) ≡ min (suc f) (get_or known q 0 - 1)

-- What is found nowhere: a mark is a number of levels, and 1, in which it is not found in the list.
pub record Free (leaf : ℕ → Bool) (types free : List ℕ) : Type 0 where
  pub each : (q : ℕ) → (get_or free q 0 ≡ 0 → ⊥)
      → found_from (found_within leaf types (get_or free q 0 - 1)) types (q + 1) (payload_of (get_or types q 0)) ≡ false

-- A mark tells of `levels` levels that what is sought stands nowhere. Below the last level Unknown stands: where that is sought and is not found,
-- nothing was cut, and more levels show the same; of anything else fewer levels show less.
pub record Tells (unknown : Bool) (mark levels : ℕ) : Type 0 where
  pub marked : mark ≡ 0 → ⊥
  pub more : unknown ≡ true → mark ≤ levels + 1
  pub fewer : unknown ≡ false → levels < mark
