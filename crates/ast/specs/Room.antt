-- Refusal 6: "slots below V + 1, or functions below the sum of 3 + 2 × arguments over all Fn nodes", place 0. Definitions.
use Rattle.std.specs.Prelude.{ℕ, ◌+◌, ◌*◌, ◌||◌, cond, List, [], ◌∷◌, ltb, eqb}
use Rattle.std.proofs.Math.Option.{Option, none, some}
use Rattle.ast.specs.Outline.{Outline}

-- kind 5 is Fn
unfoldable pub entry_words : Outline → ℕ
entry_words o = cond (eqb o.kind 5) (3 + 2 * o.arguments) 0

unfoldable pub function_words : List Outline → ℕ
function_words [] = 0
function_words (o ∷ os) = entry_words o + function_words os

-- the lengths lent, V and the nodes
unfoldable pub room_fault : (slots functions : ℕ) → (v : ℕ) → List Outline → Option ℕ
room_fault slots functions v os =
    cond (ltb slots (v + 1) || ltb functions (function_words os)) (some 0) none
