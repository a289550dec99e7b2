-- The type expressions of an image by their numbers, and the fields of a Record as a list. Definitions.
use Rattle.std.specs.Prelude.{ℕ, zero, suc, ◌+◌, List, [], ◌∷◌, get_or}
use Rattle.ast.specs.TypeExpr.{TypeExpr, TypeFields, type_of, no_type, type_field}

-- a type expression of an image
pub record Numbered : Type 0 where
  pub words : List ℕ
  pub t : ℕ

abbrev pub numbered : List ℕ → ℕ → Numbered
numbered words t = record { words = words; t = t }

-- its tree
abbrev pub tree : Numbered → TypeExpr
tree x = type_of x.words x.t

-- name and type of each field: k pairs from word `at` on
unfoldable pub pairs_from : (words : List ℕ) → (at k : ℕ) → List (ℕ × Numbered)
pairs_from words at zero = []
pairs_from words at (suc k) = (get_or words at 0, numbered words (get_or words (at + 1) 0)) ∷ pairs_from words (at + 2) k

-- their trees
unfoldable pub trees : List (ℕ × Numbered) → TypeFields
trees [] = no_type
trees (p ∷ ps) = type_field p.0 (tree p.1) (trees ps)
