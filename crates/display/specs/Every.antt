-- What words at even steps mean. A definition.
use Rattle.std.specs.Prelude.{ℕ, zero, suc, ◌+◌, List, [], ◌∷◌, get_or}
use Rattle.ptype.specs.Ty.{Ty}

-- `count` words of a list, the first at an index and each other a step further; `go` says what a word means
unfoldable pub every : (ℕ → Ty) → (words : List ℕ) → (first step count : ℕ) → List Ty
every go words i step zero = []
every go words i step (suc k) = go (get_or words i 0) ∷ every go words (i + step) step k
