-- Pieces with a separator between them (`join` of the Rust). Definitions.
use Rattle.std.specs.Prelude.{ℕ, zero, suc, List, [], ◌∷◌, ◌++◌, map}
use Rattle.tok.specs.Text.{text}
use Rattle.ptype.specs.Ty.{Ty}
use Rattle.ptype.specs.Show.{show}

-- each piece with the separator before it
unfoldable pub each_after : (separator : List ℕ) → List (List ℕ) → List ℕ
each_after sep [] = []
each_after sep (p ∷ ps) = sep ++ p ++ each_after sep ps

-- `pieces.join(separator)`
unfoldable pub joined : (separator : List ℕ) → List (List ℕ) → List ℕ
joined sep [] = []
joined sep (p ∷ ps) = p ++ each_after sep ps

-- err.rs, `sig`: types.map(ToString::to_string).collect::<Vec<_>>().join(", ")
unfoldable pub sig : List Ty → List ℕ
sig ts = joined (text ", ") (map show ts)

-- the separator beside `count` other pieces: none stands where there are none
unfoldable pub separated : (count : ℕ) → (separator : List ℕ) → List ℕ
separated zero sep = []
separated (suc n) sep = sep
