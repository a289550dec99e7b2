-- Where the words of the next field are read. A definition.
use Rattle.std.specs.Prelude.{ℕ, ◌+◌, cond, List, length, ltb}

-- behind a field's name and type; past the end of the words all are read as 0, so that any index there will do
unfoldable pub behind_of : (words : List ℕ) → (i : ℕ) → ℕ
behind_of words i = cond (ltb i (length words)) (i + 2) i
