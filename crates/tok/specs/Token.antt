-- Tokens (document 01, "Words"; tok.rs: `Token`). Definitions.
use Rattle.std.specs.Prelude.{ℕ, List}
use Rattle.tok.specs.Text.{bytes_in}

-- "A token's bytes are a part of the script text itself"; "A string token leaves out its quotes": its word does.
unfoldable pub token_bytes : (script : List ℕ) → (word : ℕ) → List ℕ
token_bytes script w = bytes_in script w
