-- Document 01, "Bench rows": "words little-endian". Definitions.
use Rattle.std.specs.Prelude.{ℕ, ◌+◌, ◌*◌, ◌<◌, ◌≡◌, List, get_or}

-- the 32-bit word at byte `at`, with zeros past the end
unfoldable pub little_endian : List ℕ → (at : ℕ) → ℕ
little_endian bytes at = get_or bytes at 0 + 256 * (get_or bytes (at + 1) 0 + 256 * (get_or bytes (at + 2) 0 + 256 * get_or bytes (at + 3) 0))

-- a byte, 0 past the end
pub record ByteAt (bytes : List ℕ) (i r : ℕ) : Type 0 where
  pub value : r ≡ get_or bytes i 0
  pub small : r < 256
