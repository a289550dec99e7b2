-- RFC 3629, section 3, "UTF-8 definition": the octets that encode a character number. Definitions.
use Rattle.std.specs.Prelude.{ℕ, ◌+◌, ◌/◌, ◌%◌, ◌^◌, ◌≡◌, Bool, true, ◌&&◌, ◌||◌, cond}
use mathlib.Core.List.{List, [], ◌∷◌, flat_map}
use Rattle.utf8.specs.Rfc3629.{range}

-- A scalar value: a character number from 0 to 10FFFF that is no surrogate.
-- "The definition of UTF-8 prohibits encoding character numbers between U+D800 and U+DFFF".
unfoldable pub scalar : ℕ → Bool
scalar n = range 0x0000 0xD7FF n || range 0xE000 0x10_FFFF n

-- The table's rows, "Char. number range | UTF-8 octet sequence": the bits x are the number's, the lowest in the last octet.
--     0000 0000-0000 007F | 0xxxxxxx
abbrev pub row_1 : ℕ → List ℕ
row_1 n = n ∷ []

--     0000 0080-0000 07FF | 110xxxxx 10xxxxxx
abbrev pub row_2 : ℕ → List ℕ
row_2 n = (0b110_00000 + n / 2 ^ 6) ∷ (0b10_000000 + n % 2 ^ 6) ∷ []

--     0000 0800-0000 FFFF | 1110xxxx 10xxxxxx 10xxxxxx
abbrev pub row_3 : ℕ → List ℕ
row_3 n = (0b1110_0000 + n / 2 ^ 12) ∷ (0b10_000000 + n / 2 ^ 6 % 2 ^ 6) ∷ (0b10_000000 + n % 2 ^ 6) ∷ []

--     0001 0000-0010 FFFF | 11110xxx 10xxxxxx 10xxxxxx 10xxxxxx
abbrev pub row_4 : ℕ → List ℕ
row_4 n =
    (0b11110_000 + n / 2 ^ 18) ∷ (0b10_000000 + n / 2 ^ 12 % 2 ^ 6) ∷ (0b10_000000 + n / 2 ^ 6 % 2 ^ 6) ∷ (0b10_000000 + n % 2 ^ 6) ∷ []

-- "Determine the number of octets required from the character number and the first column of the table".
unfoldable pub encode : ℕ → List ℕ
encode n =
    cond (range 0x0000_0000 0x0000_007F n) (row_1 n)
    (cond (range 0x0000_0080 0x0000_07FF n) (row_2 n)
    (cond (range 0x0000_0800 0x0000_FFFF n) (row_3 n)
    (cond (range 0x0001_0000 0x0010_FFFF n) (row_4 n)
    [])))

-- the encodings of a list of numbers, one after another
unfoldable pub encodings : List ℕ → List ℕ
encodings ns = flat_map encode ns

-- each number of a list is a scalar value
unfoldable pub scalars : List ℕ → Bool
scalars [] = true
scalars (n ∷ ns) = scalar n && scalars ns

-- s is the concatenation of the encodings of some list of scalar values
pub record Encoded (s : List ℕ) : Type 0 where
  pub values : List ℕ
  pub scalar-values : scalars values ≡ true
  pub encoded : encodings values ≡ s
