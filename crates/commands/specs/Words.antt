-- Commands: four little-endian words. Definitions.
use Rattle.std.specs.Prelude.{◌≡◌, ℕ, List, length}
use Rattle.tok.specs.LittleEndian.{little_endian}

-- a command's four words
pub record CommandIn (bytes : List ℕ) (op a b c : ℕ) : Type 0 where
  pub first : op ≡ little_endian bytes 0
  pub second : a ≡ little_endian bytes 4
  pub third : b ≡ little_endian bytes 8
  pub fourth : c ≡ little_endian bytes 12

-- a command of some sixteen bytes: which they are a read leaves open
pub record SomeCommand (op a b c : ℕ) : Type 0 where
  pub bytes : List ℕ
  pub sixteen : length bytes ≡ 16
  pub words : CommandIn bytes op a b c
