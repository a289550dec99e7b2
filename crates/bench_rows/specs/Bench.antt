-- The printing program (document 01, "Bench rows"): bytes in, rows out. Definitions.
use Rattle.std.specs.Prelude.{ℕ, zero, suc, ◌+◌, ◌*◌, Bool, true, false, ◌&&◌, List, [], ◌∷◌, get_or, length, take, drop, replicate, leb, eqb}
use Rattle.tok.specs.Text.{text}
use Rattle.refusals.specs.Inputs.{Inputs, Buffers}
use Rattle.rules.specs.Check.{check_of}
use Rattle.rules.specs.Rows.{line, rows_of}

-- "words little-endian": the 32-bit word at byte `at`
unfoldable pub word_in : List ℕ → (at : ℕ) → ℕ
word_in bytes at = get_or bytes at 0 + 256 * (get_or bytes (at + 1) 0 + 256 * (get_or bytes (at + 2) 0 + 256 * get_or bytes (at + 3) 0))

-- k words from byte `at` on
unfoldable pub words_in : List ℕ → (at k : ℕ) → List ℕ
words_in bytes at zero = []
words_in bytes at (suc k) = word_in bytes at ∷ words_in bytes (at + 4) k

abbrev pub bytes_in : List ℕ → (at k : ℕ) → List ℕ
bytes_in bytes at k = take k (drop at bytes)

-- "four little-endian 32-bit lengths (script bytes, image words, library text bytes, library words) and the four parts in that order"
abbrev pub script_length : List ℕ → ℕ
script_length bytes = word_in bytes 0

abbrev pub image_length : List ℕ → ℕ
image_length bytes = word_in bytes 4

abbrev pub text_length : List ℕ → ℕ
text_length bytes = word_in bytes 8

abbrev pub library_length : List ℕ → ℕ
library_length bytes = word_in bytes 12

abbrev pub image_start : List ℕ → ℕ
image_start bytes = 16 + script_length bytes

abbrev pub text_start : List ℕ → ℕ
text_start bytes = image_start bytes + 4 * image_length bytes

abbrev pub library_start : List ℕ → ℕ
library_start bytes = text_start bytes + text_length bytes

-- "in all up to 65,536 bytes"; the lengths use up the input exactly
unfoldable pub fits : List ℕ → Bool
fits bytes = leb 16 (length bytes) && (leb (length bytes) 65536 && eqb (library_start bytes + 4 * library_length bytes) (length bytes))

unfoldable pub inputs_in : List ℕ → Inputs
inputs_in bytes = record {
  script = bytes_in bytes 16 (script_length bytes);
  image = words_in bytes (image_start bytes) (image_length bytes);
  library_text = bytes_in bytes (text_start bytes) (text_length bytes);
  library = words_in bytes (library_start bytes) (library_length bytes);
}

-- "It lends each buffer as long as can be used."
abbrev pub lent : Buffers
lent = record {
  slots = replicate 4097 0;
  functions = replicate 8192 0;
  types = replicate 8192 0;
  diagnostics = replicate 1536 0;
  messages = replicate 65536 0;
  scratch = replicate 16384 0;
}

-- "lengths that don't fit the input print `input`"
unfoldable pub bench_of : List ℕ → List ℕ
bench_of bytes =
    elim (fits bytes) [
      | true ↦ rows_of (inputs_in bytes) (check_of (inputs_in bytes) lent)
      | false ↦ line (text "input" ∷ [])
    ]
