-- Which name and token words are good (document 01, "Words"). Definitions.
use Rattle.std.specs.Prelude.{ℕ, ◌+◌, Bool, ◌&&◌, List, length, leb, eqb}
use Rattle.utf8.specs.Rfc3629.{well_formed}
use Rattle.tok.specs.Word.{kind_of, name_length, name_start, name_bit, name_rest}
use Rattle.tok.specs.Text.{bytes_in}

-- "Each must lie in its text ..; length 0 is allowed."
unfoldable pub lies_in : (text : List ℕ) → (word : ℕ) → Bool
lies_in text w = leb (name_start w + name_length w) (length text)

-- ".. and be well-formed UTF-8": by RFC 3629, each by itself; the rest of the text may hold anything
unfoldable pub reads_well : (text : List ℕ) → (word : ℕ) → Bool
reads_well text w = well_formed (bytes_in text w)

-- A name payload, as a name, Foreign or Slot word carries it: "25 to 27 zero. Bit 24 is clear throughout an image and
-- set throughout a library."
unfoldable pub good_payload : (bit : ℕ) (text : List ℕ) → (word : ℕ) → Bool
good_payload bit text w = eqb (name_rest w) 0 && eqb (name_bit w) bit && lies_in text w && reads_well text w

-- "Name or token, kind 12"
unfoldable pub good_name : (bit : ℕ) (text : List ℕ) → (word : ℕ) → Bool
good_name bit text w = eqb (kind_of w) 12 && good_payload bit text w

-- bit 24 in an image, whose names lie in the script text, and in a library, whose names lie in the library text
abbrev pub in_script : ℕ
in_script = 0

abbrev pub in_library : ℕ
in_library = 1
