-- The two texts, a name's bytes in them, equality of bytes, and quoted text. Definitions.
use Rattle.std.specs.Prelude.{ℕ, Bool, true, false, cond, ◌&&◌, List, [], ◌∷◌, ◌++◌, take, drop, eqb}
use Prim.Native.String.{String}
use Prim.Native.String as S
use Prim.Native.Char.{code}
use Rattle.tok.specs.Word.{name_length, name_start, name_bit}

-- the script text and the library text
pub record Texts : Type 0 where
  pub script : List ℕ
  pub library : List ℕ

abbrev pub texts_of : (script library : List ℕ) → Texts
texts_of s l = record { script = s; library = l }

-- "new packages may lengthen the .. library text at their ends; new statements bring .. text at the end"
abbrev pub longer : Texts → (script library : List ℕ) → Texts
longer t s l = texts_of (t.script ++ s) (t.library ++ l)

-- the bytes that a name or token word stands for in a text, as far as the text goes
abbrev pub bytes_in : List ℕ → (word : ℕ) → List ℕ
bytes_in text w = take (name_length w) (drop (name_start w) text)

-- "bit 24 set for the library text"
abbrev pub text_by : Texts → (bit : ℕ) → List ℕ
text_by t bit = cond (eqb bit 1) t.library t.script

-- "a name's bytes come from whichever of the two texts holds it"
unfoldable pub name_bytes : Texts → (word : ℕ) → List ℕ
name_bytes t w = bytes_in (text_by t (name_bit w)) w

-- Names are "compared byte by byte" (document 01, "Leaves first").
unfoldable pub same_bytes : List ℕ → List ℕ → Bool
same_bytes [] [] = true
same_bytes [] (b ∷ t) = false
same_bytes (a ∷ s) [] = false
same_bytes (a ∷ s) (b ∷ t) = eqb a b && same_bytes s t

-- two name words stand for one name
abbrev pub same_name : Texts → (a b : ℕ) → Bool
same_name t a b = same_bytes (name_bytes t a) (name_bytes t b)

-- Quoted text as bytes. All that is quoted is ASCII, where a character's code is its byte.
unfoldable pub text : String → List ℕ
text = elim [ S.[] ↦ [] | S.◌∷◌ c (s → r) ↦ code c ∷ r ]
