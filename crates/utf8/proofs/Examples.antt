-- RFC 3629, section 7, "Examples", and the strings that sections 3 and 10 name as invalid: computed. Assumes nothing.
use Rattle.std.specs.Prelude.{ℕ, true, false, ◌≡◌, refl}
use mathlib.Core.List.{List, [], ◌∷◌, flat_map}
use Rattle.utf8.specs.Rfc3629.{well_formed, utf8_2, utf8_3, utf8_4}
use Rattle.utf8.specs.Encoding.{encode, encodings}

-- "The character sequence .. is encoded in UTF-8 as follows", and so is well formed
abbrev Example : (characters octets : List ℕ) → Type 0
Example characters octets = (encodings characters ≡ octets) × (well_formed octets ≡ true)

-- "A<NOT IDENTICAL TO><ALPHA>."
not_identical : Example (0x0041 ∷ 0x2262 ∷ 0x0391 ∷ 0x002E ∷ []) (0x41 ∷ 0xE2 ∷ 0x89 ∷ 0xA2 ∷ 0xCE ∷ 0x91 ∷ 0x2E ∷ [])
unfolding encodings flat_map encode well_formed utf8_2 utf8_3
not_identical = (refl, refl)

-- Korean "hangugeo"
hangugeo : Example (0xD55C ∷ 0xAD6D ∷ 0xC5B4 ∷ []) (0xED ∷ 0x95 ∷ 0x9C ∷ 0xEA ∷ 0xB5 ∷ 0xAD ∷ 0xEC ∷ 0x96 ∷ 0xB4 ∷ [])
unfolding encodings flat_map encode well_formed utf8_2 utf8_3
hangugeo = (refl, refl)

-- Japanese "nihongo"
nihongo : Example (0x65E5 ∷ 0x672C ∷ 0x8A9E ∷ []) (0xE6 ∷ 0x97 ∷ 0xA5 ∷ 0xE6 ∷ 0x9C ∷ 0xAC ∷ 0xE8 ∷ 0xAA ∷ 0x9E ∷ [])
unfolding encodings flat_map encode well_formed utf8_2 utf8_3
nihongo = (refl, refl)

-- U+233B4, a Chinese character meaning "stump of tree", after a byte order mark
stump : Example (0xFEFF ∷ 0x233B4 ∷ []) (0xEF ∷ 0xBB ∷ 0xBF ∷ 0xF0 ∷ 0xA3 ∷ 0x8E ∷ 0xB4 ∷ [])
unfolding encodings flat_map encode well_formed utf8_2 utf8_3 utf8_4
stump = (refl, refl)

-- section 3: "the overlong UTF-8 sequence C0 80"
overlong : well_formed (0xC0 ∷ 0x80 ∷ []) ≡ false
unfolding well_formed utf8_2
overlong = refl

-- section 3: "the surrogate pair ED A1 8C ED BE B4"
surrogates : well_formed (0xED ∷ 0xA1 ∷ 0x8C ∷ 0xED ∷ 0xBE ∷ 0xB4 ∷ []) ≡ false
unfolding well_formed utf8_2 utf8_3 utf8_4
surrogates = refl

-- section 10: "the illegal octet sequence 2F C0 AE 2E 2F"
slashes : well_formed (0x2F ∷ 0xC0 ∷ 0xAE ∷ 0x2E ∷ 0x2F ∷ []) ≡ false
unfolding well_formed utf8_2 utf8_3 utf8_4
slashes = refl

-- the last character, and the number after it
last : Example (0x10FFFF ∷ []) (0xF4 ∷ 0x8F ∷ 0xBF ∷ 0xBF ∷ [])
unfolding encodings flat_map encode well_formed utf8_2 utf8_3 utf8_4
last = (refl, refl)

past-last : well_formed (0xF4 ∷ 0x90 ∷ 0x80 ∷ 0x80 ∷ []) ≡ false
unfolding well_formed utf8_2 utf8_3 utf8_4
past-last = refl

-- a first octet that section 1 says never appears
never : well_formed (0xF5 ∷ 0x80 ∷ 0x80 ∷ 0x80 ∷ []) ≡ false
unfolding well_formed utf8_2 utf8_3 utf8_4
never = refl

-- a character cut short, by one octet, two and three
cut-by-one : well_formed (0x41 ∷ 0xF0 ∷ 0xA3 ∷ 0x8E ∷ []) ≡ false
unfolding well_formed utf8_2 utf8_3
cut-by-one = refl

cut-by-two : well_formed (0x41 ∷ 0xF0 ∷ 0xA3 ∷ []) ≡ false
unfolding well_formed utf8_2
cut-by-two = refl

cut-by-three : well_formed (0x41 ∷ 0xF0 ∷ []) ≡ false
unfolding well_formed
cut-by-three = refl
