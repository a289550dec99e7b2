-- RFC 3629, section 4, "Syntax of UTF-8 Byte Sequences": which byte strings are well formed. Definitions.
-- Each stands under the line of the ABNF that it renders. An octet is a number; a number above FF is in none of the ranges.
use Rattle.std.specs.Prelude.{ℕ, ◌≡◌, Bool, true, false, ◌&&◌, ◌||◌, List, [], ◌∷◌, ◌++◌, leb}

-- %xLO-HI: an octet from LO to HI, both among them
abbrev pub range : ℕ → ℕ → ℕ → Bool
range lo hi a = leb lo a && leb a hi

-- UTF8-tail = %x80-BF
abbrev pub utf8_tail : ℕ → Bool
utf8_tail a = range 0x80 0xBF a

-- UTF8-1 = %x00-7F
abbrev pub utf8_1 : ℕ → Bool
utf8_1 a = range 0x00 0x7F a

-- UTF8-2 = %xC2-DF UTF8-tail
unfoldable pub utf8_2 : ℕ → ℕ → Bool
utf8_2 a b = range 0xC2 0xDF a && utf8_tail b

-- UTF8-3 = %xE0 %xA0-BF UTF8-tail / %xE1-EC 2( UTF8-tail ) /
--          %xED %x80-9F UTF8-tail / %xEE-EF 2( UTF8-tail )
unfoldable pub utf8_3 : ℕ → ℕ → ℕ → Bool
utf8_3 a b c =
    range 0xE0 0xE0 a && range 0xA0 0xBF b && utf8_tail c
    || range 0xE1 0xEC a && utf8_tail b && utf8_tail c
    || range 0xED 0xED a && range 0x80 0x9F b && utf8_tail c
    || range 0xEE 0xEF a && utf8_tail b && utf8_tail c

-- UTF8-4 = %xF0 %x90-BF 2( UTF8-tail ) / %xF1-F3 3( UTF8-tail ) /
--          %xF4 %x80-8F 2( UTF8-tail )
unfoldable pub utf8_4 : ℕ → ℕ → ℕ → ℕ → Bool
utf8_4 a b c d =
    range 0xF0 0xF0 a && range 0x90 0xBF b && utf8_tail c && utf8_tail d
    || range 0xF1 0xF3 a && utf8_tail b && utf8_tail c && utf8_tail d
    || range 0xF4 0xF4 a && range 0x80 0x8F b && utf8_tail c && utf8_tail d

-- UTF8-char = UTF8-1 / UTF8-2 / UTF8-3 / UTF8-4
pub data Char : List ℕ → Type 0 where
  one : {a : ℕ} → utf8_1 a ≡ true → Char (a ∷ [])
  two : {a b : ℕ} → utf8_2 a b ≡ true → Char (a ∷ b ∷ [])
  three : {a b c : ℕ} → utf8_3 a b c ≡ true → Char (a ∷ b ∷ c ∷ [])
  four : {a b c d : ℕ} → utf8_4 a b c d ≡ true → Char (a ∷ b ∷ c ∷ d ∷ [])

-- UTF8-octets = *( UTF8-char )
pub data Octets : List ℕ → Type 0 where
  none : Octets []
  more : {c s : List ℕ} → Char c → Octets s → Octets (c ++ s)

-- The test of UTF8-octets: `well_formed s ≡ true` exactly where `Octets s` (Laws.antt, `decides`).
-- `begun1` to `begun3` read on where the one, two or three octets before s have begun a character.
unfoldable mutual
  pub well_formed : List ℕ → Bool
  well_formed [] = true
  well_formed (a ∷ s) = elim (utf8_1 a) [ true ↦ well_formed s | false ↦ begun1 a s ]

  pub begun1 : ℕ → List ℕ → Bool
  begun1 a [] = false
  begun1 a (b ∷ s) = elim (utf8_2 a b) [ true ↦ well_formed s | false ↦ begun2 a b s ]

  pub begun2 : ℕ → ℕ → List ℕ → Bool
  begun2 a b [] = false
  begun2 a b (c ∷ s) = elim (utf8_3 a b c) [ true ↦ well_formed s | false ↦ begun3 a b c s ]

  pub begun3 : ℕ → ℕ → ℕ → List ℕ → Bool
  begun3 a b c [] = false
  begun3 a b c (d ∷ s) = utf8_4 a b c d && well_formed s
