-- RFC 3629, section 1, "Introduction": two of the characteristics of UTF-8 that it lists. Definitions.
use Rattle.std.specs.Prelude.{ℕ, Bool, true, ◌&&◌, not, List, [], ◌∷◌, drop}
use Rattle.utf8.specs.Rfc3629.{utf8_tail, utf8_1}

-- "Character numbers from U+0000 to U+007F (US-ASCII repertoire) correspond to octets 00 to 7F": a string of such octets alone.
abbrev pub ascii : List ℕ → Bool
ascii [] = true
ascii (a ∷ s) = utf8_1 a && ascii s

-- "Character boundaries are easily found from anywhere in an octet stream": at the end, and before each octet that is no UTF8-tail.
unfoldable pub begins : List ℕ → Bool
begins [] = true
begins (a ∷ s) = not (utf8_tail a)

-- Whether the first i octets of s and the rest meet at a character boundary.
unfoldable pub boundary : List ℕ → ℕ → Bool
boundary s i = begins (drop i s)
