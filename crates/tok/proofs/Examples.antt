-- The words of document 01's example, "Text `let a = 1`, .. image in hexadecimal", and covers of spans: computed.
-- Assumes nothing.
use mathlib.Core.Path.{◌≡◌, refl}
use mathlib.Core.List.{[]}
use Prim.Native.Nat.{◌-◌, ◌^◌}
use Rattle.tok.specs.Word.{kind_of, payload_of}
use Rattle.tok.specs.Text.{texts_of, name_bytes, text}
use Rattle.tok.specs.Token.{token_bytes}
use Rattle.tok.specs.Span.{token_span, cover}

-- 00000004, the first word of node 0: an Atom of 4 words; 40000004, of node 1: a Let of 4
atom : kind_of 0x00000004 ≡ 0
atom = refl

let_kind : kind_of 0x40000004 ≡ 4
let_kind = refl

let_length : payload_of 0x40000004 ≡ 4
let_length = refl

-- C0000801, the Atom's token; C0000401, the Let's name
token : token_bytes (text "let a = 1") 0xC0000801 ≡ text "1"
unfolding token_bytes text
token = refl

name : name_bytes (texts_of (text "let a = 1") []) 0xC0000401 ≡ text "a"
unfolding name_bytes text
name = refl

-- bit 24 set: the same place of the library text
name-of-library : name_bytes (texts_of (text "let a = 1") (text "str.len")) 0xC1000403 ≡ text "len"
unfolding name_bytes text
name-of-library = refl

-- from the name to the token, in either order, and one span within another
apart : cover (token_span 0xC0000401) (token_span 0xC0000801) ≡ record { start = 4; len = 5 }
unfolding cover
apart = refl

turned : cover (token_span 0xC0000801) (token_span 0xC0000401) ≡ record { start = 4; len = 5 }
unfolding cover
turned = refl

within : cover (token_span 0xC0000401) (token_span 0xC0000009) ≡ record { start = 0; len = 9 }
unfolding cover
within = refl

-- an end past the largest number is the largest number
saturated : cover (record { start = 2 ^ 64 - 3; len = 9 }) (record { start = 2 ^ 64 - 5; len = 1 }) ≡ record { start = 2 ^ 64 - 5; len = 4 }
unfolding cover
saturated = refl
