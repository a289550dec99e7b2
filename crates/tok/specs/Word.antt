-- Words (document 01, "Words"). Definitions.
use Rattle.std.specs.Prelude.{ℕ, ◌+◌, ◌*◌, ◌/◌, ◌%◌, ◌^◌}

-- "Words are 32 bits; the top 4 bits are the kind, the low 28 the payload."
abbrev pub kind_of : ℕ → ℕ
kind_of w = w / 2 ^ 28

abbrev pub payload_of : ℕ → ℕ
payload_of w = w % 2 ^ 28

-- the word of a kind and a payload
abbrev pub word_of : (kind payload : ℕ) → ℕ
word_of k p = k * 2 ^ 28 + p

-- "Name or token, kind 12: bits 0 to 7 length, 8 to 23 start, bit 24 set for the library text, 25 to 27 zero."
abbrev pub name_length : ℕ → ℕ
name_length w = w % 2 ^ 8

abbrev pub name_start : ℕ → ℕ
name_start w = w / 2 ^ 8 % 2 ^ 16

abbrev pub name_bit : ℕ → ℕ
name_bit w = w / 2 ^ 24 % 2

abbrev pub name_rest : ℕ → ℕ
name_rest w = w / 2 ^ 25 % 2 ^ 3

-- "Foreign and Slot carry a name payload": the name word of such a payload
abbrev pub name_word : ℕ → ℕ
name_word w = word_of 12 (payload_of w)
