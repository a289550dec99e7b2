-- Refusals 1 to 6, computed: document 01's own row is accepted, and small damages of it and of its library are refused at their place. Assumes nothing.
use Prim.Native.Nat.{ℕ}
use mathlib.Core.Path.{◌≡◌, refl}
use mathlib.Core.Option.{Option, none, some}
use mathlib.Core.List.{List, [], ◌∷◌}
use lib.ListN.{replicate}
use Rattle.tok.specs.Text.{text}
use Rattle.tok.specs.Step.{Refusal, refusal}
use Rattle.refusals.specs.Inputs.{Buffers}
use Rattle.refusals.specs.Run.{refusal_run}

-- "It lends each buffer as long as can be used."
lent : Buffers
lent = record {
  slots = replicate 4097 0;
  functions = replicate 8192 0;
  types = replicate 8192 0;
  diagnostics = replicate 1536 0;
  messages = replicate 65536 0;
  scratch = replicate 16384 0;
}

-- a script text, an image, a library of no text; buffers as the bench lends them
abbrev tried : (script image library : List ℕ) → Option Refusal
tried s i l = refusal_run (record { script = s; image = i; library_text = []; library = l }) lent

-- "Text `let a = 1`, library 0 0, image in hexadecimal: 2 0 1 2, 1, 00000004 0 C0000801 3, 40000004 1 C0000401 0."
bench_row : tried (text "let a = 1") (2 ∷ 0 ∷ 1 ∷ 2 ∷ 1 ∷ 0x00000004 ∷ 0 ∷ 0xC0000801 ∷ 3 ∷ 0x40000004 ∷ 1 ∷ 0xC0000401 ∷ 0 ∷ []) (0 ∷ 0 ∷ []) ≡ none
unfolding refusal_run lent text
bench_row = refl

-- its text one byte short: the token `1` at word 7 no longer lies in it
one_byte_short : tried (text "let a = ") (2 ∷ 0 ∷ 1 ∷ 2 ∷ 1 ∷ 0x00000004 ∷ 0 ∷ 0xC0000801 ∷ 3 ∷ 0x40000004 ∷ 1 ∷ 0xC0000401 ∷ 0 ∷ []) (0 ∷ 0 ∷ []) ≡ some (refusal 3 7)
unfolding refusal_run lent text
one_byte_short = refl

-- its Let with itself as part: "A part's number is smaller than its owner's."
own-part : tried (text "let a = 1") (2 ∷ 0 ∷ 1 ∷ 2 ∷ 1 ∷ 0x00000004 ∷ 0 ∷ 0xC0000801 ∷ 3 ∷ 0x40000004 ∷ 1 ∷ 0xC0000401 ∷ 1 ∷ []) (0 ∷ 0 ∷ []) ≡ some (refusal 3 12)
unfolding refusal_run lent text
own-part = refl

-- its Atom a root too: claimed twice, by a root, so that the place is N
part-and-root : tried (text "let a = 1") (2 ∷ 0 ∷ 1 ∷ 2 ∷ 0 ∷ 0x00000004 ∷ 0 ∷ 0xC0000801 ∷ 3 ∷ 0x40000004 ∷ 1 ∷ 0xC0000401 ∷ 0 ∷ []) (0 ∷ 0 ∷ []) ≡ some (refusal 4 2)
unfolding refusal_run lent text
part-and-root = refl

-- both nodes with slot 0
slot_twice : tried (text "let a = 1") (2 ∷ 0 ∷ 1 ∷ 2 ∷ 1 ∷ 0x00000004 ∷ 0 ∷ 0xC0000801 ∷ 3 ∷ 0x40000004 ∷ 0 ∷ 0xC0000401 ∷ 0 ∷ []) (0 ∷ 0 ∷ []) ≡ some (refusal 4 1)
unfolding refusal_run lent text
slot_twice = refl

-- "first offending word, or its length": a pool of 5 that ends
pool-ends : tried [] (0 ∷ 0 ∷ 0 ∷ 0 ∷ []) (5 ∷ 0 ∷ []) ≡ some (refusal 2 2)
unfolding refusal_run lent
pool-ends = refl

-- no library of at most 8,192 words has such a pool
no_such_pool : tried [] (0 ∷ 0 ∷ 0 ∷ 0 ∷ []) (0xFFFFFFFF ∷ 0 ∷ []) ≡ some (refusal 2 0)
unfolding refusal_run lent
no_such_pool = refl

-- an image of no words
no_words : tried [] [] (0 ∷ 0 ∷ []) ≡ some (refusal 3 0)
unfolding refusal_run lent
no_words = refl
