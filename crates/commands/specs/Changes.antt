-- What commands change (oracle/replay/README.md): four lists and the registers. What is told past the end of a list is left out. Definitions.
use Rattle.std.specs.Prelude.{ℕ, zero, suc, ◌+◌, ◌-◌, ◌/◌, ◌%◌, ◌^◌, cond, List, set, ◌==◌, nat_le, slice_index, slice_set}

-- what an element holds of a value: all of it, or its low byte
abbrev pub whole : ℕ → ℕ
whole w = w

abbrev pub low_byte : ℕ → ℕ
low_byte w = w % 256

-- "COUNT elements at START, START + STRIDE, .. become VALUE, VALUE + STEP, ..": places are 64-bit numbers, values 32-bit ones
unfoldable pub filled : {T : Type 0} → (held : ℕ → T) → List T → (stride start count value step : ℕ) → List T
filled held l stride at zero w step = l
filled held l stride at (suc k) w step = filled held (slice_set l at (held w)) stride ((at + stride) % 2 ^ 64) k ((w + step) % 2 ^ 32) step

-- four bytes of a word, the lowest first
unfoldable pub four_bytes : List ℕ → (at w : ℕ) → List ℕ
four_bytes l at w = slice_set (slice_set (slice_set (slice_set l at (w % 256)) (at + 1) (w / 256 % 256)) (at + 2) (w / 65536 % 256)) (at + 3) (w / 16777216 % 256)

pub record Lists : Type 0 where
  pub script : List ℕ
  pub image : List ℕ
  pub text : List ℕ
  pub library : List ℕ
  pub registers : List ℕ

abbrev pub lists : (script image text library registers : List ℕ) → Lists
lists s i t l r = record { script = s; image = i; text = t; library = l; registers = r }

-- one of the four lists by its number: texts hold bytes, the others words
unfoldable pub on_list : (number : ℕ) → (of_bytes ofWords : List ℕ → List ℕ) → Lists → Lists
on_list zero f g s = lists (f s.script) s.image s.text s.library s.registers
on_list (suc zero) f g s = lists s.script (g s.image) s.text s.library s.registers
on_list (suc (suc zero)) f g s = lists s.script s.image (f s.text) s.library s.registers
on_list (suc (suc (suc n))) f g s = lists s.script s.image s.text (g s.library) s.registers

abbrev pub with_registers : Lists → List ℕ → Lists
with_registers s r = lists s.script s.image s.text s.library r

-- "1 LIST + 4 * STRIDE START COUNT: what the next `fill` is to do"
abbrev pub patterned : (a b c : ℕ) → List ℕ → List ℕ
patterned a b c registers = slice_set (slice_set (slice_set registers 10 a) 11 b) 12 c

-- "2 VALUE STEP 0: fill"
unfoldable pub fill_of : (value step : ℕ) → Lists → Lists
fill_of value step s =
    let r : List ℕ = s.registers in
    let fill : (ℕ → ℕ) → List ℕ → List ℕ = λ held l. filled held l (slice_index r 10 / 4) (slice_index r 11) (slice_index r 12) value step in
    on_list (slice_index r 10 % 4) (fill low_byte) (fill whole) s

-- "8 + LIST AT W W: a list's elements at AT and AT + 1 become these words; of a text, eight bytes from AT"
unfoldable pub data_of : (number at a b : ℕ) → Lists → Lists
data_of number at a b s = on_list number (λ l. four_bytes (four_bytes l at a) (at + 4) b) (λ l. set (slice_set l at a) (at + 1) b) s

-- a command's four words; "3 WHICH LENGTH 0: a length"; other commands are the program's
unfoldable pub changed : (op a b c : ℕ) → Lists → Lists
changed op a b c s =
    cond (op == 1) (with_registers s (patterned a b c s.registers))
    (cond (op == 2) (fill_of a b s)
    (cond (op == 3) (with_registers s (slice_set s.registers a b))
    (cond (nat_le 8 op) (data_of (op - 8) a b c s) s)))
