-- The rows of an answer in order, and the parts in which they are printed (document 01, "Bench rows"). Definitions.
use Rattle.std.specs.Prelude.{ℕ, ◌+◌, ◌-◌, ◌*◌, ◌^◌, min, ◌≡◌, cond, List, [], ◌++◌, length, get_or, take, drop, eqb, ltb, Option, None, Some}
use Rattle.tok.specs.Text.{Texts}
use Rattle.ptype.specs.Add.{write}
use Rattle.ast.specs.Image.{slot_count}
use Rattle.refusals.specs.Inputs.{Inputs, texts_in}
use Rattle.rules.specs.Check.{Ended}
use Rattle.rules.specs.Rows.{fn_row, slot_rows, fn_rows, diag_rows}
use Rattle.rows.specs.Lines.{slot_row, diag_row, end_row, refused_row, input_row}
use Rattle.rows_part.specs.declared.Row.{Row}
use Rattle.rows_part.specs.declared.Row.TheVariants.{Slot, Fn, Diag, End, Refused, Input}
use Rattle.rows_part.specs.declared.Part.{Part}

-- what rows are printed from: the texts, the buffers, V, and how many function words and diagnostics are used
pub record Answer : Type 0 where
  pub texts : Texts
  pub slots : List ℕ
  pub types : List ℕ
  pub functions : List ℕ
  pub diagnostics : List ℕ
  pub messages : List ℕ
  pub last : ℕ
  pub words : ℕ
  pub count : ℕ

abbrev pub answer_of : Texts → (slots types functions diagnostics messages : List ℕ) → (last words count : ℕ) → Answer
answer_of t s ty f d m v w c = record {
  texts = t;
  slots = s;
  types = ty;
  functions = f;
  diagnostics = d;
  messages = m;
  last = v;
  words = w;
  count = c;
}

-- what the check ended in
abbrev pub answer_in : Inputs → Ended → Answer
answer_in i e =
    answer_of
    (texts_in i)
    e.after.slots
    e.after.types
    e.after.functions
    e.after.diagnostics
    e.after.messages
    (slot_count i.image)
    e.function_words
    e.diagnostics

-- ---- rows in order
abbrev pub arg_count_at : Answer → (at : ℕ) → ℕ
arg_count_at a at = get_or a.functions (at + 1) 0

-- the bytes of a row
unfoldable pub row_of : Answer → Row → List ℕ
row_of a (Slot i) = slot_row a.texts a.types i (get_or a.slots i 0)
row_of a (Fn at) = fn_row a.texts a.types a.functions at (arg_count_at a at)
row_of a (Diag k) = diag_row a.diagnostics a.messages (6 * k)
row_of a End = end_row a.count
row_of a (Refused number place) = refused_row number place
row_of a Input = input_row

-- the bytes of a row, if there is one
abbrev pub bytes_of : Answer → Option Row → List ℕ
bytes_of a None = []
bytes_of a (Some row) = row_of a row

-- the row of diagnostic k, or the last row where there are no more
unfoldable pub diag_from : (count k : ℕ) → Row
diag_from count k = cond (ltb k count) (Diag k) End

-- the row of the function whose entry is at a place, or the first diagnostic's where there are no more
unfoldable pub fn_from : (words count at : ℕ) → Row
fn_from words count at = cond (ltb at words) (Fn at) (diag_from count 0)

-- the row behind a row, if it is not the last
unfoldable pub next_of : (functions : List ℕ) → (last words count : ℕ) → Row → Option Row
next_of f last words count (Slot i) = Some (cond (ltb i last) (Slot (i + 1)) (fn_from words count 0))
next_of f last words count (Fn at) = Some (fn_from words count (at + 3 + 2 * get_or f (at + 1) 0))
next_of f last words count (Diag k) = Some (diag_from count (k + 1))
next_of f last words count End = None
next_of f last words count (Refused number place) = None
next_of f last words count Input = None

abbrev pub next_in : Answer → Row → Option Row
next_in a row = next_of a.functions a.last a.words a.count row

-- the same of a row, if there is one
abbrev pub next_at : Answer → Option Row → Option Row
next_at a None = None
next_at a (Some row) = next_in a row

-- the first row: the first slot's, or the refusal's
unfoldable pub first_row : (number place : ℕ) → Row
first_row number place = cond (eqb number 0) (Slot 0) (Refused number place)

-- the first row of what the check ended in
abbrev pub first_of : Ended → Row
first_of e = first_row e.number e.place

-- ---- what is printed from a row on, in the terms of `rules/specs/Rows.antt`
abbrev pub ends_from : Answer → List ℕ
ends_from a = end_row a.count

abbrev pub diags_from : Answer → (k : ℕ) → List ℕ
diags_from a k = diag_rows a.diagnostics a.messages (6 * k) (a.count - k) ++ ends_from a

abbrev pub fns_from : Answer → (at : ℕ) → List ℕ
fns_from a at = fn_rows a.texts a.types a.functions a.words a.words at ++ diags_from a 0

abbrev pub slots_from : Answer → (i : ℕ) → List ℕ
slots_from a i = slot_rows a.texts a.types i (drop i (take (a.last + 1) a.slots)) ++ fns_from a 0

unfoldable pub rest_of : Answer → Row → List ℕ
rest_of a (Slot i) = row_of a (Slot i) ++ slots_from a (i + 1)
rest_of a (Fn at) = row_of a (Fn at) ++ fns_from a (at + 3 + 2 * arg_count_at a at)
rest_of a (Diag k) = row_of a (Diag k) ++ diags_from a (k + 1)
rest_of a End = end_row a.count
rest_of a (Refused number place) = refused_row number place
rest_of a Input = input_row

-- the same from the row behind a row on: nothing behind the last
unfoldable pub rest_behind : Answer → Option Row → List ℕ
rest_behind a None = []
rest_behind a (Some row) = rest_of a row

-- ---- parts
-- what is printed of a row behind its first bytes, and then of all rows behind it
unfoldable pub rest_from : Answer → Row → (skip : ℕ) → List ℕ
rest_from a row skip = drop skip (row_of a row) ++ rest_behind a (next_in a row)

-- the same from where a part begins on: nothing behind the last
unfoldable pub rest_at : Answer → Option Row → (skip : ℕ) → List ℕ
rest_at a None skip = []
rest_at a (Some row) skip = rest_from a row skip

-- a part of a row in a buffer of `room` bytes: how many bytes it has, and where the next part begins: in the same row if the buffer is full,
-- else at the start of the row behind it. Where there is no row it has no bytes, and no row is next.
unfoldable pub part_of : (room : ℕ) → Answer → Option Row → (skip : ℕ) → Part
part_of room a row skip =
    let n : ℕ = min (length (bytes_of a row) - skip) room in
    record { bytes = n; row = cond (ltb n room) (next_at a row) row; skip = cond (ltb n room) 0 (skip + n) }

-- how much of a buffer a part uses: the next one begins at a place that a 64-bit number can say
unfoldable pub room_at : (skip room : ℕ) → ℕ
room_at skip room = min room (2 ^ 64 - 1 - skip)

-- the buffer o became o'
pub record Prints (a : Answer) (row : Option Row) (skip : ℕ) (o o' : List ℕ) (r : Part) : Type 0 where
  pub buffer : o' ≡ write o 0 (drop skip (bytes_of a row))
  pub answer : r ≡ part_of (room_at skip (length o)) a row skip
