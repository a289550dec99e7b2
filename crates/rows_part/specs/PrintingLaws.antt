-- Laws of the rows in order: what is printed from a row on is the row and what is printed from the next row on, and from the first row on it is
-- what `rows_of` says; each part of a row is followed by the rest. Assumes nothing.
use Prim.Native.Nat.{ℕ, zero, suc, ◌+◌, ◌-◌, ◌*◌, ◌^◌, ◌≤◌, ◌<◌, min}
use Rattle.std.specs.Prelude.{◌≡◌, Bool, true, false, get_or, take, drop, eqb, ltb, Option, None, Some}
use Rattle.std.proofs.Math.Path.{refl}
use Rattle.std.proofs.Common.{sym, ap, ◌∙◌, length-take, length-drop, take-append-drop, drop-cons, lt-ltb, le-ltb}
use mathlib.Core.List.{List, [], ◌++◌, append-nil, append_assoc}
use Rattle.std.proofs.Math.Numerals.{add-one}
use Rattle.std.proofs.Math.Nat.{sub-zero}
use native.Mathlib.Omega.{arith}
use Rattle.std.proofs.Math.ListN.{length, drop_of_length-le, get_or-eq_default}
use Rattle.std.proofs.Math.Seq.{get_or-take, drop-nil, drop-drop, take_all}
use Rattle.tok.specs.Text.{Texts}
use Rattle.ptype.specs.Add.{write}
use Rattle.ast.specs.Image.{slot_count}
use Rattle.refusals.specs.Inputs.{Inputs, texts_in}
use Rattle.rules.specs.Check.{Ended}
use Rattle.rules.specs.Rows.{fn_row, slot_rows, fn_rows, diag_rows, answer_rows, rows_of}
use Rattle.rows_window.specs.ShowingLaws.{take-over}
use Rattle.rows.specs.Lines.{slot_row, diag_line, diag_row, end_row, refused_row, input_row}
use Rattle.rows_part.specs.declared.Row.{Row}
use Rattle.rows_part.specs.declared.Row.TheVariants.{Slot, Fn, Diag, End, Refused, Input}
use Rattle.rows_part.specs.declared.Part.{Part}
use Rattle.rows_part.specs.RowsEnd.{by_order}
use Rattle.rows_part.specs.Printing.{Answer, answer_in, row_of, bytes_of, diag_from, fn_from, next_of, next_in, next_at, first_row, first_of, diags_from, fns_from, slots_from, rest_of, rest_behind, rest_from, rest_at}
use Rattle.rows_part.specs.Printing.{part_of, room_at, Prints}

-- ---- slots
module _ (t : Texts) (types slots : List ℕ) (v i : ℕ) where
  abbrev held : List ℕ
  held = take (v + 1) slots

  -- slots past V, or past the buffer, have no rows
  slots-none : length held ≤ i → slot_rows t types i (drop i held) ≡ []
  unfolding slot_rows
  slots-none h = rw (drop_of_length-le held h)

  slots-more : i ≤ v → slot_rows t types i (drop i held) ≡ slot_row t types i (get_or slots i 0) ++ slot_rows t types (i + 1) (drop (i + 1) held)
  unfolding slot_rows slot_row
  slots-more h =
      by_order i (length slots)
      (λ l.
      let k : i < length held = rw (length-take (v + 1) slots) (omega arith) in
      rw (drop-cons held i 0 k, get_or-take (v + 1) slots i 0 (omega arith), add-one i))
      (λ l.
      let k : length held ≤ i = rw (length-take (v + 1) slots) (omega arith) in
      rw (drop_of_length-le held k, get_or-eq_default slots 0 l, drop_of_length-le held {i = i + 1} (omega arith)))

-- ---- functions
module _ (t : Texts) (types f : List ℕ) (used : ℕ) where
  abbrev behind : ℕ → ℕ
  behind at = at + 3 + 2 * get_or f (at + 1) 0

  fns_none : (m at : ℕ) → used ≤ at → fn_rows t types f used m at ≡ []
  unfolding fn_rows
  fns_none zero at h = refl
  fns_none (suc m) at h = rw (le-ltb at used h, fn_rows)

  fns_one : (m at : ℕ) → at < used → fn_rows t types f used (suc m) at ≡ fn_row t types f at (get_or f (at + 1) 0) ++ fn_rows t types f used m (behind at)
  unfolding fn_rows
  fns_one m at h = rw (lt-ltb at used h, fn_rows)

  -- as many entries as there are words are enough
  fns_same : (m n at : ℕ) → used ≤ at + m → used ≤ at + n → fn_rows t types f used m at ≡ fn_rows t types f used n at
  fns_same zero n at p q = fns_none 0 at (omega arith) ∙ sym (fns_none n at (omega arith))
  fns_same (suc m) zero at p q = fns_none (suc m) at (omega arith) ∙ sym (fns_none 0 at (omega arith))
  fns_same (suc m) (suc n) at p q =
      by_order at used
      (λ h. rw (fns_one m at h, fns_one n at h, fns_same m n (behind at) (omega arith) (omega arith)))
      (λ h. fns_none (suc m) at h ∙ sym (fns_none (suc n) at h))

  fns_more : (at : ℕ) → at < used → fn_rows t types f used used at ≡ fn_row t types f at (get_or f (at + 1) 0) ++ fn_rows t types f used used (behind at)
  fns_more at h = fns_same used (suc used) at (omega arith) (omega arith) ∙ fns_one used at h

-- ---- diagnostics
module _ (d m : List ℕ) (count k : ℕ) where
  diags_none : count ≤ k → diag_rows d m (6 * k) (count - k) ≡ []
  unfolding diag_rows
  diags_none h =
      let e : count - k ≡ 0 = omega arith in
      rw e

  diags_more : k < count → diag_rows d m (6 * k) (count - k) ≡ diag_row d m (6 * k) ++ diag_rows d m (6 * (k + 1)) (count - (k + 1))
  unfolding diag_rows diag_row diag_line
  diags_more h =
      let e : count - k ≡ suc (count - (k + 1)) = omega arith in
      let n : 6 * k + 6 ≡ 6 * (k + 1) = omega arith in
      rw (e, n)

-- ---- all rows
rest_diag : (a : Answer) (k : ℕ) → rest_of a (diag_from a.count k) ≡ diags_from a k
unfolding rest_of diag_from row_of
rest_diag a k =
    by_order k a.count
    (λ h. rw (lt-ltb k a.count h, diags_more a.diagnostics a.messages a.count k h) (simp append_assoc))
    (λ h. rw (le-ltb k a.count h, diags_none a.diagnostics a.messages a.count k h))

rest-fn : (a : Answer) (at : ℕ) → rest_of a (fn_from a.words a.count at) ≡ fns_from a at
unfolding rest_of fn_from row_of
rest-fn a at =
    by_order at a.words
    (λ h. rw (lt-ltb at a.words h, fns_more a.texts a.types a.functions a.words at h) (simp append_assoc))
    (λ h. rw (le-ltb at a.words h, fns_none a.texts a.types a.functions a.words a.words at h) (rest_diag a 0))

rest-slot : (a : Answer) (i : ℕ) → i ≤ a.last → rest_of a (Slot i) ≡ slots_from a i
unfolding rest_of row_of
rest-slot a i h = rw (slots-more a.texts a.types a.slots a.last i h) (simp append_assoc)

-- What is printed from a row on is the row, and what is printed from the next row on.
pub rest-next : (a : Answer) (r : Row) → rest_of a r ≡ row_of a r ++ rest_behind a (next_in a r)
unfolding rest_of row_of next_of rest_behind
rest-next a (Slot i) =
    by_order i a.last
    (λ h. rw (lt-ltb i a.last h) (ap (λ l. row_of a (Slot i) ++ l) (sym (rest-slot a (i + 1) (omega arith)))))
    (λ h.
    rw (le-ltb i a.last h, rest-fn a 0)
    (ap (λ l. row_of a (Slot i) ++ (l ++ fns_from a 0)) (slots-none a.texts a.types a.slots a.last (i + 1) (rw (length-take (a.last + 1) a.slots) (omega arith)))))
rest-next a (Fn at) = ap (λ l. row_of a (Fn at) ++ l) (sym (rest-fn a _))
rest-next a (Diag k) = ap (λ l. row_of a (Diag k) ++ l) (sym (rest_diag a (k + 1)))
rest-next a End = sym (append-nil _)
rest-next a (Refused number place) = sym (append-nil _)
rest-next a Input = sym (append-nil _)

-- ---- from the first row on
rest_all : (a : Answer) (r : Row) → rest_from a r 0 ≡ rest_of a r
unfolding rest_from
rest_all a r = sym (rest-next a r)

at_start : (a : Answer) (r : Option Row) → rest_at a r 0 ≡ rest_behind a r
unfolding rest_at rest_behind
at_start a None = refl
at_start a (Some r) = rest_all a r

answer-first : (i : Inputs) (e : Ended) → rest_of (answer_in i e) (Slot 0) ≡ answer_rows (texts_in i) (slot_count i.image) e
unfolding answer_rows end_row
answer-first i e = rest-slot (answer_in i e) 0 (omega arith) ∙ rw (sub-zero e.diagnostics) (simp append_assoc)

-- What is printed from the first row on is what `rows_of` says.
pub rows-first : (i : Inputs) (e : Ended) → rest_from (answer_in i e) (first_of e) 0 ≡ rows_of i e
unfolding first_row rows_of rest_of refused_row
rows-first i e = go (eqb e.number 0) refl
  where
    go : (b : Bool) → eqb e.number 0 ≡ b → rest_from (answer_in i e) (first_of e) 0 ≡ rows_of i e
    go true h = rw (h, rows_of) (rest_all (answer_in i e) (Slot 0) ∙ answer-first i e)
    go false h = rw (h, rows_of) (rest_all (answer_in i e) (Refused e.number e.place))

-- The one row of an input whose lengths do not fit.
pub input_first : (a : Answer) → rest_from a Input 0 ≡ input_row
unfolding rest_of
input_first a = rest_all a Input

-- ---- parts
-- what is printed from where a part begins on
rest_is : (a : Answer) (r : Option Row) (skip : ℕ) → rest_at a r skip ≡ drop skip (bytes_of a r) ++ rest_behind a (next_at a r)
unfolding rest_at rest_from rest_behind
rest_is a None skip = rw (drop-nil {A = ℕ} skip) refl
rest_is a (Some r) skip = refl

-- of a part that uses `room` bytes of the buffer
module _ (o : List ℕ) (a : Answer) (r : Option Row) (skip room : ℕ) (fits : room ≤ length o) where
  abbrev shown : List ℕ
  shown = drop skip (bytes_of a r)

  abbrev many : ℕ
  many = min (length (bytes_of a r) - skip) room

  front-is : take many (write o 0 shown) ≡ take many shown
  unfolding write
  front-is = take-over many o shown (rw (length-drop skip (bytes_of a r)) (omega arith)) (omega arith)

  -- The bytes of a part, and what is printed from the next part on, are what was to be printed.
  pub part-next :
      let p : Part = part_of room a r skip in
      rest_at a r skip ≡ take p.bytes (write o 0 (drop skip (bytes_of a r))) ++ rest_at a p.row p.skip
  unfolding part_of
  part-next =
      by_order many room
      (λ h.
      let e : length shown ≤ many = rw (length-drop skip (bytes_of a r)) (omega arith) in
      rw (lt-ltb many room h, front-is, take_all many shown e, at_start a (next_at a r)) (rest_is a r skip))
      (λ h.
      rw (le-ltb many room h, front-is, rest_is a r skip, rest_is a r (skip + many), ← drop-drop many skip (bytes_of a r))
      (ap (λ l. l ++ rest_behind a (next_at a r)) (sym (take-append-drop many shown)) ∙ append_assoc (take many shown) (drop many shown) (rest_behind a (next_at a r))))

-- the whole buffer is used wherever the next part begins at a place that a number can say
pub room_whole : (skip room : ℕ) → skip + room < 2 ^ 64 → room_at skip room ≡ room
unfolding room_at
room_whole skip room h = omega arith

room_fits : (skip room : ℕ) → room_at skip room ≤ room
unfolding room_at
room_fits skip room = omega arith

-- so it is of whatever `write_part` wrote and answered
pub prints_next : (a : Answer) (r : Option Row) (skip : ℕ) {o o' : List ℕ} {p : Part} → Prints a r skip o o' p → rest_at a r skip ≡ take p.bytes o' ++ rest_at a p.row p.skip
prints_next a r skip {o} h = rw (h.buffer, h.answer) (part-next o a r skip (room_at skip (length o)) (room_fits skip (length o)))

-- a part is no longer than the buffer, nor is what it adds to the bytes passed over
pub part_bytes : (room : ℕ) (a : Answer) (r : Option Row) (skip : ℕ) → (part_of room a r skip).bytes ≤ room
unfolding part_of
part_bytes room a r skip = omega arith

pub part-skip : (room : ℕ) (a : Answer) (r : Option Row) (skip : ℕ) → (part_of room a r skip).skip ≤ skip + room
unfolding part_of
part-skip room a r skip = go (ltb (min (length (bytes_of a r) - skip) room) room) refl
  where
    go : (b : Bool) → ltb (min (length (bytes_of a r) - skip) room) room ≡ b → (part_of room a r skip).skip ≤ skip + room
    go true h = rw h (omega arith)
    go false h = rw h (omega arith)
