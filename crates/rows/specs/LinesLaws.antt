-- Laws of rows: the pieces in which each is written. Assumes nothing.
use Prim.Native.Nat.{ℕ, zero, suc, ◌+◌, ◌*◌}
use Rattle.std.specs.Prelude.{◌≡◌, List, [], ◌++◌, get_or}
use Rattle.std.proofs.Math.Path.{refl}
use Rattle.std.proofs.Common.{append-nil, append_assoc, ne_eqb}
use Rattle.tok.specs.Text.{Texts, text, name_bytes}
use Rattle.ptype.specs.Words.{fields_from, ty_of}
use Rattle.ptype.specs.Show.{gap, show, show_fields, decimal}
use Rattle.display.specs.Joined.{each_after, joined}
use Rattle.rules.specs.Rows.{line, arg_rows, fn_row}
use Rattle.rows.specs.Lines.{slot_row, fn_line, diag_line, end_row, refused_row, input_row}

-- ---- words of the rows
slot-word : text "slot " ≡ text "slot" ++ text " "
unfolding text
slot-word = refl

fn-word : text "fn " ≡ text "fn" ++ text " "
unfolding text
fn-word = refl

open_word : text " (" ≡ text " " ++ text "("
unfolding text
open_word = refl

arrow_word : text ") -> " ≡ text ")" ++ text " " ++ text "->" ++ text " "
unfolding text
arrow_word = refl

diag_word : text "diag " ≡ text "diag" ++ text " "
unfolding text
diag_word = refl

end-word : text "end " ≡ text "end" ++ text " "
unfolding text
end-word = refl

refused-word : text "refused " ≡ text "refused" ++ text " "
unfolding text
refused-word = refl

-- ---- slots
module _ (t : Texts) (types : List ℕ) (i w : ℕ) where
  pub slot-none : w ≡ 0 → slot_row t types i w ≡ []
  unfolding slot_row
  slot-none e = rw e

  pub slot_pieces : (w ≡ 0 → ⊥) → slot_row t types i w ≡ text "slot " ++ (decimal i ++ text " ") ++ show (ty_of t types w) ++ text "\n"
  unfolding slot_row line joined each_after
  slot_pieces n = rw (ne_eqb w 0 n, slot-word) (simp (append-nil, append_assoc))

-- ---- functions
module _ (t : Texts) (types f : List ℕ) where
  -- the arguments behind the first, each with a blank before it
  args-behind : (at k : ℕ) → each_after (text " ") (arg_rows t types f at k) ≡ gap (fields_from (ty_of t types) t f at k) ++ show_fields (fields_from (ty_of t types) t f at k)
  unfolding each_after arg_rows gap show_fields fields_from
  args-behind at zero = refl
  args-behind at (suc k) = rw (args-behind (at + 2) k) (simp append_assoc)

  -- the arguments as `Display` shows them
  args-shown : (at k : ℕ) → joined (text " ") (arg_rows t types f at k) ≡ show_fields (fields_from (ty_of t types) t f at k)
  unfolding joined arg_rows show_fields fields_from
  args-shown at zero = refl
  args-shown at (suc k) = rw (args-behind (at + 2) k) (simp append_assoc)

  pub fn_pieces :
      (name at k ret : ℕ) {n : List ℕ} → n ≡ name_bytes t name →
      fn_line t types f name at k ret
      ≡ text "fn " ++ n ++ text " (" ++ (show_fields (fields_from (ty_of t types) t f at k) ++ text ") -> ") ++ show (ty_of t types ret) ++ text "\n"
  unfolding fn_line line joined each_after
  fn_pieces name at k ret e = rw (args-shown at k, e, fn-word, open_word, arrow_word) (simp (append-nil, append_assoc))

  -- the entry at a place
  pub fn_row_lem : (at k : ℕ) → fn_row t types f at k ≡ fn_line t types f (get_or f at 0) (at + 2) k (get_or f (at + 2 + 2 * k) 0)
  unfolding fn_row fn_line
  fn_row_lem at k = refl

-- ---- diagnostics
pub diag_pieces :
    (code start len : ℕ) (message : List ℕ) →
    diag_line code start len message
    ≡ text "diag " ++ (decimal code ++ text " ") ++ (decimal start ++ text " ") ++ (decimal len ++ text " ") ++ message ++ text "\n"
unfolding diag_line line joined each_after
diag_pieces code start len message = rw diag_word (simp (append-nil, append_assoc))

-- ---- the others
pub end_pieces : (n : ℕ) → end_row n ≡ text "end " ++ decimal n ++ text "\n"
unfolding end_row line joined each_after
end_pieces n = rw end-word (simp (append-nil, append_assoc))

pub refused_pieces : (number place : ℕ) → refused_row number place ≡ text "refused " ++ (decimal number ++ text " ") ++ decimal place ++ text "\n"
unfolding refused_row line joined each_after
refused_pieces number place = rw refused-word (simp (append-nil, append_assoc))

pub input_pieces : input_row ≡ text "input\n"
unfolding input_row line joined each_after text
input_pieces = refl
