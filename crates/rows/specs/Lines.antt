-- The rows one by one (document 01, "Bench rows"): what `rules/specs/Rows.antt` and `bench_rows/specs/Bench.antt` print in each place. Definitions.
use Rattle.std.specs.Prelude.{ℕ, ◌+◌, cond, List, [], ◌∷◌, ◌++◌, get_or, take, drop, eqb}
use Rattle.tok.specs.Word.{payload_of}
use Rattle.tok.specs.Text.{Texts, text, name_bytes}
use Rattle.ptype.specs.Show.{decimal}
use Rattle.display.specs.Joined.{joined}
use Rattle.rules.specs.Rows.{line, shown_in, arg_rows}

-- slot i, whose word is w: no row where it has no type
unfoldable pub slot_row : Texts → (types : List ℕ) → (i w : ℕ) → List ℕ
slot_row texts types i w = cond (eqb w 0) [] (line (text "slot" ∷ decimal i ∷ shown_in texts types w ∷ []))

-- a function's row: its name's word, its k arguments from a place on, its return type's word
unfoldable pub fn_line : Texts → (types functions : List ℕ) → (name at k ret : ℕ) → List ℕ
fn_line texts types functions name at k ret =
    line
    (text "fn" ∷ name_bytes texts name ∷ (text "(" ++ joined (text " ") (arg_rows texts types functions at k) ++ text ")")
    ∷ text "->" ∷ shown_in texts types ret ∷ [])

-- a diagnostic's row
unfoldable pub diag_line : (code start len : ℕ) → (message : List ℕ) → List ℕ
diag_line code start len message = line (text "diag" ∷ decimal code ∷ decimal start ∷ decimal len ∷ message ∷ [])

-- that of the diagnostic whose six words begin at a place
unfoldable pub diag_row : (diagnostics messages : List ℕ) → (at : ℕ) → List ℕ
diag_row d messages at =
    diag_line (payload_of (get_or d at 0)) (get_or d (at + 1) 0) (get_or d (at + 2) 0) (take (get_or d (at + 4) 0) (drop (get_or d (at + 3) 0) messages))

unfoldable pub end_row : (diagnostics : ℕ) → List ℕ
end_row n = line (text "end" ∷ decimal n ∷ [])

unfoldable pub refused_row : (number place : ℕ) → List ℕ
refused_row number place = line (text "refused" ∷ decimal number ∷ decimal place ∷ [])

unfoldable pub input_row : List ℕ
input_row = line (text "input" ∷ [])
