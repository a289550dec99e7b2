-- Bench rows (document 01, "Bench rows") of what the check ended in, as bytes. Definitions.
use Rattle.std.specs.Prelude.{ℕ, zero, suc, ◌+◌, ◌*◌, true, false, cond, List, [], ◌∷◌, ◌++◌, get_or, take, drop, eqb, ltb}
use Rattle.tok.specs.Word.{payload_of}
use Rattle.tok.specs.Text.{Texts, text, name_bytes}
use Rattle.ptype.specs.Words.{ty_of}
use Rattle.ptype.specs.Show.{show, decimal}
use Rattle.display.specs.Joined.{joined}
use Rattle.ast.specs.Image.{slot_count}
use Rattle.refusals.specs.Inputs.{Inputs, texts_in}
use Rattle.rules.specs.Check.{Ended}

-- "one blank between parts"
unfoldable pub line : List (List ℕ) → List ℕ
line parts = joined (text " ") parts ++ text "\n"

-- `Display` of the type of a word, through the types buffer
abbrev pub shown_in : Texts → (types : List ℕ) → (word : ℕ) → List ℕ
shown_in texts types w = show (ty_of texts types w)

-- "`slot` lines (number, `Display` of the type) for slots that have a type, by number": the words of slots i and on
unfoldable pub slot_rows : Texts → (types : List ℕ) → (i : ℕ) → List ℕ → List ℕ
slot_rows texts types i [] = []
slot_rows texts types i (w ∷ ws) =
    cond (eqb w 0) [] (line (text "slot" ∷ decimal i ∷ shown_in texts types w ∷ [])) ++ slot_rows texts types (i + 1) ws

-- impl Display for FunctionType: "{name}: {t}" of each argument; k pairs from word `at` of the functions buffer on
unfoldable pub arg_rows : Texts → (types functions : List ℕ) → (at k : ℕ) → List (List ℕ)
arg_rows texts types functions at zero = []
arg_rows texts types functions at (suc k) =
    (name_bytes texts (get_or functions at 0) ++ text ": " ++ shown_in texts types (get_or functions (at + 1) 0)) ∷ arg_rows texts types functions (at + 2) k

-- "`fn` lines with name and `Display` of the signature": the entry at word `at`, of k arguments, a blank between them
unfoldable pub fn_row : Texts → (types functions : List ℕ) → (at k : ℕ) → List ℕ
fn_row texts types functions at k =
    line
    (text "fn" ∷ name_bytes texts (get_or functions at 0)
    ∷ (text "(" ++ joined (text " ") (arg_rows texts types functions (at + 2) k) ++ text ")")
    ∷ text "->" ∷ shown_in texts types (get_or functions (at + 2 + 2 * k) 0) ∷ [])

-- the entries from word `at` to the used part's end; an entry has three words at least, so that `most` of them are enough
unfoldable pub fn_rows : Texts → (types functions : List ℕ) → (used most at : ℕ) → List ℕ
fn_rows texts types functions used zero at = []
fn_rows texts types functions used (suc m) at =
    elim (ltb at used) [
      | true ↦
          fn_row texts types functions at (get_or functions (at + 1) 0)
          ++ fn_rows texts types functions used m (at + 3 + 2 * get_or functions (at + 1) 0)
      | false ↦ []
    ]

-- "`diag` lines (code, start, length, message)": k diagnostics from word `at` on
unfoldable pub diag_rows : (diagnostics messages : List ℕ) → (at k : ℕ) → List ℕ
diag_rows diagnostics messages at zero = []
diag_rows diagnostics messages at (suc k) =
    line
    (text "diag" ∷ decimal (payload_of (get_or diagnostics at 0)) ∷ decimal (get_or diagnostics (at + 1) 0) ∷ decimal (get_or diagnostics (at + 2) 0)
    ∷ take (get_or diagnostics (at + 4) 0) (drop (get_or diagnostics (at + 3) 0) messages) ∷ [])
    ++ diag_rows diagnostics messages (at + 6) k

-- "and `end` with the diagnostic count"
unfoldable pub answer_rows : Texts → (slots : ℕ) → Ended → List ℕ
answer_rows texts v e =
    slot_rows texts e.after.types 0 (take (v + 1) e.after.slots)
    ++ fn_rows texts e.after.types e.after.functions e.function_words e.function_words 0
    ++ diag_rows e.after.diagnostics e.after.messages 0 e.diagnostics
    ++ line (text "end" ∷ decimal e.diagnostics ∷ [])

-- "A refusal prints the single line `refused` with number and place"
unfoldable pub rows_of : Inputs → Ended → List ℕ
rows_of i e =
    elim (eqb e.number 0) [
      | true ↦ answer_rows (texts_in i) (slot_count i.image) e
      | false ↦ line (text "refused" ∷ decimal e.number ∷ decimal e.place ∷ [])
    ]
