-- The rows of a functions buffer that holds entries of functions, in the order in which they were met: well formed where the functions'
-- names and types are. By induction on the entries. Assumes nothing.
use Prim.Native.Nat.{ℕ, zero, suc, ◌+◌, ◌*◌, ◌≤◌, ◌<◌}
use Rattle.std.proofs.Common.{append_assoc, append-nil, lt-ltb, le-ltb}
use native.Mathlib.Omega.{arith}
use Rattle.std.specs.Prelude.{◌≡◌, List, [], ◌∷◌, ◌++◌, get_or}
use Rattle.std.proofs.Math.Path.{refl}
use Rattle.std.proofs.Math.ListN.{length, length-append}
use Rattle.utf8.specs.Rfc3629.{Octets, none}
use Rattle.utf8.proofs.Laws.{ascii_octets, octets_of, ◌then◌}
use Rattle.tok.specs.Text.{Texts, text, name_bytes}
use Rattle.ptype.specs.Words.{ty_of}
use Rattle.ptype.specs.Show.{show}
use Rattle.ptype.specs.Add.{write}
use Rattle.display.specs.WellFormedLaws.{show_octets, Each, no_piece, piece, joined_octets}
use Rattle.library.specs.Package.{Param, Function}
use Rattle.rules.specs.Steps.{pairs_of, entry_of}
use Rattle.rules.specs.Rows.{line, arg_rows, fn_row, fn_rows}
use Rattle.tworuns.specs.Entries.{words_of}
use Rattle.tworuns.specs.Written.{get_d_written}
use Rattle.tworuns.specs.Signatures.{Stands, stands-head, stands-second, stands-rest, stands-front, stands-back, entry, length_pairs, length-entry, count-read}
use Rattle.onerun.specs.Claim.{All, end, and}
use Rattle.rows_laws.specs.FnRows.{ParamWell, FunctionWell}

-- "one blank between parts"
pub line_octets : {ps : List (List ℕ)} → Each ps → Octets (line ps)
unfolding line text
line_octets ps = joined_octets (ascii_octets (text " ") refl) ps then ascii_octets (text "\n") refl

-- ── Entries ──

module _ (t : Texts) (types : List ℕ) where
  -- words that are entries of such functions, one after the other
  data Entries : List ℕ → Type 0 where
    no_entry : Entries []
    one_more : {f : Function} {rest : List ℕ} → (FunctionWell t types) f → Entries rest → Entries (entry f ++ rest)

  entries_join : {a b : List ℕ} → Entries a → Entries b → Entries (a ++ b)
  entries_join no_entry k = k
  entries_join {b = b} (one_more {f = f} {rest = rest} h hs) k = rw (append_assoc (entry f) rest b) (one_more h (entries_join hs k))

  one_entry : (f : Function) → (FunctionWell t types) f → Entries (entry f)
  one_entry f h = rw (append-nil (entry f)) at (one_more {f = f} h no_entry)

  own-entries : {fs : List Function} → All (FunctionWell t types) fs → Entries (words_of fs)
  unfolding words_of
  own-entries end = no_entry
  own-entries (and {a = f} h hs) = entries_join (own-entries hs) (one_entry f h)

  -- ── Rows ──

  module _ (words : List ℕ) where
    arg_octets : (p : Param) → (ParamWell t types) p → {name word : ℕ} → name ≡ p.name → word ≡ p.type
        → Octets (name_bytes t name ++ text ": " ++ show (ty_of t types word))
    unfolding text
    arg_octets p h e f =
        rw (e, f) (octets_of (name_bytes t p.name) h.name then ascii_octets (text ": ") refl then show_octets (ty_of t types p.type) h.type)

    args_octets : {ps : List Param} → All (ParamWell t types) ps → (at : ℕ) → Stands words at (pairs_of ps) → Each (arg_rows t types words at (length ps))
    unfolding arg_rows pairs_of
    args_octets end at s = no_piece
    args_octets (and {a = p} h hs) at s = piece (arg_octets p h (stands-head s) (stands-second s)) (args_octets hs (at + 2) (stands-rest s))

    row_octets : (f : Function) → (FunctionWell t types) f → (at : ℕ) → Stands words at (entry f) → Octets (fn_row t types words at (length f.sig.params))
    unfolding fn_row entry_of text
    row_octets f h at s =
        let ps = f.sig.params in
        let head = stands-front (f.name ∷ length ps ∷ pairs_of ps) (f.sig.ret ∷ []) s in
        let last = stands-back (f.name ∷ length ps ∷ pairs_of ps) (f.sig.ret ∷ []) s in
        let place : at + 2 + 2 * length ps ≡ at + length (f.name ∷ length ps ∷ pairs_of ps) = omega (arith, length_pairs ps) in
        rw (stands-head head, place, stands-head last)
        (line_octets
        (piece (ascii_octets (text "fn") refl)
        (piece (octets_of (name_bytes t f.name) h.name)
        (piece (ascii_octets (text "(") refl then joined_octets (ascii_octets (text " ") refl) (args_octets h.params (at + 2) (stands-rest head)) then ascii_octets (text ")") refl)
        (piece (ascii_octets (text "->") refl)
        (piece (show_octets (ty_of t types f.sig.ret) h.ret) no_piece))))))

    no_row : (used m at : ℕ) → used ≤ at → fn_rows t types words used (suc m) at ≡ []
    unfolding fn_rows
    no_row used m at l = rw (le-ltb at used l, fn_rows)

    one-row : (used m at : ℕ) → at < used
        → fn_rows t types words used (suc m) at ≡ fn_row t types words at (get_or words (at + 1) 0) ++ fn_rows t types words used m (at + 3 + 2 * get_or words (at + 1) 0)
    unfolding fn_rows
    one-row used m at l = rw (lt-ltb at used l, fn_rows)

    rows_octets : {ws : List ℕ} → Entries ws → (used m at : ℕ) → Stands words at ws → used ≡ at + length ws → length ws ≤ m → Octets (fn_rows t types words used m at)
    unfolding fn_rows
    rows_octets no_entry used zero at s e l = none
    rows_octets no_entry used (suc m) at s e l = rw (no_row used m at (omega arith)) none
    rows_octets (one_more {f = f} {rest = rest} h hs) used zero at s e l = absurd (omega (arith, length-append (entry f) rest, length-entry f))
    rows_octets (one_more {f = f} {rest = rest} h hs) used (suc m) at s e l =
        let n = length-entry f in
        let k = length-append (entry f) rest in
        let this = stands-front (entry f) rest s in
        let place : at + length (entry f) ≡ at + 3 + 2 * length f.sig.params = omega arith in
        let next : Stands words (at + 3 + 2 * length f.sig.params) rest = rw place at (stands-back (entry f) rest s) in
        rw (one-row used m at (omega arith), count-read f at this)
        (row_octets f h at this then rows_octets hs used m (at + 3 + 2 * length f.sig.params) next (omega arith) (omega arith))

  -- the rows of a functions buffer after a walk: its words are the entries of the own functions
  pub own_octets : (before : List ℕ) {own : List Function} → All (FunctionWell t types) own → length (words_of own) ≤ length before
      → Octets (fn_rows t types (write before 0 (words_of own)) (length (words_of own)) (length (words_of own)) 0)
  own_octets before {own} h fits =
      rows_octets (write before 0 (words_of own)) (own-entries h) (length (words_of own)) (length (words_of own)) 0
      (record { each = λ i k. get_d_written before 0 (words_of own) (omega arith) i k }) (omega arith) (omega arith)
