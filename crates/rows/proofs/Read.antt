-- The rows whose words are read from buffers, from what was read. Assumes nothing.
use Prim.Native.Nat.{ℕ, ◌+◌, ◌*◌}
use mathlib.Core.Path.{◌≡◌, ◌∙◌}
use mathlib.Core.List.{List}
use lib.ListN.{get_or, take, drop}
use Rattle.tok.specs.Word.{payload_of}
use Rattle.tok.specs.Text.{Texts}
use Rattle.rules.specs.Rows.{fn_row}
use Rattle.rows.specs.Lines.{fn_line, diag_line, diag_row}
use Rattle.rows.specs.LinesLaws.{fn_row_lem}

-- the entry at a place: its place and its argument count widened, its name and its return type read
pub fn-read :
    (t : Texts) (types f : List ℕ) {at i name c k ret : ℕ} → i ≡ at → name ≡ get_or f i 0 → c ≡ get_or f (i + 1) 0 → k ≡ c → ret ≡ get_or f (i + 2 + 2 * k) 0 →
    fn_row t types f at (get_or f (at + 1) 0) ≡ fn_line t types f name (i + 2) k ret
fn-read t types f {at} {i} {name} {c} {k} {ret} ei en ec ek er =
    let n : get_or f (at + 1) 0 ≡ k = rw (ek, ec, ei) in
    fn_row_lem t types f at (get_or f (at + 1) 0) ∙ rw (n, er, en, ei)

-- diagnostic k, each word widened
pub diag_read :
    (d m : List ℕ) {k n a code b start c len e from g size : ℕ} {message : List ℕ} → n ≡ k →
    a ≡ get_or d (6 * n) 0 → code ≡ payload_of a → b ≡ get_or d (6 * n + 1) 0 → start ≡ b → c ≡ get_or d (6 * n + 2) 0 → len ≡ c →
    e ≡ get_or d (6 * n + 3) 0 → from ≡ e → g ≡ get_or d (6 * n + 4) 0 → size ≡ g → message ≡ take size (drop from m) →
    diag_row d m (6 * k) ≡ diag_line code start len message
unfolding diag_row
diag_read d m en ea ecode eb estart ec elen ee efrom eg esize em = rw (em, esize, eg, efrom, ee, elen, ec, estart, eb, ecode, ea, en)
