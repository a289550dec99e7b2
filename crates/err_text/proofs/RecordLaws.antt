-- The record of a diagnostic by the branches that write it. Assumes nothing.
use Rattle.std.specs.Prelude.{Option, Some, None, Ok, Err, ⊤}
use Rattle.std.specs.Prelude.{Result as Answered}
use Prim.Native.Nat.{ℕ, ◌+◌, ◌*◌, ◌-◌, ◌≤◌}
use mathlib.Core.Path.{◌≡◌, refl, sym, ap}
use mathlib.Core.Bool.{Bool, true, false, not, true≢false}
use mathlib.Core.List.{List, [], ◌∷◌, ◌++◌}
use native.Mathlib.Omega.{arith}
use lib.ListN.{length, take, drop, length-drop}
use borrow.Author.Tests.{not-true, not-false}
use Rattle.tok.specs.Word.{word_of}
use Rattle.tok.specs.declared.Span.{Span}
use Rattle.ptype.specs.Add.{overwrite, write}
use Rattle.display.specs.declared.Full.{Full}
use Rattle.err.specs.declared.Counts.{Counts}
use Rattle.err.specs.Report.{as_word, fits, placed, placed_answer}
use Rattle.std.specs.Result.{is_err}

-- ---- the words that are copied
over-front : (o s : List ℕ) → length s ≤ length o → s ++ drop (length s) o ≡ overwrite o s
unfolding overwrite
over-front [] [] h = refl
over-front (x ∷ o) [] h = refl
over-front [] (y ∷ s) h = absurd (omega arith)
over-front (x ∷ o) (y ∷ s) h = ap (λ l. y ∷ l) (over-front o s (omega arith))

pub copied : (ds : List ℕ) (at : ℕ) {s l : List ℕ} → l ≡ s → at + length s ≤ length ds → take at ds ++ (l ++ drop (at + length s - at) (drop at ds)) ≡ write ds at s
unfolding write
copied ds at {s} e h =
    let d = length-drop at ds in
    let m : at + length s - at ≡ length s = omega arith in
    rw (e, m, over-front (drop at ds) s (omega arith))

-- ---- report
abbrev Placed : (ds : List ℕ) → Counts → (code : ℕ) → Span → (texts : Answered ⊤ Full) → (m end : ℕ) → (ds' : List ℕ) → Option Counts → Type 0
Placed ds c code span texts m end ds' r =
    (ds' ≡ placed ds c code span texts (c.bytes + m) (c.bytes + end)) × (r ≡ placed_answer ds c texts (c.bytes + m) (c.bytes + end))

module _ (ds : List ℕ) (c : Counts) (code : ℕ) (span : Span) (m end : ℕ) where
  pub no-text : (texts : Answered ⊤ Full) → is_err texts ≡ true → Placed ds c code span texts m end ds None
  unfolding placed placed_answer
  no-text (Ok x) e = absurd (true≢false (sym e))
  no-text (Err x) e = (refl, refl)

  pub not-placed : (texts : Answered ⊤ Full) {t : Bool} → is_err texts ≡ false → t ≡ fits ds c (c.bytes + m) (c.bytes + end) → not t ≡ true → Placed ds c code span texts m end ds None
  unfolding placed placed_answer
  not-placed (Ok x) {t} e f h = (rw (← f, not-true t h), rw (← f, not-true t h))
  not-placed (Err x) {t} e f h = absurd (true≢false e)

  pub is-placed :
      (texts : Answered ⊤ Full) {t : Bool} {w₁ w₂ : ℕ} {ds' : List ℕ} → is_err texts ≡ false → t ≡ fits ds c (c.bytes + m) (c.bytes + end) → not t ≡ false →
      w₁ ≡ as_word span.start → w₂ ≡ as_word span.len →
      ds' ≡ write ds (6 * c.diagnostics) ((word_of 13 0 + code) ∷ w₁ ∷ w₂ ∷ c.bytes ∷ m ∷ (end - m) ∷ []) →
      Placed ds c code span texts m end ds' (Some (record { diagnostics = c.diagnostics + 1; bytes = c.bytes + end }))
  unfolding placed placed_answer
  is-placed (Ok u) {t} e f h x y z =
      let a : (c.bytes + m) - c.bytes ≡ m = omega arith in
      let b : (c.bytes + end) - (c.bytes + m) ≡ end - m = omega arith in
      (rw (← f, not-false t h, z, x, y, a, b), rw (← f, not-false t h))
  is-placed (Err u) {t} e f h x y z = absurd (true≢false e)
