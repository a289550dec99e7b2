-- The turns of the loop over words, and its end. Assumes nothing.
use Prim.Native.Nat.{ℕ, ◌+◌, ◌-◌, ◌*◌, ◌≤◌, min}
use mathlib.Core.Path.{◌≡◌, sym, ◌∙◌}
use mathlib.Core.List.{List, [], ◌∷◌}
use native.Mathlib.Nat.{zero-add}
use native.Mathlib.Omega.{arith}
use lib.ListN.{length, set}
use Rattle.std.proofs.Math.Decide.{ℕ_discrete}
use Rattle.ptype.specs.Add.{overwrite, write}
use Rattle.display.specs.WriteLaws.{write_nil, write-append, write-stop, write-one}
use Rattle.bench_rows.specs.Bench.{word_in, words_in}
use Rattle.rows_input.specs.WordsLaws.{length-words, words-split}

module _ (o bytes : List ℕ) (at : ℕ) where
  pub words-none : o ≡ overwrite o (words_in bytes at 0)
  unfolding write words_in
  words-none = sym (write_nil o 0)

  pub words-turn : {out : List ℕ} (i : ℕ) {v : ℕ} → out ≡ overwrite o (words_in bytes at i) → v ≡ word_in bytes (at + 4 * i) → set out i v ≡ overwrite o (words_in bytes at (i + 1))
  unfolding write words_in
  words-turn {out} i {v} e f =
      let n : 0 + length (words_in bytes at i) ≡ i = zero-add _ ∙ length-words bytes at i in
      rw (words-split bytes at i 1, e, f)
      (sym (write-append o 0 (words_in bytes at i) (word_in bytes (at + 4 * i) ∷ []) ∙ rw n (write-one (overwrite o (words_in bytes at i)) i (word_in bytes (at + 4 * i)))))

  stop : {out : List ℕ} (i k : ℕ) → out ≡ overwrite o (words_in bytes at i) → length o ≤ i → i ≤ k → out ≡ overwrite o (words_in bytes at k)
  unfolding write
  stop {out} i k e h l =
      let n : k ≡ i + (k - i) = omega arith in
      e ∙ write-stop o 0 (words_in bytes at i) (words_in bytes (at + 4 * i) (k - i)) (omega (arith, length-words bytes at i)) ∙ rw (← words-split bytes at i (k - i), ← n)

  -- the first i are all of k words, or all that have room
  pub words-done : {out : List ℕ} (i k : ℕ) → out ≡ overwrite o (words_in bytes at i) → i ≤ k → min k (length o) ≤ i → out ≡ overwrite o (words_in bytes at k)
  words-done {out} i k e l m = elim (ℕ_discrete i k) [
    | yes q ↦ rw q at e
    | no d ↦ stop i k e (omega (arith, d)) l
  ]
