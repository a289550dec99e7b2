-- The tests of counts inside a record, as the code makes them: it divides what there is room for, and multiplies nothing that may not fit.
-- Assumes nothing.
use Prim.Native.Nat.{ℕ, zero, suc, ◌+◌, ◌*◌, ◌-◌, ◌/◌, ◌≤◌, ◌<◌}
use mathlib.Core.Bool.{true, false}
use mathlib.Core.Path.{◌≡◌, refl, sym, ◌∙◌}
use native.Mathlib.Omega.{arith}
use lib.Dec.{leb, ltb, eqb}
use borrow.Author.Tests.{ltb-true, leb-true, eqb-true, lt-ltb, lt-leb, le-leb, eq-eqb, le-ltb, ne_eqb}
use Rattle.std.proofs.Math.Decide.{dec_lt}
use Rattle.facts.specs.Tests.{same}
use Rattle.ast.specs.Outline.{Here}
use Rattle.ast.specs.NodeRecords.{good_arguments, good_extern_count, good_function_count}

-- ── Fn ──

module _ (h : Here) (n a : ℕ) (e : a ≡ h.left - 3) where
  pub arguments-over : a / 2 < n → false ≡ good_arguments h n
  unfolding good_arguments
  arguments-over g = rw (lt-leb (2 * n) (h.left - 3) (omega arith)) refl

  pub arguments-within : (b : ℕ) → b ≡ h.counts.slots - h.slot → n ≤ a / 2 → ltb n b ≡ good_arguments h n
  unfolding good_arguments
  arguments-within b f g =
      rw (le-leb (2 * n) (h.left - 3) (omega arith))
      (same (ltb n b) (ltb (h.slot + n) h.counts.slots) (λ p. let l : n < b = ltb-true n b p in lt-ltb (h.slot + n) h.counts.slots (omega arith))
      (λ p. let l : h.slot + n < h.counts.slots = ltb-true _ _ p in lt-ltb n b (omega arith)))

-- ── Extern ──

module _ (n room : ℕ) where
  pub function-over : (others : ℕ) → room / 2 < n → false ≡ good_extern_count others room n
  unfolding good_extern_count
  function-over zero g = sym (ne_eqb (2 * n) room (λ e. omega arith))
  function-over (suc others) g = sym (lt-leb (2 * n + 3 * suc others) room (omega arith))

  pub function-last : (others : ℕ) → n ≤ room / 2 → others ≡ 0 → eqb (room - 2 * n) 0 ≡ good_extern_count others room n
  unfolding good_extern_count
  function-last zero g z =
      same (eqb (room - 2 * n) 0) (eqb (2 * n) room) (λ p. let e : room - 2 * n ≡ 0 = eqb-true _ _ p in eq-eqb (2 * n) room (omega arith))
      (λ p. let e : 2 * n ≡ room = eqb-true _ _ p in eq-eqb (room - 2 * n) 0 (omega arith))
  function-last (suc others) g z = absurd (omega arith)

  pub function-within : (others : ℕ) → n ≤ room / 2 → (others ≡ 0 → ⊥) → leb others ((room - 2 * n) / 3) ≡ good_extern_count others room n
  unfolding good_extern_count
  function-within zero g z = absurd (z refl)
  function-within (suc others) g z =
      same (leb (suc others) ((room - 2 * n) / 3)) (leb (2 * n + 3 * suc others) room)
      (λ p. let l : suc others ≤ (room - 2 * n) / 3 = leb-true _ _ p in le-leb (2 * n + 3 * suc others) room (omega arith))
      (λ p. let l : 2 * n + 3 * suc others ≤ room = leb-true _ _ p in le-leb (suc others) ((room - 2 * n) / 3) (omega arith))

module _ (room count : ℕ) where
  pub functions-over : room / 3 < count → false ≡ good_function_count room count
  unfolding good_function_count
  functions-over g = rw (lt-leb (3 * count) room (omega arith)) refl

  pub functions-some : count ≤ room / 3 → 0 < count → true ≡ good_function_count room count
  unfolding good_function_count
  functions-some g l = rw (le-leb (3 * count) room (omega arith), lt-ltb 0 count l) refl

  pub functions-none : count ≤ room / 3 → count ≤ 0 → eqb room 0 ≡ good_function_count room count
  unfolding good_function_count
  functions-none g l = rw (le-leb (3 * count) room (omega arith), le-ltb 0 count l) refl

  pub functions-by : 0 < count → leb count (room / 3) ≡ good_function_count room count
  functions-by l = elim (dec_lt (room / 3) count) [
    | yes g ↦ lt-leb count (room / 3) g ∙ functions-over g
    | no g ↦ let within : count ≤ room / 3 = omega arith in le-leb count (room / 3) within ∙ functions-some within l
  ]
