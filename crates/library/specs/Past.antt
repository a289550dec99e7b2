-- Past the end of the list every word reads as 0, so that the code may hold a place to the list's end: what is decoded from there is the
-- same. By induction on how much is decoded. Assumes nothing.
use Prim.Native.Nat.{ℕ, zero, suc, ◌+◌, ◌*◌, ◌≤◌, min}
use Rattle.std.specs.Prelude.{◌≡◌, List, [], ◌∷◌, length, eqb}
use Rattle.std.proofs.Math.Path.{refl, sym, ap₂}
use Rattle.std.proofs.Common.{ap, ◌∙◌}
use native.Mathlib.Omega.{arith}
use Rattle.std.proofs.Math.Decide.{dec_le}
use Rattle.std.proofs.Math.ListN.{get_or, get_or-eq_default}
use Rattle.library.specs.Package.{signature, function, pkg, params_from, function_at, function_end, functions_from, functions_end, packages_from}
use Rattle.library.specs.PackagesRead.{package_end}

module _ (words : List ℕ) where
  past : (at : ℕ) → length words ≤ at → get_or words at 0 ≡ 0
  past at l = get_or-eq_default words 0 l

  -- places only rise
  pub functions_end-after : (k at : ℕ) → at ≤ functions_end words at k
  unfolding functions_end
  functions_end-after zero at = omega arith
  functions_end-after (suc k) at = omega (arith, functions_end-after k (function_end words at))

  -- what stands past the end
  function-past : (at : ℕ) → length words ≤ at → function_at words at ≡ function 0 (signature [] 0 (eqb 0 1))
  unfolding function_at params_from
  function-past at l =
      let z : get_or words (at + 2) 0 ≡ 0 = past (at + 2) (omega arith) in
      rw (z, past at l, past (at + 1) (omega arith), past (at + 3 + 2 * 0) (omega arith)) refl

  functions-past : (k a b : ℕ) → length words ≤ a → length words ≤ b → functions_from words a k ≡ functions_from words b k
  unfolding functions_from
  functions-past zero a b l m = refl
  functions-past (suc k) a b l m =
      ap₂ (λ f fs. f ∷ fs) (function-past a l ∙ sym (function-past b m)) (functions-past k (function_end words a) (function_end words b) (omega arith) (omega arith))

  packages-past : (k a b : ℕ) → length words ≤ a → length words ≤ b → packages_from words a k ≡ packages_from words b k
  unfolding packages_from
  packages-past zero a b l m = refl
  packages-past (suc k) a b l m =
      ap₂ (λ p ps. p ∷ ps)
      (ap₂ pkg (past a l ∙ sym (past b m)) (rw (past (a + 1) (omega arith), past (b + 1) (omega arith)) (functions-past 0 (a + 2) (b + 2) (omega arith) (omega arith))))
      (packages-past k (package_end words a) (package_end words b)
      (omega (arith, functions_end-after (get_or words (a + 1) 0) (a + 2))) (omega (arith, functions_end-after (get_or words (b + 1) 0) (b + 2))))

  -- ── A place held to the end ──

  pub functions-held : (k at : ℕ) → functions_from words (min at (length words)) k ≡ functions_from words at k
  functions-held k at = elim (dec_le at (length words)) [
    | yes l ↦
        let e : min at (length words) ≡ at = omega arith in
        ap (λ n. functions_from words n k) e
    | no l ↦ functions-past k (min at (length words)) at (omega arith) (omega arith)
  ]

  pub packages-held : (k at : ℕ) → packages_from words (min at (length words)) k ≡ packages_from words at k
  packages-held k at = elim (dec_le at (length words)) [
    | yes l ↦
        let e : min at (length words) ≡ at = omega arith in
        ap (λ n. packages_from words n k) e
    | no l ↦ packages-past k (min at (length words)) at (omega arith) (omega arith)
  ]

  pub functions_end-held : (k at : ℕ) → min (functions_end words (min at (length words)) k) (length words) ≡ min (functions_end words at k) (length words)
  functions_end-held k at = elim (dec_le at (length words)) [
    | yes l ↦
        let e : min at (length words) ≡ at = omega arith in
        ap (λ n. min (functions_end words n k) (length words)) e
    | no l ↦ omega (arith, functions_end-after k (min at (length words)), functions_end-after k at)
  ]
