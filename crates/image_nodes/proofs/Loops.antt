-- The lists that hold lists, a Match's cases and an Extern's functions, as a loop reads them: one with its own list, then those that are left.
-- Assumes nothing.
use Prim.Native.Nat.{ℕ, zero, suc, ◌+◌, ◌*◌, ◌-◌, ◌≤◌, ◌<◌}
use mathlib.Core.Path.{◌≡◌, refl}
use mathlib.Core.List.{◌∷◌, ◌++◌}
use native.Mathlib.Nat.{not-suc-le-zero}
use native.Mathlib.Omega.{arith}
use lib.Dec.{leb}
use Rattle.tok.specs.Step.{◌>>=◌, return}
use Rattle.tok.specs.Reader.{word, many}
use Rattle.ast.specs.Outline.{Here, token, name, part, parts, type_part, typed_name}
use Rattle.ast.specs.NodeRecords.{cases, good_extern_count, extern_functions}
use Rattle.image_laws.proofs.RecordLaws.{pair_rule}
use Rattle.image_words.specs.LeadLaws.{leads}

-- one case, and those that are left
pub cases_some : (h : Here) (k room : ℕ) → 0 < k → cases h k room ≡ (do
  _ ← token h.counts
  condition ← part h
  n ← word (λ m. leb (m + 3 * (k - 1) + 1) (room - 3))
  body ← parts h n
  others ← cases h (k - 1) (room - 3 - n)
  return (condition ∷ body ++ others))
unfolding cases
cases_some h zero room g = absurd (not-suc-le-zero g)
cases_some h (suc k) room g = let d : suc k - 1 ≡ k = omega arith in rw d refl

-- the default
pub cases_default : (h : Here) (k room : ℕ) → k ≤ 0 → cases h k room ≡ (do
  _ ← token h.counts
  parts h (room - 1))
unfolding cases
cases_default h zero room g = refl
cases_default h (suc k) room g = absurd (not-suc-le-zero g)

-- one function, and those that are left
pub functions_some : (h : Here) (k room : ℕ) → 0 < k → extern_functions h k room ≡ (do
  _ ← name h.counts
  _ ← type_part h.counts
  n ← word (good_extern_count (k - 1) (room - 3))
  _ ← many n (pair_rule h.counts.text h.counts.types)
  extern_functions h (k - 1) (room - 3 - 2 * n))
unfolding extern_functions typed_name
functions_some h zero room g = absurd (not-suc-le-zero g)
functions_some h (suc k) room g = let d : suc k - 1 ≡ k = omega arith in rw d refl

pub functions_none : (h : Here) (k room : ℕ) → k ≤ 0 → extern_functions h k room ≡ return tt
unfolding extern_functions
functions_none h zero room g = refl
functions_none h (suc k) room g = absurd (not-suc-le-zero g)

-- what the two loops go by
pub ruleset cases_ways = (cases_some, cases_default, leads)

pub ruleset functions_ways = (functions_some, functions_none, leads)
