-- A fault that a test finds, or what comes after it. Assumes nothing.
use Rattle.std.specs.Prelude.{ℕ, Bool, true, false, ◌≡◌, refl}
use Rattle.std.proofs.Math.Option.{Option, some}

-- the same test, and the same where it does not hold
pub fault-same : (a b : Bool) (i : ℕ) (y z : Option ℕ) → a ≡ b → y ≡ z
    → ◌≡◌ {A = Option ℕ} (elim a as (λ _. Option ℕ) [ true ↦ some i | false ↦ y ]) (elim b as (λ _. Option ℕ) [ true ↦ some i | false ↦ z ])
fault-same true b i y z e f = rw (← e) refl
fault-same false b i y z e f = rw (← e) f
