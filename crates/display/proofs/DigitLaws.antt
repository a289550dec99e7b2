-- The digits of a number, by the branches of `put_digits`. Assumes nothing.
use Prim.Native.Nat.{ℕ, zero, suc, ◌+◌, ◌-◌, ◌/◌, ◌%◌, ◌≤◌, ◌<◌}
use mathlib.Core.Path.{◌≡◌, refl}
use mathlib.Core.List.{[], ◌∷◌, ◌++◌}
use native.Mathlib.Numerals.{sub-one}
use borrow.Author.Tests.{lt-ltb, le-ltb}
use Rattle.ptype.specs.Show.{digits}

pub digits-none : {most : ℕ} (n : ℕ) → most ≡ 0 → digits most n ≡ []
unfolding digits
digits-none n e = rw e

pub digits-one : (most n : ℕ) → (most ≡ 0 → ⊥) → n < 10 → digits most n ≡ (48 + n) ∷ []
unfolding digits
digits-one zero n h p = absurd (h refl)
digits-one (suc k) n h p = rw (lt-ltb n 10 p, digits)

pub digits_more : (most n : ℕ) → (most ≡ 0 → ⊥) → 10 ≤ n → digits most n ≡ digits (most - 1) (n / 10) ++ ((48 + n % 10) ∷ [])
unfolding digits
digits_more zero n h p = absurd (h refl)
digits_more (suc k) n h p = rw (le-ltb n 10 p, digits, sub-one)

pub ruleset by_digit = (digits-none, digits-one, digits_more)
