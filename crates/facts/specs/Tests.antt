-- Facts on tests: what follows where a test is true, or false. Assumes nothing.
use Rattle.std.specs.Prelude.{ℕ, ◌≤◌, ◌<◌, ◌≡◌, refl, Bool, true, false, ◌&&◌, ◌||◌, leb}
use Rattle.std.proofs.Common.{sym, true≢false, arith, leb-true, leb-false}
use Rattle.std.proofs.lemmas.Bool.{false≢true}
use Rattle.std.proofs.Math.Option.{Option, none, some}

-- ---- two tests
pub both : (p q : Bool) → p && q ≡ true → (p ≡ true) × (q ≡ true)
both true q e = (refl, e)
both false q e = absurd (false≢true e)

pub neither : (p q : Bool) → p || q ≡ false → (p ≡ false) × (q ≡ false)
neither true q e = absurd (true≢false e)
neither false q e = (refl, e)

pub by-either : {P : Type 0} (p q : Bool) → p || q ≡ true → (p ≡ true → P) → (q ≡ true → P) → P
by-either true q e f g = f refl
by-either false q e f g = g e

-- the second, where the first is false
pub or_rest : (p q : Bool) → p ≡ false → p || q ≡ true → q ≡ true
or_rest true q e h = absurd (true≢false e)
or_rest false q e h = h

pub and-false : (p : Bool) → p && false ≡ false
and-false true = refl
and-false false = refl

-- two tests of which each implies the other
pub same : (p q : Bool) → (p ≡ true → q ≡ true) → (q ≡ true → p ≡ true) → p ≡ q
same true q f g = sym (f refl)
same false true f g = g refl
same false false f g = refl

-- ---- one test
pub by-test : {P : Type 0} (t : Bool) → (t ≡ true → P) → (t ≡ false → P) → P
by-test true f g = f refl
by-test false f g = g refl

-- a test that cannot be true is false
pub refuted : (t : Bool) → (t ≡ true → ⊥) → t ≡ false
refuted true f = absurd (f refl)
refuted false f = refl

-- ---- two numbers
pub by_order : {P : Type 0} (n k : ℕ) → (n ≤ k → P) → (k < n → P) → P
by_order n k f g = by-test (leb n k) (λ e. f (leb-true n k e)) (λ e. g (leb-false n k e))

-- ---- an answer, or none
pub no-some : {A : Type 0} {a : A} → ◌≡◌ {A = Option A} (some a) none → ⊥
no-some e = let z : ◌≡◌ {A = ℕ} 0 1 = cc in omega arith
