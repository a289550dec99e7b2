-- How a run ends, from the claims of its three theorems (Sound, Steps, Budget) to the words of the promise. Assumes nothing.
use Rattle.std.specs.Prelude.{ℕ, ◌≤◌}
use Rattle.std.proofs.Common.{arith, ◌∙◌}
use Rattle.std.proofs.Math.Path.{◌≡◌, refl, ap}
use Rattle.tok.specs.Step.{Result, ok, refused}
use Rattle.ptype.specs.Ty.{Ty}
use Rattle.runs.specs.Machine.{State, Stopped, Why, halted, spent, stuck}
use Rattle.runs.specs.Running.{begin}
use Rattle.runs.specs.Promise.{NotStuck, state_of, NeverStuck, ValuesFit, NotHalted, EndsWithin, more_left}
use Rattle.runs_laws.specs.Logic.{Runs, went, out}
use Rattle.runs_laws.specs.Budget.{Same}
use Rattle.runs_laws.specs.Budget as B
use Rattle.runs_laws.specs.Steps.{Costs}
use Rattle.runs_laws.specs.Steps as S

-- ── Sound ──

module _ {type : ℕ → Ty} {Q : State → ℕ → Type 0} where
  pub never_stuck_lem : {r : Result State Stopped ℕ} → Runs type Q r → NeverStuck r
  unfolding NeverStuck
  never_stuck_lem (went l q) = tt
  never_stuck_lem (out n l) = n

  pub values-fit : {r : Result State Stopped ℕ} → Runs type Q r → ValuesFit type (state_of r)
  unfolding state_of
  values-fit (went l q) = l
  values-fit (out n l) = l

-- a run that ends has run all
pub every-root : {type : ℕ → Ty} {n k : ℕ} {s : State} {r : Result State Stopped ℕ} → Runs type (λ u j. j ≡ n) r → r ≡ ok k s → k ≡ n
every-root {k = k} (went {a = a} l q) e = let z : a ≡ k = cc e in rw (← z) q
every-root (out {x = x} n l) e = absurd (let z : ◌≡◌ {A = ℕ} 1 0 = cc e in omega arith)

-- ── Steps ──

pub ends-within : {type : ℕ → Ty} {m roots : ℕ} {r : Result State Stopped ℕ} (budget n : ℕ) → n ≤ budget → m ≡ roots → Runs type (λ u j. j ≡ m) r → Costs n (begin budget) r
    → (state_of r).calls ≡ 0 → NotHalted r → EndsWithin n roots budget r
unfolding state_of NotHalted EndsWithin NotStuck
ends-within budget n l e (went f q) (S.ended {u = u} g c) z h = (q ∙ e, c z)
ends-within budget n l e (out s f) S.is_halted z h = absurd (h refl)
ends-within budget n l e (out s f) S.is_stuck z h = absurd s
ends-within budget n l e (out s f) (S.was_spent {u = u} g c) z h = absurd (let d = c z in omega arith)

-- ── Budget ──

-- endings told apart
number_of : Why → ℕ
number_of halted = 1
number_of spent = 2
number_of (stuck f) = 3

ending : Result State Stopped ℕ → ℕ
ending (ok k s) = 0
ending (refused x) = number_of x.why

module _ {j : ℕ} {b s : State} where
  pub ends-alike : {k : ℕ} {r r' : Result State Stopped ℕ} → Same j b r r' → r ≡ ok k s → r' ≡ ok k (more_left j s)
  unfolding state_of ending number_of
  ends-alike {k} (B.ended {a = a} {u = u} l) e = let z : a ≡ k = cc e in rw (z, ap state_of e) refl
  ends-alike B.is_halted e = absurd (let z : ◌≡◌ {A = ℕ} 1 0 = ap ending e in omega arith)
  ends-alike B.is_stuck e = absurd (let z : ◌≡◌ {A = ℕ} 3 0 = ap ending e in omega arith)
  ends-alike (B.was_spent l) e = absurd (let z : ◌≡◌ {A = ℕ} 2 0 = ap ending e in omega arith)

  pub halts-alike : {r r' : Result State Stopped ℕ} → Same j b r r' → r ≡ refused (record { why = halted; state = s })
      → r' ≡ refused (record { why = halted; state = more_left j s })
  unfolding state_of ending number_of
  halts-alike (B.ended l) e = absurd (let z : ◌≡◌ {A = ℕ} 0 1 = ap ending e in omega arith)
  halts-alike (B.is_halted {u = u}) e = let y : u ≡ s = ap state_of e in rw y refl
  halts-alike B.is_stuck e = absurd (let z : ◌≡◌ {A = ℕ} 3 1 = ap ending e in omega arith)
  halts-alike (B.was_spent l) e = absurd (let z : ◌≡◌ {A = ℕ} 2 1 = ap ending e in omega arith)

  pub none_left_lem : {r r' : Result State Stopped ℕ} → Same j b r r' → r ≡ refused (record { why = spent; state = s }) → s.left ≡ 0
  unfolding state_of ending number_of
  none_left_lem (B.ended l) e = absurd (let z : ◌≡◌ {A = ℕ} 0 2 = ap ending e in omega arith)
  none_left_lem B.is_halted e = absurd (let z : ◌≡◌ {A = ℕ} 1 2 = ap ending e in omega arith)
  none_left_lem B.is_stuck e = absurd (let z : ◌≡◌ {A = ℕ} 3 2 = ap ending e in omega arith)
  none_left_lem (B.was_spent {u = u} l) e = let y : u ≡ s = ap state_of e in rw (← y) l
