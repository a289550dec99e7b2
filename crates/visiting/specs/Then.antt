-- A visit and what comes after it. Laws. Assumes nothing.
use Rattle.std.specs.Prelude.{ℕ, ◌+◌, ◌≤◌, ◌≡◌, refl, List, Ok, Err}
use Rattle.std.specs.Result.{IsErrAnd}
use Rattle.std.proofs.Common.{ap, ◌∙◌}
use Rattle.state.specs.Reporting.{passed}
use Rattle.tok.specs.Step.{next, ◌>>=◌}
use Rattle.rules.specs.declared.Answer.{Answer}
use Rattle.rules.specs.declared.Answer.TheVariants.{Known, Poison}
use Rattle.rules.specs.World.{Walk}
use Rattle.rules.specs.Steps.{known}
use Rattle.state.specs.declared.Refusal.{Refusal}
use Rattle.visit.specs.declared.State.{State}
use Rattle.visit.specs.Whole.{Lent, Visit, visited}
use Rattle.visit.specs.Within.{Within, within_same, within-then, within-most, Keeps, goes, stops, Visits}

-- ── One after the other ──

-- where it went on, it kept within its room
pub kept : {A : Type 0} {a : A} {r w : ℕ} {st st' : State} {b b' : Lent} → Keeps {A = A} r w st b b' (Ok (a, st')) → Within r w st b st' b'
kept (goes p) = p

keeps_then : {B : Type 0} {r₁ r₂ w₁ w₂ : ℕ} {st st₁ : State} {b b₁ b₂ : Lent} {v : Visit B}
    → Within r₁ w₁ st b st₁ b₁ → Keeps r₂ w₂ st₁ b₁ b₂ v → Keeps (r₁ + r₂) (w₁ + w₂) st b b₂ v
keeps_then p (goes q) = goes (within-then p q)
keeps_then p stops = stops

module _ {A B : Type 0} {m : Walk A} (f : A → Walk B) {r₁ w₁ : ℕ} {library : List ℕ} {st : State} {b b₁ : Lent} where
  -- a refusal ends all
  pub visits-stop : {e : Refusal} → Visits m r₁ w₁ library st b b₁ (Err e) → (r w : ℕ) → Visits (◌>>=◌ m f) r w library st b b₁ (Err e)
  unfolding visited
  visits-stop x r w = record { step = ap (λ e. next e f) x.step; keeps = stops }

  -- else the rest goes on from where it came to
  pub visits-then : {a : A} {st₁ : State} → Visits m r₁ w₁ library st b b₁ (Ok (a, st₁))
      → {r₂ w₂ : ℕ} {b₂ : Lent} {v : Visit B} → Visits (f a) r₂ w₂ library st₁ b₁ b₂ v → Visits (◌>>=◌ m f) (r₁ + r₂) (w₁ + w₂) library st b b₂ v
  unfolding visited
  visits-then x y = record { step = ap (λ e. next e f) x.step ∙ y.step; keeps = keeps_then (kept x.keeps) y.keeps }

-- a rule that goes on with a Known answer's slot, and ends poisoned without one
pub visits-known : (f : ℕ → Walk Answer) {slot r w : ℕ} {library : List ℕ} {st : State} {b b' : Lent} {a : Answer} {v : Visit Answer} → a ≡ Known slot
    → Visits (f slot) r w library st b b' v → Visits (known a f) r w library st b b' v
unfolding known
visits-known f e y = rw e y

pub visits-poison : (f : ℕ → Walk Answer) (library : List ℕ) (st : State) (b : Lent) {a : Answer} → a ≡ Poison → Visits (known a f) 0 0 library st b b (Ok (Poison, st))
unfolding known visited
visits-poison f library st b e = rw e (record { step = refl; keeps = goes (within_same st b) })

-- a refusal is passed on as it is
pub passed_on : {A : Type 0} {m : Walk A} {r w : ℕ} {library : List ℕ} {st : State} {b b' : Lent} {v : Visit A} {e : Refusal} → IsErrAnd v (λ x. x ≡ e)
    → Visits m r w library st b b' (Err e) → Visits m r w library st b b' v
passed_on {v = v} h x = rw (passed v h) x

-- no more room than was asked for
keeps-most : {A : Type 0} {r w r' w' : ℕ} {st : State} {b b' : Lent} {v : Visit A} → r ≤ r' → w ≤ w' → Keeps r w st b b' v → Keeps r' w' st b b' v
keeps-most h k (goes p) = goes (within-most p h k)
keeps-most h k stops = stops

pub visits-most : {A : Type 0} {m : Walk A} {r w r' w' : ℕ} {library : List ℕ} {st : State} {b b' : Lent} {v : Visit A} → r ≤ r' → w ≤ w' → Visits m r w library st b b' v
    → Visits m r' w' library st b b' v
visits-most h k x = record { step = x.step; keeps = keeps-most h k x.keeps }
