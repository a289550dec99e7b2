-- What the visits of the roots gave, a refusal of the walk as its number and place. By cases. Assumes nothing.
use Rattle.std.specs.Prelude.{ℕ, ◌≡◌, refl, List, Ok, Err, MatchResult, IsErrAnd}
use Rattle.std.proofs.Common.{ap, arith}
use Rattle.tok.specs.Step.{next}
use Rattle.refusals.specs.Inputs.{Inputs, Buffers}
use Rattle.rules.specs.declared.Answer.{Answer}
use Rattle.rules.specs.Steps.{skip}
use Rattle.state.specs.declared.Refusal.{Refusal}
use Rattle.state.specs.declared.Refusal.TheVariants.{TypesFull, TooDeep, ReportsFull}
use Rattle.state.specs.Refused.{refusal_of}
use Rattle.visit.specs.Whole.{Lent, Visit, visited}
use Rattle.ending.specs.declared.Refused.{Refused}
use Rattle.ending.specs.Ended.{RootsAnswered, within_of, answered_of, over_of, WalkEnds}

-- a refusal of the walk has a number
pub within-numbered : (e : Refusal) → (within_of e).number ≡ 0 → ⊥
unfolding refusal_of
within-numbered (TypesFull n) p = omega (arith, p)
within-numbered (TooDeep n) p = omega (arith, p)
within-numbered (ReportsFull n) p = omega (arith, p)

-- how the walk ends is what the visits came to
pub over-answered : (library : List ℕ) (b : Lent) (r : Visit Answer) → next (visited library b r) (λ _. skip) ≡ over_of library b (answered_of r)
unfolding visited refusal_of
over-answered library b (Ok r) = refl
over-answered library b (Err (TypesFull n)) = refl
over-answered library b (Err (TooDeep n)) = refl
over-answered library b (Err (ReportsFull n)) = refl

-- the same as `map_err` makes it
module _ {post : Refusal → Refused → Type 0} (makes : (e : Refusal) (x : Refused) → post e x → x ≡ within_of e) where
  answered-is : (r : Visit Answer) (m : RootsAnswered) → MatchResult r (λ a. m ≡ Ok a) (λ e. IsErrAnd m (post e)) → m ≡ answered_of r
  answered-is (Ok r) m h = h
  answered-is (Err e) (Err x) h = ap Err (makes e x h)
  answered-is (Err e) (Ok r) h = absurd h

  pub made-ends : {i : Inputs} {b : Buffers} {b' : Lent} (r : Visit Answer) {m : RootsAnswered} → MatchResult r (λ a. m ≡ Ok a) (λ e. IsErrAnd m (post e))
      → WalkEnds i b b' (answered_of r) → WalkEnds i b b' m
  made-ends r {m} h w = rw (answered-is r m h) w
