-- The end of a Match, one law for each return. Assumes nothing.
use Rattle.std.specs.Prelude.{ℕ, ◌≡◌, List, Ok, Err}
use Rattle.std.specs.Result.{IsErrAnd}
use Rattle.tok.specs.Text.{Texts}
use Rattle.library.specs.Package.{Package}
use Rattle.rules.specs.declared.Answer.{Answer}
use Rattle.rules.specs.declared.Answer.TheVariants.{Known, Poison}
use Rattle.rules.specs.Steps.{Done}
use Rattle.rules.specs.Rules.{Branch, compare_branches, matched}
use Rattle.values.specs.Answers.{alias, matched-known}
use Rattle.state.specs.declared.Used.{Used}
use Rattle.state.specs.declared.Refusal.{Refusal}
use Rattle.state.specs.Context.{ctx}
use Rattle.state.specs.World.{More, Step, Steps}
use Rattle.state.specs.Reporting.{on-ok, refused-steps}
use Rattle.visit.specs.declared.State.{State}
use Rattle.visit.specs.Whole.{lent, Visit}
use Rattle.visit.specs.Within.{Visits}
use Rattle.visit.specs.Plain.{visit_of, steps-visits}
use Rattle.visiting.specs.Then.{visits-poison, passed_on}

module _ (T : Texts) (n own : ℕ) (bs : List Branch) (st : State) (s t d m : List ℕ) {default : Answer} where
  pub end-poisoned : default ≡ Poison → (ls : List Package) (v : ℕ) (words f e : List ℕ) (o : More)
      → Visits (matched (ctx T ls v) n own bs default) 0 0 words st (lent s f t d m e o) (lent s f t d m e o) (Ok (Poison, st))
  unfolding matched
  end-poisoned q ls v words f e o = visits-poison _ words st (lent s f t d m e o) q

  module _ {slot : ℕ} (q : default ≡ Known slot) {d' m' : List ℕ} {r : Step Done}
      (g : (ls : List Package) (v : ℕ) → Steps (compare_branches (ctx T ls v) n slot bs) s t d m st.used s t d' m' r) where
    pub end-stops : {x : Refusal} {y : Visit Answer} → r ≡ Err x → IsErrAnd y (λ z. z ≡ x)
        → (ls : List Package) (v : ℕ) (words f e : List ℕ) (o : More) → Visits (matched (ctx T ls v) n own bs default) 0 0 words st (lent s f t d m e o) (lent s f t d' m' e o) y
    unfolding visit_of
    end-stops {x} er k ls v words f e o = passed_on k (steps-visits {r = Err x} steps words f e o)
      where
        compared : Steps (compare_branches (ctx T ls v) n slot bs) s t d m st.used s t d' m' (Err x)
        compared = rw (← er) (g ls v)

        steps : Steps (matched (ctx T ls v) n own bs default) s t d m st.used s t d' m' (Err x)
        steps = rw (q, matched-known (ctx T ls v) n own bs slot) (refused-steps (λ _. alias own slot) compared)

    pub end-compared : {after : Used} {w : ℕ} {s' : List ℕ} {x : Step Answer} {y : Visit Answer} → r ≡ Ok (tt, after) → w ≡ own
        → ((t d m : List ℕ) → Steps (alias w slot) s t d m after s' t d m x) → y ≡ visit_of st x
        → (ls : List Package) (v : ℕ) (words f e : List ℕ) (o : More) → Visits (matched (ctx T ls v) n own bs default) 0 0 words st (lent s f t d m e o) (lent s' f t d' m' e o) y
    end-compared {w = w} {s' = s'} {x = x} er ew a ey ls v words f e o = rw ey (steps-visits steps words f e o)
      where
        steps : Steps (matched (ctx T ls v) n own bs default) s t d m st.used s' t d' m' x
        steps = rw (q, ← ew, matched-known (ctx T ls v) n w bs slot) (on-ok (λ _. alias w slot) (g ls v) er (a t d' m'))
