-- A plain step, which neither reads nor changes names in scope, packages held and own functions, as a step of the walk. By cases. Assumes
-- nothing.
use Rattle.std.specs.Prelude.{ℕ, ◌≡◌, List, Ok, Err}
use Rattle.std.proofs.Math.Path.{refl}
use Rattle.std.proofs.Common.{◌∙◌, arith}
use Rattle.rules.specs.World.{Walk}
use Rattle.state.specs.declared.Used.{Used}
use Rattle.state.specs.World.{More, Step, stepped, Steps}
use Rattle.visit.specs.declared.State.{State}
use Rattle.visit.specs.Whole.{Visit, lent, rest_of, visited}
use Rattle.visit.specs.Within.{Within, within_same, within-from, Keeps, goes, stops, Visits}
pub use Rattle.visit.specs.Within.{with_used}

-- what a plain step gives is what the walk gives, with the rest of the state as it was
unfoldable pub visit_of : {A : Type 0} → State → Step A → Visit A
visit_of st (Ok (a, u)) = Ok (a, with_used st u)
visit_of st (Err e) = Err e

-- nothing is taken
pub within-plain : (st : State) (u : Used) (s t d m s' t' d' m' f e : List ℕ) (o : More) → Within 0 0 st (lent s f t d m e o) (with_used st u) (lent s' f t' d' m' e o)
within-plain st u s t d m s' t' d' m' f e o = within-from {u = st.used} (within_same (with_used st u) (lent s' f t' d' m' e o)) (omega arith) (omega arith)

module _ {A : Type 0} (st : State) (s t d m s' t' d' m' f e : List ℕ) (o : More) where
  keeps-plain : (r : Step A) → Keeps 0 0 st (lent s f t d m e o) (lent s' f t' d' m' e o) (visit_of st r)
  unfolding visit_of
  keeps-plain (Ok (a, u)) = goes (within-plain st u s t d m s' t' d' m' f e o)
  keeps-plain (Err x) = stops

  visited-plain : (library : List ℕ) (r : Step A) → stepped (rest_of library st (lent s f t d m e o)) s' t' d' m' r ≡ visited library (lent s' f t' d' m' e o) (visit_of st r)
  unfolding visit_of stepped visited
  visited-plain library (Ok (a, u)) = refl
  visited-plain library (Err x) = refl

pub steps-visits : {A : Type 0} {rule : Walk A} {st : State} {s t d m s' t' d' m' : List ℕ} {r : Step A} → Steps rule s t d m st.used s' t' d' m' r
    → (library f e : List ℕ) (o : More) → Visits rule 0 0 library st (lent s f t d m e o) (lent s' f t' d' m' e o) (visit_of st r)
steps-visits {st = st} {s} {t} {d} {m} {s'} {t'} {d'} {m'} {r} p library f e o = record {
  step = p.step (rest_of library st (lent s f t d m e o)) ∙ visited-plain st s t d m s' t' d' m' f e o library r;
  keeps = keeps-plain st s t d m s' t' d' m' f e o r;
}
