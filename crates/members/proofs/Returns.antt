-- Each return of the functions, from what the callees answered. By rewriting. Assumes nothing.
use Prim.Native.Nat.{ℕ}
use mathlib.Core.Path.{◌≡◌, refl}
use mathlib.Core.Bool.{Bool}
use mathlib.Core.List.{List}
use Rattle.std.specs.Prelude.{Option, Ok, Err}
use Rattle.tok.specs.Text.{Texts}
use Rattle.tok.specs.declared.Span.{Span}
use Rattle.library.specs.Package.{Package}
use Rattle.err.specs.Message.{empty_array}
use Rattle.rules.specs.declared.Answer.{Answer}
use Rattle.rules.specs.Steps.{poison}
use Rattle.rules.specs.declared.Member.{Member}
use Rattle.rules.specs.Rules.{member, array_of}
use Rattle.state.specs.declared.Used.{Used}
use Rattle.state.specs.declared.Refusal.{Refusal}
use Rattle.state.specs.Context.{ctx}
use Rattle.state.specs.World.{More, Step, stepped, Steps}
use Rattle.visit.specs.declared.State.{State}
use Rattle.visit.specs.Whole.{Visit, lent, rest_of, visited}
use Rattle.visit.specs.Within.{goes, stops, Visits}
use Rattle.visit.specs.Plain.{with_used, visit_of, within-plain, steps-visits}
use Rattle.members.specs.Turns.{turn_of, member_turn}

-- ── No members, and all of them ──

pub empty-told : (n : ℕ) (st : State) {token x : ℕ} {d m d' m' : List ℕ} {r : Step Answer} {v : Visit Answer} → token ≡ x
    → ((s t : List ℕ) → Steps (poison n (empty_array token)) s t d m st.used s t d' m' r) → v ≡ visit_of st r
    → (words s f t e : List ℕ) (o : More) → Visits (poison n (empty_array x)) 0 0 words st (lent s f t d m e o) (lent s f t d' m' e o) v
empty-told n st et p ev words s f t e o = rw (← et, ev) (steps-visits (p s t) words f e o)

pub all-visited : (n : ℕ) (first : Answer) (poisoned : Bool) (st : State) {slot x : ℕ} {s t s' t' : List ℕ} {r : Step Answer} {v : Visit Answer} → slot ≡ x
    → ((T : Texts) (ls : List Package) (v : ℕ) (d m : List ℕ) → Steps (array_of (ctx T ls v) n slot first poisoned) s t d m st.used s' t' d m r) → v ≡ visit_of st r
    → (T : Texts) (ls : List Package) (v₀ : ℕ) (words f d m e : List ℕ) (o : More)
    → Visits (array_of (ctx T ls v₀) n x first poisoned) 0 0 words st (lent s f t d m e o) (lent s' f t' d m e o) v
all-visited n first poisoned st es p ev T ls v₀ words f d m e o = rw (← es, ev) (steps-visits (p T ls v₀ d m) words f e o)

-- ── A member ──

-- a turn's contract
abbrev Turned : (T : Texts) (n : ℕ) (first second : Answer) (poisoned : Bool) (st : State) (x : Span) (s t d m d' m' : List ℕ) → Visit (Option Bool) → Type 0
Turned T n first second poisoned st x s t d m d' m' v =
    (ls : List Package) (w : ℕ) (words f e : List ℕ) (o : More) → Visits (member_turn (ctx T ls w) n x first second poisoned) 0 0 words st (lent s f t d m e o) (lent s f t d' m' e o) v

module _ (T : Texts) (n : ℕ) (first second : Answer) (poisoned : Bool) (st : State) {span x : Span} {s t d m d' m' : List ℕ} {q : Step Member} (es : span ≡ x)
    (p : (ls : List Package) (v : ℕ) → Steps (member (ctx T ls v) n span first second) s t d m st.used s t d' m' q) where
  pub turned : {c : Member} {u : Used} {turn : Option Bool} → q ≡ Ok (c, u) → turn ≡ turn_of c poisoned → Turned T n first second poisoned st x s t d m d' m' (Ok (turn, with_used st u))
  unfolding member_turn stepped visited
  turned {c} {u} h k ls v words f e o = rw k (record {
    step = rw (← es, (p ls v).step (rest_of words st (lent s f t d m e o)), h) refl;
    keeps = goes (within-plain st u s t d m s t d' m' f e o);
  })

  pub turn-refused : {r : Refusal} → q ≡ Err r → Turned T n first second poisoned st x s t d m d' m' (Err r)
  unfolding member_turn stepped visited
  turn-refused h ls v words f e o = record {
    step = rw (← es, (p ls v).step (rest_of words st (lent s f t d m e o)), h) refl;
    keeps = stops;
  }
