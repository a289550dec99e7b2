-- Where a rule has come to: visiting what is left of it from here visits all of it from its beginning. One law for each way on, so that
-- a function's steps, and a loop's turns, are put together one by one. Assumes nothing.
use Rattle.std.specs.Prelude.{ℕ, ◌+◌, ◌≤◌, refl, List, Ok, Err}
use Rattle.std.proofs.Common.{arith}
use Rattle.tok.specs.Step.{◌>>=◌, return}
use Rattle.rules.specs.declared.Answer.{Answer}
use Rattle.rules.specs.World.{Walk}
use Rattle.state.specs.declared.Refusal.{Refusal}
use Rattle.visit.specs.declared.State.{State}
use Rattle.visit.specs.Whole.{Lent, Visit, visited}
use Rattle.visit.specs.Within.{within_same, goes, Visits}
use Rattle.visiting.specs.Then.{visits-stop, visits-then, visits-most}

-- all of a rule: its beginning
pub record Beginning : Type 0 where
  pub rule : Walk Answer
  pub room : ℕ
  pub rows : ℕ
  pub library : List ℕ
  pub st : State
  pub b : Lent

abbrev pub Whole : Beginning → (b' : Lent) → Visit Answer → Type 0
Whole o b' v = Visits o.rule o.room o.rows o.library o.st o.b b' v

-- what is left is `m`, from the state st and the buffers b on
pub record Leads (o : Beginning) (m : Walk Answer) (room rows : ℕ) (st : State) (b : Lent) : Type 0 where
  pub onto : (b' : Lent) (v : Visit Answer) → Visits m room rows o.library st b b' v → Whole o b' v

pub leads-begin : (o : Beginning) → Leads o o.rule o.room o.rows o.st o.b
leads-begin o = record { onto = λ b' v x. x }

-- no more room is left than was
pub leads-less : {o : Beginning} {m : Walk Answer} {r w r' w' : ℕ} {st : State} {b : Lent} → r' ≤ r → w' ≤ w → Leads o m r w st b → Leads o m r' w' st b
leads-less h k l = record { onto = λ b' v x. l.onto b' v (visits-most h k x) }

-- ── A visit comes next, or a step that only writes, or gives a word ──

module _ {A : Type 0} {o : Beginning} {m : Walk A} (f : A → Walk Answer) {r₁ w₁ : ℕ} {st : State} {b b₁ : Lent} where
  pub leads-then : {r₂ w₂ : ℕ} {a : A} {st₁ : State} → Leads o (◌>>=◌ m f) (r₁ + r₂) (w₁ + w₂) st b → Visits m r₁ w₁ o.library st b b₁ (Ok (a, st₁)) → Leads o (f a) r₂ w₂ st₁ b₁
  leads-then l x = record { onto = λ b' v y. l.onto b' v (visits-then f x y) }

  pub leads-stop : {r w : ℕ} {e : Refusal} → Leads o (◌>>=◌ m f) r w st b → Visits m r₁ w₁ o.library st b b₁ (Err e) → Whole o b₁ (Err e)
  leads-stop {r} {w} {e} l x = l.onto b₁ (Err e) (visits-stop f x r w)

-- ── The rule ends ──

returned : (library : List ℕ) (st : State) (b : Lent) (a : Answer) → Visits (return a) 0 0 library st b b (Ok (a, st))
unfolding visited
returned library st b a = record { step = refl; keeps = goes (within_same st b) }

pub leads-return : {o : Beginning} {r w : ℕ} {st : State} {b : Lent} (a : Answer) → Leads o (return a) r w st b → Whole o b (Ok (a, st))
leads-return {o} {r} {w} {st} {b} a l = l.onto b (Ok (a, st)) (visits-most (omega arith) (omega arith) (returned o.library st b a))
