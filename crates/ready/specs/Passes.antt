-- A step of the walk that came to an end: what it took, and what the run's claim gives of the world after it. With that, what a visit asks
-- for holds again. Assumes nothing.
use Rattle.std.specs.Prelude.{ℕ, ◌+◌, ◌≤◌, ◌≡◌, refl, List, Ok}
use Rattle.std.proofs.Common.{arith}
use Rattle.tok.specs.Text.{Texts}
use Rattle.tok.specs.Step.{ok}
use Rattle.rules.specs.declared.Answer.{Answer}
use Rattle.rules.specs.World.{World, Walk}
use Rattle.tworuns.specs.Means.{grown-trans}
use Rattle.onerun.specs.Claim.{Good, AnswerOk}
use Rattle.onerun.specs.Grows.{typed_grow}
use Rattle.onerun.specs.Logic.{Silent, After, Gives, gives, answer-later}
use Rattle.state.specs.declared.Used.{Used}
use Rattle.state.specs.World.{More, stepped, Steps}
use Rattle.visit.specs.declared.State.{State}
use Rattle.visit.specs.Whole.{Lent, lent, rest_of, whole, visited}
use Rattle.visit.specs.Within.{Within, within-then, within-most, Visits}
use Rattle.visit.specs.Plain.{with_used, within-plain}
use Rattle.visit.specs.Free.{free-less, free-then, rows_then}
use Rattle.visiting.specs.Then.{kept}
use Rattle.ready.specs.Ready.{walk_run, Ready}

-- From state st and buffers b to st₁ and b₁ with answer a, by at most r words of scratch and w words of the functions buffer.
pub record Passes (T : Texts) (image words : List ℕ) {A : Type 0} (Q : World → A → Type 0) (r w : ℕ) (st : State) (b : Lent) (st₁ : State) (b₁ : Lent) (a : A) : Type 0 where
  pub within : Within r w st b st₁ b₁
  pub after : After (walk_run T image words) Q (whole words st b) (whole words st₁ b₁) a

-- diagnostics may be raised
pub quiet : (T : Texts) (image words : List ℕ) {s : World} → Silent (walk_run T image words) s
quiet T image words = record { none = λ q. absurd q }

-- ── What a visit asks for ──

pub ready-less : {T : Texts} {image places words : List ℕ} {r w r' w' : ℕ} {st : State} {b : Lent} → r' ≤ r → w' ≤ w → Ready T image places words r w st b → Ready T image places words r' w' st b
ready-less h k y = record { given = y.given; holds = y.holds; free = free-less y.free h; rows = record { after = omega (arith, y.rows.after) }; long = y.long }

module _ {T : Texts} {image words : List ℕ} {A : Type 0} {Q : World → A → Type 0} {st st₁ : State} {b b₁ : Lent} {a : A} where
  -- THE LAW: it holds again, with the room that is left
  pub ready-then : {places : List ℕ} {r₁ r₂ w₁ w₂ : ℕ} → Ready T image places words (r₁ + r₂) (w₁ + w₂) st b → Passes T image words Q r₁ w₁ st b st₁ b₁ a → Ready T image places words r₂ w₂ st₁ b₁
  ready-then y p = record { given = y.given; holds = p.after.holds; free = free-then y.free p.within; rows = rows_then y.rows p.within; long = omega (arith, y.long, p.within.scratch) }

  -- the same where room is counted in another way
  pub ready-rest : {places : List ℕ} {r w r₁ w₁ : ℕ} (r₂ w₂ : ℕ) → r₁ + r₂ ≤ r → w₁ + w₂ ≤ w → Ready T image places words r w st b → Passes T image words Q r₁ w₁ st b st₁ b₁ a
      → Ready T image places words r₂ w₂ st₁ b₁
  ready-rest r₂ w₂ h k y p = ready-then (ready-less h k y) p

  -- and after a step that takes none
  pub ready-step : {places : List ℕ} {r w : ℕ} → Ready T image places words r w st b → Passes T image words Q 0 0 st b st₁ b₁ a → Ready T image places words r w st₁ b₁
  ready-step {r = r} {w = w} y p = ready-rest r w (omega arith) (omega arith) y p

  -- what was known of an answer or of a type's word before it
  module _ {r w : ℕ} (p : Passes T image words Q r w st b st₁ b₁ a) where
    pub passes_answer : {x : Answer} → AnswerOk (walk_run T image words) (whole words st b) x → AnswerOk (walk_run T image words) (whole words st₁ b₁) x
    passes_answer h = answer-later (walk_run T image words) p.after h

    pub passes_type : {x : ℕ} → Good (walk_run T image words) (whole words st b).types x → Good (walk_run T image words) (whole words st₁ b₁).types x
    passes_type h = typed_grow (walk_run T image words) p.after.grown h

    pub passes_most : {r' w' : ℕ} → r ≤ r' → w ≤ w' → Passes T image words Q r' w' st b st₁ b₁ a
    passes_most h k = record { within = within-most p.within h k; after = p.after }

    -- one after the other
    pub passes_then : {B : Type 0} {P : World → B → Type 0} {r₂ w₂ : ℕ} {st₂ : State} {b₂ : Lent} {x : B} → Passes T image words P r₂ w₂ st₁ b₁ st₂ b₂ x
        → Passes T image words P (r + r₂) (w + w₂) st b st₂ b₂ x
    passes_then q = record {
      within = within-then p.within q.within;
      after = record {
        grown = grown-trans p.after.grown q.after.grown;
        recorded = λ slot h. q.after.recorded slot (p.after.recorded slot h);
        holds = q.after.holds;
        value = q.after.value;
      };
    }

-- ── From a function's contract, and what the run claims of the rule ──

module _ {T : Texts} {image words : List ℕ} {A : Type 0} {Q : World → A → Type 0} {st st₁ : State} {b b₁ : Lent} {a : A} {r w : ℕ} where
  -- a rule that ended well
  ended_passes : Within r w st b st₁ b₁ → Gives (walk_run T image words) Q (whole words st b) (ok a (whole words st₁ b₁)) → Passes T image words Q r w st b st₁ b₁ a
  ended_passes k (gives t p) = record { within = k; after = p (quiet T image words) }

  pub rule_passes : (m : Walk A) → Gives (walk_run T image words) Q (whole words st b) (m (whole words st b)) → m (whole words st b) ≡ ok a (whole words st₁ b₁) → Within r w st b st₁ b₁
      → Passes T image words Q r w st b st₁ b₁ a
  rule_passes m g e k = ended_passes k (rw e at g)

-- a visit, or another step of the walk
pub visit_passes : {T : Texts} {image words : List ℕ} {A : Type 0} {Q : World → A → Type 0} {m : Walk A} {r w : ℕ} {st st₁ : State} {b b₁ : Lent} {a : A}
    → Visits m r w words st b b₁ (Ok (a, st₁)) → Gives (walk_run T image words) Q (whole words st b) (m (whole words st b)) → Passes T image words Q r w st b st₁ b₁ a
unfolding visited
visit_passes {m = m} x g = rule_passes m g x.step (kept x.keeps)
