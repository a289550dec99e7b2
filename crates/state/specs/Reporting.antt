-- From a writer of a diagnostic (`Reports`) to the rules' step `report`, and steps one after the other. By cases. Assumes nothing.
use Rattle.std.specs.Prelude.{ℕ, ◌≡◌, List, Option, Some, None, Result as Answered, Ok, Err}
use Rattle.std.proofs.Math.Path.{refl}
use Rattle.std.proofs.Common.{ap, ◌∙◌}
use Rattle.std.proofs.lemmas.Result.{err_from_is_err_and}
use Rattle.std.specs.Result.{IsErrAnd}
use Rattle.tok.specs.Step.{Result, ok, refused, Refusal as Refused, next, return, ◌>>=◌, ◌>>◌}
use Rattle.err.specs.declared.Counts.{Counts}
use Rattle.err.specs.Message.{Diagnostic}
use Rattle.err.specs.Report.{ended, Reports}
use Rattle.rules.specs.declared.Answer.TheVariants.{Poison}
use Rattle.rules.specs.World.{World, Walk}
use Rattle.rules.specs.Steps.{Done, raised_told, report, poison}
use Rattle.state.specs.declared.Used.{Used}
use Rattle.state.specs.declared.Refusal.{Refusal}
use Rattle.state.specs.declared.Refusal.TheVariants.{ReportsFull}
use Rattle.state.specs.Refused.{refusal_of}
use Rattle.state.specs.World.{Rest, world, Step, stepped, with_answer, Steps}

-- what a step of node n gives after a diagnostic: an answer, with what is used then; or refusal 9
unfoldable pub told_of : {A : Type 0} → (n : ℕ) → Used → Option Counts → A → Step A
told_of n u (Some c) a = Ok (a, record { types = u.types; told = c; kept = u.kept })
told_of n u None a = Err (ReportsFull n)

-- a diagnostic written is the rules' `report`
raised : {A : Type 0} (n : ℕ) (rest : Rest) (s t ds ms ds' ms' : List ℕ) (u : Used) (a : A) (r : Option Counts)
    → next (raised_told (world rest s t ds ms u) (ended n ds' ms' r)) (λ _. return a) ≡ stepped rest s t ds' ms' (told_of n u r a)
unfolding raised_told ended stepped told_of refusal_of
raised n rest s t ds ms ds' ms' u a (Some c) = refl
raised n rest s t ds ms ds' ms' u a None = refl

-- what an answer stands for is answered in its place
pub told_with : {A B : Type 0} (n : ℕ) (u : Used) (r : Option Counts) (f : A → B) (a : A) → with_answer f (told_of n u r a) ≡ told_of n u r (f a)
unfolding told_of with_answer
told_with n u (Some c) f a = refl
told_with n u None f a = refl

alone : (r : Result World Refused Done) → r ≡ next r (λ _. return tt)
alone (ok tt w) = refl
alone (refused e) = refl

module _ (n : ℕ) {d : Diagnostic} {s t ds ms ds' ms' : List ℕ} {u : Used} {r : Option Counts} (p : Reports d ds ms u.told ds' ms' r) where
  -- and then an answer
  pub reports : {A : Type 0} (a : A) → Steps (report n d >> return a) s t ds ms u s t ds' ms' (told_of n u r a)
  unfolding report
  reports a = record { step = λ rest. rw (p.step n) (raised n rest s t ds ms ds' ms' u a r) }

  -- the step alone
  pub reports_step : Steps (report n d) s t ds ms u s t ds' ms' (told_of n u r tt)
  reports_step = record { step = λ rest. alone (report n d (world rest s t ds ms u)) ∙ (reports tt).step rest }

  -- and `poison`, which ends the rule
  pub poisons-step : Steps (poison n d) s t ds ms u s t ds' ms' (told_of n u r Poison)
  unfolding poison
  poisons-step = reports Poison

-- ---- a step, and what comes after it
module _ {A B : Type 0} {m : Walk A} {s t d b : List ℕ} {u : Used} {s₁ t₁ d₁ b₁ : List ℕ} where
  -- it went on: the rest takes its answer, its buffers and what is used
  pub on-steps : (f : A → Walk B) {a : A} {u₁ : Used} {s₂ t₂ d₂ b₂ : List ℕ} {r : Step B}
      → Steps m s t d b u s₁ t₁ d₁ b₁ (Ok (a, u₁)) → Steps (f a) s₁ t₁ d₁ b₁ u₁ s₂ t₂ d₂ b₂ r
      → Steps (◌>>=◌ m f) s t d b u s₂ t₂ d₂ b₂ r
  unfolding stepped
  on-steps f p q = record { step = λ rest. rw (p.step rest) (q.step rest) }

  -- it was refused: nothing comes after it
  pub refused-steps : (f : A → Walk B) {e : Refusal} {s₂ t₂ d₂ b₂ : List ℕ}
      → Steps m s t d b u s₁ t₁ d₁ b₁ (Err e) → Steps (◌>>=◌ m f) s t d b u s₂ t₂ d₂ b₂ (Err e)
  unfolding stepped
  refused-steps f p = record { step = λ rest. rw (p.step rest) }

  -- an answer of the rules follows it
  pub answers-steps : (a : B) {r : Step A} → Steps m s t d b u s₁ t₁ d₁ b₁ r → Steps (m >> return a) s t d b u s₁ t₁ d₁ b₁ (with_answer (λ _. a) r)
  unfolding stepped with_answer
  answers-steps a {r} p = record { step = λ rest. rw (p.step rest) (by rest r) }
    where
      by : (rest : Rest) (r : Step A) → next (stepped rest s₁ t₁ d₁ b₁ r) (λ _. return a) ≡ stepped rest s₁ t₁ d₁ b₁ (with_answer (λ _. a) r)
      by rest (Ok (x, v)) = refl
      by rest (Err e) = refl

-- ---- the same at a `?`, by what it tests
-- a refusal is passed on as it is
pub passed : {T : Type 0} (q : Answered T Refusal) {e : Refusal} → IsErrAnd q (λ y. y ≡ e) → q ≡ Err e
passed q h =
    let (_, is, same) = err_from_is_err_and q h in
    is ∙ ap Err same

module _ {A B : Type 0} {m : Walk A} {s t d b : List ℕ} {u : Used} {s₁ t₁ d₁ b₁ : List ℕ} {r : Step A}
    (f : A → Walk B) (p : Steps m s t d b u s₁ t₁ d₁ b₁ r) where
  pub on-ok : {a : A} {u₁ : Used} {s₂ t₂ d₂ b₂ : List ℕ} {q : Step B}
      → r ≡ Ok (a, u₁) → Steps (f a) s₁ t₁ d₁ b₁ u₁ s₂ t₂ d₂ b₂ q → Steps (◌>>=◌ m f) s t d b u s₂ t₂ d₂ b₂ q
  on-ok {a} {u₁} h k = on-steps f {a = a} {u₁ = u₁} (rw (← h) p) k

  pub on-err : {e : Refusal} {q : Step B} → r ≡ Err e → IsErrAnd q (λ y. y ≡ e) → Steps (◌>>=◌ m f) s t d b u s₁ t₁ d₁ b₁ q
  on-err {e} {q} h k =
      let refused : Steps m s t d b u s₁ t₁ d₁ b₁ (Err e) = rw (← h) p in
      rw (passed q k) (refused-steps f refused)

  -- so it is where the answer stands for one of the rules
  pub on-err-with : {C : Type 0} (g : C → B) (x : Step C) {e : Refusal} → r ≡ Err e → IsErrAnd x (λ y. y ≡ e)
      → Steps (◌>>=◌ m f) s t d b u s₁ t₁ d₁ b₁ (with_answer g x)
  unfolding with_answer
  on-err-with g x {e} h k =
      let refused : Steps m s t d b u s₁ t₁ d₁ b₁ (Err e) = rw (← h) p in
      rw (passed x k) (refused-steps f refused)
