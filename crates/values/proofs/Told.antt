-- What a rule comes to from where it stands: another step; a diagnostic, with an answer. By rewriting. Assumes nothing.
use Rattle.std.specs.Prelude.{ℕ, ◌≡◌, List, Option}
use Rattle.std.proofs.Common.{◌∙◌}
use Rattle.tok.specs.Step.{return, ◌>>◌}
use Rattle.err.specs.declared.Counts.{Counts}
use Rattle.err.specs.Message.{Diagnostic}
use Rattle.err.specs.Report.{Reports}
use Rattle.rules.specs.World.{Walk}
use Rattle.rules.specs.Steps.{Done, report}
use Rattle.state.specs.declared.Used.{Used}
use Rattle.state.specs.World.{Rest, world, Step, with_answer, Steps}
use Rattle.state.specs.Reporting.{told_of, told_with, reports, reports_step}

module _ {A : Type 0} {rule step : Walk A} {s t d m s' t' d' m' : List ℕ} {u : Used} {r : Step A} where
  pub same-steps : Steps step s t d m u s' t' d' m' r → ((rest : Rest) → rule (world rest s t d m u) ≡ step (world rest s t d m u)) → Steps rule s t d m u s' t' d' m' r
  same-steps p e = record { step = λ rest. e rest ∙ p.step rest }

module _ (n : ℕ) {dg : Diagnostic} {s t d m d' m' : List ℕ} {u : Used} {r : Option Counts} (p : Reports dg d m u.told d' m' r) where
  pub told-steps :
      {rule : Walk Done} {q : Step Done} → q ≡ told_of n u r tt →
      ((rest : Rest) → rule (world rest s t d m u) ≡ report n dg (world rest s t d m u)) → Steps rule s t d m u s t d' m' q
  told-steps h e = rw h (same-steps (reports_step n p) e)

  -- with an answer
  pub told-gives :
      {A : Type 0} (a : A) {rule : Walk A} {q : Step A} → q ≡ told_of n u r a →
      ((rest : Rest) → rule (world rest s t d m u) ≡ (report n dg >> return a) (world rest s t d m u)) →
      Steps rule s t d m u s t d' m' q
  told-gives a h e = rw h (same-steps (reports n p a) e)

  -- with what the answer stands for in the rules
  pub told-means :
      {A B : Type 0} (f : B → A) (a : B) {rule : Walk A} {q : Step B} → q ≡ told_of n u r a →
      ((rest : Rest) → rule (world rest s t d m u) ≡ (report n dg >> return (f a)) (world rest s t d m u)) →
      Steps rule s t d m u s t d' m' (with_answer f q)
  told-means f a h e = rw (h, told_with n u r f a) (same-steps (reports n p (f a)) e)
