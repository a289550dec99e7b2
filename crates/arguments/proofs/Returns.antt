-- The steps of one argument, one law for each way out of the code. Assumes nothing.
use Rattle.std.specs.Prelude.{ℕ, ◌≡◌, Bool, true, false, List, Option, Ok, get_or}
use Rattle.std.proofs.Math.Path.{refl}
use Rattle.std.proofs.Common.{sym, ◌∙◌}
use Rattle.tok.specs.Text.{Texts, name_bytes}
use Rattle.tok.specs.Step.{when}
use Rattle.tok.specs.declared.Span.{Span}
use Rattle.ptype.specs.Ty.{Ty, same_ty}
use Rattle.ptype.specs.Words.{ty_of}
use Rattle.err.specs.declared.Counts.{Counts}
use Rattle.err.specs.Message.{arg_mismatch}
use Rattle.err.specs.Report.{Reports}
use Rattle.library.specs.Package.{param}
use Rattle.rules.specs.Steps.{Done, ty, tree}
use Rattle.rules.specs.Calls.{compared, plain_argument, argument}
use Rattle.state.specs.declared.Used.{Used}
use Rattle.state.specs.World.{Step, stepped, with_answer}
use Rattle.state.specs.Reporting.{told_of, reports_step, answers-steps}
use Rattle.arguments.specs.Argument.{given, unchecked, Compares, Leaves}

-- ── Comparing ──

module _ {texts : Texts} {n : ℕ} {call_name : List ℕ} {name : ℕ} {span : Span} {expected provided : Ty} {t d m : List ℕ} {u : Used} {q : Bool} (e : q ≡ same_ty expected provided) where
  pub alike : q ≡ true → Compares texts n call_name name span expected provided t d m u d m (Ok (tt, u))
  unfolding compared when stepped
  alike y = record { goes = λ library void s type slot. record { step = λ rest. rw (sym e ∙ y) refl } }

  pub differ : {d' m' : List ℕ} {reported : Option Counts} {r : Step Done} → q ≡ false → Reports (arg_mismatch span call_name (name_bytes texts name) expected provided) d m u.told d' m' reported
      → r ≡ told_of n u reported tt → Compares texts n call_name name span expected provided t d m u d' m' r
  unfolding compared when
  differ f p h = record { goes = λ library void s type slot. record { step = λ rest. rw (sym e ∙ f, h) ((reports_step n p).step rest) } }

-- ── An argument without slots ──

module _ {texts : Texts} (n : ℕ) (call_name : List ℕ) (name expected slot : ℕ) (span : Span) {s t d m : List ℕ} {u : Used}
    {w : ℕ} (ew : w ≡ get_or s slot 0) {q : Bool} (eq : (t' : Texts) → q ≡ unchecked t' t w) where
  pub plain-unchecked : q ≡ true → Leaves texts (λ c. argument c n call_name false (param name expected) (given slot span)) s t d m u d m (Ok (tt, u))
  unfolding argument ty tree when stepped with_answer
  plain-unchecked y = record { step = λ library void bs. record { step = λ rest. rw (← ew, sym (eq texts) ∙ y) refl } }

  pub plain-compared : {d' m' : List ℕ} {r : Step Done} → q ≡ false → Compares texts n call_name name span (ty_of texts t expected) (ty_of texts t w) t d m u d' m' r
      → Leaves texts (λ c. argument c n call_name false (param name expected) (given slot span)) s t d m u d' m' r
  unfolding argument plain_argument ty tree when
  plain-compared f p = record {
    step = λ library void bs. record { step = λ rest. rw (← ew, sym (eq texts) ∙ f) ((answers-steps bs (p.goes library void s expected slot)).step rest) };
  }
