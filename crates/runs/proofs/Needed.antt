-- Each hypothesis of S-11 is needed: for each a script that meets the others, with packages that are honest, and whose run is stuck. And a
-- script that meets all of them. antt computes check and run. Assumes nothing.
use Prim.Native.Nat.{ℕ}
use native.Mathlib.Omega.{arith}
use mathlib.Core.Path.{◌≡◌, refl}
use mathlib.Core.Bool.{Bool, true, false}
use mathlib.Core.Option.{Option, none, some}
use mathlib.Core.List.{List, [], ◌∷◌}
use lib.Dec.{eqb}
use Rattle.tok.specs.Text.{text}
use Rattle.ptype.specs.Ty.{plain}
use Rattle.refusals.specs.Inputs.{Inputs}
use Rattle.ast.specs.Node.{roots_of}
use Rattle.rules.specs.Check.{Ended}
use Rattle.rules.specs.Promises.{AnsweredClean}
use Rattle.rules.specs.Run.{check_run}
use Rattle.runs.specs.Value.{Value, Fits, is_int, end, none_left, int, str}
use Rattle.runs.specs.Declared.{Sig, Target, external}
use Rattle.runs.specs.Machine.{Open}
use Rattle.runs.specs.Stands.{root, AllStand}
use Rattle.runs.specs.Promise.{table_of, Answers, halts, answers, HonestAt, Honest}
use Rattle.runs.specs.Run.{script_run}
use Rattle.runs.proofs.Scripts.{lent, redeclared, group, diagnostic, let_in_condition, fn_operand, answered, answering, numbers, fault_number, stop_number, declaration, targets}

answer_of : Inputs → Ended
answer_of i = check_run i lent

ran : Inputs → Open → (budget : ℕ) → List ℕ
ran i o budget = numbers (script_run i (answer_of i) o budget)

-- Packages that only halt. To halt is honest, whatever is declared: so there is no script whose packages cannot be honest.
halting : Open
halting = answering (λ _. none)

halting_honest : (i : Inputs) (e : Ended) → Honest i e halting
unfolding Honest HonestAt halting answering
halting_honest i e k slot origin position sig given q f g vs v = halts

-- ── "a script has no diagnostic" ──
-- x: the others hold, and the run meets an unbound name.
diagnostic-stands : AllStand (roots_of diagnostic.image) root
unfolding diagnostic script_run
diagnostic-stands = (tt, tt)

diagnostic-stuck : ran diagnostic halting 9 ≡ 3 ∷ 8 ∷ 0 ∷ 0 ∷ []
unfolding ran answer_of lent diagnostic halting answering numbers stop_number fault_number script_run
diagnostic-stuck = refl

-- ── "a let stands only as a root or a body's own statement" ──
let_passes : AnsweredClean (answer_of let_in_condition)
unfolding answer_of lent let_in_condition script_run
let_passes = record { answered = refl; clean = refl }

let_misplaced : AllStand (roots_of let_in_condition.image) root → ⊥
unfolding let_in_condition script_run
let_misplaced h = h.0.0.2.0.0.0

let_stuck : ran let_in_condition halting 9 ≡ 3 ∷ 5 ∷ 0 ∷ 3 ∷ []
unfolding ran answer_of lent let_in_condition halting answering numbers stop_number fault_number script_run
let_stuck = refl

-- ── "an Fn only as a root" ──
fn_passes : AnsweredClean (answer_of fn_operand)
unfolding answer_of lent fn_operand script_run
fn_passes = record { answered = refl; clean = refl }

fn-misplaced : AllStand (roots_of fn_operand.image) root → ⊥
unfolding fn_operand script_run
fn-misplaced h = h.0.1.0

fn-stuck : ran fn_operand halting 9 ≡ 9 ∷ 7 ∷ 0 ∷ 1 ∷ []
unfolding ran answer_of lent fn_operand halting answering numbers stop_number fault_number script_run
fn-stuck = refl

-- ── "each package function .. gives one of its return type or halts the run" ──
-- p.g() is declared to give an Int, and gives a Str
lying : Open
lying = answering (λ _. some (str (text "x")))

answered_passes : AnsweredClean (answer_of answered)
unfolding answer_of lent answered script_run
answered_passes = record { answered = refl; clean = refl }

answered-stands : AllStand (roots_of answered.image) root
unfolding answered script_run
answered-stands = (tt, ((tt, tt), tt))

lying-stuck : ran answered lying 9 ≡ 7 ∷ 5 ∷ 0 ∷ 3 ∷ []
unfolding ran answer_of lent answered lying answering numbers stop_number fault_number script_run
lying-stuck = refl

-- and that is what `Honest` shuts out
lying_dishonest : Honest answered (answer_of answered) lying → ⊥
unfolding answer_of lent answered lying answering script_run
lying_dishonest h = no-int (h 0 3 0 0 _ _ refl (λ _. none) refl end none_left)
  where
    misfits : Fits (str (text "x")) (plain 3) → ⊥
    misfits = elim [ ]

    no-int : Answers (plain 3) (some (str (text "x"))) → ⊥
    no-int (answers f) = misfits f

-- ── All of them ──
-- p.g() gives an Int: the run ends, five nodes entered and four values given
truthful : Open
truthful = answering (λ _. some (int 1))

declared : Sig
declared = record { params = []; ret = plain 3 }

truthful_honest : Honest answered (answer_of answered) truthful
unfolding answer_of lent answered truthful answering script_run declared
truthful_honest k slot origin position sig given e = by (eqb slot 3) e
  where
    none-some : {x : Target} → ◌≡◌ {A = Option Target} none (some x) → ⊥
    none-some e = let z : ◌≡◌ {A = ℕ} 0 1 = cc e in omega arith

    by : (t : Bool) → elim t [ true ↦ some (external 0 0 declared []) | false ↦ none ] ≡ some (external origin position sig given) → HonestAt sig given (λ vs. some (int 1))
    by true e = λ f q vs v. let z : declared ≡ sig = cc e in rw (← z) (answers is_int)
    by false e = absurd (none-some e)

truthful-ends : ran answered truthful 9 ≡ 0 ∷ 5 ∷ 0 ∷ 4 ∷ []
unfolding ran answer_of lent answered truthful answering numbers stop_number fault_number script_run
truthful-ends = refl

-- ── Declarations ──
-- "fixed by the declarations in force when the call was visited": f's call of p.g is the library's, for which no argument is right, though the
-- Extern's is in force when f is called; the last call is the Extern's
redeclared_passes : AnsweredClean (answer_of redeclared)
unfolding answer_of lent redeclared script_run
redeclared_passes = record { answered = refl; clean = refl }

redeclared-targets : targets (table_of redeclared (answer_of redeclared)) ≡ 11 ∷ 5 ∷ 0 ∷ 7 ∷ 4 ∷ 0 ∷ 3 ∷ 12 ∷ 0 ∷ []
unfolding answer_of lent redeclared targets declaration script_run
redeclared-targets = refl

redeclared-ends : ran redeclared truthful 20 ≡ 0 ∷ 13 ∷ 1 ∷ 6 ∷ []
unfolding ran answer_of lent redeclared truthful answering numbers stop_number fault_number script_run
redeclared-ends = refl

-- "takes the first candidate whose every argument type is equal"
group_passes : AnsweredClean (answer_of group)
unfolding answer_of lent group script_run
group_passes = record { answered = refl; clean = refl }

group-targets : targets (table_of group (answer_of group)) ≡ 4 ∷ 0 ∷ 0 ∷ []
unfolding answer_of lent group targets declaration script_run
group-targets = refl
