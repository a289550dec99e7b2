-- Small scripts as trees, their targets and their runs, computed; and operators, of all numbers. Assumes nothing.
use Prim.Native.Nat.{ℕ, ◌+◌}
use mathlib.Core.Path.{◌≡◌, refl}
use mathlib.Core.Bool.{true, false}
use mathlib.Core.Option.{none, some}
use mathlib.Core.List.{List, [], ◌∷◌}
use lib.Dec.{eqb}
use Rattle.tok.specs.Text.{Texts, texts_of, text}
use Rattle.tok.specs.Step.{Result, ok, refused}
use Rattle.ptype.specs.Ty.{plain}
use Rattle.ast.specs.TypeExpr.{TypeExpr, AtomType}
use Rattle.ast.specs.Node.{Node, Nodes, Atom, Ident, Bin, Let, Fn, Match, Call, Cast, done, then, no_case, case}
use Rattle.refusals.specs.Inputs.{Inputs}
use Rattle.rules.specs.Check.{Ended}
use Rattle.runs.specs.Value.{Value, void, bool, int, double, str, nothing, just, array, object, foreign}
use Rattle.runs.specs.Declared.{declare_all, nothing_met}
use Rattle.runs.specs.Machine.{Open, NodeValue, State, Stopped, stuck, badOperands, operate, unary, cast}
use Rattle.runs.specs.Running.{run_of}
use Rattle.runs.specs.Stands.{root, AllStand}
use Rattle.runs.specs.Promise.{table_of, Honest}
use Rattle.runs.specs.Run.{script_run}
use Rattle.runs.proofs.Scripts.{answering, fault_number, stop_number, numbers}

-- names of one letter, by their place in the script text
texts : Texts
texts = texts_of (text "fx") []

f' : ℕ
f' = 0xC0000001

x' : ℕ
x' = 0xC0000101

int_type : TypeExpr
int_type = AtomType 0 3

one : (n : ℕ) → Node
one n = Atom n n x' 3

x : (n : ℕ) → Node
x n = Ident n n x'

-- without a library; a group of several, which alone asks for types, is in none of them
ran : Nodes → (budget : ℕ) → List ℕ
ran xs budget = numbers (run_of texts (answering (λ _. none)) (declare_all texts [] (λ _. plain 3) xs nothing_met).chosen xs budget)

-- ── Steps and values ──

-- let x = 1, x + x: five steps, of five nodes; one less is not enough
first : Nodes
first = then (Let 1 1 x' (one 0)) (then (Bin 4 4 0 0 (x 2) (x 3)) done)

first_ends : ran first 5 ≡ 0 ∷ 0 ∷ 0 ∷ 5 ∷ []
unfolding texts f' x' int_type one x ran first answering numbers stop_number fault_number script_run
first_ends = refl

first-spent : ran first 4 ≡ 2 ∷ 0 ∷ 0 ∷ 3 ∷ []
unfolding texts f' x' int_type one x ran first answering numbers stop_number fault_number script_run
first-spent = refl

-- fn f(x: Int) Int { f(x) }, f(1): a function that calls itself spends any budget, and is not stuck. Twenty nodes are entered: "an Fn having no
-- value", ten calls, of which none has come back, and nine that gave a value
again : Nodes
again =
    then (Fn 3 3 f' int_type (record { name = x'; type = int_type } ∷ []) (then (Call 2 2 (Ident 1 1 f') (then (x 0) done)) done))
    (then (Call 6 7 (Ident 5 6 f') (then (one 4) done)) done)

again-spent : ran again 20 ≡ 2 ∷ 0 ∷ 9 ∷ 9 ∷ []
unfolding texts f' x' int_type one x ran again answering numbers stop_number fault_number script_run
again-spent = refl

-- fn f() Int { 1 }: one step, no value, no call
declared : Nodes
declared = then (Fn 1 1 f' int_type [] (then (one 0) done)) done

declared-ends : ran declared 3 ≡ 0 ∷ 2 ∷ 0 ∷ 0 ∷ []
unfolding texts f' x' int_type one x ran declared answering numbers stop_number fault_number script_run
declared-ends = refl

-- "a function body sees only its arguments". let x = 1, fn f() Int { x }, f(): x is unbound there
callers : Nodes
callers = then (Let 1 1 x' (one 0)) (then (Fn 3 3 f' int_type [] (then (x 2) done)) (then (Call 5 5 (Ident 4 4 f') done) done))

callers-unbound : ran callers 9 ≡ 3 ∷ 4 ∷ 1 ∷ 2 ∷ []
unfolding texts f' x' int_type one x ran callers answering numbers stop_number fault_number script_run
callers-unbound = refl

-- ── Comparisons ──

-- number results by the question's count, so that no two are alike; < (operator 7) is answered true, the others false; a cast to Bool asks whether the number is 0
counting : Open
counting = record { number = λ k. k; compare = λ op k a b. eqb op 7; to_bool = λ k a. eqb a 0; answer = λ k call vs. none }

-- of each value given, oldest last: 0 or 1 a Bool, 2 and on a number, its amount 2 less; 100 another value
amount : Value → ℕ
amount (bool true) = 1
amount (bool false) = 0
amount (int n) = n + 2
amount (double n) = n + 2
amount void = 100
amount (str s) = 100
amount nothing = 100
amount (just v) = 100
amount (array vs) = 100
amount (object fs) = 100
amount (foreign x n) = 100

amounts : List NodeValue → List ℕ
amounts [] = []
amounts (v ∷ vs) = amount v.value ∷ amounts vs

-- questions asked, then the values
asked : Result State Stopped ℕ → List ℕ
asked (ok k s) = s.asked ∷ amounts s.values
asked (refused x) = 1000 ∷ x.state.asked ∷ amounts x.state.values

-- let x = 1 + 1, x < x, x + x, x < x, x as Bool, x > x
twice : Nodes
twice =
    then (Let 3 3 x' (Bin 2 2 0 0 (one 0) (one 1)))
    (then (Bin 6 6 0 7 (x 4) (x 5))
    (then (Bin 9 9 0 0 (x 7) (x 8))
    (then (Bin 12 12 0 7 (x 10) (x 11))
    (then (Cast 14 14 0 (x 13) (AtomType 0 2))
    (then (Bin 17 17 0 8 (x 15) (x 16)) done)))))

-- "number results left open": of the two literals and the two sums, questions 0 to 3, and of nothing else is a question counted; x < x is
-- answered alike both times
twice-alike : asked (run_of texts counting [] twice 20) ≡ 4 ∷ 0 ∷ 4 ∷ 4 ∷ 0 ∷ 4 ∷ 1 ∷ 4 ∷ 4 ∷ 5 ∷ 4 ∷ 4 ∷ 1 ∷ 4 ∷ 4 ∷ 100 ∷ 4 ∷ 3 ∷ 2 ∷ []
unfolding texts f' x' one x counting amount amounts asked twice script_run
twice-alike = refl

-- match { 1 < 1: 1, default: 1 + 1 }: a comparison is a condition: the case is run, and of the default no node
chooses : Nodes
chooses =
    then (Match 7 7 (case 0 (Bin 2 2 0 7 (one 0) (one 1)) (then (one 3) done) no_case) 0 (then (Bin 6 6 0 0 (one 4) (one 5)) done)) done

chooses-first : asked (run_of texts counting [] chooses 20) ≡ 3 ∷ 4 ∷ 4 ∷ 1 ∷ 3 ∷ 2 ∷ []
unfolding texts f' x' one x counting amount amounts asked chooses script_run
chooses-first = refl

-- ── Operators ──

-- Of every `Open`, state and numbers: each comparison that the table has, and the one cast to Bool. The state is left: no question is counted.
module _ (o : Open) (s : State) (a b : ℕ) where
  equal_ints : operate o 5 (int a) (int b) s ≡ ok (bool (o.compare 5 3 a b)) s
  unfolding script_run
  equal_ints = refl

  unequal_ints : operate o 6 (int a) (int b) s ≡ ok (bool (o.compare 6 3 a b)) s
  unfolding script_run
  unequal_ints = refl

  less_ints : operate o 7 (int a) (int b) s ≡ ok (bool (o.compare 7 3 a b)) s
  unfolding script_run
  less_ints = refl

  more_ints : operate o 8 (int a) (int b) s ≡ ok (bool (o.compare 8 3 a b)) s
  unfolding script_run
  more_ints = refl

  less_doubles : operate o 7 (double a) (double b) s ≡ ok (bool (o.compare 7 4 a b)) s
  unfolding script_run
  less_doubles = refl

  more_doubles : operate o 8 (double a) (double b) s ≡ ok (bool (o.compare 8 4 a b)) s
  unfolding script_run
  more_doubles = refl

  int-to-bool : cast o 2 (int a) s ≡ ok (bool (o.to_bool 3 a)) s
  unfolding script_run
  int-to-bool = refl

  -- "an operator on kinds its rule lacks": "% Int, Int", "== and != two Int, two Bool or two Str"; + and - alone are unary; no Double to Bool
  remainder_doubles : operate o 4 (double a) (double b) s ≡ refused (record { why = stuck badOperands; state = s })
  unfolding script_run
  remainder_doubles = refl

  equal_doubles : operate o 5 (double a) (double b) s ≡ refused (record { why = stuck badOperands; state = s })
  unfolding script_run
  equal_doubles = refl

  mixed_sum : operate o 0 (int a) (double b) s ≡ refused (record { why = stuck badOperands; state = s })
  unfolding script_run
  mixed_sum = refl

  unary_product : unary o 2 (int a) s ≡ refused (record { why = stuck badOperands; state = s })
  unfolding script_run
  unary_product = refl

  double-to-bool : cast o 2 (double a) s ≡ refused (record { why = stuck badOperands; state = s })
  unfolding script_run
  double-to-bool = refl

-- == of Bool and Str is computed
module _ (o : Open) (s : State) where
  equal_bools : operate o 5 (bool true) (bool true) s ≡ ok (bool true) s
  unfolding script_run
  equal_bools = refl

  unequal_strs : operate o 6 (str (text "f")) (str (text "g")) s ≡ ok (bool true) s
  unfolding script_run
  unequal_strs = refl

-- ── Honesty ──

-- What packages are held to goes by what is declared: two answers that choose the same declarations hold them to the same, whatever types they
-- give the calls.
honest_by-declared : (i : Inputs) (e e' : Ended) (o : Open) → table_of i e ≡ table_of i e' → Honest i e o → Honest i e' o
unfolding Honest
honest_by-declared i e e' o same h k slot origin position sig given q = h k slot origin position sig given (rw same q)

-- ── Where a let may stand ──

-- match { let x = 1: 1, default: 1 }: a condition is no statement of a body
let_as_condition : Nodes
let_as_condition = then (Match 5 5 (case 0 (Let 1 1 x' (one 0)) (then (one 2) done) no_case) 0 (then (one 3) done)) done

let_as_condition_lem : AllStand let_as_condition root → ⊥
unfolding let_as_condition script_run
let_as_condition_lem h = h.0.0.0.0
