-- Scripts as images, with buffers that are long enough for them, and a few words of how a run of one goes. Each stands in oracle/runs/scripts
-- as text, under its name there; the Rust was asked about each.
use Prim.Native.Nat.{ℕ}
use mathlib.Core.Bool.{Bool, true, false}
use mathlib.Core.Option.{Option, none, some}
use mathlib.Core.List.{List, [], ◌∷◌}
use lib.Dec.{eqb}
use lib.ListN.{length, replicate}
use Rattle.tok.specs.Text.{text}
use Rattle.tok.specs.Step.{Result, ok, refused}
use Rattle.refusals.specs.Inputs.{Inputs, Buffers}
use Rattle.runs.specs.Value.{Value, int, str}
use Rattle.runs.specs.Declared.{Target, own, external, Chosen}
use Rattle.runs.specs.Machine.{Open, State, Stopped, Why, halted, spent, stuck, Fault, unboundName, missingField, bad_condition, badCount, badOperands, undefined, misplaced}

unfoldable pub lent : Buffers
lent = record {
  slots = replicate 13 7;
  functions = replicate 9 7;
  types = replicate 9 7;
  diagnostics = replicate 12 7;
  messages = replicate 99 7;
  scratch = replicate 16384 7;
}

abbrev pub script_of : (script image : List ℕ) → Inputs
script_of s i = record { script = s; image = i; library_text = []; library = 0 ∷ 0 ∷ [] }

-- import p, fn f() Int { p.g() }, extern p { g(x: Int) Str }, f(), p.g(1); the library's p has g() Int
unfoldable pub redeclared : Inputs
redeclared = record {
  script = text "import p; fn f() Int { p.g() }; extern p { g(x: Int) Str }; f(); p.g(1)";
  image =
      -- counts N T R V, roots
      12 ∷ 2 ∷ 5 ∷ 12 ∷ 0 ∷ 4 ∷ 5 ∷ 7 ∷ 11
      ∷ 0xA0000004 ∷ 0 ∷ 0xC0000006 ∷ 0xC0000701
      ∷ 0x10000003 ∷ 1 ∷ 0xC0000701
      ∷ 0x80000004 ∷ 2 ∷ 1 ∷ 0xC0001901
      ∷ 0x70000003 ∷ 3 ∷ 2
      ∷ 0x50000006 ∷ 4 ∷ 0xC0000A01 ∷ 0 ∷ 0 ∷ 3
      ∷ 0xB000000A ∷ 5 ∷ 0xC0002006 ∷ 0xC0000701 ∷ 1 ∷ 0xC0001901 ∷ 1 ∷ 1 ∷ 0xC0002D01 ∷ 0
      ∷ 0x10000003 ∷ 6 ∷ 0xC0000A01
      ∷ 0x70000003 ∷ 7 ∷ 6
      ∷ 0x10000003 ∷ 8 ∷ 0xC0000701
      ∷ 0x80000004 ∷ 9 ∷ 8 ∷ 0xC0001901
      ∷ 4 ∷ 10 ∷ 0xC0004501 ∷ 3
      ∷ 0x70000004 ∷ 11 ∷ 9 ∷ 10
      -- types Int, Str
      ∷ 3 ∷ 0xC0001103 ∷ 3
      ∷ 3 ∷ 0xC0003503 ∷ 5
      ∷ [];
  library_text = text "pg";
  library = 0 ∷ 1 ∷ 0xC1000001 ∷ 1 ∷ 0xC1000101 ∷ 0 ∷ 0 ∷ 0x30000000 ∷ [];
}

-- extern p { g(x: Int) Int g(x: Int) Str }, p.g(1) + 1
unfoldable pub group : Inputs
group = script_of (text "extern p { g(x: Int) Int g(x: Int) Str }; p.g(1) + 1")
    (7 ∷ 2 ∷ 2 ∷ 7 ∷ 0 ∷ 6
    ∷ 0xB000000F ∷ 0 ∷ 0xC0000006 ∷ 0xC0000701 ∷ 2 ∷ 0xC0000B01 ∷ 0 ∷ 1 ∷ 0xC0000101 ∷ 0 ∷ 0xC0000B01 ∷ 1 ∷ 1 ∷ 0xC0000101 ∷ 0
    ∷ 0x10000003 ∷ 1 ∷ 0xC0000701
    ∷ 0x80000004 ∷ 2 ∷ 1 ∷ 0xC0000B01
    ∷ 4 ∷ 3 ∷ 0xC0002E01 ∷ 3
    ∷ 0x70000004 ∷ 4 ∷ 2 ∷ 3
    ∷ 4 ∷ 5 ∷ 0xC0002E01 ∷ 3
    ∷ 0x20000006 ∷ 6 ∷ 0xC0003101 ∷ 0 ∷ 4 ∷ 5
    ∷ 3 ∷ 0xC0001003 ∷ 3
    ∷ 3 ∷ 0xC0002303 ∷ 5
    ∷ [])

-- x
unfoldable pub diagnostic : Inputs
diagnostic = script_of (text "x") (1 ∷ 0 ∷ 1 ∷ 1 ∷ 0 ∷ 0x10000003 ∷ 0 ∷ 0xC0000001 ∷ [])

-- match { true { 1 } { a: let x = 1 b: true }.b { 2 } { 3 } } x
unfoldable pub let_in_condition : Inputs
let_in_condition = script_of (text "match { true { 1 } { a: let x = 1 b: true }.b { 2 } { 3 } } x")
    (11 ∷ 0 ∷ 2 ∷ 11 ∷ 9 ∷ 10
    ∷ 4 ∷ 0 ∷ 0xC0000804 ∷ 2
    ∷ 4 ∷ 1 ∷ 0xC0000F01 ∷ 3
    ∷ 4 ∷ 2 ∷ 0xC0000F01 ∷ 3
    ∷ 0x40000004 ∷ 3 ∷ 0xC0001C01 ∷ 2
    ∷ 4 ∷ 4 ∷ 0xC0000804 ∷ 2
    ∷ 0xC0000007 ∷ 5 ∷ 0xC0000601 ∷ 0xC0000101 ∷ 3 ∷ 0xC0002201 ∷ 4
    ∷ 0x80000004 ∷ 6 ∷ 5 ∷ 0xC0002201
    ∷ 4 ∷ 7 ∷ 0xC0003001 ∷ 3
    ∷ 4 ∷ 8 ∷ 0xC0003601 ∷ 3
    ∷ 0x6000000D ∷ 9 ∷ 2 ∷ 0xC0000601 ∷ 0 ∷ 1 ∷ 1 ∷ 0xC0000601 ∷ 6 ∷ 1 ∷ 7 ∷ 0xC0000601 ∷ 8
    ∷ 0x10000003 ∷ 10 ∷ 0xC0001C01
    ∷ [])

-- 1 + fn f() Int { 1 }
unfoldable pub fn_operand : Inputs
fn_operand = script_of (text "1 + fn f() Int { 1 }")
    (4 ∷ 1 ∷ 1 ∷ 4 ∷ 3
    ∷ 4 ∷ 0 ∷ 0xC0000001 ∷ 3
    ∷ 4 ∷ 1 ∷ 0xC0000001 ∷ 3
    ∷ 0x50000006 ∷ 2 ∷ 0xC0000401 ∷ 0 ∷ 0 ∷ 1
    ∷ 0x20000006 ∷ 3 ∷ 0xC0000201 ∷ 0 ∷ 0 ∷ 2
    ∷ 3 ∷ 0xC0000B03 ∷ 3
    ∷ [])

-- extern p { g() Int }, p.g() + 1
unfoldable pub answered : Inputs
answered = script_of (text "extern p { g() Int }; p.g() + 1")
    (6 ∷ 1 ∷ 2 ∷ 6 ∷ 0 ∷ 5
    ∷ 0xB0000008 ∷ 0 ∷ 0xC0000006 ∷ 0xC0000701 ∷ 1 ∷ 0xC0000B01 ∷ 0 ∷ 0
    ∷ 0x10000003 ∷ 1 ∷ 0xC0000701
    ∷ 0x80000004 ∷ 2 ∷ 1 ∷ 0xC0000B01
    ∷ 0x70000003 ∷ 3 ∷ 2
    ∷ 4 ∷ 4 ∷ 0xC0001E01 ∷ 3
    ∷ 0x20000006 ∷ 5 ∷ 0xC0001C01 ∷ 0 ∷ 3 ∷ 4
    ∷ 3 ∷ 0xC0000F03 ∷ 3
    ∷ [])

-- ── What is left open ──

-- every number is 7, every comparison false, a package function's answer is by its call's slot
unfoldable pub answering : (ℕ → Option Value) → Open
answering f = record { number = λ k. 7; compare = λ op k a b. false; to_bool = λ k a. false; answer = λ k slot vs. f slot }

-- ── How a run went ──

unfoldable pub fault_number : Fault → ℕ
fault_number unboundName = 3
fault_number missingField = 4
fault_number bad_condition = 5
fault_number badCount = 6
fault_number badOperands = 7
fault_number undefined = 8
fault_number misplaced = 9

unfoldable pub stop_number : Why → ℕ
stop_number halted = 1
stop_number spent = 2
stop_number (stuck f) = fault_number f

-- 0 ended, 1 halted, 2 spent, 3 and on stuck; steps left; own calls; how many nodes gave a value
unfoldable pub numbers : Result State Stopped ℕ → List ℕ
numbers (ok k s) = 0 ∷ s.left ∷ s.calls ∷ length s.values ∷ []
numbers (refused x) = stop_number x.why ∷ x.state.left ∷ x.state.calls ∷ length x.state.values ∷ []

-- of each call, newest first: its node, and the declaring Fn or Extern node, or N plus the library package's position; then the position in
-- the group
unfoldable pub declaration : Target → (rest : List ℕ) → List ℕ
declaration (own f) rest = f.node ∷ 0 ∷ rest
declaration (external origin position sig given) rest = origin ∷ position ∷ rest

unfoldable pub targets : List Chosen → List ℕ
targets [] = []
targets (c ∷ cs) = c.call ∷ declaration c.target (targets cs)
