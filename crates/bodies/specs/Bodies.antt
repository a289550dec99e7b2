-- Node::Fn by the words of its record, before its body and after it: what is asked for, and what is said. Definitions.
use Rattle.std.specs.Prelude.{ℕ, ◌+◌, ◌*◌, ◌≤◌, ◌≡◌, List, Option, Some, None, Ok, Err}
use Rattle.ast.specs.Image.{word_at}
use Rattle.ast.specs.TypeExpr.{TypeExpr, Arg, type_of, args_from}
use Rattle.type_expr.specs.Ready.{TypeReady}
use Rattle.rules.specs.declared.Answer.{Answer}
use Rattle.rules.specs.World.{Ctx, Local, Walk}
use Rattle.rules.specs.Rules.{fn, unless_defined}
use Rattle.state.specs.declared.Refusal.{Refusal}
use Rattle.visit.specs.declared.State.{State}
use Rattle.visit.specs.Whole.{Lent, Visit, whole, visited}
use Rattle.visit.specs.Within.{Within, Visits}
use Rattle.visit.specs.Free.{Free, FreeRows}
use Rattle.visiting.specs.Blocks.{inner_of}
use Rattle.functions.specs.Defined.{fn_begin, fn_end, fn_to_body, body_and_end}
use Rattle.parameters.specs.Arguments.{Arguments}

-- what the record says: "name, return type, argument count, name and type of each, body"
abbrev pub slot_at : (image : List ℕ) → (at : ℕ) → ℕ
slot_at image at = word_at image (at + 1)

abbrev pub name_at : (image : List ℕ) → (at : ℕ) → ℕ
name_at image at = word_at image (at + 2)

abbrev pub return_at : (image : List ℕ) → (at : ℕ) → TypeExpr
return_at image at = type_of image (word_at image (at + 3))

abbrev pub count_at : (image : List ℕ) → (at : ℕ) → ℕ
count_at image at = word_at image (at + 4)

abbrev pub args_at : (image : List ℕ) → (at : ℕ) → List Arg
args_at image at = args_from image (at + 5) (count_at image at)

-- the rule, its body given
abbrev pub fn_at : Ctx → (image : List ℕ) → (at n : ℕ) → (body : Walk Answer) → Walk Answer
fn_at c image at n body = unless_defined c n (name_at image at) (fn c n (slot_at image at) (name_at image at) (return_at image at) (args_at image at) body)

abbrev pub begin_at : Ctx → (image : List ℕ) → (at n : ℕ) → Walk ℕ
begin_at c image at n = fn_begin c n (slot_at image at + 1) (name_at image at) (return_at image at) (args_at image at)

abbrev pub end_at : Ctx → (image : List ℕ) → (at n ret : ℕ) → (computed : Answer) → Walk Answer
end_at c image at n ret computed = fn_end c n (slot_at image at) (name_at image at) (return_at image at) ret computed

-- up to the body
abbrev pub to_body_at : Ctx → (image : List ℕ) → (at n : ℕ) → Walk (Option ℕ)
to_body_at c image at n = fn_to_body c n (slot_at image at) (name_at image at) (return_at image at) (args_at image at)

-- and what follows
abbrev pub after_at : Ctx → (image : List ℕ) → (at n : ℕ) → (body : Walk Answer) → (before : List Local) → Option ℕ → Walk Answer
after_at c image at n body before = body_and_end c n (slot_at image at) (name_at image at) (return_at image at) body before

-- what is asked for: the arguments' and the return type's expressions, room for their names and for the entry
pub record BeginReady (image places : List ℕ) (at : ℕ) (st : State) (functions scratch : List ℕ) : Type 0 where
  pub arguments : Arguments image places (at + 5) (count_at image at)
  pub ret : TypeReady image places (word_at image (at + 3))
  pub slots : slot_at image at + count_at image at + 1 ≤ 4096
  pub free : Free (2 * count_at image at) st scratch
  pub rows : FreeRows (3 + 2 * count_at image at) st functions
  pub inside : at + 5 ≤ 8192

pub record EndReady (image places : List ℕ) (at : ℕ) : Type 0 where
  pub ret : TypeReady image places (word_at image (at + 3))
  pub inside : at + 5 ≤ 8192

-- Before the body its part of the rule is done, in the state without the names outside; where the name was met nothing was taken.
pub data KeepsBegun (c : Ctx) (image : List ℕ) (at n : ℕ) (words : List ℕ) (st : State) (b b' : Lent) : Visit (Option ℕ) → Type 0 where
  due : {ret : ℕ} {st' : State} → Visits (begin_at c image at n) (2 * count_at image at) (3 + 2 * count_at image at) words (inner_of st) b b' (Ok (ret, st'))
      → KeepsBegun c image at n words st b b' (Ok (Some ret, st'))
  met : {st' : State} → Within 0 0 st b st' b' → KeepsBegun c image at n words st b b' (Ok (None, st'))
  stops : {e : Refusal} → KeepsBegun c image at n words st b b' (Err e)

-- What is said of it. Buffers b came in, b' are the buffers now, r is the answer.
pub record Begins (c : Ctx) (image : List ℕ) (at n : ℕ) (words : List ℕ) (st : State) (b b' : Lent) (r : Visit (Option ℕ)) : Type 0 where
  pub step : to_body_at c image at n (whole words st b) ≡ visited words b' r
  pub keeps : KeepsBegun c image at n words st b b' r
