-- The stops are there: inputs that refusals 1 to 6 keep out meet them, and a node met twice is found checked. Computed.
use Rattle.std.specs.Prelude.{ℕ, ◌≡◌, refl, [], ◌∷◌}
use Rattle.tok.specs.Step.{ok, refused, refusal, when}
use Rattle.ptype.specs.Add.{buffer}
use Rattle.ptype.specs.Ty.{array_ty, slot_ty}
use Rattle.ptype.specs.Words.{void_word}
use Rattle.tok.specs.Word.{word_of}
use Rattle.ast.specs.TypeExpr.{AtomType}
use Rattle.ast.specs.Node.{Atom, Bin, Let, Call, Cast, Absent, done}
use Rattle.rules.specs.declared.Answer.TheVariants.{Known}
use Rattle.rules.specs.World.{Ctx, World}
use Rattle.rules.specs.Steps.{known, if_known, ty, set_known}
use Rattle.rules.specs.Calls.{callee_of}
use Rattle.rules.specs.Rules.{let_binding}
use Rattle.stops.specs.Guards.{stop, unless, expect, expect_of, checked, unless_checked, last_frame, atom_kind, lex_types, operator, meets_slot, bindable}
use Rattle.stops.specs.Guarded.{node_or_stop}
use Rattle.stops.specs.GuardedCalls.{call_or_stop}

-- two slots, the second of which may have a type; slot 2 is Void
abbrev world : (second : ℕ) → World
world w = record {
  slots = 0 ∷ w ∷ void_word ∷ [];
  functions = buffer [] 0;
  types = buffer [] 0;
  diagnostics = buffer [] 0;
  messages = buffer [] 0;
  env = [];
  packages = [];
  own = [];
  log = record {};
}

abbrev ctx : Ctx
ctx = record { texts = record { script = []; library = [] }; library = []; void = 2 }

-- `already_checked`: a node whose slot has a type answers it, whatever it is
met-twice : node_or_stop ctx 1 (Atom 0 1 0 3) (world (word_of 5 0)) ≡ ok (Known 1) (world (word_of 5 0))
unfolding node_or_stop call_or_stop callee_of unless_checked checked expect expect_of unless last_frame atom_kind operator lex_types stop when set_known known if_known let_binding ty
met-twice = refl

-- a slot without a type
untyped : expect 232 1 (world 0) ≡ refused (refusal 10 232)
unfolding node_or_stop call_or_stop callee_of unless_checked checked expect expect_of unless last_frame atom_kind operator lex_types stop when set_known known if_known let_binding ty
untyped = refl

-- a call's target that is neither Ident nor Field
no_callee_lem : node_or_stop ctx 1 (Call 1 0 (Atom 0 1 0 3) done) (world 0) ≡ refused (refusal 10 966)
unfolding node_or_stop call_or_stop callee_of unless_checked checked expect expect_of unless last_frame atom_kind operator lex_types stop when set_known known if_known let_binding ty
no_callee_lem = refl

-- a tenth operator
no-operator : node_or_stop ctx 1 (Bin 2 0 0 9 (Atom 0 1 0 3) (Atom 1 1 0 3)) (world 0) ≡ refused (refusal 10 373)
unfolding node_or_stop call_or_stop callee_of unless_checked checked expect expect_of unless last_frame atom_kind operator lex_types stop when set_known known if_known let_binding ty
no-operator = refl

-- a name bound with no frame
no-frame : node_or_stop ctx 0 (Let 1 0 0 (Atom 0 1 0 3)) (world 0) ≡ refused (refusal 10 102)
unfolding node_or_stop call_or_stop callee_of unless_checked checked expect expect_of unless last_frame atom_kind operator lex_types stop when set_known known if_known let_binding ty
no-frame = refl

-- an Atom of kind Void, and a type expression of kind Unknown
no-atom : node_or_stop ctx 1 (Atom 0 0 0 1) (world 0) ≡ refused (refusal 11 32)
unfolding node_or_stop call_or_stop callee_of unless_checked checked expect expect_of unless last_frame atom_kind operator lex_types stop when set_known known if_known let_binding ty
no-atom = refl

no-type : node_or_stop ctx 1 (Cast 1 0 0 (Atom 0 1 0 3) (AtomType 0 11)) (world 0) ≡ refused (refusal 11 44)
unfolding node_or_stop call_or_stop callee_of unless_checked checked expect expect_of unless last_frame atom_kind operator lex_types stop when set_known known if_known let_binding ty
no-type = refl

-- no node of a number
no_node : node_or_stop ctx 1 (Absent 7) (world 0) ≡ refused (refusal 12 28)
unfolding node_or_stop call_or_stop callee_of unless_checked checked expect expect_of unless last_frame atom_kind operator lex_types stop when set_known known if_known let_binding ty
no_node = refl

-- a Slot that is provided to `bind_slots`
no-binding : bindable [] (array_ty (slot_ty [])) (word_of 10 0) (world 0) ≡ refused (refusal 13 143)
unfolding bindable meets_slot unless stop when
no-binding = refl
