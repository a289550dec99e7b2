-- The places at which the Rust stops dead, or finds a node already checked, as steps. A stop is a refusal whose number no refusal of document
-- 01 has: 10 for typecheck/lib.rs, 11 for frontend/lib.rs, 12 for ast.rs, 13 for ptype.rs; its place is the line. Definitions.
use Rattle.std.specs.Prelude.{ℕ, zero, suc, ◌+◌, ◌-◌, Bool, true, false, not, ◌&&◌, ◌||◌, List, [], ◌∷◌, get_or, eqb, leb}
use Rattle.tok.specs.Word.{kind_of, payload_of}
use Rattle.tok.specs.Step.{refusal, ◌>>=◌, ◌>>◌, return, look, refuse, when}
use Rattle.ptype.specs.Ty.{Ty, Fields, plain, wrap, rec, named, no_field, field}
use Rattle.ptype.specs.Words.{inner_word, field_count}
use Rattle.ptype.specs.Kinds.{wraps}
use Rattle.ast.specs.TypeExpr.{TypeExpr, TypeFields, Arg, AtomType, ForeignType, OptionType, ArrayType, RecordType, no_type, type_field}
use Rattle.ast.specs.Node.{ExternFn}
use Rattle.rules.specs.declared.Answer.{Answer}
use Rattle.rules.specs.declared.Answer.TheVariants.{Known, Poison}
use Rattle.rules.specs.World.{Walk}
use Rattle.rules.specs.Steps.{Done, skip, if_known}
use Rattle.rules.specs.Calls.{Provided}
use Rattle.rules.specs.Rules.{Branch}

unfoldable pub stop : {A : Type 0} → (file line : ℕ) → Walk A
stop file line = refuse (refusal file line)

-- where a test fails
unfoldable pub unless : Bool → (file line : ℕ) → Walk Done
unless t file line = when t skip (stop file line)

-- 224 to 250, `alias`, `ty`, `resolved_arg_ty`: self.map.get(id).expect(..)
unfoldable pub expect : (line slot : ℕ) → Walk Done
expect line slot = do
  s ← look
  when (eqb (get_or s.slots slot 0) 0) (stop 10 line) skip

-- of the slot of an answer, where it has one
unfoldable pub expect_of : (line : ℕ) → Answer → Walk Done
expect_of line a = if_known a (λ slot. expect line slot)

unfoldable pub expect_branches : (line : ℕ) → List Branch → Walk Done
expect_branches line [] = skip
expect_branches line (b ∷ bs) = do
  expect_of line b.answer
  expect_branches line bs

unfoldable pub expect_all : (line : ℕ) → List Provided → Walk Done
expect_all line [] = skip
expect_all line (a ∷ rest) = do
  expect line a.slot
  expect_all line rest

-- 235 to 241 and 659 to 661, `already_checked`: a node whose slot has a type is not checked again
unfoldable pub checked : (slot word : ℕ) → Answer
checked slot w = elim (eqb (kind_of w) 11) [ true ↦ Poison | false ↦ Known slot ]

unfoldable pub unless_checked : (slot : ℕ) → Walk Answer → Walk Answer
unless_checked slot rule = do
  s ← look
  when (eqb (get_or s.slots slot 0) 0) rule (return (checked slot (get_or s.slots slot 0)))

-- 102, `env_insert`: self.env.last_mut().unwrap(), where env has so many frames
unfoldable pub last_frame : (frames : ℕ) → Walk Done
last_frame zero = stop 10 102
last_frame (suc f) = skip

-- frontend/lib.rs 32, `type_from_atom_token_type`: Str, Double, Int or Bool
unfoldable pub atom_kind : (kind : ℕ) → Walk Done
atom_kind k = unless (leb 2 k && leb k 5) 11 32

-- frontend/lib.rs 44, `type_from_lex_type`: Int, Double, Str, Bool or Void, wherever an atom stands in a type expression
unfoldable mutual
  pub lex_types : TypeExpr → Bool
  lex_types (AtomType token k) = leb 1 k && leb k 5
  lex_types (ForeignType token) = true
  lex_types (OptionType t) = lex_types t
  lex_types (ArrayType t) = lex_types t
  lex_types (RecordType token fs) = field_lex_types fs

  pub field_lex_types : TypeFields → Bool
  field_lex_types no_type = true
  field_lex_types (type_field name t fs) = lex_types t && field_lex_types fs

unfoldable pub arg_lex_types : List Arg → Bool
arg_lex_types [] = true
arg_lex_types (a ∷ rest) = lex_types a.type && arg_lex_types rest

unfoldable pub extern_lex_types : List ExternFn → Bool
extern_lex_types [] = true
extern_lex_types (f ∷ fs) = arg_lex_types f.args && (lex_types f.ret && extern_lex_types fs)

-- 373, `fuse`: one of the nine operators
unfoldable pub operator : (op : ℕ) → Walk Done
operator op = unless (leb op 8) 10 373

-- ptype.rs 142 to 144, `bind_slots`: (_, Slot(_)) at one of the pairs that it goes to, errors or not
unfoldable mutual
  pub meets_slot : (types : List ℕ) → (expected : Ty) → (provided : ℕ) → Bool
  meets_slot types (plain k) w = eqb (kind_of w) 10
  meets_slot types (wrap k t) w = eqb (kind_of w) 10 || elim (wraps k && eqb (kind_of w) k) [ true ↦ meets_slot types t (inner_word types w) | false ↦ false ]
  meets_slot types (rec fs) w = eqb (kind_of w) 10 || elim (eqb (kind_of w) 8) [ true ↦ meets_slots types fs (payload_of w + 1) (field_count types w) | false ↦ false ]
  meets_slot types (named k n) w = eqb (kind_of w) 10

  pub meets_slots : (types : List ℕ) → (expected : Fields) → (at left : ℕ) → Bool
  meets_slots types no_field at left = false
  meets_slots types (field n t fs) at left =
      elim (eqb left 0) [ true ↦ false | false ↦ meets_slot types t (get_or types (at + 1) 0) || meets_slots types fs (at + 2) (left - 1) ]

unfoldable pub bindable : (types : List ℕ) → (expected : Ty) → (provided : ℕ) → Walk Done
bindable types t w = unless (not (meets_slot types t w)) 13 143
