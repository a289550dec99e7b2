-- What is judged of a tree, given a type for each slot and a target for each call. A static notion: it asks nothing of the walk. Definitions.
use Rattle.std.specs.Prelude.{ℕ, ◌≤◌, ◌≡◌, true, false, ◌&&◌, ◌||◌, List, [], ◌∷◌, map, eqb, leb}
use Rattle.std.proofs.Math.Option.{Option, none, some}
use Rattle.tok.specs.Text.{Texts, name_bytes, same_bytes}
use Rattle.ptype.specs.Ty.{Ty, Fields, plain, rec, no_field, field, void_ty, bool_ty, array_ty, kind_of_ty}
use Rattle.slots.specs.Substitute.{Filling, substitute}
use Rattle.ast.specs.TypeExpr.{Arg}
use Rattle.ast.specs.Node.{Node, Nodes, Cases, Values, slot_of}
use Rattle.ast.specs.Node.{Atom, Ident, Bin, Unary, Let, Fn, Match, Call, Field, Cast, Import, Extern, Record, Array, Absent, done, then, no_case, case, no_value, value}
use Rattle.rules.specs.Operators.{result_kind, castable}
use Rattle.rules.specs.Functions.{type_meant}
use Rattle.runs.specs.Declared.{Own, Sig, own, external, Chosen, target_at, given_types}
use Rattle.runs.specs.Running.{cast_kind}
use Rattle.runs.specs.Stands.{Place, root, statement, operand, LetMay, FnMay}

-- a name in scope and its type
pub record Known : Type 0 where
  pub name : ℕ
  pub type : Ty

abbrev pub knows : ℕ → Ty → Known
knows n t = record { name = n; type = t }

unfoldable pub type_found : Texts → (name : List ℕ) → List Known → Option Ty
type_found t name [] = none
type_found t name (k ∷ ks) = elim (same_bytes name (name_bytes t k.name)) [ true ↦ some k.type | false ↦ type_found t name ks ]

unfoldable pub field_ty : (name : List ℕ) → Fields → Option Ty
field_ty name no_field = none
field_ty name (field n t fs) = elim (same_bytes name n) [ true ↦ some t | false ↦ field_ty name fs ]

pub record AtomOk (k : ℕ) (t : Ty) : Type 0 where
  pub low : 2 ≤ k
  pub high : k ≤ 5
  pub is : t ≡ plain k

pub record BinOk (op : ℕ) (l r t : Ty) : Type 0 where
  pub has : result_kind op (kind_of_ty l) (kind_of_ty r) ≡ 0 → ⊥
  pub is : t ≡ plain (result_kind op (kind_of_ty l) (kind_of_ty r))

pub record UnaryOk (op : ℕ) (r t : Ty) : Type 0 where
  pub has : (leb op 1 && (eqb (kind_of_ty r) 3 || eqb (kind_of_ty r) 4)) ≡ true
  pub is : t ≡ plain (kind_of_ty r)

pub record CastOk (to : ℕ) (l t : Ty) : Type 0 where
  pub has : castable (kind_of_ty l) to ≡ true
  pub is : t ≡ plain to

pub record FieldOk (name : List ℕ) (r t : Ty) : Type 0 where
  pub fields : Fields
  pub record' : r ≡ rec fields
  pub has : field_ty name fields ≡ some t

module _ (t : Texts) (type : ℕ → Ty) (table : List Chosen) where
  -- an own function's declared types, and what its body knows: "a function body sees only its arguments", the last of a name first
  unfoldable pub arg_types : List Arg → List Ty
  arg_types [] = []
  arg_types (a ∷ rest) = type_meant t a.type ∷ arg_types rest

  unfoldable pub args_known : List Known → List Arg → List Known
  args_known ks [] = ks
  args_known ks (a ∷ rest) = args_known (knows a.name (type_meant t a.type) ∷ ks) rest

  pub data CallOk (n slot : ℕ) (given : List Ty) : Type 0 where
    of_own : {f : Own} → target_at slot table ≡ some (own f) → given ≡ arg_types f.args → type slot ≡ type_meant t f.ret → CallOk n slot given
    of_package : {origin position : ℕ} {sig : Sig} → target_at slot table ≡ some (external origin position sig given)
        → (f : Filling) → map (substitute f) sig.params ≡ given → type slot ≡ substitute f sig.ret → CallOk n slot given

  unfoldable pub record_ty : Values → Fields
  record_ty no_value = no_field
  record_ty (value name x vs) = field (name_bytes t name) (type (slot_of x)) (record_ty vs)

  -- every member has one type
  unfoldable pub Members : Ty → Nodes → Type 0
  Members e done = Unit {0}
  Members e (then x xs) = (type (slot_of x) ≡ e) × Members e xs

  pub record ArrayOk (ms : Nodes) (a : Ty) : Type 0 where
    pub element : Ty
    pub members : Members element ms
    pub is : a ≡ array_ty element

  -- the names in scope after a node: only a let adds one
  unfoldable pub after : Node → List Known → List Known
  after (Let n slot name r) ks = knows name (type (slot_of r)) ∷ ks
  after (Atom n slot token k) ks = ks
  after (Ident n slot name) ks = ks
  after (Bin n slot token op l r) ks = ks
  after (Unary n slot token op r) ks = ks
  after (Fn n slot name ret args body) ks = ks
  after (Match n slot cs token d) ks = ks
  after (Call n slot target args) ks = ks
  after (Field n slot target name) ks = ks
  after (Cast n slot token l e) ks = ks
  after (Import n slot token paths) ks = ks
  after (Extern n slot token name fs) ks = ks
  after (Record n slot token fs) ks = ks
  after (Array n slot token ms) ks = ks
  after (Absent n) ks = ks

  unfoldable mutual
    pub Judged : Node → Place → List Known → Type 0
    Judged (Atom n slot token k) p ks = AtomOk k (type slot)
    Judged (Ident n slot name) p ks = type_found t (name_bytes t name) ks ≡ some (type slot)
    Judged (Bin n slot token op l r) p ks = Judged l operand ks × Judged r operand ks × BinOk op (type (slot_of l)) (type (slot_of r)) (type slot)
    Judged (Unary n slot token op r) p ks = Judged r operand ks × UnaryOk op (type (slot_of r)) (type slot)
    Judged (Let n slot name r) p ks = LetMay p × Judged r operand ks × (type slot ≡ void_ty)
    Judged (Fn n slot name ret args body) p ks = FnMay p × JudgedBody body (args_known [] args) void_ty (type_meant t ret)
    Judged (Match n slot cs token d) p ks = JudgedCases cs ks (type slot) × JudgedBody d ks void_ty (type slot)
    Judged (Call n slot target args) p ks = JudgedAll args ks × CallOk n slot (given_types type args)
    Judged (Field n slot target name) p ks = Judged target operand ks × FieldOk (name_bytes t name) (type (slot_of target)) (type slot)
    Judged (Cast n slot token l e) p ks = Judged l operand ks × CastOk (cast_kind e) (type (slot_of l)) (type slot)
    Judged (Import n slot token paths) p ks = type slot ≡ void_ty
    Judged (Extern n slot token name fs) p ks = type slot ≡ void_ty
    Judged (Record n slot token fs) p ks = JudgedValues fs ks × (type slot ≡ rec (record_ty fs))
    Judged (Array n slot token ms) p ks = JudgedAll ms ks × ArrayOk ms (type slot)
    Judged (Absent n) p ks = ⊥

    -- the statements of a body, after one of type `last`; `whole` is the body's type
    pub JudgedBody : Nodes → List Known → (last whole : Ty) → Type 0
    JudgedBody done ks last whole = last ≡ whole
    JudgedBody (then x xs) ks last whole = Judged x statement ks × JudgedBody xs (after x ks) (type (slot_of x)) whole

    pub JudgedAll : Nodes → List Known → Type 0
    JudgedAll done ks = Unit {0}
    JudgedAll (then x xs) ks = Judged x operand ks × JudgedAll xs ks

    pub JudgedCases : Cases → List Known → (whole : Ty) → Type 0
    JudgedCases no_case ks whole = Unit {0}
    JudgedCases (case token x body cs) ks whole = Judged x operand ks × (type (slot_of x) ≡ bool_ty) × JudgedBody body ks void_ty whole × JudgedCases cs ks whole

    pub JudgedValues : Values → List Known → Type 0
    JudgedValues no_value ks = Unit {0}
    JudgedValues (value name x vs) ks = Judged x operand ks × JudgedValues vs ks

  -- the roots
  unfoldable pub JudgedRoots : Nodes → List Known → Type 0
  JudgedRoots done ks = Unit {0}
  JudgedRoots (then x xs) ks = Judged x root ks × JudgedRoots xs (after x ks)

  -- every own function that is called
  pub record Bodies : Type 0 where
    pub each : (slot : ℕ) (f : Own) → target_at slot table ≡ some (own f) → JudgedBody f.body (args_known [] f.args) void_ty (type_meant t f.ret)
