-- Which declaration each call has: "functions and packages fixed by the declarations in force when the call was visited". Definitions.
-- One pass over the nodes in the order of visits. A body is passed once, where its Fn stands, so that its calls are fixed there, however often
-- and whenever it is run. Of the check's answer only the types in slots are asked, to choose among a group of several.
use Rattle.std.specs.Prelude.{ℕ, ◌+◌, true, false, List, [], ◌∷◌, map, eqb}
use Rattle.std.proofs.Math.Option.{Option, none, some}
use Rattle.tok.specs.Text.{Texts, name_bytes, same_bytes}
use Rattle.ptype.specs.Ty.{Ty}
use Rattle.ptype.specs.Words.{ty_of}
use Rattle.ast.specs.TypeExpr.{TypeExpr, Arg}
use Rattle.ast.specs.Node.{Node, Nodes, Cases, Values, ExternFn, slot_of}
use Rattle.ast.specs.Node.{Atom, Ident, Bin, Unary, Let, Fn, Match, Call, Field, Cast, Import, Extern, Record, Array, Absent, done, then, no_case, case, no_value, value}
use Rattle.library.specs.Package.{Param, Signature, Function, Package}
use Rattle.rules.specs.Functions.{type_meant}
use Rattle.rules.specs.Calls.{Callee, own_function, package_function, through_field, no_callee, callee_of, overload_matches}

-- A package function's types, slots unfilled.
pub record Sig : Type 0 where
  pub params : List Ty
  pub ret : Ty

pub record GroupMember : Type 0 where
  pub name : List ℕ
  pub sig : Sig

-- A package held. `origin` is S-7's: the declaring Extern's node, or N plus the library package's position.
pub record Held : Type 0 where
  pub name : List ℕ
  pub origin : ℕ
  pub functions : List GroupMember

-- An own function, by its Fn node: arguments and return type are declared there.
pub record Own : Type 0 where
  pub name : List ℕ
  pub node : ℕ
  pub args : List Arg
  pub ret : TypeExpr
  pub body : Nodes

-- what a call runs: an own function; or a package function, with its position in its group and the types of the arguments that it is given
pub data Target : Type 0 where
  own : Own → Target
  external : (origin position : ℕ) → Sig → (given : List Ty) → Target

-- the call's node and slot: no slot is owned twice, so that a slot names one call
pub record Chosen : Type 0 where
  pub call : ℕ
  pub slot : ℕ
  pub target : Target

-- The declarations in force, newest first, and what was chosen so far. "an Extern replaces a package of its name", and of two Fns of a name
-- "calls visited from there on find the new one" (a script without diagnostic has no two): the newest is found.
pub record Scope : Type 0 where
  pub held : List Held
  pub own : List Own
  pub chosen : List Chosen

-- ── The library's packages, and an Extern's ──

unfoldable pub library_sig : Texts → (pool : List ℕ) → Signature → Sig
library_sig t pool f = record { params = map (λ (p : Param). ty_of t pool p.type) f.params; ret = ty_of t pool f.ret }

unfoldable pub library_held : Texts → (pool : List ℕ) → (origin : ℕ) → Package → Held
library_held t pool o p =
    record { name = name_bytes t p.name; origin = o; functions = map (λ (f : Function). record { name = name_bytes t f.name; sig = library_sig t pool f.sig }) p.functions }

unfoldable pub library_from : Texts → (pool : List ℕ) → (origin : ℕ) → List Package → List Held
library_from t pool o [] = []
library_from t pool o (p ∷ ps) = library_held t pool o p ∷ library_from t pool (o + 1) ps

unfoldable pub extern_member : Texts → ExternFn → GroupMember
extern_member t f = record { name = name_bytes t f.name; sig = record { params = map (λ (a : Arg). type_meant t a.type) f.args; ret = type_meant t f.ret } }

-- ── Finding by name ──

unfoldable pub find_held : (name : List ℕ) → List Held → Option Held
find_held name [] = none
find_held name (p ∷ ps) = elim (same_bytes name p.name) [ true ↦ some p | false ↦ find_held name ps ]

unfoldable pub find_own : (name : List ℕ) → List Own → Option Own
find_own name [] = none
find_own name (f ∷ fs) = elim (same_bytes name f.name) [ true ↦ some f | false ↦ find_own name fs ]

unfoldable pub group_in : (name : List ℕ) → List GroupMember → List Sig
group_in name [] = []
group_in name (f ∷ fs) = elim (same_bytes name f.name) [ true ↦ f.sig ∷ group_in name fs | false ↦ group_in name fs ]

-- "takes the first candidate whose every argument type is equal, counts alike", from a position on
unfoldable pub first_equal : (origin position : ℕ) → (given : List Ty) → List Sig → Option Target
first_equal o k given [] = none
first_equal o k given (f ∷ fs) = elim (overload_matches f.params given) [ true ↦ some (external o k f given) | false ↦ first_equal o (k + 1) given fs ]

-- "A group of one selects where it is found."
unfoldable pub from_group : (origin : ℕ) → (given : List Ty) → List Sig → Option Target
from_group o given [] = none
from_group o given (f ∷ []) = some (external o 0 f given)
from_group o given (f ∷ g ∷ fs) = first_equal o 0 given (f ∷ g ∷ fs)

unfoldable pub of_own : Option Own → Option Target
of_own none = none
of_own (some f) = some (own f)

unfoldable pub of_held : (name : List ℕ) → (given : List Ty) → Option Held → Option Target
of_held name given none = none
of_held name given (some p) = from_group p.origin given (group_in name p.functions)

-- ── The pass ──

-- packages held, own functions, or what was chosen, with one more
abbrev pub holding : Held → Scope → Scope
holding p s = record { held = p ∷ s.held; own = s.own; chosen = s.chosen }

abbrev pub meeting : Own → Scope → Scope
meeting f s = record { held = s.held; own = f ∷ s.own; chosen = s.chosen }

unfoldable pub choosing : (call slot : ℕ) → Option Target → Scope → Scope
choosing n slot none s = s
choosing n slot (some x) s = record { held = s.held; own = s.own; chosen = record { call = n; slot = slot; target = x } ∷ s.chosen }

unfoldable pub given_types : (type : ℕ → Ty) → Nodes → List Ty
given_types type done = []
given_types type (then x xs) = type (slot_of x) ∷ given_types type xs

module _ (t : Texts) (library : List Held) (type : ℕ → Ty) where
  unfoldable pub target_of : Callee → (given : List Ty) → Scope → Option Target
  target_of (own_function name) given s = of_own (find_own (name_bytes t name) s.own)
  target_of (package_function pkg name) given s = of_held (name_bytes t name) given (find_held (name_bytes t pkg) s.held)
  target_of (through_field name) given s = none
  target_of no_callee given s = none

  -- "an Import of one already held does nothing; the first library package of a name is found"
  unfoldable pub import_found : Option Held → Scope → Scope
  import_found none s = s
  import_found (some p) s = holding p s

  unfoldable pub unless_held : Option Held → (path : List ℕ) → Scope → Scope
  unless_held none path s = import_found (find_held path library) s
  unless_held (some p) path s = s

  unfoldable pub imported : List ℕ → Scope → Scope
  imported [] s = s
  imported (p ∷ ps) s = imported ps (unless_held (find_held (name_bytes t p) s.held) (name_bytes t p) s)

  -- "Functions and packages are global from where they are met"; "parts as the Rust visits them. A call's target is never visited."
  unfoldable mutual
    pub declare : Node → Scope → Scope
    declare (Atom n slot token k) s = s
    declare (Ident n slot name) s = s
    declare (Bin n slot token op l r) s = declare r (declare l s)
    declare (Unary n slot token op r) s = declare r s
    declare (Let n slot name r) s = declare r s
    declare (Fn n slot name ret args body) s = declare_all body (meeting (record { name = name_bytes t name; node = n; args = args; ret = ret; body = body }) s)
    declare (Match n slot cs token d) s = declare_all d (declare_cases cs s)
    declare (Call n slot target args) s = let u : Scope = declare_all args s in choosing n slot (target_of (callee_of target) (given_types type args) u) u
    declare (Field n slot target name) s = declare target s
    declare (Cast n slot token l e) s = declare l s
    declare (Import n slot token paths) s = imported paths s
    declare (Extern n slot token name fs) s = holding (record { name = name_bytes t name; origin = n; functions = map (extern_member t) fs }) s
    declare (Record n slot token fs) s = declare_values fs s
    declare (Array n slot token ms) s = declare_all ms s
    declare (Absent n) s = s

    pub declare_all : Nodes → Scope → Scope
    declare_all done s = s
    declare_all (then x xs) s = declare_all xs (declare x s)

    pub declare_cases : Cases → Scope → Scope
    declare_cases no_case s = s
    declare_cases (case token x body cs) s = declare_cases cs (declare_all body (declare x s))

    pub declare_values : Values → Scope → Scope
    declare_values no_value s = s
    declare_values (value name x vs) s = declare_values vs (declare x s)

abbrev pub nothing_met : Scope
nothing_met = record { held = []; own = []; chosen = [] }

-- the target of the call that owns a slot
unfoldable pub target_at : (slot : ℕ) → List Chosen → Option Target
target_at q [] = none
target_at q (x ∷ xs) = elim (eqb q x.slot) [ true ↦ some x.target | false ↦ target_at q xs ]
