-- The names and tokens that an image and a library hold (document 01, "Words"). Definitions.
use Rattle.std.specs.Prelude.{ℕ, ◌+◌, ◌||◌, cond, List, [], ◌∷◌, ◌++◌, eqb}
use Rattle.tok.specs.Word.{kind_of}
use Rattle.ast.specs.TypeExpr.{TypeExpr, TypeFields, Arg, AtomType, ForeignType, OptionType, ArrayType, RecordType, no_type, type_field}
use Rattle.ast.specs.Node.{Node, Cases, Values, ExternFn, Atom, Ident, Bin, Unary, Let, Fn, Match, Call, Field, Cast, Import, Extern, Record, Array, Absent, no_case, case, no_value, value}
use Rattle.library.specs.Package.{Param, Function, Package}

unfoldable pub arg_names : List Arg → List ℕ
arg_names [] = []
arg_names (a ∷ rest) = a.name ∷ arg_names rest

unfoldable pub extern_names : List ExternFn → List ℕ
extern_names [] = []
extern_names (f ∷ fs) = f.name ∷ arg_names f.args ++ extern_names fs

unfoldable pub case_tokens : Cases → List ℕ
case_tokens no_case = []
case_tokens (case token x body cs) = token ∷ case_tokens cs

unfoldable pub value_names : Values → List ℕ
value_names no_value = []
value_names (value name x vs) = name ∷ value_names vs

-- the names and tokens of one node record, in the order of document 01's table; those of its parts are the parts'
unfoldable pub node_names : Node → List ℕ
node_names (Atom n slot token k) = token ∷ []
node_names (Ident n slot name) = name ∷ []
node_names (Bin n slot token op l r) = token ∷ []
node_names (Unary n slot token op r) = token ∷ []
node_names (Let n slot name r) = name ∷ []
node_names (Fn n slot name ret args body) = name ∷ arg_names args
node_names (Match n slot cs token d) = case_tokens cs ++ (token ∷ [])
node_names (Call n slot target args) = []
node_names (Field n slot target name) = name ∷ []
node_names (Cast n slot token l t) = token ∷ []
node_names (Import n slot token paths) = token ∷ paths
node_names (Extern n slot token name fs) = token ∷ name ∷ extern_names fs
node_names (Record n slot token fs) = token ∷ value_names fs
node_names (Array n slot token ms) = token ∷ []
node_names (Absent n) = []

unfoldable pub field_names : TypeFields → List ℕ
field_names no_type = []
field_names (type_field name t fs) = name ∷ field_names fs

-- and of one type record
unfoldable pub type_names : TypeExpr → List ℕ
type_names (AtomType token k) = token ∷ []
type_names (ForeignType token) = token ∷ []
type_names (OptionType t) = []
type_names (ArrayType t) = []
type_names (RecordType token fs) = token ∷ field_names fs

-- "Foreign and Slot carry a name payload" (kinds 9 and 10); a field's name is kind 12
unfoldable pub word_names : (words : List ℕ) → List ℕ
word_names [] = []
word_names (w ∷ ws) = cond (eqb (kind_of w) 9 || (eqb (kind_of w) 10 || eqb (kind_of w) 12)) (w ∷ []) [] ++ word_names ws

unfoldable pub param_names : List Param → List ℕ
param_names [] = []
param_names (p ∷ ps) = p.name ∷ word_names (p.type ∷ []) ++ param_names ps

unfoldable pub function_names : List Function → List ℕ
function_names [] = []
function_names (f ∷ fs) = f.name ∷ param_names f.sig.params ++ word_names (f.sig.ret ∷ []) ++ function_names fs

unfoldable pub package_names : List Package → List ℕ
package_names [] = []
package_names (p ∷ ps) = p.name ∷ function_names p.functions ++ package_names ps
