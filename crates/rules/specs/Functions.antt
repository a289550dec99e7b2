-- What an Fn says of itself, on trees alone: its name, arguments and return type, and the types that type expressions mean. A static notion: it
-- asks nothing of the walk. Definitions.
use Rattle.std.specs.Prelude.{ℕ, List, [], ◌∷◌, ◌++◌}
use Rattle.tok.specs.Text.{Texts, name_bytes}
use Rattle.ptype.specs.Ty.{Ty, Fields, plain, rec, no_field, field, option_ty, array_ty, foreign_ty}
use Rattle.ast.specs.TypeExpr.{TypeExpr, TypeFields, AtomType, ForeignType, OptionType, ArrayType, RecordType, no_type, type_field, Arg}
use Rattle.ast.specs.Node.{Node, Atom, Ident, Bin, Unary, Let, Fn, Match, Call, Field, Cast, Import, Extern, Record, Array, Absent}
use Rattle.rules.specs.Visited.{visited_in}

-- "Type records: 0 Atom (token, kind 1 to 5), 1 Foreign (token), 2 Option, 3 Array (inner), 4 Record (token, pairs)": the type of each
unfoldable mutual
  pub type_meant : Texts → TypeExpr → Ty
  type_meant texts (AtomType token k) = plain k
  type_meant texts (ForeignType token) = foreign_ty (name_bytes texts token)
  type_meant texts (OptionType t) = option_ty (type_meant texts t)
  type_meant texts (ArrayType t) = array_ty (type_meant texts t)
  type_meant texts (RecordType token fs) = rec (fields_meant texts fs)

  pub fields_meant : Texts → TypeFields → Fields
  fields_meant texts no_type = no_field
  fields_meant texts (type_field name t fs) = field (name_bytes texts name) (type_meant texts t) (fields_meant texts fs)

-- "5 Fn | name, return type, argument count, name and type of each, body": all but the body
pub record FnHead : Type 0 where
  pub name : ℕ
  pub args : List Arg
  pub ret : TypeExpr

-- one of an Fn, none of any other node
unfoldable pub head_of : Node → List FnHead
head_of (Fn n slot name ret args body) = record { name = name; args = args; ret = ret } ∷ []
head_of (Atom n slot token k) = []
head_of (Ident n slot name) = []
head_of (Bin n slot token op l r) = []
head_of (Unary n slot token op r) = []
head_of (Let n slot name r) = []
head_of (Match n slot cs token d) = []
head_of (Call n slot target args) = []
head_of (Field n slot target name) = []
head_of (Cast n slot token l t) = []
head_of (Import n slot token paths) = []
head_of (Extern n slot token name fs) = []
head_of (Record n slot token fs) = []
head_of (Array n slot token ms) = []
head_of (Absent n) = []

-- the Fns among nodes, in their order
unfoldable pub fns_among : List Node → List FnHead
fns_among [] = []
fns_among (x ∷ xs) = head_of x ++ fns_among xs

-- the visited Fns of an image, in the order of visits: a node stands before what is visited below it, parts as the rules visit them
unfoldable pub fns_in : (image : List ℕ) → List FnHead
fns_in image = fns_among (visited_in image)
