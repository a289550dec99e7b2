-- How many words of scratch and of the functions buffer visiting a node takes at most. Definitions.
use Rattle.std.specs.Prelude.{ℕ, ◌+◌, ◌*◌, List, [], ◌∷◌, length}
use Rattle.ast.specs.Node.{Node, Nodes, Cases, Values, ExternFn}
use Rattle.ast.specs.Node.{Atom, Ident, Bin, Unary, Let, Fn, Match, Call, Field, Cast, Import, Extern, Record, Array, Absent, done, then, no_case, case, no_value, value}

-- the package of an Extern: its size, name and function count, and for each function name, argument count, pairs, return type
unfoldable pub extern_words : List ExternFn → ℕ
extern_words [] = 3
extern_words (f ∷ fs) = 3 + 2 * length f.args + extern_words fs

-- Two words for each name in scope, one for each package held of the library, an Extern's package, and one for each argument of a call.
unfoldable mutual
  pub room : Node → ℕ
  room (Atom n slot token k) = 0
  room (Ident n slot name) = 0
  room (Bin n slot token op l r) = room l + room r
  room (Unary n slot token op r) = room r
  room (Let n slot name r) = room r + 2
  room (Fn n slot name ret args body) = 2 * length args + rooms body
  room (Match n slot cs token d) = case_rooms cs + rooms d
  room (Call n slot target args) = rooms args + call_room args
  room (Field n slot target name) = room target
  room (Cast n slot token l t) = room l
  room (Import n slot token paths) = length paths
  room (Extern n slot token name fs) = extern_words fs
  room (Record n slot token fs) = value_rooms fs
  room (Array n slot token ms) = rooms ms
  room (Absent n) = 0

  pub rooms : Nodes → ℕ
  rooms done = 0
  rooms (then x xs) = room x + rooms xs

  pub case_rooms : Cases → ℕ
  case_rooms no_case = 0
  case_rooms (case token x body cs) = room x + rooms body + case_rooms cs

  pub value_rooms : Values → ℕ
  value_rooms no_value = 0
  value_rooms (value name x vs) = room x + value_rooms vs

  pub call_room : Nodes → ℕ
  call_room done = 0
  call_room (then x xs) = 1 + call_room xs

-- three words for each function, and two for each argument
unfoldable mutual
  pub rows : Node → ℕ
  rows (Atom n slot token k) = 0
  rows (Ident n slot name) = 0
  rows (Bin n slot token op l r) = rows l + rows r
  rows (Unary n slot token op r) = rows r
  rows (Let n slot name r) = rows r
  rows (Fn n slot name ret args body) = 3 + 2 * length args + rows_all body
  rows (Match n slot cs token d) = case_rows cs + rows_all d
  rows (Call n slot target args) = rows_all args
  rows (Field n slot target name) = rows target
  rows (Cast n slot token l t) = rows l
  rows (Import n slot token paths) = 0
  rows (Extern n slot token name fs) = 0
  rows (Record n slot token fs) = value_rows fs
  rows (Array n slot token ms) = rows_all ms
  rows (Absent n) = 0

  pub rows_all : Nodes → ℕ
  rows_all done = 0
  rows_all (then x xs) = rows x + rows_all xs

  pub case_rows : Cases → ℕ
  case_rows no_case = 0
  case_rows (case token x body cs) = rows x + rows_all body + case_rows cs

  pub value_rows : Values → ℕ
  value_rows no_value = 0
  value_rows (value name x vs) = rows x + value_rows vs
