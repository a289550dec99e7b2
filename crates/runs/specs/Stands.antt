-- "a let stands only as a root or a body's own statement, an Fn only as a root". Definitions.
use Rattle.std.specs.Prelude.{List, ℕ}
use Rattle.ast.specs.Node.{Node, Nodes, Cases, Values, Atom, Ident, Bin, Unary, Let, Fn, Match, Call, Field, Cast, Import, Extern, Record, Array, Absent, done, then, no_case, case, no_value, value}

-- Where a node stands. A body is document 01's: an Fn's, a case's, a default's.
pub data Place : Type 0 where
  root statement operand : Place

unfoldable pub LetMay : Place → Type 0
LetMay root = Unit {0}
LetMay statement = Unit {0}
LetMay operand = ⊥

unfoldable pub FnMay : Place → Type 0
FnMay root = Unit {0}
FnMay statement = ⊥
FnMay operand = ⊥

-- of the visited nodes
unfoldable mutual
  pub Stands : Node → Place → Type 0
  Stands (Atom n slot token k) p = Unit {0}
  Stands (Ident n slot name) p = Unit {0}
  Stands (Bin n slot token op l r) p = Stands l operand × Stands r operand
  Stands (Unary n slot token op r) p = Stands r operand
  Stands (Let n slot name r) p = LetMay p × Stands r operand
  Stands (Fn n slot name ret args body) p = FnMay p × AllStand body statement
  Stands (Match n slot cs token d) p = CasesStand cs × AllStand d statement
  Stands (Call n slot target args) p = AllStand args operand
  Stands (Field n slot target name) p = Stands target operand
  Stands (Cast n slot token l t) p = Stands l operand
  Stands (Import n slot token paths) p = Unit {0}
  Stands (Extern n slot token name fs) p = Unit {0}
  Stands (Record n slot token fs) p = ValuesStand fs
  Stands (Array n slot token ms) p = AllStand ms operand
  Stands (Absent n) p = Unit {0}

  pub AllStand : Nodes → Place → Type 0
  AllStand done p = Unit {0}
  AllStand (then x xs) p = Stands x p × AllStand xs p

  pub CasesStand : Cases → Type 0
  CasesStand no_case = Unit {0}
  CasesStand (case token x body cs) = Stands x operand × AllStand body statement × CasesStand cs

  pub ValuesStand : Values → Type 0
  ValuesStand no_value = Unit {0}
  ValuesStand (value name x vs) = Stands x operand × ValuesStand vs
