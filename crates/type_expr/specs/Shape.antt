-- A type expression by what it is. Definitions.
use Rattle.ptype.specs.TypeKind.{number_of_type}
use Rattle.ast.specs.TypeExpr.{TypeExpr, AtomType, ForeignType, OptionType, ArrayType, RecordType}
use Rattle.type_expr.specs.Trees.{tree, trees}
use Rattle.type_expr.specs.declared.Shape.{Shape}
use Rattle.type_expr.specs.declared.Shape.TheVariants.{Atom, Foreign, Option, Array, Record}

abbrev pub shape_of : Shape → TypeExpr
shape_of (Atom token kind) = AtomType token (number_of_type kind)
shape_of (Foreign token) = ForeignType token
shape_of (Option x) = OptionType (tree x)
shape_of (Array x) = ArrayType (tree x)
shape_of (Record token fs) = RecordType token (trees fs)
