-- How many levels a type expression has (document 01: "type depth 32 (a type with nothing inside is 1)"). Definitions.
use Rattle.std.specs.Prelude.{ℕ, ◌+◌, max}
use Rattle.ast.specs.TypeExpr.{TypeExpr, TypeFields, AtomType, ForeignType, OptionType, ArrayType, RecordType, no_type, type_field}

unfoldable mutual
  pub levels_of : TypeExpr → ℕ
  levels_of (AtomType token k) = 1
  levels_of (ForeignType token) = 1
  levels_of (OptionType t) = 1 + levels_of t
  levels_of (ArrayType t) = 1 + levels_of t
  levels_of (RecordType token fs) = 1 + most_levels fs

  -- the most of all fields
  pub most_levels : TypeFields → ℕ
  most_levels no_type = 0
  most_levels (type_field name t fs) = max (levels_of t) (most_levels fs)
