-- The kinds of types by their numbers (document 01, "Words": "Type kinds: 1 Void, 2 Bool, .."). Definitions.
use Rattle.std.specs.Prelude.{ℕ, List, [], ◌∷◌, get_or}
use Rattle.ptype.specs.declared.TypeKind.{TypeKind}
use Rattle.ptype.specs.declared.TypeKind.TheVariants as type

-- from 0 on; no type has kind 0
unfoldable pub kinds_of_types : List TypeKind
kinds_of_types =
    type.None ∷ type.Void ∷ type.Bool ∷ type.Int ∷ type.Double ∷ type.Str ∷ type.Option ∷ type.Array ∷ type.Record ∷ type.Foreign ∷ type.Slot
    ∷ type.Unknown ∷ []

unfoldable pub kind_of_type : (number : ℕ) → TypeKind
kind_of_type k = get_or kinds_of_types k type.None

abbrev pub number_of_type : TypeKind → ℕ
number_of_type type.None = 0
number_of_type type.Void = 1
number_of_type type.Bool = 2
number_of_type type.Int = 3
number_of_type type.Double = 4
number_of_type type.Str = 5
number_of_type type.Option = 6
number_of_type type.Array = 7
number_of_type type.Record = 8
number_of_type type.Foreign = 9
number_of_type type.Slot = 10
number_of_type type.Unknown = 11
