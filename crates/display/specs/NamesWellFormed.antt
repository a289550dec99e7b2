-- Types whose names are well-formed UTF-8 (document 01, "Words": "Each must lie in its text and be well-formed UTF-8"). Definitions.
use Rattle.std.specs.Prelude.{Bool, true, ◌&&◌, List, [], ◌∷◌}
use Rattle.utf8.specs.Rfc3629.{well_formed}
use Rattle.ptype.specs.Ty.{Ty, Fields, plain, wrap, rec, named, no_field, field}

-- every Foreign, Slot and field name at any depth
unfoldable mutual
  pub names_well_formed : Ty → Bool
  names_well_formed (plain k) = true
  names_well_formed (wrap k t) = names_well_formed t
  names_well_formed (rec fs) = fields_well_formed fs
  names_well_formed (named k n) = well_formed n

  pub fields_well_formed : Fields → Bool
  fields_well_formed no_field = true
  fields_well_formed (field n t fs) = well_formed n && (names_well_formed t && fields_well_formed fs)

-- of each of several types
unfoldable pub all_well_formed : List Ty → Bool
all_well_formed [] = true
all_well_formed (t ∷ ts) = names_well_formed t && all_well_formed ts
