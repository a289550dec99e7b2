-- Types put for slots, on trees (ptype.rs: `apply_slot_binding`), and when two types have one shape. Definitions.
use Rattle.std.specs.Prelude.{Bool, true, false, ◌&&◌, List, ℕ, eqb}
use Rattle.std.proofs.Math.Option.{Option, none, some, map, get_or}
use Rattle.tok.specs.Text.{Texts, same_bytes}
use Rattle.ptype.specs.Ty.{Ty, Fields, plain, wrap, rec, named, no_field, field, same_ty}
use Rattle.ptype.specs.Words.{ty_of}
use Rattle.ptype.specs.Slots.{Binding, bound_to}

-- the type that each slot is bound to, by the slot's name
abbrev pub Filling : Type 0
Filling = List ℕ → Option Ty

-- the filling of bindings, whose words mean types through the types buffer
abbrev pub filling_of : Texts → (types : List ℕ) → List Binding → Filling
filling_of texts types bs n = map (ty_of texts types) (bound_to n bs)

-- "Recursively replaces every slot with its binding .. Slots without a binding are left in place":
-- Self::Slot(slot) => bindings.get(slot).copied().unwrap_or(*self)
unfoldable mutual
  pub substitute : Filling → Ty → Ty
  substitute f (plain k) = plain k
  substitute f (wrap k t) = wrap k (substitute f t)
  substitute f (rec fs) = rec (substitute_fields f fs)
  substitute f (named k n) = elim (eqb k 10) [ true ↦ get_or (f n) (named k n) | false ↦ named k n ]

  pub substitute_fields : Filling → Fields → Fields
  substitute_fields f no_field = no_field
  substitute_fields f (field n t fs) = field n (substitute f t) (substitute_fields f fs)

-- The expected type has the provided one's shape: they are alike but for the slots of the first, each of which stands for any type.
unfoldable mutual
  pub agrees : (expected provided : Ty) → Bool
  agrees (plain k) u = same_ty (plain k) u
  agrees (wrap k t) (plain j) = false
  agrees (wrap k t) (wrap j u) = eqb k j && agrees t u
  agrees (wrap k t) (rec gs) = false
  agrees (wrap k t) (named j m) = false
  agrees (rec fs) (plain j) = false
  agrees (rec fs) (wrap j u) = false
  agrees (rec fs) (rec gs) = fields_agree fs gs
  agrees (rec fs) (named j m) = false
  agrees (named k n) u = elim (eqb k 10) [ true ↦ true | false ↦ same_ty (named k n) u ]

  pub fields_agree : (expected provided : Fields) → Bool
  fields_agree no_field no_field = true
  fields_agree no_field (field m u gs) = false
  fields_agree (field n t fs) no_field = false
  fields_agree (field n t fs) (field m u gs) = same_bytes n m && (agrees t u && fields_agree fs gs)

abbrev pub is_filled : Option Ty → Bool
is_filled none = false
is_filled (some u) = true

-- every slot of a type is bound
unfoldable mutual
  pub all_filled : Filling → Ty → Bool
  all_filled f (plain k) = true
  all_filled f (wrap k t) = all_filled f t
  all_filled f (rec fs) = fields_filled f fs
  all_filled f (named k n) = elim (eqb k 10) [ true ↦ is_filled (f n) | false ↦ true ]

  pub fields_filled : Filling → Fields → Bool
  fields_filled f no_field = true
  fields_filled f (field n t fs) = all_filled f t && fields_filled f fs
