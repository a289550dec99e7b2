-- Laws of putting types for slots: types without a bound slot stay as they are, and a type all of whose slots are bound to types
-- without slots has none. By induction on the type. Assumes nothing.
use Rattle.std.specs.Prelude.{◌≡◌, Bool, ◌&&◌, ◌||◌, List, ℕ, eqb}
use Rattle.std.proofs.Math.Path.{refl, sym}
use Rattle.std.proofs.Common.{ap, ◌∙◌}
use Rattle.std.proofs.Math.Bool.{true, false, and-eq-true_iff}
use Rattle.std.proofs.Math.Option.{Option, none, some, get_or}
use Rattle.facts.specs.Tests.{neither}
use Rattle.tok.specs.Text.{Texts, same_bytes}
use Rattle.ptype.specs.Ty.{Ty, Fields, plain, wrap, rec, named, no_field, field, same_ty, same_fields, contains_slot, any_slot}
use Rattle.ptype.specs.Slots.{Binding, bound_to, is_some, has_bound_slot, any_bound_slot}
use Rattle.slots.specs.Substitute.{Filling, filling_of, substitute, substitute_fields, agrees, fields_agree, is_filled, all_filled, fields_filled}

pub or_none : (a b : Bool) → (a || b) ≡ false → (a ≡ false) × (b ≡ false)
or_none = neither

not_some : (o : Option ℕ) → is_some o ≡ false → o ≡ none
not_some none e = refl
not_some (some w) e = cc

-- Types without a bound slot stay as they are.
module _ (f : Filling) (bs : List Binding) (unbound : (n : List ℕ) → bound_to n bs ≡ none → f n ≡ none) where
  named_none : (k : ℕ) (n : List ℕ) (q : Bool) → elim q [ true ↦ is_some (bound_to n bs) | false ↦ false ] ≡ false
      → elim q [ true ↦ get_or (f n) (named k n) | false ↦ named k n ] ≡ named k n
  named_none k n true e = rw (unbound n (not_some (bound_to n bs) e))
  named_none k n false e = refl

  mutual
    unfolding substitute has_bound_slot

    pub substitute-none : (t : Ty) → has_bound_slot bs t ≡ false → substitute f t ≡ t
    substitute-none (plain k) e = refl
    substitute-none (wrap k t) e = ap (wrap k) (substitute-none t e)
    substitute-none (rec fs) e = ap rec (substitute_fields-none fs e)
    substitute-none (named k n) e = named_none k n (eqb k 10) e

    pub substitute_fields-none : (fs : Fields) → any_bound_slot bs fs ≡ false → substitute_fields f fs ≡ fs
    substitute_fields-none no_field e = refl
    substitute_fields-none (field n t fs) e =
        let h = neither (has_bound_slot bs t) (any_bound_slot bs fs) e in
        cc (substitute-none t h.0, substitute_fields-none fs h.1)

-- so does what bindings that bind none of its slots are put into
pub unbound-stays : (texts : Texts) (types : List ℕ) (bs : List Binding) (t : Ty) → has_bound_slot bs t ≡ false → substitute (filling_of texts types bs) t ≡ t
unbound-stays texts types bs t h = substitute-none (filling_of texts types bs) bs (λ n e. rw e) t h

-- A type all of whose slots are bound to types without slots has no slot once they are put for them.
module _ (f : Filling) (free : (n : List ℕ) (u : Ty) → f n ≡ some u → contains_slot u ≡ false) where
  named-free : (k : ℕ) (n : List ℕ) (q : Bool) (o : Option Ty) → eqb k 10 ≡ q → f n ≡ o → elim q [ true ↦ is_filled o | false ↦ true ] ≡ true
      → contains_slot (elim q [ true ↦ get_or o (named k n) | false ↦ named k n ]) ≡ false
  unfolding contains_slot
  named-free k n true none p h e = cc
  named-free k n true (some u) p h e = free n u h
  named-free k n false o p h e = p

  mutual
    unfolding substitute all_filled contains_slot

    pub substitute-free : (t : Ty) → all_filled f t ≡ true → contains_slot (substitute f t) ≡ false
    substitute-free (plain k) e = refl
    substitute-free (wrap k t) e = substitute-free t e
    substitute-free (rec fs) e = substitute_fields-free fs e
    substitute-free (named k n) e = named-free k n (eqb k 10) (f n) refl refl e

    pub substitute_fields-free : (fs : Fields) → fields_filled f fs ≡ true → any_slot (substitute_fields f fs) ≡ false
    substitute_fields-free no_field e = refl
    substitute_fields-free (field n t fs) e =
        let h = (and-eq-true_iff (all_filled f t) (fields_filled f fs)).0 e in
        rw (substitute-free t h.0) (substitute_fields-free fs h.1)

-- And where none is left, all of them were bound.
module _ (f : Filling) where
  named-filled : (k : ℕ) (n : List ℕ) (q : Bool) (o : Option Ty) → eqb k 10 ≡ q
      → contains_slot (elim q [ true ↦ get_or o (named k n) | false ↦ named k n ]) ≡ false → elim q [ true ↦ is_filled o | false ↦ true ] ≡ true
  unfolding contains_slot
  named-filled k n true none p e = sym e ∙ p
  named-filled k n true (some u) p e = refl
  named-filled k n false o p e = refl

  mutual
    unfolding substitute all_filled contains_slot

    pub free-filled : (t : Ty) → contains_slot (substitute f t) ≡ false → all_filled f t ≡ true
    free-filled (plain k) e = refl
    free-filled (wrap k t) e = free-filled t e
    free-filled (rec fs) e = fields_free_filled fs e
    free-filled (named k n) e = named-filled k n (eqb k 10) (f n) refl e

    pub fields_free_filled : (fs : Fields) → any_slot (substitute_fields f fs) ≡ false → fields_filled f fs ≡ true
    fields_free_filled no_field e = refl
    fields_free_filled (field n t fs) e =
        let h = neither (contains_slot (substitute f t)) (any_slot (substitute_fields f fs)) e in
        (and-eq-true_iff (all_filled f t) (fields_filled f fs)).1 (free-filled t h.0, fields_free_filled fs h.1)

-- A type that becomes another one once types are put for its slots has that one's shape.
named-agrees : (k : ℕ) (n : List ℕ) (u t : Ty) (q : Bool) → same_ty (elim q [ true ↦ t | false ↦ named k n ]) u ≡ true → elim q [ true ↦ true | false ↦ same_ty (named k n) u ] ≡ true
named-agrees k n u t true e = refl
named-agrees k n u t false e = e

module _ (f : Filling) where
  mutual
    unfolding substitute agrees same_ty

    pub fills_agrees : (t u : Ty) → same_ty (substitute f t) u ≡ true → agrees t u ≡ true
    fills_agrees (plain k) u e = e
    fills_agrees (wrap k t) (plain j) e = e
    fills_agrees (wrap k t) (wrap j u) e =
        let h = (and-eq-true_iff (eqb k j) (same_ty (substitute f t) u)).0 e in
        (and-eq-true_iff (eqb k j) (agrees t u)).1 (h.0, fills_agrees t u h.1)
    fills_agrees (wrap k t) (rec gs) e = e
    fills_agrees (wrap k t) (named j m) e = e
    fills_agrees (rec fs) (plain j) e = e
    fills_agrees (rec fs) (wrap j u) e = e
    fills_agrees (rec fs) (rec gs) e = fields_fill_agree fs gs e
    fills_agrees (rec fs) (named j m) e = e
    fills_agrees (named k n) u e = named-agrees k n u (get_or (f n) (named k n)) (eqb k 10) e

    pub fields_fill_agree : (fs gs : Fields) → same_fields (substitute_fields f fs) gs ≡ true → fields_agree fs gs ≡ true
    fields_fill_agree no_field no_field e = refl
    fields_fill_agree no_field (field m u gs) e = e
    fields_fill_agree (field n t fs) no_field e = e
    fields_fill_agree (field n t fs) (field m u gs) e =
        let h = (and-eq-true_iff (same_bytes n m) (same_ty (substitute f t) u && same_fields (substitute_fields f fs) gs)).0 e in
        let k = (and-eq-true_iff (same_ty (substitute f t) u) (same_fields (substitute_fields f fs) gs)).0 h.1 in
        (and-eq-true_iff (same_bytes n m) (agrees t u && fields_agree fs gs)).1
        (h.0, (and-eq-true_iff (agrees t u) (fields_agree fs gs)).1 (fills_agrees t u k.0, fields_fill_agree fs gs k.1))
