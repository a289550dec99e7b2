-- The slots that stand in a type, on trees. By induction on the type. Assumes nothing.
use Rattle.std.specs.Prelude.{ℕ, ◌≡◌, refl, Bool, true, false, ◌||◌, List, eqb}
use Rattle.std.proofs.Common.{sym, ◌∙◌, true≢false}
use Rattle.std.proofs.Math.Bool.{and-eq-true_iff}
use Rattle.std.proofs.lemmas.Bool.{false≢true}
use Rattle.facts.specs.Tests.{neither}
use Rattle.ptype.specs.Ty.{Ty, Fields, plain, wrap, rec, named, no_field, field, contains_slot, any_slot}
use Rattle.ptype.specs.Slots.{Binding, bound_to, is_some, has_bound_slot, any_bound_slot}
use Rattle.onerun.specs.Claim.{slots_are, field_slots_are}

pub or_none : (a b : Bool) → (a || b) ≡ false → (a ≡ false) × (b ≡ false)
or_none = neither

-- a slot is bound
abbrev pub is_bound : List Binding → List ℕ → Bool
is_bound bs n = is_some (bound_to n bs)

-- in a type without slots all of them have any property
module _ (p : List ℕ → Bool) where
  named_any : (b : Bool) (n : List ℕ) → b ≡ false → elim b [ true ↦ p n | false ↦ true ] ≡ true
  named_any true n e = absurd (true≢false e)
  named_any false n e = refl

  mutual
    unfolding slots_are contains_slot

    pub free-slots : (x : Ty) → contains_slot x ≡ false → slots_are p x ≡ true
    free-slots (plain k) e = refl
    free-slots (wrap k x) e = free-slots x e
    free-slots (rec fs) e = free-fields fs e
    free-slots (named k n) e = named_any (eqb k 10) n e

    pub free-fields : (fs : Fields) → any_slot fs ≡ false → field_slots_are p fs ≡ true
    free-fields no_field e = refl
    free-fields (field n x fs) e =
        let h = neither (contains_slot x) (any_slot fs) e in
        rw (free-slots x h.0, free-fields fs h.1) refl

-- a slot itself
if_slot : (a t : Bool) → t ≡ true → elim t [ true ↦ a | false ↦ true ] ≡ a
if_slot a true e = refl
if_slot a false e = absurd (false≢true e)

pub slot_is : (p : List ℕ → Bool) (k : ℕ) (n : List ℕ) → eqb k 10 ≡ true → slots_are p (named k n) ≡ p n
unfolding slots_are
slot_is p k n e = if_slot (p n) (eqb k 10) e

-- one of which no slot has any property has none
abbrev pub never : List ℕ → Bool
never n = false

named-never : (b : Bool) → elim b [ true ↦ false | false ↦ true ] ≡ true → b ≡ false
named-never true e = absurd (false≢true e)
named-never false e = refl

mutual
  unfolding slots_are contains_slot

  pub never-free : (x : Ty) → slots_are never x ≡ true → contains_slot x ≡ false
  never-free (plain k) e = refl
  never-free (wrap k x) e = never-free x e
  never-free (rec fs) e = never-fields fs e
  never-free (named k n) e = named-never (eqb k 10) e

  never-fields : (fs : Fields) → field_slots_are never fs ≡ true → any_slot fs ≡ false
  never-fields no_field e = refl
  never-fields (field n x fs) e =
      let h = (and-eq-true_iff (slots_are never x) (field_slots_are never fs)).0 e in
      rw (never-free x h.0, never-fields fs h.1) refl

-- one whose slots are all bound, and none is, has none
module _ (bs : List Binding) where
  named-unbound : (b : Bool) (o : Bool) → elim b [ true ↦ o | false ↦ false ] ≡ false → elim b [ true ↦ o | false ↦ true ] ≡ true → b ≡ false
  named-unbound true o e f = absurd (true≢false (sym f ∙ e))
  named-unbound false o e f = refl

  mutual
    unfolding slots_are contains_slot has_bound_slot

    pub unbound-free : (x : Ty) → has_bound_slot bs x ≡ false → slots_are (is_bound bs) x ≡ true → contains_slot x ≡ false
    unbound-free (plain k) e f = refl
    unbound-free (wrap k x) e f = unbound-free x e f
    unbound-free (rec fs) e f = unbound-fields fs e f
    unbound-free (named k n) e f = named-unbound (eqb k 10) (is_some (bound_to n bs)) e f

    pub unbound-fields : (fs : Fields) → any_bound_slot bs fs ≡ false → field_slots_are (is_bound bs) fs ≡ true → any_slot fs ≡ false
    unbound-fields no_field e f = refl
    unbound-fields (field n x fs) e f =
        let h = neither (has_bound_slot bs x) (any_bound_slot bs fs) e in
        let k = (and-eq-true_iff (slots_are (is_bound bs) x) (field_slots_are (is_bound bs) fs)).0 f in
        rw (unbound-free x h.0 k.0, unbound-fields fs h.1 k.1) refl

-- a property that follows
module _ (p q : List ℕ → Bool) (h : (n : List ℕ) → p n ≡ true → q n ≡ true) where
  named_more : (b : Bool) (n : List ℕ) → elim b [ true ↦ p n | false ↦ true ] ≡ true → elim b [ true ↦ q n | false ↦ true ] ≡ true
  named_more true n e = h n e
  named_more false n e = refl

  mutual
    unfolding slots_are

    pub slots-more : (x : Ty) → slots_are p x ≡ true → slots_are q x ≡ true
    slots-more (plain k) e = refl
    slots-more (wrap k x) e = slots-more x e
    slots-more (rec fs) e = fields-more fs e
    slots-more (named k n) e = named_more (eqb k 10) n e

    fields-more : (fs : Fields) → field_slots_are p fs ≡ true → field_slots_are q fs ≡ true
    fields-more no_field e = refl
    fields-more (field n x fs) e =
        let k = (and-eq-true_iff (slots_are p x) (field_slots_are p fs)).0 e in
        rw (slots-more x k.0, fields-more fs k.1) refl
