-- Putting types for slots: the word that is given means a type of which the same is claimed; and it has no slot exactly where every slot of
-- the type was bound. By induction on the type. Assumes nothing.
use Rattle.std.specs.Prelude.{ℕ, ◌≡◌, true, false, List, eqb, get_or}
use Rattle.std.proofs.Math.Path.{refl}
use Rattle.std.proofs.Common.{sym, ◌∙◌, true≢false}
use Rattle.std.proofs.lemmas.Bool.{false≢true}
use Rattle.std.proofs.Math.Bool.{and-eq-true_iff}
use Rattle.std.proofs.Math.Option.{Option, none, some}
use Rattle.facts.specs.Tests.{neither}
use Rattle.tok.specs.Text.{name_bytes}
use Rattle.tok.specs.Step.{Step, Refusal}
use Rattle.ptype.specs.Ty.{Ty, Fields, plain, wrap, rec, named, no_field, field, contains_slot, any_slot}
use Rattle.ptype.specs.Add.{Buffer}
use Rattle.ptype.specs.Slots.{Binding, bound_to, bound_or, has_bound_slot, apply_slot_binding, apply_fields}
use Rattle.tworuns.specs.Means.{grown-same}
use Rattle.onerun.specs.Claim.{Run, All, Is, BindingOk, slots_are, field_slots_are}
use Rattle.onerun.specs.Grows.{all_map, is_grow, binding_grow}
use Rattle.onerun.specs.Logic.{GivesT, typed, t_next, t_map, t_when}
use Rattle.onerun.specs.Trees.{is_bound, slot_is, free-slots, unbound-free}
use Rattle.onerun.proofs.Types.{PairsAre, no_pairs, more-pairs, t_wrap, t_record}
use Rattle.onerun.specs.Inner.{FieldsAre, open_wrap, open_record, open_field, fields-are_grow}
use Rattle.onerun.specs.Bind.{pick, bound-good}

module _ (r : Run) (bs : List Binding) where
  pub record Applied (x : Ty) (d : Buffer) (w : ℕ) : Type 0 where
    pub tree : Ty
    pub is : Is r d w tree
    pub filled : r.clean → slots_are (is_bound bs) x ≡ true → contains_slot tree ≡ false
    pub free : r.clean → contains_slot tree ≡ false → slots_are (is_bound bs) x ≡ true

  record AppliedFields (fs : Fields) (d : Buffer) (ps : List ℕ) : Type 0 where
    fields : Fields
    are : PairsAre r d ps fields
    filled : r.clean → field_slots_are (is_bound bs) fs ≡ true → any_slot fields ≡ false
    free : r.clean → any_slot fields ≡ false → field_slots_are (is_bound bs) fs ≡ true

  -- a type without a bound slot
  unbound : {b : Buffer} {w : ℕ} {x : Ty} → has_bound_slot bs x ≡ false → Is r b w x → Applied x b w
  unbound {x = x} e h = record { tree = x; is = h; filled = λ q f. unbound-free bs x e f; free = λ q f. free-slots (is_bound bs) x f }

  -- a Foreign or a Slot
  named_applied : {b : Buffer} {w k : ℕ} {n : List ℕ} → All (BindingOk r b) bs → Is r b w (named k n) → eqb k 10 ≡ true → (o : Option ℕ) → bound_to n bs ≡ o → Applied (named k n) b (bound_or w o)
  unfolding slots_are contains_slot bound_or
  named_applied {k = k} {n = n} s h t none e = record {
    tree = named k n;
    is = h;
    filled = λ q f. absurd (false≢true (rw e at (sym (slot_is (is_bound bs) k n t) ∙ f)));
    free = λ q f. absurd (true≢false (sym t ∙ f));
  }
  named_applied {k = k} {n = n} s h t (some w) e =
      let x = bound-good r n s e in
      record { tree = x.tree; is = x.is; filled = λ q f. x.no_slot q; free = λ q f. slot_is (is_bound bs) k n t ∙ rw e refl }

  named_other : {b : Buffer} {w k : ℕ} {n : List ℕ} → Is r b w (named k n) → eqb k 10 ≡ false → Applied (named k n) b w
  unfolding slots_are contains_slot
  named_other {k = k} {n = n} h t = record { tree = named k n; is = h; filled = λ q f. t; free = λ q f. free-slots (is_bound bs) (named k n) f }

  module _ (n : ℕ) where
    mutual
      unfolding apply_slot_binding slots_are contains_slot has_bound_slot

      pub t_apply : (x : Ty) {b : Buffer} {w : ℕ} → All (BindingOk r b) bs → Is r b w x → GivesT r (Applied x) b (apply_slot_binding r.ctx.texts n bs x w b)
      t_apply (plain k) {b} s h = typed (grown-same b) (unbound refl h)
      t_apply (wrap k x) {b} s h =
          let i = open_wrap r h in
          t_when r _ _ (λ _. t_next r _ (t_apply x s i.1) (λ a d g y. t_map r (λ w e z. record { tree = wrap k y.tree; is = z; filled = y.filled; free = y.free }) (t_wrap r n k a i.0 y.is)))
          (λ e. typed (grown-same b) (unbound e h))
      t_apply (rec fs) {b} s h =
          t_when r _ _
          (λ _. t_next r _ (t_fields fs s (open_record r h)) (λ ps d g y. t_map r (λ w e z. record { tree = rec y.fields; is = z; filled = y.filled; free = y.free }) (t_record r n ps y.are)))
          (λ e. typed (grown-same b) (unbound e h))
      t_apply (named k m) {b} {w} s h =
          pick (λ (x : Step Buffer Refusal ℕ). GivesT r (Applied (named k m)) b (x b)) {t = eqb k 10} _ _
          (λ t. typed (grown-same b) (named_applied s h t (bound_to m bs) refl)) (λ t. typed (grown-same b) (named_other h t))

      t_fields : (fs : Fields) {b : Buffer} {at k : ℕ} → All (BindingOk r b) bs → FieldsAre r b at k fs → GivesT r (AppliedFields fs) b (apply_fields r.ctx.texts n bs fs at b)
      t_fields no_field {b} s h = typed (grown-same b) (record { fields = no_field; are = no_pairs r b; filled = λ q f. refl; free = λ q f. refl })
      t_fields (field m x fs) {b} {at} s h =
          let f = open_field r h in
          t_next r _ (t_apply x s f.type) (λ a d g y.
          t_next r _ (t_fields fs (all_map (binding_grow r g) s) (fields-are_grow r g f.rest)) (λ ps e i z.
          typed (grown-same e) (record {
            fields = field (name_bytes r.ctx.texts (get_or b.words at 0)) y.tree z.fields;
            are = more-pairs r (rw f.bytes f.name) (is_grow r i y.is) z.are;
            filled = λ q c.
                let p = (and-eq-true_iff (slots_are (is_bound bs) x) (field_slots_are (is_bound bs) fs)).0 c in
                rw (y.filled q p.0, z.filled q p.1) refl;
            free = λ q c.
                let p = neither (contains_slot y.tree) (any_slot z.fields) c in
                rw (y.free q p.0, z.free q p.1) refl;
          })))
