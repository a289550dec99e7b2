-- After a binding without error, the parameter with types put for its slots equals the argument exactly where it has the
-- argument's shape. By induction on the parameter. Assumes nothing.
use Rattle.std.proofs.Math.Path.{◌≡◌, refl}
use Rattle.std.proofs.Common.{sym, ◌∙◌, eqb-true, eq-eqb, ne_eqb}
use Rattle.std.specs.Prelude.{Bool, ◌&&◌, List, ◌∷◌, eqb, get_or}
use Rattle.std.proofs.Math.Bool.{true, false, and-eq-true_iff}
use Rattle.std.proofs.Math.Option
use Rattle.std.proofs.Math.Option.{Option, none, some, map}
use Prim.Native.Nat.{ℕ, zero, suc, ◌+◌, ◌-◌, ◌≤◌}
use Rattle.std.proofs.Math.Numerals.{sub-one}
use native.Mathlib.Omega.{arith}
use Rattle.facts.specs.Tests as Tests
use Rattle.tok.specs.Word.{kind_of, payload_of}
use Rattle.tok.specs.Text.{Texts, same_bytes}
use Rattle.tok.proofs.TextLaws.{eq_same_bytes}
use Rattle.ptype.specs.Ty.{Ty, Fields, plain, wrap, rec, named, no_field, field, same_ty, same_fields, contains_slot, depth_of, deepest}
use Rattle.ptype.specs.Words.{inner_word, field_count, fields_from, ty_of}
use Rattle.ptype.specs.Kinds.{shape, is_plain, is_wrap, is_record, is_named}
use Rattle.ptype.proofs.UnfoldLaws.{unfolded-plain, unfolded-wrap, unfolded_record, unfolded-named}
use Rattle.ptype.proofs.DepthLaws.{ty_of-wrap, ty_of_record}
use Rattle.ptype.proofs.SameLaws.{same_ty-true, eq_same_ty}
use Rattle.ptype.specs.Slots.{Binding, binding, bound_to, Bound, all_bound, conflict, void_slot, and_then, bind_found, bind_one, bind_slots, bind_fields}
use Rattle.slots.specs.Bindings.{bindings_after}
use Rattle.slots.specs.BindLaws.{Extends, same, extends-trans, extends-bound, bind_fields-extends, bound-here}
use Rattle.slots.specs.Substitute.{filling_of, substitute, substitute_fields, agrees, fields_agree, all_filled}
use Rattle.slots.specs.SubstituteLaws.{fills_agrees, free-filled}

-- where a test holds
taken : {A : Type 0} (a b : A) {x : A} (q : Bool) → q ≡ true → elim q [ true ↦ a | false ↦ b ] ≡ x → a ≡ x
taken a b true p e = e
taken a b false p e = cc

not_taken : {A : Type 0} (a b : A) {x : A} (q : Bool) → q ≡ false → elim q [ true ↦ a | false ↦ b ] ≡ x → b ≡ x
not_taken a b true p e = cc
not_taken a b false p e = e

extends-to : {bs bs' : List Binding} (r : Bound) → r ≡ all_bound bs' → Extends bs (bindings_after r) → Extends bs bs'
unfolding bindings_after
extends-to r e x = rw e at x

-- a binding in two parts without error: neither has one
then-bound : (r : Bound) (f : List Binding → Bound) (bs : List Binding) → and_then r f ≡ all_bound bs → (bs' : List Binding) × (r ≡ all_bound bs') × (f bs' ≡ all_bound bs)
unfolding and_then
then-bound (all_bound bs') f bs e = (bs', refl, e)
then-bound (conflict bs' s x a) f bs e =
    let z : ◌≡◌ {A = ℕ} 0 1 = cc in
    absurd (omega arith)
then-bound (void_slot bs' s) f bs e =
    let z : ◌≡◌ {A = ℕ} 0 1 = cc in
    absurd (omega arith)

module _ (texts : Texts) (types : List ℕ) where
  -- what stands inside a word whose type is known
  inside-wrap : (w k : ℕ) (u : Ty) → ty_of texts types w ≡ wrap k u → depth_of (wrap k u) ≤ 32 → (kind_of w ≡ k) × (ty_of texts types (inner_word types w) ≡ u)
  unfolding ty_of
  inside-wrap w k u e d = elim (shape (kind_of w)) [
    | is_plain h ↦
        let z : ◌≡◌ {A = ℕ} 0 1 = cc (unfolded-plain texts types w {deep = 33} refl refl h) in
        absurd (omega arith)
    | is_wrap h ↦
        let i = ty_of-wrap texts types w h (rw e d) in
        (cc, cc)
    | is_record h ↦
        let z : ◌≡◌ {A = ℕ} 0 1 = cc (unfolded_record texts types w {deep = 33} refl refl h) in
        absurd (omega arith)
    | is_named h ↦
        let z : ◌≡◌ {A = ℕ} 0 1 = cc (unfolded-named texts types w {deep = 33} refl refl h) in
        absurd (omega arith)
  ]

  inside_record : (w : ℕ) (gs : Fields) → ty_of texts types w ≡ rec gs → depth_of (rec gs) ≤ 32
      → (kind_of w ≡ 8) × (fields_from (ty_of texts types) texts types (payload_of w + 1) (field_count types w) ≡ gs)
  unfolding ty_of
  inside_record w gs e d = elim (shape (kind_of w)) [
    | is_plain h ↦
        let z : ◌≡◌ {A = ℕ} 0 1 = cc (unfolded-plain texts types w {deep = 33} refl refl h) in
        absurd (omega arith)
    | is_wrap h ↦
        let z : ◌≡◌ {A = ℕ} 0 1 = cc (unfolded-wrap texts types w {deep = 33} refl refl h) in
        absurd (omega arith)
    | is_record h ↦
        let i = ty_of_record texts types w h (rw e d) in
        (h, cc)
    | is_named h ↦
        let z : ◌≡◌ {A = ℕ} 0 1 = cc (unfolded-named texts types w {deep = 33} refl refl h) in
        absurd (omega arith)
  ]

  inside-fields : (at left : ℕ) (m : List ℕ) (u : Ty) (gs : Fields) → fields_from (ty_of texts types) texts types at left ≡ field m u gs
      → (left ≡ 0 → ⊥) × (ty_of texts types (get_or types (at + 1) 0) ≡ u) × (fields_from (ty_of texts types) texts types (at + 2) (left - 1) ≡ gs)
  unfolding fields_from
  inside-fields at zero m u gs e =
      let z : ◌≡◌ {A = ℕ} 0 1 = cc in
      absurd (omega arith)
  inside-fields at (suc left) m u gs e = (λ z. omega arith, cc, rw sub-one (cc))

  -- a slot bound without error is bound to the type that it met
  found-bound : (s : List ℕ) (a : ℕ) (bs bs' : List Binding) (o : Option ℕ) → bound_to s bs ≡ o → bind_found texts types s a bs o ≡ all_bound bs'
      → (e : ℕ) × (bound_to s bs' ≡ some e) × (same_ty (ty_of texts types e) (ty_of texts types a) ≡ true)
  unfolding bind_found
  found-bound s a bs bs' none h b =
      let l : binding s a ∷ bs ≡ bs' = cc in
      (a, rw (← l) (bound-here s (binding s a) bs (eq_same_bytes s s refl)), eq_same_ty (ty_of texts types a) (ty_of texts types a) refl)
  found-bound s a bs bs' (some e) h b = go (same_ty (ty_of texts types e) (ty_of texts types a)) refl b
    where
      go : (q : Bool) → same_ty (ty_of texts types e) (ty_of texts types a) ≡ q → elim q [ true ↦ all_bound bs | false ↦ conflict bs s e a ] ≡ all_bound bs'
          → (x : ℕ) × (bound_to s bs' ≡ some x) × (same_ty (ty_of texts types x) (ty_of texts types a) ≡ true)
      go true p c =
          let l : bs ≡ bs' = cc in
          (e, rw (← l) h, p)
      go false p c =
          let z : ◌≡◌ {A = ℕ} 0 1 = cc in
          absurd (omega arith)

  one-bound : (s : List ℕ) (a : ℕ) (bs bs' : List Binding) → bind_one texts types s a bs ≡ all_bound bs'
      → (e : ℕ) × (bound_to s bs' ≡ some e) × (same_ty (ty_of texts types e) (ty_of texts types a) ≡ true)
  unfolding bind_one
  one-bound s a bs bs' b = go (eqb (kind_of a) 1) b
    where
      go : (q : Bool) → elim q [ true ↦ void_slot bs s | false ↦ bind_found texts types s a bs (bound_to s bs) ] ≡ all_bound bs'
          → (e : ℕ) × (bound_to s bs' ≡ some e) × (same_ty (ty_of texts types e) (ty_of texts types a) ≡ true)
      go true c =
          let z : ◌≡◌ {A = ℕ} 0 1 = cc in
          absurd (omega arith)
      go false c = found-bound s a bs bs' (bound_to s bs) refl c

  named-same : (k : ℕ) (n : List ℕ) (w : ℕ) (u : Ty) (bs bs' cs : List Binding) (q : Bool) → ty_of texts types w ≡ u → elim q [ true ↦ true | false ↦ same_ty (named k n) u ] ≡ true
      → elim q [ true ↦ bind_one texts types n w bs | false ↦ all_bound bs ] ≡ all_bound bs' → Extends bs' cs
      → same_ty (elim q [ true ↦ Option.get_or (map (ty_of texts types) (bound_to n cs)) (named k n) | false ↦ named k n ]) u ≡ true
  named-same k n w u bs bs' cs true e a b x =
      let o = one-bound n w bs bs' b in
      rw (extends-bound n o.0 x o.1, ← e) o.2
  named-same k n w u bs bs' cs false e a b x = a

  mutual
    unfolding bind_slots substitute agrees same_ty depth_of fields_from

    bound-same : (t u : Ty) (w : ℕ) (bs bs' cs : List Binding) → ty_of texts types w ≡ u → depth_of u ≤ 32 → agrees t u ≡ true
        → bind_slots texts types t w bs ≡ all_bound bs' → Extends bs' cs → same_ty (substitute (filling_of texts types cs) t) u ≡ true
    bound-same (plain k) u w bs bs' cs e d a b x = a
    bound-same (wrap k t) (plain j) w bs bs' cs e d a b x = a
    bound-same (wrap k t) (wrap j u) w bs bs' cs e d a b x =
        let h = (and-eq-true_iff (eqb k j) (agrees t u)).0 a in
        let i = inside-wrap w j u e d in
        let q : kind_of w ≡ k = i.0 ∙ sym (eqb-true k j h.0) in
        let c = taken (bind_slots texts types t (inner_word types w) bs) (all_bound bs) (eqb (kind_of w) k) (eq-eqb (kind_of w) k q) b in
        (and-eq-true_iff (eqb k j) (same_ty (substitute (filling_of texts types cs) t) u)).1
        (h.0, bound-same t u (inner_word types w) bs bs' cs i.1 (omega arith) h.1 c x)
    bound-same (wrap k t) (rec gs) w bs bs' cs e d a b x = a
    bound-same (wrap k t) (named j m) w bs bs' cs e d a b x = a
    bound-same (rec fs) (plain j) w bs bs' cs e d a b x = a
    bound-same (rec fs) (wrap j u) w bs bs' cs e d a b x = a
    bound-same (rec fs) (rec gs) w bs bs' cs e d a b x =
        let i = inside_record w gs e d in
        let c = taken (bind_fields texts types fs (payload_of w + 1) (field_count types w) bs) (all_bound bs) (eqb (kind_of w) 8) (eq-eqb (kind_of w) 8 i.0) b in
        fields-same fs gs (payload_of w + 1) (field_count types w) bs bs' cs i.1 (omega arith) a c x
    bound-same (rec fs) (named j m) w bs bs' cs e d a b x = a
    bound-same (named k n) u w bs bs' cs e d a b x = named-same k n w u bs bs' cs (eqb k 10) e a b x

    fields-same : (fs gs : Fields) (at left : ℕ) (bs bs' cs : List Binding) → fields_from (ty_of texts types) texts types at left ≡ gs → deepest gs ≤ 32
        → fields_agree fs gs ≡ true → bind_fields texts types fs at left bs ≡ all_bound bs' → Extends bs' cs
        → same_fields (substitute_fields (filling_of texts types cs) fs) gs ≡ true
    fields-same no_field no_field at left bs bs' cs e d a b x = refl
    fields-same no_field (field m u gs) at left bs bs' cs e d a b x = a
    fields-same (field n t fs) no_field at left bs bs' cs e d a b x = a
    fields-same (field n t fs) (field m u gs) at left bs bs' cs e d a b x =
        let h = (and-eq-true_iff (same_bytes n m) (agrees t u && fields_agree fs gs)).0 a in
        let k = (and-eq-true_iff (agrees t u) (fields_agree fs gs)).0 h.1 in
        let i = inside-fields at left m u gs e in
        let w = get_or types (at + 1) 0 in
        let rest : List Binding → Bound = λ more. bind_fields texts types fs (at + 2) (left - 1) more in
        let c = not_taken (all_bound bs) (and_then (bind_slots texts types t w bs) rest) (eqb left 0) (ne_eqb left 0 i.0) b in
        let p = then-bound (bind_slots texts types t w bs) rest bs' c in
        let y = extends-to (rest p.0) p.2 (bind_fields-extends texts types fs (at + 2) (left - 1) p.0) in
        (and-eq-true_iff (same_bytes n m) (same_ty (substitute (filling_of texts types cs) t) u && same_fields (substitute_fields (filling_of texts types cs) fs) gs)).1 (
          h.0,
          (and-eq-true_iff (same_ty (substitute (filling_of texts types cs) t) u) (same_fields (substitute_fields (filling_of texts types cs) fs) gs)).1 (
            bound-same t u w bs p.0 cs i.1 (omega arith) k.0 p.1 (extends-trans y x),
            fields-same fs gs (at + 2) (left - 1) p.0 bs' cs i.2 (omega arith) k.1 p.2 x,
          ),
        )

  -- THE LAW OF BINDING: without an error, what the parameter becomes equals the argument exactly where it has the argument's shape.
  pub bound_fills : (t : Ty) (w : ℕ) (bs bs' : List Binding) → depth_of (ty_of texts types w) ≤ 32 → bind_slots texts types t w bs ≡ all_bound bs'
      → same_ty (substitute (filling_of texts types bs') t) (ty_of texts types w) ≡ agrees t (ty_of texts types w)
  bound_fills t w bs bs' d b =
      Tests.same (same_ty (substitute (filling_of texts types bs') t) (ty_of texts types w)) (agrees t (ty_of texts types w))
      (fills_agrees (filling_of texts types bs') t (ty_of texts types w)) (λ a. bound-same t (ty_of texts types w) w bs bs' bs' refl d a b same)

  -- Then every slot of a parameter that has the shape of an argument without slots is bound.
  pub bound-filled : (t : Ty) (w : ℕ) (bs bs' : List Binding) → depth_of (ty_of texts types w) ≤ 32 → bind_slots texts types t w bs ≡ all_bound bs'
      → agrees t (ty_of texts types w) ≡ true → contains_slot (ty_of texts types w) ≡ false → all_filled (filling_of texts types bs') t ≡ true
  bound-filled t w bs bs' d b a c =
      let e = same_ty-true (substitute (filling_of texts types bs') t) (ty_of texts types w) (bound_fills t w bs bs' d b ∙ a) in
      free-filled (filling_of texts types bs') t (rw e c)
