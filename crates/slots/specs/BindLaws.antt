-- Bindings only gain entries in front, of slots that were not bound: so each slot stays bound to what it is bound to.
-- By induction on the expected type. Assumes nothing.
use Rattle.std.specs.Prelude.{◌≡◌, Bool, List, ◌∷◌, ℕ, ◌+◌, ◌-◌, ◌≤◌, eqb, get_or, length}
use Rattle.std.proofs.Math.Path.{refl}
use Rattle.std.proofs.Common.{sym, ap, ◌∙◌, arith, eq-eqb, ne_eqb}
use Rattle.std.proofs.Math.Bool.{true, false}
use Rattle.std.proofs.Math.Option.{Option, none, some}
use Rattle.tok.specs.Word.{kind_of, payload_of}
use Rattle.tok.specs.Text.{Texts, same_bytes}
use Rattle.tok.proofs.TextLaws.{same_bytes-true}
use Rattle.ptype.specs.Ty.{Ty, Fields, plain, wrap, rec, named, no_field, field, same_ty}
use Rattle.ptype.specs.Words.{ty_of, inner_word, field_count}
use Rattle.ptype.specs.Slots.{Binding, binding, bound_to, Bound, all_bound, conflict, void_slot, and_then, bind_found, bind_one, bind_slots, bind_fields}
use Rattle.slots.specs.Bindings.{bindings_after}

-- by a test
pub if_true : {A : Type 0} (a b : A) (q : Bool) → q ≡ true → elim q [ true ↦ a | false ↦ b ] ≡ a
if_true a b true p = refl
if_true a b false p = cc

pub if_false : {A : Type 0} (a b : A) (q : Bool) → q ≡ false → elim q [ true ↦ a | false ↦ b ] ≡ b
if_false a b true p = cc
if_false a b false p = refl

-- a slot that meets Void, and one that meets another type
module _ (texts : Texts) (types s : List ℕ) (a : ℕ) (bs : List Binding) where
  pub bind_one-void : kind_of a ≡ 1 → bind_one texts types s a bs ≡ void_slot bs s
  unfolding bind_one
  bind_one-void e = if_true (void_slot bs s) (bind_found texts types s a bs (bound_to s bs)) (eqb (kind_of a) 1) (eq-eqb (kind_of a) 1 e)

  pub bind_one-found : (kind_of a ≡ 1 → ⊥) → bind_one texts types s a bs ≡ bind_found texts types s a bs (bound_to s bs)
  unfolding bind_one
  bind_one-found p = if_false (void_slot bs s) (bind_found texts types s a bs (bound_to s bs)) (eqb (kind_of a) 1) (ne_eqb (kind_of a) 1 p)

-- the bindings `bs`, and others in front of them
pub data Extends (bs : List Binding) : List Binding → Type 0 where
  same : Extends bs bs
  more : {bs' : List Binding} {s : List ℕ} {a : ℕ} → Extends bs bs' → bound_to s bs' ≡ none → Extends bs (binding s a ∷ bs')

pub extends-length : {bs bs' : List Binding} → Extends bs bs' → length bs ≤ length bs'
extends-length same = omega arith
extends-length (more e h) = omega (arith, extends-length e)

pub extends-trans : {bs cs ds : List Binding} → Extends bs cs → Extends cs ds → Extends bs ds
extends-trans e same = e
extends-trans e (more f h) = more (extends-trans e f) h

-- the newest binding, if it is of the slot; else those after it
pub bound-here : (n : List ℕ) (b : Binding) (bs : List Binding) → same_bytes n b.slot ≡ true → bound_to n (b ∷ bs) ≡ some b.word
unfolding bound_to
bound-here n b bs p = rw (p, bound_to)

pub bound-after : (n : List ℕ) (b : Binding) (bs : List Binding) → same_bytes n b.slot ≡ false → bound_to n (b ∷ bs) ≡ bound_to n bs
unfolding bound_to
bound-after n b bs p = rw (p, bound_to)

bound-more : (n s : List ℕ) (a e : ℕ) (bs : List Binding) → bound_to s bs ≡ none → bound_to n bs ≡ some e → bound_to n (binding s a ∷ bs) ≡ some e
bound-more n s a e bs h b = go (same_bytes n s) refl
  where
    go : (q : Bool) → same_bytes n s ≡ q → bound_to n (binding s a ∷ bs) ≡ some e
    go true p =
        let clash : none ≡ some e = sym h ∙ (ap (λ r. bound_to r bs) (sym (same_bytes-true n s p)) ∙ b) in
        cc
    go false p = bound-after n (binding s a) bs p ∙ b

pub extends-bound : {bs bs' : List Binding} (n : List ℕ) (a : ℕ) → Extends bs bs' → bound_to n bs ≡ some a → bound_to n bs' ≡ some a
extends-bound n a same b = b
extends-bound n a (more {bs' = bs'} {s = s} {a = w} e h) b = bound-more n s w a bs' h (extends-bound n a e b)

-- after an error nothing more is bound
extends-then : {bs : List Binding} (r : Bound) (f : List Binding → Bound) → Extends bs (bindings_after r)
    → ((bs' : List Binding) → Extends bs' (bindings_after (f bs'))) → Extends bs (bindings_after (and_then r f))
unfolding and_then bindings_after
extends-then (all_bound bs') f e h = extends-trans e (h bs')
extends-then (conflict bs' s x a) f e h = e
extends-then (void_slot bs' s) f e h = e

-- nothing is bound unless a test holds
extends_if : (q : Bool) (r : Bound) (bs : List Binding) → Extends bs (bindings_after r) → Extends bs (bindings_after (elim q [ true ↦ r | false ↦ all_bound bs ]))
unfolding bindings_after
extends_if true r bs e = e
extends_if false r bs e = same

fields_if : (q : Bool) (r : Bound) (f : List Binding → Bound) (bs : List Binding) → Extends bs (bindings_after r)
    → ((bs' : List Binding) → Extends bs' (bindings_after (f bs'))) → Extends bs (bindings_after (elim q [ true ↦ all_bound bs | false ↦ and_then r f ]))
unfolding bindings_after
fields_if true r f bs e h = same
fields_if false r f bs e h = extends-then r f e h

module _ (texts : Texts) (types : List ℕ) where
  extends-found : (s : List ℕ) (a : ℕ) (bs : List Binding) (o : Option ℕ) → bound_to s bs ≡ o → Extends bs (bindings_after (bind_found texts types s a bs o))
  unfolding bind_found bindings_after
  extends-found s a bs none h = more same h
  extends-found s a bs (some e) h = go (same_ty (ty_of texts types e) (ty_of texts types a))
    where
      go : (q : Bool) → Extends bs (bindings_after (elim q [ true ↦ all_bound bs | false ↦ conflict bs s e a ]))
      go true = same
      go false = same

  extends-one : (s : List ℕ) (a : ℕ) (bs : List Binding) → Extends bs (bindings_after (bind_one texts types s a bs))
  unfolding bind_one bindings_after
  extends-one s a bs = go (eqb (kind_of a) 1)
    where
      go : (q : Bool) → Extends bs (bindings_after (elim q [ true ↦ void_slot bs s | false ↦ bind_found texts types s a bs (bound_to s bs) ]))
      go true = same
      go false = extends-found s a bs (bound_to s bs) refl

  -- the law, and that of fields
  mutual
    unfolding bind_slots bindings_after

    pub bind-extends : (t : Ty) (w : ℕ) (bs : List Binding) → Extends bs (bindings_after (bind_slots texts types t w bs))
    bind-extends (plain k) w bs = same
    bind-extends (wrap k t) w bs = extends_if (eqb (kind_of w) k) (bind_slots texts types t (inner_word types w) bs) bs (bind-extends t (inner_word types w) bs)
    bind-extends (rec fs) w bs =
        extends_if (eqb (kind_of w) 8) (bind_fields texts types fs (payload_of w + 1) (field_count types w) bs) bs
        (bind_fields-extends fs (payload_of w + 1) (field_count types w) bs)
    bind-extends (named k n) w bs = extends_if (eqb k 10) (bind_one texts types n w bs) bs (extends-one n w bs)

    pub bind_fields-extends : (fs : Fields) (at left : ℕ) (bs : List Binding) → Extends bs (bindings_after (bind_fields texts types fs at left bs))
    bind_fields-extends no_field at left bs = same
    bind_fields-extends (field n t fs) at left bs =
        fields_if (eqb left 0) (bind_slots texts types t (get_or types (at + 1) 0) bs) (λ bs'. bind_fields texts types fs (at + 2) (left - 1) bs') bs
        (bind-extends t (get_or types (at + 1) 0) bs) (λ bs'. bind_fields-extends fs (at + 2) (left - 1) bs')
