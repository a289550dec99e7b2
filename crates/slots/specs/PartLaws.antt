-- What is bound stands in the provided type: what holds of the words bound before and of the provided word, and of every word
-- inside a word of which it holds, holds of all words that are bound after. By induction on the expected type's depth.
-- Assumes nothing.
use Rattle.std.specs.Prelude.{◌≡◌, Bool, List, ◌∷◌, eqb, get_or}
use Rattle.std.proofs.Math.Path.{refl}
use Rattle.std.proofs.Common.{sym, ◌∙◌, arith, sub-one}
use Rattle.std.proofs.Math.Bool.{true, false}
use Rattle.std.proofs.Math.Option.{Option, none, some}
use Prim.Native.Nat.{ℕ, zero, suc, ◌+◌, ◌*◌, ◌<◌}
use Rattle.std.proofs.Math.Decide.{ℕ_discrete}
use Rattle.tok.specs.Word.{kind_of, payload_of}
use Rattle.tok.specs.Text.{Texts, name_bytes, same_bytes}
use Rattle.ptype.specs.Ty.{same_ty}
use Rattle.ptype.specs.Words.{inner_word, field_count, fields_from, fields_of, unfolded, ty_of}
use Rattle.ptype.specs.Kinds.{Shape, shape, is_plain, is_wrap, is_record, is_named}
use Rattle.ptype.proofs.UnfoldLaws.{unfolded-none, unfolded-plain, unfolded-wrap, unfolded_record, unfolded-named}
use Rattle.ptype.specs.Inside.{field_type, Inside, wrapped, in_field}
use Rattle.ptype.specs.Slots.{Binding, binding, bound_to, Bound, all_bound, conflict, void_slot, and_then, bind_found, bind_one, bind_slots, bind_fields}
use Rattle.slots.specs.Bindings.{bindings_after}
use Rattle.slots.specs.BindLaws.{bound-here, bound-after}
use Rattle.slots.specs.LevelLaws.{bind-plain, bind-inner, bind-no-inner, bind-listed, bind-not-listed, bind-slot, bind-foreign, bind-first}

-- P holds of every word that is bound
pub record EachBound (P : ℕ → Type 0) (bs : List Binding) : Type 0 where
  pub each : (s : List ℕ) (w : ℕ) → bound_to s bs ≡ some w → P w

-- of no bindings, and of one more
pub each_none : (P : ℕ → Type 0) → EachBound P List.[]
unfolding bound_to
each_none P = record { each = λ s w e. let z : ◌≡◌ {A = ℕ} 0 1 = cc in absurd (omega arith) }

each_more : {P : ℕ → Type 0} {s : List ℕ} {a : ℕ} {bs : List Binding} → P a → EachBound P bs → EachBound P (binding s a ∷ bs)
each_more {P} {s} {a} {bs} p h = record { each = λ n w e. by n w e (same_bytes n s) refl }
  where
    by : (n : List ℕ) (w : ℕ) → bound_to n (binding s a ∷ bs) ≡ some w → (q : Bool) → same_bytes n s ≡ q → P w
    by n w e true z =
        let k : a ≡ w = cc (bound-here n (binding s a) bs z) in
        rw (← k) p
    by n w e false z = h.each n w (sym (bound-after n (binding s a) bs z) ∙ e)

-- one binding after another
each-then : {P : ℕ → Type 0} (r : Bound) (f : List Binding → Bound) → EachBound P (bindings_after r)
    → ((bs : List Binding) → EachBound P bs → EachBound P (bindings_after (f bs))) → EachBound P (bindings_after (and_then r f))
unfolding and_then bindings_after
each-then (all_bound bs) f e h = h bs e
each-then (conflict bs s x a) f e h = e
each-then (void_slot bs s) f e h = e

module _ (texts : Texts) (types : List ℕ) {P : ℕ → Type 0} (inherited : (w v : ℕ) → Inside types w v → P w → P v) where
  one_each : (s : List ℕ) (a : ℕ) (bs : List Binding) → P a → EachBound P bs → EachBound P (bindings_after (bind_one texts types s a bs))
  unfolding bind_one bind_found bindings_after
  one_each s a bs p h = void (eqb (kind_of a) 1)
    where
      same : (e : ℕ) (q : Bool) → EachBound P (bindings_after (elim q [ true ↦ all_bound bs | false ↦ conflict bs s e a ]))
      same e true = h
      same e false = h

      found : (o : Option ℕ) → EachBound P (bindings_after (bind_found texts types s a bs o))
      found none = each_more p h
      found (some e) = same e (same_ty (ty_of texts types e) (ty_of texts types a))

      void : (q : Bool) → EachBound P (bindings_after (elim q [ true ↦ void_slot bs s | false ↦ bind_found texts types s a bs (bound_to s bs) ]))
      void true = h
      void false = found (bound_to s bs)

  -- the expected word e, `deep` levels of it
  abbrev Binds : (deep : ℕ) → Type 0
  Binds deep = (e w : ℕ) (bs : List Binding) → P w → EachBound P bs → EachBound P (bindings_after (bind_slots texts types (unfolded texts types deep e) w bs))

  fields-each : (deep : ℕ) → Binds deep → (m i at left : ℕ) (bs : List Binding) → ((k j : ℕ) → k < left → j ≡ at + 2 * k + 1 → P (get_or types j 0)) → EachBound P bs
      → EachBound P (bindings_after (bind_fields texts types (fields_from (unfolded texts types deep) texts types i m) at left bs))
  unfolding fields_from bind_slots bindings_after
  fields-each deep ih zero i at left bs p h = h
  fields-each deep ih (suc m) i at zero bs p h = h
  fields-each deep ih (suc m) i at (suc left) bs p h =
      let u = unfolded texts types deep (get_or types (i + 1) 0) in
      let fs = fields_from (unfolded texts types deep) texts types (i + 2) m in
      rw (bind-first texts types (name_bytes texts (get_or types i 0)) u fs at (suc left) bs (λ z. omega arith), sub-one)
      (each-then (bind_slots texts types u (get_or types (at + 1) 0) bs) (λ more. bind_fields texts types fs (at + 2) left more)
      (ih (get_or types (i + 1) 0) (get_or types (at + 1) 0) bs (p 0 (at + 1) (omega arith) (omega arith)) h)
      (λ bs' h'. fields-each deep ih m (i + 2) (at + 2) left bs' (λ k j l z. p (suc k) j (omega arith) (omega arith)) h'))

  -- THE LAW OF PARTS
  pub bind-each : (deep : ℕ) → Binds deep
  unfolding bindings_after
  bind-each zero e w bs p h = rw (unfolded-none texts types e refl, bind-plain texts types w bs 11) h
  bind-each (suc deep) e w bs p h = by (bind-each deep) (shape (kind_of e))
    where
      by : Binds deep → Shape (kind_of e) → EachBound P (bindings_after (bind_slots texts types (unfolded texts types (suc deep) e) w bs))
      by ih (is_plain q) = rw (unfolded-plain texts types e {deep = suc deep} refl refl q, bind-plain texts types w bs (kind_of e)) h
      by ih (is_wrap q) = elim (ℕ_discrete (kind_of w) (kind_of e)) [
        | yes z ↦
            rw (unfolded-wrap texts types e {deep = suc deep} refl refl q, bind-inner texts types w bs (kind_of e) (unfolded texts types deep (inner_word types e)) z)
            (ih (inner_word types e) (inner_word types w) bs (inherited w (inner_word types w) (wrapped (rw z q)) p) h)
        | no z ↦ rw (unfolded-wrap texts types e {deep = suc deep} refl refl q, bind-no-inner texts types w bs (kind_of e) (unfolded texts types deep (inner_word types e)) z) h
      ]
      by ih (is_record q) = elim (ℕ_discrete (kind_of w) 8) [
        | yes z ↦
            rw (unfolded_record texts types e {deep = suc deep} refl refl q, bind-listed texts types w bs (fields_of (unfolded texts types deep) texts types e) z)
            (fields-each deep ih (field_count types e) (payload_of e + 1) (payload_of w + 1) (field_count types w) bs
            (λ k j l y. rw y (inherited w (field_type types w k) (in_field z k l) p)) h)
        | no z ↦ rw (unfolded_record texts types e {deep = suc deep} refl refl q, bind-not-listed texts types w bs (fields_of (unfolded texts types deep) texts types e) z) h
      ]
      by ih (is_named q) = elim (ℕ_discrete (kind_of e) 10) [
        | yes z ↦
            rw (unfolded-named texts types e {deep = suc deep} refl refl q, bind-slot texts types w bs (kind_of e) (name_bytes texts e) z)
            (one_each (name_bytes texts e) w bs p h)
        | no z ↦ rw (unfolded-named texts types e {deep = suc deep} refl refl q, bind-foreign texts types w bs (kind_of e) (name_bytes texts e) z) h
      ]
