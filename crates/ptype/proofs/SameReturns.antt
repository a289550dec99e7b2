-- What `same_type_within` and `same_fields` return, by the kinds of the two words and by the fields that are left.
-- By the laws of unfolding, and where the trees differ because `same_ty` decides equality. Assumes nothing.
use Prim.Native.Nat.{ℕ, zero, suc, ◌+◌, ◌-◌}
use mathlib.Core.Path.{◌≡◌, refl, sym, ap, ◌∙◌}
use mathlib.Core.Bool.{Bool, true, false, ◌&&◌, and-false}
use mathlib.Core.List.{List}
use lib.ListN.{get_or}
use borrow.Author.Tests.{eq-eqb}
use Rattle.tok.specs.Word.{kind_of, payload_of}
use Rattle.tok.specs.Text.{Texts, same_name}
use Rattle.ptype.specs.Ty.{Ty, kind_of_ty, same_ty, same_fields}
use Rattle.ptype.specs.Words.{inner_word, field_count, fields_from, fields_of, unfolded}
use Rattle.ptype.specs.Kinds.{wraps, names, Plain}
use Rattle.ptype.proofs.UnfoldLaws.{one_less, unfolded-none, unfolded-plain, unfolded-wrap, unfolded_record, unfolded-named, kind-unfolded, fields-none, fields-more}
use Rattle.ptype.proofs.SameLaws.{ne_same_ty, eq_same_ty}

-- two lists of different lengths differ
differ-length : (t : Texts) (types : List ℕ) (go : ℕ → Ty) (i j n m : ℕ) → (n ≡ m → ⊥) → same_fields (fields_from go t types i n) (fields_from go t types j m) ≡ false
unfolding same_ty fields_from
differ-length t types go i j zero zero d = absurd (d refl)
differ-length t types go i j zero (suc m) d = refl
differ-length t types go i j (suc n) zero d = refl
differ-length t types go i j (suc n) (suc m) d = simp (differ-length t types go (i + 2) (j + 2) n m (λ e. d (ap suc e)), and-false)

-- one word has one tree
pub same_word : (t : Texts) (types : List ℕ) (a b deep : ℕ) → a ≡ b → true ≡ same_ty (unfolded t types deep a) (unfolded t types deep b)
same_word t types a b deep e = sym (eq_same_ty (unfolded t types deep a) (unfolded t types deep b) (ap (unfolded t types deep) e))

-- ka, kb, ia, ib, .. are what the calls gave, each with what its contract says of it; r is the result
module _ (t : Texts) (types : List ℕ) (a b : ℕ) {deep : ℕ} where
  pub same_none : deep ≡ 0 → true ≡ same_ty (unfolded t types deep a) (unfolded t types deep b)
  unfolding same_ty
  same_none e = rw (unfolded-none t types a e, unfolded-none t types b e)

  module _ {ka kb : ℕ} (p : deep ≡ 0 → ⊥) (ea : ka ≡ kind_of a) (eb : kb ≡ kind_of b) where
    pub differ-kind : (ka ≡ kb → ⊥) → false ≡ same_ty (unfolded t types deep a) (unfolded t types deep b)
    differ-kind d = sym (ne_same_ty _ _ (λ e. d (sym (kind-unfolded t types a (one_less p) ea) ∙ (ap kind_of_ty e ∙ kind-unfolded t types b (one_less p) eb))))

    -- past the test: the two kinds are one
    module _ (ek : ka ≡ kb) where
      eb' : ka ≡ kind_of b
      eb' = ek ∙ eb

      pub same-wrap : {ia ib : ℕ} {r : Bool} → wraps ka ≡ true → ia ≡ inner_word types a → ib ≡ inner_word types b
          → r ≡ same_ty (unfolded t types (deep - 1) ia) (unfolded t types (deep - 1) ib) → r ≡ same_ty (unfolded t types deep a) (unfolded t types deep b)
      unfolding same_ty
      same-wrap h ha hb e = rw (unfolded-wrap t types a (one_less p) ea h, unfolded-wrap t types b (one_less p) eb' h, eq-eqb ka ka refl, ← ha, ← hb) e

      pub same-named : {r : Bool} → names ka ≡ true → r ≡ same_name t a b → r ≡ same_ty (unfolded t types deep a) (unfolded t types deep b)
      unfolding same_ty
      same-named h e = rw (unfolded-named t types a (one_less p) ea h, unfolded-named t types b (one_less p) eb' h, eq-eqb ka ka refl) e

      pub same-plain : Plain ka → true ≡ same_ty (unfolded t types deep a) (unfolded t types deep b)
      unfolding same_ty
      same-plain h = rw (unfolded-plain t types a (one_less p) ea h, unfolded-plain t types b (one_less p) eb' h, eq-eqb ka ka refl)

      pub same_record : {r : Bool} → ka ≡ 8 → r ≡ same_fields (fields_of (unfolded t types (deep - 1)) t types a) (fields_of (unfolded t types (deep - 1)) t types b)
          → r ≡ same_ty (unfolded t types deep a) (unfolded t types deep b)
      unfolding same_ty
      same_record h e = rw (unfolded_record t types a (one_less p) ea h, unfolded_record t types b (one_less p) eb' h) e

-- the fields left, n from an index on in each: at first all, if they are as many
module _ (t : Texts) (types : List ℕ) (go : ℕ → Ty) (a b : ℕ) {n m : ℕ} (en : n ≡ field_count types a) (em : m ≡ field_count types b) where
  pub differ-count : (n ≡ m → ⊥) → false ≡ same_fields (fields_of go t types a) (fields_of go t types b)
  differ-count d = sym (differ-length t types go (payload_of a + 1) (payload_of b + 1) (field_count types a) (field_count types b) (λ e. d (en ∙ (e ∙ sym em))))

  pub same-all : {qa qb k : ℕ} → n ≡ m → qa ≡ payload_of a + 1 → qb ≡ payload_of b + 1 → k ≡ n
      → same_fields (fields_of go t types a) (fields_of go t types b) ≡ same_fields (fields_from go t types qa k) (fields_from go t types qb k)
  same-all nm ha hb hk = cc

-- s is what all the fields say, by the loop's invariant
module _ (t : Texts) (types : List ℕ) (go : ℕ → Ty) (i j : ℕ) {n : ℕ} {s : Bool} (inv : s ≡ same_fields (fields_from go t types i n) (fields_from go t types j n)) where
  pub same_end : n ≡ 0 → true ≡ s
  unfolding same_ty
  same_end e = rw (inv, fields-none go t types i e, fields-none go t types j e)

  module _ {na nb : ℕ} {q : Bool} (p : n ≡ 0 → ⊥) (ha : na ≡ get_or types i 0) (hb : nb ≡ get_or types j 0) (hq : q ≡ same_name t na nb) where
    one_more : s ≡ (q && (same_ty (go (get_or types (i + 1) 0)) (go (get_or types (j + 1) 0)) && same_fields (fields_from go t types (i + 2) (n - 1)) (fields_from go t types (j + 2) (n - 1))))
    unfolding same_ty
    one_more = rw (inv, fields-more go t types i (one_less p), fields-more go t types j (one_less p), ← ha, ← hb, ← hq)

    pub differ-name : q ≡ false → false ≡ s
    differ-name e = rw (one_more, e)

    module _ {wa wb : ℕ} {u : Bool} (e : q ≡ true) (ka : wa ≡ get_or types (i + 1) 0) (kb : wb ≡ get_or types (j + 1) 0) (hu : u ≡ same_ty (go wa) (go wb)) where
      pub differ-type : u ≡ false → false ≡ s
      differ-type h = rw (one_more, e, ← ka, ← kb, ← hu, h)

      pub same_rest : {i' j' n' : ℕ} → i' ≡ i + 2 → j' ≡ j + 2 → n' ≡ n - 1 → u ≡ true → s ≡ same_fields (fields_from go t types i' n') (fields_from go t types j' n')
      same_rest ei ej en h = rw (ei, ej, en, one_more, e, ← ka, ← kb, ← hu, h)
