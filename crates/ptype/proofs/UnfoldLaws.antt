-- How a word is unfolded, one law for each of the four ways that its kind can go on; and that its tree has its kind.
-- By the list `ways` at each kind. Assumes nothing.
use Rattle.std.specs.Prelude.{ℕ, zero, suc, ◌+◌, ◌-◌, ◌≡◌, refl, true, List, get_or}
use Rattle.std.proofs.Common.{arith, ◌∙◌, true≢false}
use Rattle.std.proofs.Math.Logic.{inl, inr}
use Rattle.tok.specs.Word.{kind_of}
use Rattle.tok.specs.Text.{Texts, name_bytes}
use Rattle.ptype.specs.Ty.{Ty, plain, wrap, rec, named, no_field, field, unknown_ty, kind_of_ty}
use Rattle.ptype.specs.Words.{inner_word, fields_from, fields_of, Way, as_plain, as_option, as_array, as_record, as_foreign, as_slot, ways, unfolded}
use Rattle.ptype.specs.Kinds.{wraps, names, one_of, Plain, shape, is_plain, is_wrap, is_record, is_named}

-- a depth or a count that is not 0, as the code has it
pub one_less : {n : ℕ} → (n ≡ 0 → ⊥) → n ≡ suc (n - 1)
one_less p = omega arith

plain_way : (k : ℕ) → Plain k → get_or ways k as_plain ≡ as_plain
unfolding ways
plain_way zero p = refl
plain_way (suc zero) p = refl
plain_way (suc (suc zero)) p = refl
plain_way (suc (suc (suc zero))) p = refl
plain_way (suc (suc (suc (suc zero)))) p = refl
plain_way (suc (suc (suc (suc (suc zero))))) p = refl
plain_way (suc (suc (suc (suc (suc (suc zero)))))) p = absurd (true≢false p.no_wrap)
plain_way (suc (suc (suc (suc (suc (suc (suc zero))))))) p = absurd (true≢false p.no_wrap)
plain_way (suc (suc (suc (suc (suc (suc (suc (suc zero)))))))) p = absurd (p.no_record refl)
plain_way (suc (suc (suc (suc (suc (suc (suc (suc (suc zero))))))))) p = absurd (true≢false p.no_name)
plain_way (suc (suc (suc (suc (suc (suc (suc (suc (suc (suc zero)))))))))) p = absurd (true≢false p.no_name)
plain_way (suc (suc (suc (suc (suc (suc (suc (suc (suc (suc (suc k))))))))))) p = refl

-- below the last level
pub unfolded-none : (t : Texts) (types : List ℕ) (w : ℕ) {deep : ℕ} → deep ≡ 0 → unfolded t types deep w ≡ unknown_ty
unfolding unfolded
unfolded-none t types w e = rw e

-- at a level, with f levels inside
module _ (t : Texts) (types : List ℕ) (w : ℕ) {deep f k : ℕ} (ed : deep ≡ suc f) (ek : k ≡ kind_of w) where
  by_way : (way : Way) → get_or ways k as_plain ≡ way → unfolded t types deep w ≡ way (unfolded t types f) t types w
  unfolding unfolded
  by_way way e = rw (ed, ← ek, e)

  pub unfolded-plain : Plain k → unfolded t types deep w ≡ plain k
  unfolded-plain h = by_way as_plain (plain_way k h) ∙ rw ek

  pub unfolded-wrap : wraps k ≡ true → unfolded t types deep w ≡ wrap k (unfolded t types f (inner_word types w))
  unfolding ways
  unfolded-wrap h = elim (one_of 6 7 k h) [ inl e ↦ rw e (by_way as_option (rw e)) | inr e ↦ rw e (by_way as_array (rw e)) ]

  pub unfolded_record : k ≡ 8 → unfolded t types deep w ≡ rec (fields_of (unfolded t types f) t types w)
  unfolding ways
  unfolded_record e = by_way as_record (rw e)

  pub unfolded-named : names k ≡ true → unfolded t types deep w ≡ named k (name_bytes t w)
  unfolding ways
  unfolded-named h = elim (one_of 9 10 k h) [ inl e ↦ rw e (by_way as_foreign (rw e)) | inr e ↦ rw e (by_way as_slot (rw e)) ]

  -- The kind of a word's tree is the word's.
  pub kind-unfolded : kind_of_ty (unfolded t types deep w) ≡ k
  unfolding kind_of_ty
  kind-unfolded = elim (shape k) [
    | is_plain h ↦ rw (unfolded-plain h)
    | is_wrap h ↦ rw (unfolded-wrap h)
    | is_record h ↦ rw (unfolded_record h, h)
    | is_named h ↦ rw (unfolded-named h)
  ]

-- no field, and one before the others
module _ (go : ℕ → Ty) (t : Texts) (types : List ℕ) (at : ℕ) where
  pub fields-none : {k : ℕ} → k ≡ 0 → fields_from go t types at k ≡ no_field
  unfolding fields_from
  fields-none e = rw e

  pub fields-more : {k n : ℕ} → k ≡ suc n → fields_from go t types at k ≡ field (name_bytes t (get_or types at 0)) (go (get_or types (at + 1) 0)) (fields_from go t types (at + 2) n)
  unfolding fields_from
  fields-more e = rw e
