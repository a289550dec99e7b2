-- The trees of an accepted pool: its words refer to smaller indices, so that unfolding deeper than the index changes nothing, and a
-- type is made of the types that it refers to, one law for each shape. By induction on the levels. Assumes nothing.
use Prim.Native.Nat.{ℕ, zero, suc, ◌+◌, ◌*◌, ◌≤◌, ◌<◌}
use Rattle.std.specs.Prelude.{◌≡◌, true, List, get_or}
use Rattle.std.proofs.Math.Path.{refl, ap}
use Rattle.std.proofs.Common.{sym, ◌∙◌, inl, inr, arith, add-one}
use Rattle.tok.specs.Word.{kind_of, payload_of}
use Rattle.tok.specs.Text.{Texts, name_bytes}
use Rattle.ptype.specs.Ty.{Ty, plain, wrap, rec, named}
use Rattle.ptype.specs.Words.{inner_word, field_count, fields_from, fields_of, unfolded}
use Rattle.ptype.specs.Kinds.{wraps, names, Plain, shape, is_plain, is_wrap, is_record, is_named}
use Rattle.ptype.proofs.UnfoldLaws.{unfolded-plain, unfolded-wrap, unfolded_record, unfolded-named}
use Rattle.ptype.specs.Inside.{Refers, Backward}
use Rattle.ptype.proofs.InsideLaws.{refers-flat}
use Rattle.library.specs.Pool.{Pool, pool_word}
use Rattle.library.specs.Slots.{pool_ty}
use Rattle.library.specs.TypeWords.{TypeWord, good_type-true}
use Rattle.library.specs.PoolRead.{PoolFine}

-- ── References ──

pub type-refers : {p : Pool} {own w : ℕ} → TypeWord p own w → Refers p.words own w
type-refers t = record { to_inner = λ k. (t.inner k).below; to_fields = λ k. (t.list k).whole }

-- "A word there only refers to smaller indices than its own, and a Record's whole list stands before it."
pub pool_backward : {p : Pool} → PoolFine p → Backward p.words p.size
pool_backward {p} h = record { each = each }
  where
    each : (j : ℕ) → j < p.size → Refers p.words j (get_or p.words j 0)
    each j l = elim (h.each j l).kinds [
      | inl k ↦ refers-flat (rw k refl) (λ e. omega arith)
      | inr r ↦ elim r [
        | inl k ↦ refers-flat (rw k refl) (λ e. omega arith)
        | inr k ↦ type-refers (good_type-true p j (pool_word p j) ((h.each j l).type k))
      ]
    ]

-- ── Levels ──

module _ (t : Texts) (types : List ℕ) where
  fields-same : (go go' : ℕ → Ty) (at k : ℕ) → ((i j : ℕ) → i < k → j ≡ at + 2 * i + 1 → go (get_or types j 0) ≡ go' (get_or types j 0))
      → fields_from go t types at k ≡ fields_from go' t types at k
  unfolding fields_from
  fields-same go go' at zero h = refl
  fields-same go go' at (suc k) h =
      cc (h 0 (at + 1) (omega arith) (omega arith), fields-same go go' (at + 2) k (λ i j l e. h (suc i) j (omega arith) (omega arith)))

  -- a word that refers below `own` has no more than own + 1 levels
  pub unfolded-enough : {used : ℕ} → Backward types used → (f g own w : ℕ) → own ≤ used → Refers types own w → own < f → own < g
      → unfolded t types f w ≡ unfolded t types g w
  unfolded-enough b zero g own w l r hf hg = absurd (omega arith)
  unfolded-enough b (suc f) zero own w l r hf hg = absurd (omega arith)
  unfolded-enough b (suc f) (suc g) own w l r hf hg = elim (shape (kind_of w)) [
    | is_plain h ↦ unfolded-plain t types w refl refl h ∙ sym (unfolded-plain t types w refl refl h)
    | is_wrap h ↦
        let i = r.to_inner h in
        cc (
          unfolded-wrap t types w {deep = suc f} refl refl h,
          unfolded-wrap t types w {deep = suc g} refl refl h,
          unfolded-enough b f g (payload_of w) (inner_word types w) (omega arith) (b.each (payload_of w) (omega arith)) (omega arith) (omega arith),
        )
    | is_record h ↦
        let n = r.to_fields h in
        cc (
          unfolded_record t types w {deep = suc f} refl refl h,
          unfolded_record t types w {deep = suc g} refl refl h,
          fields-same (unfolded t types f) (unfolded t types g) (payload_of w + 1) (field_count types w)
              (λ i j m e. unfolded-enough b f g j (get_or types j 0) (omega arith) (b.each j (omega arith)) (omega arith) (omega arith)),
        )
    | is_named h ↦ unfolded-named t types w refl refl h ∙ sym (unfolded-named t types w refl refl h)
  ]

-- ── Types, one law for each shape ──

module _ (p : Pool) (w : ℕ) where
  pub pool_ty-plain : Plain (kind_of w) → pool_ty p w ≡ plain (kind_of w)
  unfolding pool_ty
  pool_ty-plain h = unfolded-plain p.texts p.words w (add-one p.size) refl h

  pub pool_ty-named : names (kind_of w) ≡ true → pool_ty p w ≡ named (kind_of w) (name_bytes p.texts w)
  unfolding pool_ty
  pool_ty-named h = unfolded-named p.texts p.words w (add-one p.size) refl h

  module _ (b : Backward p.words p.size) (r : Refers p.words p.size w) where
    -- a word at an index of the pool needs no more than P levels
    inner-ty : (j : ℕ) → j < p.size → unfolded p.texts p.words p.size (pool_word p j) ≡ pool_ty p (pool_word p j)
    unfolding pool_ty
    inner-ty j l = unfolded-enough p.texts p.words b p.size (p.size + 1) j (pool_word p j) (omega arith) (b.each j l) l (omega arith)

    pub pool_ty-wrap : wraps (kind_of w) ≡ true → pool_ty p w ≡ wrap (kind_of w) (pool_ty p (inner_word p.words w))
    unfolding pool_ty
    pool_ty-wrap h =
        unfolded-wrap p.texts p.words w (add-one p.size) refl h
        ∙ ap (wrap (kind_of w)) (inner-ty (payload_of w) (r.to_inner h))

    pub pool_ty_record : kind_of w ≡ 8 → pool_ty p w ≡ rec (fields_of (pool_ty p) p.texts p.words w)
    unfolding pool_ty
    pool_ty_record h =
        let n = r.to_fields h in
        unfolded_record p.texts p.words w (add-one p.size) refl h
        ∙ ap rec (fields-same p.texts p.words _ (pool_ty p) (payload_of w + 1) (field_count p.words w) (λ i j m e. inner-ty j (omega arith)))
