-- Depth bounds unfolding: levels that a type does not have change nothing, so 33 of them are enough for types at most 32 deep.
-- By induction on the levels. Assumes nothing.
use Prim.Native.Nat.{ℕ, zero, suc, ◌+◌, ◌≤◌}
use Rattle.std.proofs.Math.Nat.{max-le}
use native.Mathlib.Omega.{arith}
use Rattle.std.specs.Prelude.{◌≡◌, true, List, get_or}
use Rattle.std.proofs.Math.Path.{refl, sym, ap}
use Rattle.std.proofs.Common.{◌∙◌}
use Rattle.tok.specs.Word.{kind_of, payload_of}
use Rattle.tok.specs.Text.{Texts}
use Rattle.ptype.specs.Ty.{Ty, plain, wrap, rec, named, depth_of, deepest}
use Rattle.ptype.specs.Words.{inner_word, field_count, fields_from, fields_of, unfolded, ty_of}
use Rattle.ptype.specs.Kinds.{wraps, shape, is_plain, is_wrap, is_record, is_named}
use Rattle.ptype.proofs.UnfoldLaws.{unfolded-plain, unfolded-wrap, unfolded_record, unfolded-named}

-- every type is at least 1 deep
pub depth_positive : (t : Ty) → 1 ≤ depth_of t
unfolding depth_of
depth_positive (plain k) = omega arith
depth_positive (wrap k t) = omega arith
depth_positive (rec fs) = omega arith
depth_positive (named k n) = omega arith

module _ (t : Texts) (types : List ℕ) where
  fields-enough : (go go' : ℕ → Ty) (f g : ℕ) → ((w : ℕ) → depth_of (go w) ≤ f → depth_of (go w) ≤ g → go w ≡ go' w) → (at k : ℕ)
      → deepest (fields_from go t types at k) ≤ f → deepest (fields_from go t types at k) ≤ g → fields_from go t types at k ≡ fields_from go' t types at k
  unfolding fields_from depth_of
  fields-enough go go' f g e at zero p q = refl
  fields-enough go go' f g e at (suc k) p q =
      cc (e (get_or types (at + 1) 0) (omega arith) (omega arith), fields-enough go go' f g e (at + 2) k (omega arith) (omega arith))

  -- The law of levels: a tree of f levels that is at most f deep, so that nothing was cut, and at most g deep, is the tree of g levels.
  pub unfolded-enough : (f g w : ℕ) → depth_of (unfolded t types f w) ≤ f → depth_of (unfolded t types f w) ≤ g → unfolded t types f w ≡ unfolded t types g w
  unfolding depth_of
  unfolded-enough zero g w p q = absurd (omega (arith, depth_positive (unfolded t types zero w)))
  unfolded-enough (suc f) zero w p q = absurd (omega (arith, depth_positive (unfolded t types (suc f) w)))
  unfolded-enough (suc f) (suc g) w p q =
      elim (shape (kind_of w)) [
        | is_plain h ↦ unfolded-plain t types w refl refl h ∙ sym (unfolded-plain t types w refl refl h)
        | is_wrap h ↦
            let e = unfolded-wrap t types w {deep = suc f} refl refl h in
            let d = ap depth_of e in
            cc (e, unfolded-wrap t types w {deep = suc g} refl refl h, unfolded-enough f g (inner_word types w) (omega arith) (omega arith))
        | is_record h ↦
            let e = unfolded_record t types w {deep = suc f} refl refl h in
            let d = ap depth_of e in
            cc (
              e,
              unfolded_record t types w {deep = suc g} refl refl h,
              fields-enough (unfolded t types f) (unfolded t types g) f g (λ v. unfolded-enough f g v) (payload_of w + 1) (field_count types w)
                  (omega arith) (omega arith),
            )
        | is_named h ↦ unfolded-named t types w refl refl h ∙ sym (unfolded-named t types w refl refl h)
      ]

  -- 33 levels are enough for a type that is at most 32 deep: any number of levels from 32 on gives the same tree,
  pub ty_of-enough : (g w : ℕ) → depth_of (ty_of t types w) ≤ 32 → 32 ≤ g → ty_of t types w ≡ unfolded t types g w
  unfolding ty_of
  ty_of-enough g w p q = unfolded-enough 33 g w (omega arith) (omega arith)

  -- and they tell such a type from a deeper one: if it is at most 32 deep in any number of levels from 32 on, it is so in 33.
  pub ty_of-decides : (g w : ℕ) → depth_of (unfolded t types g w) ≤ 32 → 32 ≤ g → unfolded t types g w ≡ ty_of t types w
  unfolding ty_of
  ty_of-decides g w p q = unfolded-enough g 33 w (omega arith) (omega arith)

  -- Of a type at most 32 deep, the tree holds the trees of the words inside.
  pub ty_of-wrap : (w : ℕ) → wraps (kind_of w) ≡ true → depth_of (ty_of t types w) ≤ 32 → ty_of t types w ≡ wrap (kind_of w) (ty_of t types (inner_word types w))
  unfolding ty_of depth_of
  ty_of-wrap w h p =
      let e = unfolded-wrap t types w {deep = 33} refl refl h in
      let d = ap depth_of e in
      cc (e, unfolded-enough 32 33 (inner_word types w) (omega arith) (omega arith))

  pub ty_of_record : (w : ℕ) → kind_of w ≡ 8 → depth_of (ty_of t types w) ≤ 32 → ty_of t types w ≡ rec (fields_of (ty_of t types) t types w)
  unfolding ty_of depth_of
  ty_of_record w h p =
      let e = unfolded_record t types w {deep = 33} refl refl h in
      let d = ap depth_of e in
      cc (
        e,
        fields-enough (unfolded t types 32) (ty_of t types) 32 33 (λ v. unfolded-enough 32 33 v) (payload_of w + 1) (field_count types w)
            (omega arith) (omega arith),
      )

  fields-cut : (go : ℕ → Ty) (f : ℕ) → ((w : ℕ) → depth_of (go w) ≤ f) → (at k : ℕ) → deepest (fields_from go t types at k) ≤ f
  unfolding fields_from depth_of
  fields-cut go f h at zero = omega arith
  fields-cut go f h at (suc k) = max-le (h (get_or types (at + 1) 0)) (fields-cut go f h (at + 2) k)

  -- A tree of f levels is at most one deeper: Unknown stands below the last.
  pub depth-cut : (f w : ℕ) → depth_of (unfolded t types f w) ≤ suc f
  unfolding unfolded depth_of
  depth-cut zero w = omega arith
  depth-cut (suc f) w =
      elim (shape (kind_of w)) [
        | is_plain h ↦ rw (unfolded-plain t types w {deep = suc f} refl refl h) (omega arith)
        | is_wrap h ↦ rw (unfolded-wrap t types w {deep = suc f} refl refl h) (omega (arith, depth-cut f (inner_word types w)))
        | is_record h ↦
            rw (unfolded_record t types w {deep = suc f} refl refl h)
            (omega (arith, fields-cut (unfolded t types f) (suc f) (λ v. depth-cut f v) (payload_of w + 1) (field_count types w)))
        | is_named h ↦ rw (unfolded-named t types w {deep = suc f} refl refl h) (omega arith)
      ]

  pub deepest-cut : (f w : ℕ) → deepest (fields_of (unfolded t types f) t types w) ≤ suc f
  deepest-cut f w = fields-cut (unfolded t types f) (suc f) (λ v. depth-cut f v) (payload_of w + 1) (field_count types w)
