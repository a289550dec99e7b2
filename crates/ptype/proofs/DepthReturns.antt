-- What `depth_of` returns, by the kind of the word.
-- By the laws of unfolding. Assumes nothing.
use Prim.Native.Nat.{ℕ, suc, ◌+◌, ◌-◌, ◌≤◌}
use mathlib.Core.Path.{◌≡◌, sym, ◌∙◌}
use mathlib.Core.Bool.{true, false, true≢false}
use mathlib.Core.List.{List, []}
use Rattle.tok.specs.Word.{kind_of}
use Rattle.tok.specs.Text.{Texts, texts_of}
use Rattle.ptype.specs.Ty.{depth_of, deepest}
use Rattle.ptype.specs.Words.{inner_word, fields_of, unfolded}
use Rattle.ptype.specs.Kinds.{wraps, shape, is_plain, is_wrap, is_record, is_named}
use Rattle.ptype.proofs.DepthLaws.{depth-cut, deepest-cut}
use Rattle.ptype.proofs.UnfoldLaws.{one_less, unfolded-none, unfolded-plain, unfolded-wrap, unfolded_record, unfolded-named}

-- k, i, q, n, r are what the calls gave, each with what its contract says of it
module _ (t : Texts) (types : List ℕ) (w : ℕ) {deep : ℕ} where
  pub depth-none : deep ≡ 0 → 1 ≡ depth_of (unfolded t types deep w)
  unfolding depth_of
  depth-none e = rw (unfolded-none t types w e)

  module _ {k : ℕ} (p : deep ≡ 0 → ⊥) (ek : k ≡ kind_of w) where
    pub depth-wrap : {i r : ℕ} → wraps k ≡ true → i ≡ inner_word types w → r ≡ depth_of (unfolded t types (deep - 1) i) → 1 + r ≡ depth_of (unfolded t types deep w)
    unfolding depth_of
    depth-wrap h ei e = rw (unfolded-wrap t types w (one_less p) ek h, ← ei, ← e)

    pub depth_record : {r : ℕ} → k ≡ 8 → r ≡ deepest (fields_of (unfolded t types (deep - 1)) t types w) → 1 + r ≡ depth_of (unfolded t types deep w)
    unfolding depth_of
    depth_record h e = rw (unfolded_record t types w (one_less p) ek h, ← e)

    pub depth-flat : wraps k ≡ false → (k ≡ 8 → ⊥) → 1 ≡ depth_of (unfolded t types deep w)
    unfolding depth_of
    depth-flat a b = elim (shape k) [
      | is_plain h ↦ rw (unfolded-plain t types w (one_less p) ek h)
      | is_wrap h ↦ absurd (true≢false (sym h ∙ a))
      | is_record h ↦ absurd (b h)
      | is_named h ↦ rw (unfolded-named t types w (one_less p) ek h)
    ]

-- A depth is at most one more than the levels, so it can be counted on.
module _ (types : List ℕ) (deep : ℕ) {r : ℕ} where
  pub depth-fits : (w : ℕ) → ((t : Texts) → r ≡ depth_of (unfolded t types deep w)) → r ≤ suc deep
  depth-fits w e = rw (e (texts_of [] [])) (depth-cut (texts_of [] []) types deep w)

  pub deepest-fits : (w : ℕ) → ((t : Texts) → r ≡ deepest (fields_of (unfolded t types deep) t types w)) → r ≤ suc deep
  deepest-fits w e = rw (e (texts_of [] [])) (deepest-cut (texts_of [] []) types deep w)
