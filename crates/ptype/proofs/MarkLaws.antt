-- Marks of field lists: fewer levels only cut a type. By induction on the levels. Assumes nothing.
use Prim.Native.Nat.{ℕ, zero, suc, ◌+◌, ◌-◌, ◌≤◌, ◌<◌, min}
use native.Mathlib.Omega.{arith}
use Rattle.std.proofs.Math.Decide.{ℕ_discrete, dec_lt}
use Rattle.std.specs.Prelude.{◌≡◌, Bool, true, false, List, get_or, set, length, replicate}
use Rattle.std.proofs.Math.Path.{refl}
use Rattle.std.proofs.Common.{sym, ap, ◌∙◌, get_or-set_same, get_or-set_other}
use Rattle.std.proofs.lemmas.List.{set_past}
use Rattle.facts.specs.Tests.{neither, refuted}
use Rattle.tok.specs.Word.{kind_of, payload_of}
use Rattle.tok.specs.Text.{Texts}
use Rattle.ptype.specs.Ty.{Ty, depth_of, deepest}
use Rattle.ptype.specs.Words.{unknown_word, inner_word, field_count, fields_from, fields_of, unfolded}
use Rattle.ptype.specs.Kinds.{shape, is_plain, is_wrap, is_record, is_named}
use Rattle.ptype.proofs.UnfoldLaws.{unfolded-plain, unfolded-wrap, unfolded_record, unfolded-named}
use Rattle.ptype.proofs.DepthLaws.{depth_positive}
use Rattle.ptype.proofs.StandsReturns.{at-wrap, at_record, at_leaf, named-flat}
use Rattle.ptype.specs.Stands.{found_from, found_among, found_within}
use Rattle.ptype.specs.Marks.{fields_at, Depths, Free, Tells}

module _ (t : Texts) (types : List ℕ) where
  fields-cut-by : (go go' : ℕ → Ty) (f : ℕ) → ((w : ℕ) → depth_of (go w) ≡ min (suc f) (depth_of (go' w))) → (at k : ℕ)
      → deepest (fields_from go t types at k) ≡ min (suc f) (deepest (fields_from go' t types at k))
  unfolding fields_from depth_of
  fields-cut-by go go' f e at zero = omega arith
  fields-cut-by go go' f e at (suc k) = omega (arith, e (get_or types (at + 1) 0), fields-cut-by go go' f e (at + 2) k)

  -- THE LAW OF CUTTING
  pub depth-levels : (f g w : ℕ) → f ≤ g → depth_of (unfolded t types f w) ≡ min (suc f) (depth_of (unfolded t types g w))
  unfolding unfolded depth_of
  depth-levels zero g w l = omega (arith, depth_positive (unfolded t types g w))
  depth-levels (suc f) zero w l = absurd (omega arith)
  depth-levels (suc f) (suc g) w l =
      elim (shape (kind_of w)) [
        | is_plain h ↦ rw (unfolded-plain t types w {deep = suc f} refl refl h, unfolded-plain t types w {deep = suc g} refl refl h) (omega arith)
        | is_wrap h ↦
            rw (unfolded-wrap t types w {deep = suc f} refl refl h, unfolded-wrap t types w {deep = suc g} refl refl h)
            (omega (arith, depth-levels f g (inner_word types w) (omega arith)))
        | is_record h ↦
            rw (unfolded_record t types w {deep = suc f} refl refl h, unfolded_record t types w {deep = suc g} refl refl h)
            (omega (arith, fields-cut-by (unfolded t types f) (unfolded t types g) f (λ v. depth-levels f g v (omega arith)) (payload_of w + 1) (field_count types w)))
        | is_named h ↦ rw (unfolded-named t types w {deep = suc f} refl refl h, unfolded-named t types w {deep = suc g} refl refl h) (omega arith)
      ]

  pub list-levels : (f g q : ℕ) → f ≤ g → deepest (fields_at t types f q) ≡ min (suc f) (deepest (fields_at t types g q))
  list-levels f g q l = fields-cut-by (unfolded t types f) (unfolded t types g) f (λ v. depth-levels f g v l) (q + 1) (payload_of (get_or types q 0))

-- What is not cut may be marked.
pub marks-more : {types known : List ℕ} (q d f : ℕ) → q < length known → Depths types known → ((t : Texts) → d ≡ deepest (fields_at t types f q)) → d ≤ f → Depths types (set known q (d + 1))
marks-more {types} {known} q d f r m e l = record { each = λ p n t g. by p n t g (ℕ_discrete p q) }
  where
    is : (t : Texts) (g : ℕ) → deepest (fields_at t types g q) ≡ min (suc g) d
    is t g = elim (dec_lt f g) [ yes h ↦ omega (arith, e t, list-levels t types f g q (omega arith)) | no h ↦ omega (arith, e t, list-levels t types g f q (omega arith)) ]

    by : (p : ℕ) → (get_or (set known q (d + 1)) p 0 ≡ 0 → ⊥) → (t : Texts) (g : ℕ) → Dec (p ≡ q) → deepest (fields_at t types g p) ≡ min (suc g) (get_or (set known q (d + 1)) p 0 - 1)
    by p n t g (no z) = let o = get_or-set_other known q p (d + 1) 0 z in rw o (m.each p (λ y. n (o ∙ y)) t g)
    by p n t g (yes z) =
        let o : get_or (set known q (d + 1)) p 0 - 1 ≡ d = rw (z, get_or-set_same known q (d + 1) 0 r) (omega arith) in
        rw (o, z) (is t g)

-- a mark that stands, met with some levels left
pub marks-hit : {types known : List ℕ} (q f : ℕ) {k : ℕ} → Depths types known → k ≡ get_or known q 0 → (k ≡ 0 → ⊥) → (t : Texts) → min (f + 1) (k - 1) ≡ deepest (fields_at t types f q)
marks-hit q f {k} m e n t = rw e (omega (arith, m.each q (λ z. n (e ∙ z)) t f))

-- as the code has them
pub hit : (types known : List ℕ) (w f : ℕ) {at k r : ℕ} → Depths types known → at ≡ payload_of w → k ≡ get_or known at 0 → 0 < k → r ≡ min (f + 1) (k - 1)
    → (t : Texts) → r ≡ deepest (fields_of (unfolded t types f) t types w)
hit types known w f {at} {k} m ea ek l er t = er ∙ (marks-hit at f m ek (λ z. omega arith) t ∙ ap (λ q. deepest (fields_at t types f q)) ea)

pub made : (types known : List ℕ) (w f : ℕ) {at d : ℕ} → Depths types known → at ≡ payload_of w → at < length known → d ≤ f
    → ((t : Texts) → d ≡ deepest (fields_of (unfolded t types f) t types w)) → Depths types (set known at (d + 1))
made types known w f {at} {d} m ea l h e = marks-more at d f l m (λ t. e t ∙ ap (λ q. deepest (fields_at t types f q)) (sym ea)) h

zeros : (n q : ℕ) → get_or {A = ℕ} (replicate {A = ℕ} n 0) q 0 ≡ 0
zeros zero q = refl
zeros (suc n) zero = refl
zeros (suc n) (suc q) = zeros n q

-- no mark at first
pub no-marks : (types : List ℕ) (n : ℕ) → Depths types (replicate n 0)
no-marks types n = record { each = λ q h t f. absurd (h (zeros n q)) }

-- ── What is found nowhere ──

module _ (leaf : ℕ → Bool) (types : List ℕ) where
  from-keeps : (go go' : ℕ → Bool) → ((v : ℕ) → go v ≡ false → go' v ≡ false) → (at n : ℕ) → found_from go types at n ≡ false → found_from go' types at n ≡ false
  unfolding found_from
  from-keeps go go' h at zero e = refl
  from-keeps go go' h at (suc n) e =
      let x = neither (go (get_or types (at + 1) 0)) (found_from go types (at + 2) n) e in
      rw (h (get_or types (at + 1) 0) x.0, from-keeps go go' h (at + 2) n x.1)

  -- Where Unknown is sought and is not found, nothing was cut, and more levels show no more; of anything else, fewer levels show less.
  pub within-keeps : (f g w : ℕ) → (leaf unknown_word ≡ true → f ≤ g) → (leaf unknown_word ≡ false → g ≤ f) → found_within leaf types f w ≡ false → found_within leaf types g w ≡ false
  unfolding found_within
  within-keeps zero zero w a b e = e
  within-keeps zero (suc g) w a b e = absurd (omega (arith, b e))
  within-keeps (suc f) zero w a b e = refuted (leaf unknown_word) (λ z. omega (arith, a z))
  within-keeps (suc f) (suc g) w a b e =
      let less : leaf unknown_word ≡ true → f ≤ g = λ z. omega (arith, a z) in
      let more : leaf unknown_word ≡ false → g ≤ f = λ z. omega (arith, b z) in
      elim (shape (kind_of w)) [
        | is_plain h ↦ at_leaf leaf types g w h.no_wrap h.no_record ∙ (sym (at_leaf leaf types f w h.no_wrap h.no_record) ∙ e)
        | is_wrap h ↦ at-wrap leaf types g w h ∙ within-keeps f g (inner_word types w) less more (sym (at-wrap leaf types f w h) ∙ e)
        | is_record h ↦
            at_record leaf types g w h
            ∙ from-keeps (found_within leaf types f) (found_within leaf types g) (λ v. within-keeps f g v less more) (payload_of w + 1) (field_count types w)
            (sym (at_record leaf types f w h) ∙ e)
        | is_named h ↦
            let n = named-flat (kind_of w) h in
            at_leaf leaf types g w n.0 n.1 ∙ (sym (at_leaf leaf types f w n.0 n.1) ∙ e)
      ]

  -- a mark that tells, as the code has it
  pub free-hit : {free : List ℕ} (w f : ℕ) {at m : ℕ} → Free leaf types free → at ≡ payload_of w → m ≡ get_or free at 0 → Tells (leaf unknown_word) m f
      → false ≡ found_among (found_within leaf types f) types w
  free-hit {free} w f {at} {m} h ea em q =
      let g = get_or free at 0 - 1 in
      let e = h.each at (λ z. q.marked (em ∙ z)) in
      let less : leaf unknown_word ≡ true → g ≤ f = λ z. omega (arith, q.more z) in
      let more : leaf unknown_word ≡ false → f ≤ g = λ z. omega (arith, q.fewer z) in
      sym (rw ea at (from-keeps (found_within leaf types g) (found_within leaf types f) (λ v. within-keeps g f v less more) (at + 1) (payload_of (get_or types at 0)) e))

  -- What was not found may be marked, where there are so many marks;
  pub free_set : {free : List ℕ} (w f : ℕ) {at : ℕ} → Free leaf types free → at ≡ payload_of w
      → false ≡ found_among (found_within leaf types f) types w → Free leaf types (set free at (f + 1))
  free_set {free} w f {at} h ea e = elim (dec_lt at (length free)) [ yes l ↦ record { each = λ p n. by l p n (ℕ_discrete p at) } | no l ↦ rw (set_past free at (f + 1) (omega arith)) h ]
    where
      by : at < length free → (p : ℕ) → (get_or (set free at (f + 1)) p 0 ≡ 0 → ⊥) → Dec (p ≡ at)
          → found_from (found_within leaf types (get_or (set free at (f + 1)) p 0 - 1)) types (p + 1) (payload_of (get_or types p 0)) ≡ false
      by l p n (no z) = let o = get_or-set_other free at p (f + 1) 0 z in rw o (h.each p (λ y. n (o ∙ y)))
      by l p n (yes z) =
          let o : get_or (set free at (f + 1)) p 0 - 1 ≡ f = rw (z, get_or-set_same free at (f + 1) 0 l) (omega arith) in
          rw (o, z, ea) (sym e)

  -- and nothing is at first.
  pub none_free : (n : ℕ) → Free leaf types (replicate n 0)
  none_free n = record { each = λ q h. absurd (h (zeros n q)) }
