-- What is found by marks: never more than a level past the levels; and where the marks are right, how deep the type is, and right marks.
-- By induction on the levels. Assumes nothing.
use Prim.Native.Nat.{ℕ, zero, suc, ◌+◌, ◌-◌, ◌≤◌, min, max}
use mathlib.Core.Path.{◌≡◌, refl, sym, ap, subst, ◌∙◌}
use mathlib.Core.Bool.{Bool, true, false, cond}
use mathlib.Core.List.{List}
use native.Mathlib.Omega.{arith}
use native.Mathlib.Decide.{ℕ_discrete, dec_lt}
use lib.Dec.{ltb, leb, eqb}
use lib.ListN.{length, get_or, set, replicate}
use lib.Seq.{set_out}
use borrow.Author.Tests.{ltb-true, leb-true}
use Rattle.tok.specs.Word.{kind_of, payload_of}
use Rattle.tok.specs.Text.{Texts}
use Rattle.ptype.specs.Ty.{Ty, depth_of, deepest}
use Rattle.ptype.specs.Words.{inner_word, field_count, fields_from, fields_of, unfolded, ty_of}
use Rattle.ptype.specs.Kinds.{wraps}
use Rattle.ptype.specs.Marks.{Depths}
use Rattle.ptype.proofs.MarkLaws.{hit, made, no-marks}
use Rattle.ptype.specs.Gauge.{Gauged, gauged, deeper, noted, gauge_fields, gauge_list, gauge, Right}
use Rattle.ptype.proofs.DepthReturns.{depth-none, depth-wrap, depth_record, depth-flat}
use Rattle.ptype.proofs.GaugeReturns.{gauge-wrap, gauge_record, gauge-flat}

module _ (types : List ℕ) where
  -- ── Never more than a level past the levels ──

  fields_fit : (go : ℕ → List ℕ → Gauged) (f : ℕ) → ((w : ℕ) (known : List ℕ) → (go w known).depth ≤ suc f) → (at n most : ℕ) (known : List ℕ) → most ≤ suc f
      → (gauge_fields go types at n most known).depth ≤ suc f
  unfolding gauge_fields
  fields_fit go f h at zero most known l = l
  fields_fit go f h at (suc n) most known l =
      let v = get_or types (at + 1) 0 in
      fields_fit go f h (at + 2) n (max most (go v known).depth) (go v known).known (omega (arith, h v known))

  list-fit : (go : ℕ → List ℕ → Gauged) (f : ℕ) → ((w : ℕ) (known : List ℕ) → (go w known).depth ≤ suc f) → (w : ℕ) (known : List ℕ) → (gauge_list go types f w known).depth ≤ suc f
  unfolding gauge_list
  list-fit go f h w known = by (ltb 0 (get_or known (payload_of w) 0))
    where
      m : Gauged
      m = gauge_fields go types (payload_of w + 1) (field_count types w) 0 known

      by : (b : Bool) → (cond b (gauged (min (f + 1) (get_or known (payload_of w) 0 - 1)) known) (noted f (payload_of w) m)).depth ≤ suc f
      by true = omega arith
      by false = fields_fit go f h (payload_of w + 1) (field_count types w) 0 known (omega arith)

  level-fits : (f w : ℕ) (known : List ℕ) → ((v : ℕ) (known : List ℕ) → (gauge types f v known).depth ≤ suc f) → (gauge types (suc f) w known).depth ≤ suc (suc f)
  unfolding gauge
  level-fits f w known h = by (wraps (kind_of w)) (eqb (kind_of w) 8)
    where
      by : (a b : Bool) → (cond a (deeper (gauge types f (inner_word types w) known)) (cond b (deeper (gauge_list (gauge types f) types f w known)) (gauged 1 known))).depth ≤ suc (suc f)
      by true b = omega (arith, h (inner_word types w) known)
      by false true = omega (arith, list-fit (gauge types f) f h w known)
      by false false = omega arith

  pub gauge-fits : (f w : ℕ) (known : List ℕ) → (gauge types f w known).depth ≤ suc f
  unfolding gauge
  gauge-fits zero w known = omega arith
  gauge-fits (suc f) w known = level-fits f w known (gauge-fits f)

  pub list-fits : (f w : ℕ) (known : List ℕ) → (gauge_list (gauge types f) types f w known).depth ≤ suc f
  list-fits f w known = list-fit (gauge types f) f (gauge-fits f) w known

  -- ── Right marks ──

  fields-right : (go : ℕ → List ℕ → Gauged) (tree : Texts → ℕ → Ty) → ((w : ℕ) (known : List ℕ) → Right types known (λ t. depth_of (tree t w)) (go w known))
      → (at n most : ℕ) (known : List ℕ) → Right types known (λ t. max most (deepest (fields_from (tree t) t types at n))) (gauge_fields go types at n most known)
  unfolding gauge_fields fields_from depth_of
  fields-right go tree h at zero most known = record { depth = λ m t. omega arith; marks = λ m. m }
  fields-right go tree h at (suc n) most known =
      let v = get_or types (at + 1) 0 in
      let one = h v known in
      let rest = fields-right go tree h (at + 2) n (max most (go v known).depth) (go v known).known in
      record { depth = λ m t. omega (arith, rest.depth (one.marks m) t, one.depth m t); marks = λ m. rest.marks (one.marks m) }

  list-is : (f w : ℕ) (known : List ℕ) → ((v : ℕ) (known : List ℕ) → Right types known (λ t. depth_of (unfolded t types f v)) (gauge types f v known))
      → Right types known (λ t. deepest (fields_of (unfolded t types f) t types w)) (gauge_list (gauge types f) types f w known)
  unfolding gauge_list
  list-is f w known h = by (ltb 0 (get_or known q 0)) refl
    where
      q : ℕ
      q = payload_of w

      m : Gauged
      m = gauge_fields (gauge types f) types (q + 1) (field_count types w) 0 known

      all : Right types known (λ t. max 0 (deepest (fields_of (unfolded t types f) t types w))) m
      all = fields-right (gauge types f) (λ t. unfolded t types f) h (q + 1) (field_count types w) 0 known

      is : Depths types known → (t : Texts) → m.depth ≡ deepest (fields_of (unfolded t types f) t types w)
      is d t = omega (arith, all.depth d t)

      more : (b : Bool) → leb m.depth f ≡ b → Depths types known → Depths types (cond b (set m.known q (m.depth + 1)) m.known)
      more true e d = elim (dec_lt q (length m.known)) [
        | yes l ↦ made types m.known w f (all.marks d) refl l (leb-true m.depth f e) (is d)
        | no l ↦ rw (set_out m.known q (m.depth + 1) (omega arith)) (all.marks d)
      ]
      more false e d = all.marks d

      by : (b : Bool) → ltb 0 (get_or known q 0) ≡ b
          → Right types known (λ t. deepest (fields_of (unfolded t types f) t types w)) (cond b (gauged (min (f + 1) (get_or known q 0 - 1)) known) (noted f q m))
      by true e = record { depth = λ d. hit types known w f d refl refl (ltb-true 0 (get_or known q 0) e) refl; marks = λ d. d }
      by false e = record { depth = is; marks = more (leb m.depth f) refl }

  level-right : (deep w : ℕ) (known : List ℕ) → (deep ≡ 0 → ⊥) → ((v : ℕ) (known : List ℕ) → Right types known (λ t. depth_of (unfolded t types (deep - 1) v)) (gauge types (deep - 1) v known))
      → Right types known (λ t. depth_of (unfolded t types deep w)) (gauge types deep w known)
  level-right deep w known some h = by (wraps (kind_of w)) refl (ℕ_discrete (kind_of w) 8)
    where
      inside : Right types known (λ t. depth_of (unfolded t types (deep - 1) (inner_word types w))) (gauge types (deep - 1) (inner_word types w) known)
      inside = h (inner_word types w) known

      fields : Right types known (λ t. deepest (fields_of (unfolded t types (deep - 1)) t types w)) (gauge_list (gauge types (deep - 1)) types (deep - 1) w known)
      fields = list-is (deep - 1) w known h

      to : {m : Gauged} → gauge types deep w known ≡ m → Right types known (λ t. depth_of (unfolded t types deep w)) m
          → Right types known (λ t. depth_of (unfolded t types deep w)) (gauge types deep w known)
      to e r = subst (Right types known (λ t. depth_of (unfolded t types deep w))) (sym e) r

      by : (a : Bool) → wraps (kind_of w) ≡ a → Dec (kind_of w ≡ 8) → Right types known (λ t. depth_of (unfolded t types deep w)) (gauge types deep w known)
      by true e d = to (gauge-wrap types w known some refl e refl refl) (record { depth = λ x t. depth-wrap t types w some refl e refl (inside.depth x t); marks = inside.marks })
      by false e (yes d) = to (gauge_record types w known some refl e d refl) (record { depth = λ x t. depth_record t types w some refl d (fields.depth x t); marks = fields.marks })
      by false e (no d) = to (gauge-flat types w known some refl e d) (record { depth = λ x t. depth-flat t types w some refl e d; marks = λ x. x })

  pub gauge-right : (f w : ℕ) (known : List ℕ) → Right types known (λ t. depth_of (unfolded t types f w)) (gauge types f w known)
  unfolding gauge
  gauge-right zero w known = record { depth = λ d t. depth-none t types w refl; marks = λ d. d }
  gauge-right (suc f) w known =
      let e : suc f - 1 ≡ f = omega arith in
      level-right (suc f) w known (λ z. omega arith) (λ v known. rw e (gauge-right f v known))

  pub list_right : (f w : ℕ) (known : List ℕ) → Right types known (λ t. deepest (fields_of (unfolded t types f) t types w)) (gauge_list (gauge types f) types f w known)
  list_right f w known = list-is f w known (gauge-right f)

  -- ── As the code has it ──

  pub gauge-counts : (f w : ℕ) (known : List ℕ) {r : ℕ} {known' : List ℕ} → gauge types f w known ≡ gauged r known' → r ≤ suc f
  gauge-counts f w known e = omega (arith, gauge-fits f w known, ap (λ m. m.depth) e)

  pub list_counts : (f w : ℕ) (known : List ℕ) {r : ℕ} {known' : List ℕ} → gauge_list (gauge types f) types f w known ≡ gauged r known' → r ≤ suc f
  list_counts f w known e = omega (arith, list-fits f w known, ap (λ m. m.depth) e)

  -- no marks at first
  pub list-fresh : (f w n : ℕ) {r : ℕ} {known' : List ℕ} → gauge_list (gauge types f) types f w (replicate n 0) ≡ gauged r known'
      → (t : Texts) → r ≡ deepest (fields_of (unfolded t types f) t types w)
  list-fresh f w n e t = ap (λ m. m.depth) (sym e) ∙ (list_right f w (replicate n 0)).depth (no-marks types n) t

  pub type-right : (w : ℕ) (known : List ℕ) {m : Gauged} → gauge types 33 w known ≡ m → Right types known (λ t. depth_of (ty_of t types w)) m
  unfolding ty_of
  type-right w known e = subst (Right types known (λ t. depth_of (unfolded t types 33 w))) e (gauge-right 33 w known)

  -- no marks at first
  pub type-fresh : (w n : ℕ) {m : Gauged} → gauge types 33 w (replicate n 0) ≡ m → (t : Texts) → m.depth ≡ depth_of (ty_of t types w)
  type-fresh w n e t = (type-right w (replicate n 0) e).depth (no-marks types n) t
