-- What `depth_within` and `deepest_of` return and leave marked: one law for each way out of the code. Assumes nothing.
use Prim.Native.Nat.{ℕ, suc, ◌+◌, ◌-◌, ◌≤◌, ◌<◌, min, max}
use mathlib.Core.Path.{◌≡◌, refl, sym, ap, ap₂, ◌∙◌}
use mathlib.Core.Bool.{true, false, cond}
use mathlib.Core.List.{List}
use native.Mathlib.Omega.{arith}
use lib.Dec.{eqb}
use lib.ListN.{get_or, set}
use borrow.Author.Tests.{lt-ltb, le-ltb, le-leb, lt-leb, eq-eqb, ne_eqb}
use Rattle.tok.specs.Word.{kind_of, payload_of}
use Rattle.ptype.specs.Words.{inner_word, field_count}
use Rattle.ptype.specs.Kinds.{wraps}
use Rattle.ptype.proofs.UnfoldLaws.{one_less}
use Rattle.ptype.specs.Gauge.{Gauged, gauged, deeper, noted, gauge_fields, gauge_list, gauge}

-- k, i, q, n, r are what the calls gave, each with what its contract says of it
module _ (types : List ℕ) (w : ℕ) (known : List ℕ) {levels : ℕ} where
  pub gauge-none : levels ≡ 0 → gauge types levels w known ≡ gauged 1 known
  unfolding gauge
  gauge-none e = rw e refl

  module _ {k : ℕ} (p : levels ≡ 0 → ⊥) (ek : k ≡ kind_of w) where
    step : gauge types levels w known
        ≡ cond (wraps k) (deeper (gauge types (levels - 1) (inner_word types w) known)) (cond (eqb k 8) (deeper (gauge_list (gauge types (levels - 1)) types (levels - 1) w known)) (gauged 1 known))
    unfolding gauge
    step = ap (λ n. gauge types n w known) (one_less p) ∙ rw ek refl

    pub gauge-wrap : {i r : ℕ} {known' : List ℕ} → wraps k ≡ true → i ≡ inner_word types w → gauge types (levels - 1) i known ≡ gauged r known'
        → gauge types levels w known ≡ gauged (1 + r) known'
    gauge-wrap h ei e = step ∙ rw h (ap (λ j. deeper (gauge types (levels - 1) j known)) (sym ei) ∙ ap deeper e)

    module _ (h : wraps k ≡ false) where
      pub gauge_record : {r : ℕ} {known' : List ℕ} → k ≡ 8 → gauge_list (gauge types (levels - 1)) types (levels - 1) w known ≡ gauged r known'
          → gauge types levels w known ≡ gauged (1 + r) known'
      gauge_record d e = step ∙ rw (h, eq-eqb k 8 d) (ap deeper e)

      pub gauge-flat : (k ≡ 8 → ⊥) → gauge types levels w known ≡ gauged 1 known
      gauge-flat d = step ∙ rw (h, ne_eqb k 8 d) refl

-- a Record's list: at is its index, k its mark
module _ (go : ℕ → List ℕ → Gauged) (types : List ℕ) (f w : ℕ) (known : List ℕ) {at k : ℕ} (ea : at ≡ payload_of w) (ek : k ≡ get_or known at 0) where
  mark_is : k ≡ get_or known (payload_of w) 0
  mark_is = ek ∙ ap (λ q. get_or known q 0) ea

  pub list_hit : {r : ℕ} → 0 < k → r ≡ min (f + 1) (k - 1) → gauge_list go types f w known ≡ gauged r known
  unfolding gauge_list
  list_hit l er = rw (← mark_is, lt-ltb 0 k l, er) refl

  -- the loop is over, and these are the deepest of all and the marks
  module _ (l : k ≤ 0) (i most left : ℕ) (known' : List ℕ)
      (inv : gauge_fields go types (payload_of w + 1) (field_count types w) 0 known ≡ gauge_fields go types i left most known') (z : left ≤ 0) where
    ends : gauge_list go types f w known ≡ noted f at (gauged most known')
    unfolding gauge_list gauge_fields
    ends =
        let e : left ≡ 0 = omega arith in
        let m : gauge_fields go types (payload_of w + 1) (field_count types w) 0 known ≡ gauged most known' = inv ∙ ap (λ n. gauge_fields go types i n most known') e in
        rw (← mark_is, le-ltb 0 k l, ea) (ap (noted f (payload_of w)) m)

    pub list-noted : most ≤ f → gauge_list go types f w known ≡ gauged most (set known' at (most + 1))
    list-noted h = ends ∙ rw (le-leb most f h) refl

    pub list-cut : f < most → gauge_list go types f w known ≡ gauged most known'
    list-cut h = ends ∙ rw (lt-leb most f h) refl

-- the loop: at first, and after one field more
pub fields-first : (go : ℕ → List ℕ → Gauged) (types : List ℕ) (w : ℕ) (known : List ℕ) {at n : ℕ} → at ≡ payload_of w + 1 → n ≡ field_count types w
    → gauge_fields go types (payload_of w + 1) (field_count types w) 0 known ≡ gauge_fields go types at n 0 known
fields-first go types w known ea en = ap₂ (λ q n. gauge_fields go types q n 0 known) (sym ea) (sym en)

pub fields-next : (go : ℕ → List ℕ → Gauged) (types : List ℕ) (at most : ℕ) (known : List ℕ) {at' n n' w r m : ℕ} {known' : List ℕ}
    → at' ≡ at + 2 → n' ≡ n - 1 → 0 < n → w ≡ get_or types (at + 1) 0 → go w known ≡ gauged r known' → m ≡ max most r
    → gauge_fields go types at n most known ≡ gauge_fields go types at' n' m known'
unfolding gauge_fields
fields-next go types at most known {at'} {n} {n'} {w} {r} {m} {known'} ea en l ew e em =
    rw (ea, en) (
    let s : n ≡ suc (n - 1) = omega arith in
    let g : go (get_or types (at + 1) 0) known ≡ gauged r known' = ap (λ v. go v known) (sym ew) ∙ e in
    ap (λ k. gauge_fields go types at k most known) s
    ∙ ap (λ x. gauge_fields go types (at + 2) (n - 1) (max most x.depth) x.known) g
    ∙ ap (λ d. gauge_fields go types (at + 2) (n - 1) d known') (sym em))
