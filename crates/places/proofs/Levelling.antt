-- The loops over the fields of a type and over the types: what is left to do gives the whole; and each return of `levels_inside`. Assumes
-- nothing.
use Prim.Native.Nat.{ℕ, zero, suc, ◌+◌, ◌-◌, ◌*◌, ◌/◌, ◌≤◌, ◌<◌, max}
use mathlib.Core.Path.{◌≡◌, refl, sym, ap, ◌∙◌}
use mathlib.Core.List.{List}
use native.Mathlib.Omega.{arith}
use native.Mathlib.Nat.{sub-zero}
use lib.ListN.{length, get_or, set, length-set}
use Rattle.std.specs.Prelude.{◌⊎◌}
use Rattle.std.proofs.Common.{inl, inr}
use Rattle.ast.specs.declared.ExprKind.{ExprKind}
use Rattle.ast.specs.declared.ExprKind.TheVariants as expr
use Rattle.ast.specs.Kinds.{kind_of_expr}
use Rattle.ast.specs.KindLaws.{expr-number}
use Rattle.tok.specs.Word.{kind_of, payload_of}
use Rattle.places.specs.Places.{levels_in, most_in, levels_inside, levels_at, fill_levels}

-- ── The fields ──

-- `left` fields are left, from word `here` on, after `most` levels
pub record Most (image places : List ℕ) (at fields : ℕ) (most here left : ℕ) : Type 0 where
  pub place : here + 2 * left ≡ at + 2 * fields
  pub is : max most (most_in image places here left) ≡ most_in image places at fields

module _ {image places : List ℕ} {at fields : ℕ} where
  pub most-none : Most image places at fields 0 at fields
  most-none = record { place = refl; is = omega arith }

  module _ {most here left : ℕ} (h : Most image places at fields most here left) where
    pub most-more : {w x most' next later : ℕ} → left ≡ later + 1 → next ≡ here + 2 → w ≡ get_or image (here + 1) 0 → x ≡ levels_in places w → most' ≡ max most x
        → Most image places at fields most' next later
    unfolding most_in
    most-more {next = next} {later} l en ew ex em =
        let s : suc later ≡ left = omega arith in
        let x : levels_in places (get_or image (here + 1) 0) ≡ _ = sym (rw ew at ex) in
        let f : max (levels_in places (get_or image (here + 1) 0)) (most_in image places (here + 2) later) ≡ most_in image places here left
        = ap (most_in image places here) s in
        rw en (record { place = omega (arith, h.place); is = omega (arith, h.is, f, x, em) })

    pub most-all : left ≤ 0 → most ≡ most_in image places at fields
    unfolding most_in
    most-all l =
        let e : 0 ≡ left = omega arith in
        let z : 0 ≡ most_in image places here left = ap (most_in image places here) e in
        omega (arith, h.is, z)

-- ── By the kind ──

module _ (image places : List ℕ) (at : ℕ) {head k : ℕ} (eh : head ≡ get_or image at 0) (ek : k ≡ kind_of head) where
  kind : {j : ℕ} → k ≡ j → kind_of (get_or image at 0) ≡ j
  kind q = ap kind_of (sym eh) ∙ sym ek ∙ q

  inside-option : {w r : ℕ} → k ≡ 2 → w ≡ get_or image (at + 1) 0 → r ≡ levels_in places w → r ≡ levels_inside image places at
  unfolding levels_inside
  inside-option q ew er = er ∙ rw (ew, kind q)

  inside-array : {w r : ℕ} → k ≡ 3 → w ≡ get_or image (at + 1) 0 → r ≡ levels_in places w → r ≡ levels_inside image places at
  unfolding levels_inside
  inside-array q ew er = er ∙ rw (ew, kind q)

  pub inside-inner : {x : ExprKind} {w r : ℕ} → x ≡ kind_of_expr k → (x ≡ expr.Option) ⊎ (x ≡ expr.Array) → w ≡ get_or image (at + 1) 0 → r ≡ levels_in places w
      → r ≡ levels_inside image places at
  inside-inner e (inl p) = inside-option (expr-number k (sym p ∙ e))
  inside-inner e (inr p) = inside-array (expr-number k (sym p ∙ e))

  pub inside_record : {n r : ℕ} → k ≡ 4 → n ≡ (payload_of head - 2) / 2 → r ≡ most_in image places (at + 2) n → r ≡ levels_inside image places at
  unfolding levels_inside
  inside_record q en er = er ∙ rw (en, eh, kind q)

  pub inside-none : (k ≡ 2 → ⊥) → (k ≡ 3 → ⊥) → (k ≡ 4 → ⊥) → 0 ≡ levels_inside image places at
  unfolding levels_inside
  inside-none o a c = by k refl
    where
      by : (j : ℕ) → k ≡ j → 0 ≡ levels_inside image places at
      by zero q = rw (kind q)
      by (suc zero) q = rw (kind q)
      by (suc (suc zero)) q = absurd (o q)
      by (suc (suc (suc zero))) q = absurd (a q)
      by (suc (suc (suc (suc zero)))) q = absurd (c q)
      by (suc (suc (suc (suc (suc j))))) q = rw (kind q)

-- ── The types ──

-- the levels of the types before type t are filled in
pub record Levelling (image : List ℕ) (types : ℕ) (old : List ℕ) (t : ℕ) (new : List ℕ) : Type 0 where
  pub within : t ≤ types
  pub long : length new ≡ length old
  pub is : fill_levels image t (types - t) new ≡ fill_levels image 0 types old

module _ {image : List ℕ} {types : ℕ} {old : List ℕ} where
  pub levelling_none : Levelling image types old 0 old
  levelling_none = record { within = omega arith; long = refl; is = rw sub-zero }

  module _ {t : ℕ} {new : List ℕ} (h : Levelling image types old t new) where
    pub levelling_more : {v : ℕ} {new' : List ℕ} → t < types → v ≡ levels_at image new t → new' ≡ set new (2560 + t) v → Levelling image types old (t + 1) new'
    unfolding fill_levels
    levelling_more {v} l ev e =
        let s : suc (types - (t + 1)) ≡ types - t = omega arith in
        record {
          within = omega arith;
          long = ap length e ∙ length-set new (2560 + t) v ∙ h.long;
          is = rw (e, ev) (ap (λ k. fill_levels image t k new) s ∙ h.is);
        }

    pub levelling_all : types ≤ t → new ≡ fill_levels image 0 types old
    unfolding fill_levels
    levelling_all l =
        let z : 0 ≡ types - t = omega arith in
        ap (λ k. fill_levels image t k new) z ∙ h.is
