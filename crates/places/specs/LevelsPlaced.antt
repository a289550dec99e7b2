-- In an accepted image the pass over the types finds how many levels each has: parts are numbered below their owners, so their levels are
-- already there. Assumes nothing.
use Prim.Native.Nat.{ℕ, zero, suc, ◌+◌, ◌-◌, ◌/◌, ◌≤◌, ◌<◌}
use Rattle.std.specs.Prelude.{◌≡◌, List, length}
use Rattle.std.proofs.Math.Path.{refl}
use Rattle.std.proofs.Common.{◌∙◌, length-set, get_or-set_same}
use native.Mathlib.Omega.{arith}
use Rattle.std.proofs.Math.Decide.{ℕ_discrete}
use Rattle.std.proofs.Math.ListN.{get_or, set}
use Rattle.std.proofs.Math.Seq.{get_or-set_other}
use Rattle.ast.specs.Image.{word_at, type_count, type_place, record_kind, record_length}
use Rattle.ast.specs.TypeExpr.{type_of, type_fields_from}
use Rattle.image_laws.specs.Many.{Each}
use Rattle.image_laws.specs.RecordWords.{Pair}
use Rattle.image_laws.proofs.TypeLaws.{type-option-words, type-array-words, type_record_words}
use Rattle.image_laws.proofs.Accepted.{Accepted}
use Rattle.trees.specs.SameWords.{each_first, each-rest}
use Rattle.trees.proofs.TypeTrees.{tree-type-atom, tree-type-foreign, tree-type-option, tree-type-array, tree-type_record}
use Rattle.places.specs.Levels.{levels_of, most_levels}
use Rattle.places.specs.Places.{levels_in, most_in, levels_inside, levels_at, fill_levels}

-- the levels of the types before type t are filled in; a type has no more levels than there are types up to it
record Known (image places : List ℕ) (t : ℕ) : Type 0 where
  levels : (i : ℕ) → i < t → levels_in places i ≡ levels_of (type_of image i)
  small : (i : ℕ) → i < t → levels_in places i ≤ i + 1

-- ── One type, by those before it ──

module _ (image places : List ℕ) (t : ℕ) (v : Known image places t) {text : List ℕ} where
  most-are : (k at : ℕ) → Each (Pair text t image) 2 at k → most_in image places at k ≡ most_levels (type_fields_from (type_of image) image at k)
  unfolding most_in type_fields_from levels_of
  most-are zero at e = refl
  most-are (suc k) at e =
      let p = each_first (Pair text t image) e in
      rw (v.levels (word_at image (at + 1)) p.value.under, most-are k (at + 2) (each-rest (Pair text t image) e))

  most-small : (k at : ℕ) → Each (Pair text t image) 2 at k → most_in image places at k ≤ t
  unfolding most_in
  most-small zero at e = omega arith
  most-small (suc k) at e =
      let p = (each_first (Pair text t image) e).value.under in
      omega (arith, v.small (word_at image (at + 1)) p, most-small k (at + 2) (each-rest (Pair text t image) e))

-- what is inside, and that it is no more than the types before
record Found (image places : List ℕ) (t : ℕ) : Type 0 where
  is : 1 + levels_inside image places (type_place image t) ≡ levels_of (type_of image t)
  small : levels_inside image places (type_place image t) ≤ t

module _ {text image : List ℕ} (a : Accepted text image) (places : List ℕ) (t : ℕ) (l : t < type_count image) (v : Known image places t) where
  by_kind : (k : ℕ) → record_kind image (type_place image t) ≡ k → Found image places t
  unfolding levels_inside levels_of
  by_kind zero e = record { is = rw (e, tree-type-atom a t l e); small = rw e (omega arith) }
  by_kind (suc zero) e = record { is = rw (e, tree-type-foreign a t l e); small = rw e (omega arith) }
  by_kind (suc (suc zero)) e =
      let u = (type-option-words (a.type t l) e).inner.under in
      let i = word_at image (type_place image t + 1) in
      record { is = rw (e, tree-type-option a t l e, v.levels i u); small = rw e (omega (arith, v.small i u)) }
  by_kind (suc (suc (suc zero))) e =
      let u = (type-array-words (a.type t l) e).inner.under in
      let i = word_at image (type_place image t + 1) in
      record { is = rw (e, tree-type-array a t l e, v.levels i u); small = rw e (omega (arith, v.small i u)) }
  by_kind (suc (suc (suc (suc zero)))) e =
      let fs = (type_record_words (a.type t l) e).fields in
      let k = (record_length image (type_place image t) - 2) / 2 in
      record {
        is = rw (e, tree-type_record a t l e, most-are image places t v k (type_place image t + 2) fs);
        small = rw e (most-small image places t v k (type_place image t + 2) fs);
      }
  by_kind (suc (suc (suc (suc (suc k))))) e = absurd (let m = (a.type t l).words.kind in omega arith)

  -- in 16 bits
  found : get_or places (2048 + t) 0 ≡ type_place image t → (levels_at image places t ≡ levels_of (type_of image t)) × (levels_at image places t ≤ t + 1)
  unfolding levels_at
  found e =
      let f = by_kind (record_kind image (type_place image t)) refl in
      let m = a.most-types in
      rw e (omega (arith, f.is, f.small, l, m), omega (arith, f.small))

  -- and with it the next is known
  known_more : length places ≡ 3072 → get_or places (2048 + t) 0 ≡ type_place image t → Known image (set places (2560 + t) (levels_at image places t)) (t + 1)
  known_more long e = record { levels = λ i h. levels-at i h (ℕ_discrete i t); small = λ i h. small_at i h (ℕ_discrete i t) }
    where
      new : List ℕ
      new = set places (2560 + t) (levels_at image places t)

      same : levels_in new t ≡ levels_at image places t
      same = get_or-set_same places (2560 + t) (levels_at image places t) 0 (omega (arith, a.most-types))

      other : (i : ℕ) → (i ≡ t → ⊥) → levels_in new i ≡ levels_in places i
      other i d = get_or-set_other places (2560 + t) (2560 + i) (levels_at image places t) 0 (λ z. d (omega arith))

      levels-at : (i : ℕ) → i < t + 1 → Dec (i ≡ t) → levels_in new i ≡ levels_of (type_of image i)
      levels-at i h (yes q) = rw q (same ∙ (found e).0)
      levels-at i h (no d) = other i d ∙ v.levels i (omega arith)

      small_at : (i : ℕ) → i < t + 1 → Dec (i ≡ t) → levels_in new i ≤ i + 1
      small_at i h (yes q) = rw q (omega (arith, same, (found e).1))
      small_at i h (no d) = omega (arith, other i d, v.small i (omega arith))

-- ── All types ──

-- the levels of the types before type t are there, and what stands before them is as it was
pub record Levelled (image places old : List ℕ) (t : ℕ) : Type 0 where
  pub before : (j : ℕ) → j < 2560 → get_or places j 0 ≡ get_or old j 0
  pub levels : (i : ℕ) → i < t → get_or places (2560 + i) 0 ≡ levels_of (type_of image i)

module _ {text image : List ℕ} (a : Accepted text image) where
  from : (k t : ℕ) (places : List ℕ) → t + k ≡ type_count image → length places ≡ 3072
      → ((i : ℕ) → i < type_count image → get_or places (2048 + i) 0 ≡ type_place image i) → Known image places t
      → Levelled image (fill_levels image t k places) places (type_count image)
  unfolding fill_levels
  from zero t places e long there v = record { before = λ j h. refl; levels = λ i h. v.levels i (omega arith) }
  from (suc k) t places e long there v =
      let new = set places (2560 + t) (levels_at image places t) in
      let stays : (j : ℕ) → j < 2560 → get_or new j 0 ≡ get_or places j 0
      = λ j h. get_or-set_other places (2560 + t) j (levels_at image places t) 0 (λ z. omega arith) in
      let l : t < type_count image = omega arith in
      let m = a.most-types in
      let r = from k (t + 1) new (omega arith) (length-set places (2560 + t) (levels_at image places t) ∙ long)
      (λ i h. stays (2048 + i) (omega arith) ∙ there i h) (known_more a places t l v long (there t l)) in
      record { before = λ j h. r.before j h ∙ stays j h; levels = r.levels }

  pub levels-filled : (places : List ℕ) → length places ≡ 3072 → ((i : ℕ) → i < type_count image → get_or places (2048 + i) 0 ≡ type_place image i)
      → Levelled image (fill_levels image 0 (type_count image) places) places (type_count image)
  levels-filled places long there =
      from (type_count image) 0 places (omega arith) long there (record { levels = λ i h. absurd (omega arith); small = λ i h. absurd (omega arith) })
