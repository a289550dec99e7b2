-- In an accepted image each record stands where the array says, and each type has as many levels as it says. Assumes nothing.
use Prim.Native.Nat.{ℕ, zero, suc, ◌+◌, ◌≤◌, ◌<◌, min}
use Rattle.std.specs.Prelude.{◌≡◌, List, get_or, set}
use Rattle.std.proofs.Math.Path.{refl}
use Rattle.std.proofs.Common.{◌∙◌}
use native.Mathlib.Omega.{arith}
use Rattle.std.proofs.Math.Nat.{add-zero, zero-add}
use Rattle.std.proofs.Math.ListN.{length, length-set, length-replicate}
use Rattle.std.proofs.Math.Seq.{get_or-set_same, get_or-set_other}
use Rattle.ast.specs.Image.{node_count, type_count, root_count, record_length, record_after, node_place, type_place}
use Rattle.ast.specs.TypeExpr.{type_of}
use Rattle.image_laws.proofs.Accepted.{Accepted}
use Rattle.places.specs.Levels.{levels_of}
use Rattle.places.specs.Places.{clipped, place_after, place_last, fill, fill_levels, no_places, places_of}
use Rattle.places.specs.LevelsPlaced.{Levelled, levels-filled}

-- the array has the place of every node and of every type, and the levels of every type
pub record Placed (image places : List ℕ) : Type 0 where
  pub nodes : (n : ℕ) → n < node_count image → get_or places n 0 ≡ node_place image n
  pub types : (t : ℕ) → t < type_count image → get_or places (2048 + t) 0 ≡ type_place image t
  pub levels : (t : ℕ) → t < type_count image → get_or places (2560 + t) 0 ≡ levels_of (type_of image t)

module _ (image : List ℕ) where
  -- records stand one after the other
  after_more : (k at : ℕ) → at ≤ record_after image k at
  unfolding record_after
  after_more zero at = omega arith
  after_more (suc k) at = omega (arith, after_more k (at + record_length image at))

  after_both : (j k at : ℕ) → record_after image (j + k) at ≡ record_after image k (record_after image j at)
  unfolding record_after
  after_both zero k at = let e : 0 + k ≡ k = omega arith in rw e
  after_both (suc j) k at =
      let e : suc j + k ≡ suc (j + k) = omega arith in
      rw e (after_both j k (at + record_length image at))

  -- no place within 16 bits is clipped
  place_is : (at : ℕ) → at + record_length image at ≤ 65535 → place_after image at ≡ at + record_length image at
  unfolding place_after
  place_is at h = omega arith

  last-is : (k at : ℕ) → record_after image k at ≤ 65535 → place_last image k at ≡ record_after image k at
  unfolding place_last record_after
  last-is zero at h = refl
  last-is (suc k) at h =
      rw (place_is at (omega (arith, after_more k (at + record_length image at)))) (last-is k (at + record_length image at) h)

  -- ── What is filled in ──

  -- before the index all stays
  fill-before : (i k at : ℕ) (places : List ℕ) (j : ℕ) → j < i → get_or (fill image i k at places) j 0 ≡ get_or places j 0
  unfolding fill
  fill-before i zero at places j h = refl
  fill-before i (suc k) at places j h =
      fill-before (i + 1) k (place_after image at) (set places i at) j (omega arith) ∙ get_or-set_other places i j at 0 (λ e. omega arith)

  pub fill-length : (i k at : ℕ) (places : List ℕ) → length (fill image i k at places) ≡ length places
  unfolding fill
  fill-length i zero at places = refl
  fill-length i (suc k) at places = fill-length (i + 1) k (place_after image at) (set places i at) ∙ length-set places i at

  -- from it on stand the records' places
  fill-at : (i k at : ℕ) (places : List ℕ) → i + k ≤ length places → record_after image k at ≤ 65535
      → (j : ℕ) → j < k → get_or (fill image i k at places) (i + j) 0 ≡ record_after image j at
  unfolding fill record_after
  fill-at i zero at places l h j lt = absurd (omega arith)
  fill-at i (suc k) at places l h zero lt =
      rw add-zero
      (fill-before (i + 1) k (place_after image at) (set places i at) i (omega arith) ∙ get_or-set_same places i at 0 (omega arith))
  fill-at i (suc k) at places l h (suc j) lt =
      let e : i + suc j ≡ i + 1 + j = omega arith in
      rw (e, place_is at (omega (arith, after_more k (at + record_length image at))))
      (fill-at (i + 1) k (at + record_length image at) (set places i at) (rw length-set (omega arith)) h j (omega arith))

-- THE LAW: the array of an accepted image has every place.
module _ {text image : List ℕ} (a : Accepted text image) where
  whole : record_after image (type_count image) (node_place image (node_count image)) ≤ 8192
  unfolding type_place
  whole = omega (arith, a.whole, a.most-words)

  nodes-end : record_after image (node_count image) (4 + root_count image) ≤ 8192
  unfolding node_place
  nodes-end = omega (arith, whole, after_more image (type_count image) (node_place image (node_count image)))

  none-length : length no_places ≡ 3072
  unfolding no_places
  none-length = length-replicate {A = ℕ} 3072 0

  -- what stands in the array when the places are filled in
  abbrev nodes_filled : List ℕ
  nodes_filled = fill image 0 (node_count image) (4 + root_count image) no_places

  abbrev types_from : ℕ
  types_from = record_after image (node_count image) (4 + root_count image)

  abbrev filled : List ℕ
  filled = fill image 2048 (type_count image) types_from nodes_filled

  filled-length : length filled ≡ 3072
  filled-length = fill-length image 2048 (type_count image) types_from nodes_filled ∙ fill-length image 0 (node_count image) (4 + root_count image) no_places ∙ none-length

  nodes-filled : (n : ℕ) → n < node_count image → get_or filled n 0 ≡ node_place image n
  unfolding node_place
  nodes-filled n h =
      let l : 0 + node_count image ≤ length no_places = omega (arith, none-length, a.most-nodes) in
      fill-before image 2048 (type_count image) types_from nodes_filled n (omega (arith, a.most-nodes))
      ∙ (rw zero-add at (fill-at image 0 (node_count image) (4 + root_count image) no_places l (omega (arith, nodes-end)) n h))

  types-filled : (t : ℕ) → t < type_count image → get_or filled (2048 + t) 0 ≡ type_place image t
  unfolding node_place type_place
  types-filled t h =
      let l : 2048 + type_count image ≤ length nodes_filled = rw fill-length (omega (arith, none-length, a.most-types)) in
      fill-at image 2048 (type_count image) types_from nodes_filled l (omega (arith, whole)) t h

  all_levelled : Levelled image (fill_levels image 0 (type_count image) filled) filled (type_count image)
  all_levelled = levels-filled a filled filled-length types-filled

  pub image-placed : Placed image (places_of image)
  unfolding places_of
  image-placed =
      let n : min (node_count image) 2048 ≡ node_count image = omega (arith, a.most-nodes) in
      let t : min (type_count image) 512 ≡ type_count image = omega (arith, a.most-types) in
      let f : clipped (4 + root_count image) ≡ 4 + root_count image = omega (arith, a.most-roots) in
      let l : place_last image (node_count image) (4 + root_count image) ≡ types_from = last-is image (node_count image) (4 + root_count image) (omega (arith, nodes-end)) in
      let v = all_levelled in
      rw (n, t, f, l)
      (record {
        nodes = λ i h. v.before i (omega (arith, a.most-nodes)) ∙ nodes-filled i h;
        types = λ i h. v.before (2048 + i) (omega (arith, a.most-types)) ∙ types-filled i h;
        levels = v.levels;
      })
