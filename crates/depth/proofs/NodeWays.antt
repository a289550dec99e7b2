-- The depths of all nodes as the code finds them, one law for each way out. Assumes nothing.
use Prim.Native.Nat.{ℕ, ◌+◌, ◌-◌, ◌≤◌, ◌<◌}
use mathlib.Core.Bool.{true, false}
use mathlib.Core.Path.{◌≡◌, refl, sym, ap, ◌∙◌}
use mathlib.Core.Option.{Option, none, some}
use mathlib.Core.List.{List, ◌∷◌}
use native.Mathlib.Omega.{arith}
use lib.ListN.{length, set, length-set}
use borrow.Author.Tests.{lt-ltb, le-ltb}
use Rattle.ast.specs.Image.{node_count, root_count, record_length}
use Rattle.ast.specs.Outline.{Outline}
use Rattle.ast.specs.Depth.{deepest}
use Rattle.image_laws.specs.OutlineAt.{parts_at, outline_at, outlines_from}
use Rattle.node_parts.specs.Lists.{outlines-next, outlines-none, NodesLeft, nodes-first, nodes-step}
use Rattle.node_parts.specs.Faults.{fault-same}
use Rattle.depth.specs.Depths.{depth_by}

module _ (depths : List ℕ) (i : ℕ) (o : Outline) (os : List Outline) where
  too_deep_lem : 64 ≤ deepest depths o.parts → depth_by depths i (o ∷ os) ≡ some i
  unfolding depth_by
  too_deep_lem h = fault-same _ true i _ _ (lt-ltb 64 (1 + deepest depths o.parts) (omega arith)) refl

  not-deep : deepest depths o.parts < 64 → depth_by depths i (o ∷ os) ≡ depth_by (set depths i (1 + deepest depths o.parts)) (i + 1) os
  unfolding depth_by
  not-deep h = fault-same _ false i _ _ (le-ltb 64 (1 + deepest depths o.parts) (omega arith)) refl

-- the nodes from number i on are left, the next at word `at`
pub record NodesToMeasure (image : List ℕ) (n : ℕ) (before depths : List ℕ) (at i : ℕ) : Type 0 where
  pub long : length depths ≡ length before
  pub left : NodesLeft image n at i
  pub rest : depth_by before 0 (outlines_from image 0 n) ≡ depth_by depths i (outlines_from image i (n - i))

pub nodes-to-measure : (image : List ℕ) (n : ℕ) (depths : List ℕ) (r : ℕ) → r ≡ root_count image → NodesToMeasure image n depths depths (4 + r) 0
nodes-to-measure image n depths r e =
    record { long = refl; left = nodes-first image n r e; rest = let z : n - 0 ≡ n = omega arith in ap (λ k. depth_by depths 0 (outlines_from image 0 k)) (sym z) }

module _ {image : List ℕ} {n : ℕ} {before depths : List ℕ} {at i : ℕ} (h : NodesToMeasure image n before depths at i) where
  module _ {d : ℕ} (l : i < n) (e : d ≡ deepest depths (parts_at image at)) where
    deepest-is : d ≡ deepest depths (outline_at image i).parts
    unfolding outline_at
    deepest-is = e ∙ ap (λ p. deepest depths (parts_at image p)) h.left.place

    pub node-stop : 64 ≤ d → some i ≡ depth_by before 0 (outlines_from image 0 n)
    node-stop t =
        let deep : 64 ≤ deepest depths (outline_at image i).parts = let q = deepest-is in omega arith in
        sym (h.rest ∙ ap (depth_by depths i) (outlines-next image i n l) ∙ too_deep_lem depths i _ _ deep)

    pub node-more : {depths' : List ℕ} {at' : ℕ} → d < 64 → depths' ≡ set depths i (1 + d) → at' ≡ at + record_length image at → NodesToMeasure image n before depths' at' (i + 1)
    node-more f k p =
        let flat : deepest depths (outline_at image i).parts < 64 = let q = deepest-is in omega arith in
        record {
          long = ap length k ∙ length-set depths i (1 + d) ∙ h.long;
          left = nodes-step h.left l p;
          rest = h.rest
              ∙ ap (depth_by depths i) (outlines-next image i n l)
              ∙ not-deep depths i _ _ flat
              ∙ ap (λ x. depth_by x (i + 1) (outlines_from image (i + 1) (n - (i + 1)))) (ap (λ x. set depths i (1 + x)) (sym deepest-is) ∙ sym k);
        }

  pub nodes-end : n ≤ i → none ≡ depth_by before 0 (outlines_from image 0 n)
  unfolding depth_by
  nodes-end l = sym (h.rest ∙ ap (depth_by depths i) (outlines-none image i n l))

-- the count is that of the image
pub whole : (image depths : List ℕ) {n : ℕ} {o : Option ℕ} → n ≡ node_count image → o ≡ depth_by depths 0 (outlines_from image 0 n)
    → o ≡ depth_by depths 0 (outlines_from image 0 (node_count image))
whole image depths en e = e ∙ ap (λ k. depth_by depths 0 (outlines_from image 0 k)) en
