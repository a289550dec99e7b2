-- Refusal 5 by an array: the depth of each node so far stands at its number. Past the array nothing is kept: no accepted image has so many
-- nodes. Definitions.
use Rattle.std.specs.Prelude.{ℕ, ◌+◌, true, false, List, [], ◌∷◌, set, replicate, ltb}
use Rattle.std.proofs.Math.Option.{Option, none, some}
use Rattle.ast.specs.Outline.{Outline}
use Rattle.ast.specs.ImageFault.{Outlines}
use Rattle.ast.specs.Depth.{deepest}
use Rattle.image_laws.specs.OutlineAt.{outlines_in}

-- "node depth 64 (a leaf is 1)": the nodes from number i on
unfoldable pub depth_by : (depths : List ℕ) (i : ℕ) → List Outline → Option ℕ
depth_by depths i [] = none
depth_by depths i (o ∷ os) =
    elim (ltb 64 (1 + deepest depths o.parts)) [
      | true ↦ some i
      | false ↦ depth_by (set depths i (1 + deepest depths o.parts)) (i + 1) os
    ]

-- "Limits: N 2,048"
unfoldable pub depth_of : Outlines → Option ℕ
depth_of o = depth_by (replicate 2048 0) 0 o.nodes

-- of an image, read by place
unfoldable pub depth_in : (image : List ℕ) → Option ℕ
depth_in image = depth_of (outlines_in image)
