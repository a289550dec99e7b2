-- Refusal 5: "depth 65", the place "smallest such node". "node depth 64 (a leaf is 1)". Definitions.
use Rattle.std.specs.Prelude.{ℕ, ◌+◌, max, true, false, List, [], ◌∷◌, ◌++◌, get_or, ltb}
use Rattle.std.proofs.Math.Option.{Option, none, some}
use Rattle.ast.specs.Outline.{Outline}

-- the greatest depth of the parts, by the depths of the nodes before
unfoldable pub deepest : (depths : List ℕ) → (parts : List ℕ) → ℕ
deepest depths [] = 0
deepest depths (p ∷ ps) = max (get_or depths p 0) (deepest depths ps)

-- the nodes from number i on
unfoldable pub depth_from : (depths : List ℕ) (i : ℕ) → List Outline → Option ℕ
depth_from depths i [] = none
depth_from depths i (o ∷ os) =
    elim (ltb 64 (1 + deepest depths o.parts)) [
      | true ↦ some i
      | false ↦ depth_from (depths ++ ((1 + deepest depths o.parts) ∷ [])) (i + 1) os
    ]

unfoldable pub depth_fault : List Outline → Option ℕ
depth_fault os = depth_from [] 0 os
