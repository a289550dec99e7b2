-- Refusal 4 by marks: a mark for each node and for each slot that is claimed already, so that one pass over the image is enough. Numbers past
-- the marks are never marked: no accepted image has them. Definitions.
use Rattle.std.specs.Prelude.{ℕ, ◌+◌, Bool, true, false, ◌||◌, ◌≡◌, List, [], ◌∷◌, length, get_or, set, replicate}
use Rattle.std.proofs.Math.Option.{Option, none, some}
use Rattle.ast.specs.Outline.{Outline}
use Rattle.ast.specs.ImageFault.{Outlines}
use Rattle.ast.specs.Claims.{slots_owned}
use Rattle.image_laws.specs.OutlineAt.{parts_at, outline_from, outlines_in}

-- the marks after some numbers
unfoldable pub mark_all : (marks : List Bool) → List ℕ → List Bool
mark_all marks [] = marks
mark_all marks (x ∷ xs) = mark_all (set marks x true) xs

-- one of the numbers is marked already, or stands among them twice
unfoldable pub marked : (marks : List Bool) → List ℕ → Bool
marked marks [] = false
marked marks (x ∷ xs) = get_or marks x false || marked (set marks x true) xs

unfoldable pub claims_marked : (nodes slots : List Bool) → Outline → Bool
claims_marked nodes slots o = marked nodes o.parts || marked slots (slots_owned o)

-- the nodes from number i on, then the roots; when the nodes are through, i is N
unfoldable pub claims_by : (nodes slots : List Bool) (i : ℕ) (roots : List ℕ) → List Outline → Option ℕ
claims_by nodes slots i roots [] = elim (marked nodes roots) [ true ↦ some i | false ↦ none ]
claims_by nodes slots i roots (o ∷ os) =
    elim (claims_marked nodes slots o) [
      | true ↦ some i
      | false ↦ claims_by (mark_all nodes o.parts) (mark_all slots (slots_owned o)) (i + 1) roots os
    ]

-- "Limits: N 2,048; .. V 4,096"
unfoldable pub claims_of : Outlines → Option ℕ
claims_of o = claims_by (replicate 2048 false) (replicate 4096 false) 0 o.roots o.nodes

-- of an image, read by place
unfoldable pub claims_in : (image : List ℕ) → Option ℕ
claims_in image = claims_of (outlines_in image)

-- ── What the code does ──

-- Marking numbers: whether one was marked already; if none was, all are marked.
pub record Marking (before : List Bool) (xs : List ℕ) (after : List Bool) (r : Bool) : Type 0 where
  pub found : r ≡ marked before xs
  pub kept : r ≡ false → after ≡ mark_all before xs
  pub long : length after ≡ length before

-- Marking what the node at a place claims
pub record Claiming (image : List ℕ) (at : ℕ) (nodes slots nodes' slots' : List Bool) (r : Bool) : Type 0 where
  pub found : r ≡ claims_marked nodes slots (outline_from image at)
  pub parts : r ≡ false → nodes' ≡ mark_all nodes (parts_at image at)
  pub owned : r ≡ false → slots' ≡ mark_all slots (slots_owned (outline_from image at))
  pub long-nodes : length nodes' ≡ length nodes
  pub long-slots : length slots' ≡ length slots
