-- `checker::visit_roots` meets its contract. Assumes nothing.
use mathlib.Core.Path.{◌≡◌, ◌∙◌}
use mathlib.Core.List.{List}
use Prim.Native.Nat.{ℕ}
use lib.ListN.{replicate}
use Rattle.places.specs.Places.{places_in, no_places, places_of}
use Rattle.checker.proofs.Walks.{roots-counted, roots-visited}
use Rattle.checker.proofs.visit_roots.Goals as goal

-- the places are filled into zeros
zeros-filled : (image : List ℕ) {places : List ℕ} → places ≡ places_in image (replicate 3072 0) → places ≡ places_of image
unfolding places_of no_places
zeros-filled image e = e

pub nodes-requires : goal.nodes-requires
nodes-requires c =
    let r = rw (← c.inputs.view_is) at c.requires in
    roots-counted r (zeros-filled _ c.record_places.ensures) c.node_count-nodes.ensures c.root_count-roots.ensures

pub returns : goal.returns
returns c =
    rw (← c.inputs.view_is) (roots-visited _ _ c.root_count-roots.ensures c.nodes.ensures)
