-- `places::record_places` meets its contract: the nodes, then the types, and then their levels, counted and begun as the image's head says.
-- Assumes nothing.
use mathlib.Core.Path.{refl}
use Rattle.places.proofs.Filling.{all-filled}
use Rattle.places.proofs.record_places.Goals as goal

pub returns : goal.returns
returns c =
    all-filled _ c.node_count.ensures refl c.min-nodes.ensures
    c.type_count.ensures refl c.min-types.ensures
    c.root_count.ensures refl c.clipped-first.ensures
    c.fill-first_type.ensures c.fill.ensures c.fill_levels.ensures
