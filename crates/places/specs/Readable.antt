-- An accepted image with the places of its records, as the functions that read nodes and types ask for it: what stands where the array
-- says. Assumes nothing.
use Rattle.std.specs.Prelude.{ℕ, ◌+◌, ◌≤◌, ◌<◌, ◌≡◌, List, get_or}
use Rattle.std.proofs.Common.{sym, ap, ◌∙◌}
use Rattle.std.proofs.Math.Option.{none}
use Rattle.tok.specs.Text.{Texts}
use Rattle.tok.specs.Word.{kind_of}
use Rattle.ast.specs.Image.{node_count, type_count, node_place, type_place, record_kind, record_length}
use Rattle.ast.specs.ImageFault.{image_fault}
use Rattle.image_laws.proofs.NodesRead.{NodeRead}
use Rattle.image_laws.proofs.TypeLaws.{TypeRead}
use Rattle.image_laws.proofs.Accepted.{Accepted, counts_in, accepted}
use Rattle.places.specs.Places.{places_of}
use Rattle.places.specs.Placed.{Placed, image-placed}

pub record Readable (image places : List ℕ) : Type 0 where
  pub text : List ℕ
  pub accepted : Accepted text image
  pub placed : Placed image places

-- an image that is not refused, with the places that are found in it
pub readable : (t : Texts) (image : List ℕ) → image_fault t image ≡ none → Readable image (places_of image)
readable t image e = record { text = t.script; accepted = accepted t image e; placed = image-placed (accepted t image e) }

module _ {image places : List ℕ} (r : Readable image places) where
  -- node n, whose record begins at `at` with the word h, of kind k
  module _ {n at : ℕ} (l : n < node_count image) (e : at ≡ get_or places n 0) where
    pub node-there : at ≡ node_place image n
    node-there = e ∙ r.placed.nodes n l

    pub node-read : NodeRead (counts_in r.text image) image n
    node-read = r.accepted.node n l

    -- all of it stands in the image
    pub node-room : at + record_length image at ≤ 8192
    node-room = rw node-there node-read.within.in_most

    pub node-kind : {h k : ℕ} (j : ℕ) → h ≡ get_or image at 0 → k ≡ kind_of h → k ≡ j → record_kind image (node_place image n) ≡ j
    node-kind j eh ek ej = ap (record_kind image) (sym node-there) ∙ ap kind_of (sym eh) ∙ sym ek ∙ ej

  -- type t likewise
  module _ {t at : ℕ} (l : t < type_count image) (e : at ≡ get_or places (2048 + t) 0) where
    pub type-there : at ≡ type_place image t
    type-there = e ∙ r.placed.types t l

    pub type-read : TypeRead (counts_in r.text image) image t
    type-read = r.accepted.type t l

    pub type-room : at + record_length image at ≤ 8192
    type-room = rw type-there type-read.within.in_most

    pub type-kind : {h k : ℕ} (j : ℕ) → h ≡ get_or image at 0 → k ≡ kind_of h → k ≡ j → record_kind image (type_place image t) ≡ j
    type-kind j eh ek ej = ap (record_kind image) (sym type-there) ∙ ap kind_of (sym eh) ∙ sym ek ∙ ej
