-- The places of an image's records as one pass finds them (document 01: "A record's first word holds its kind and, as payload, its whole
-- length in words"), and the levels of its types. Definitions.
use Rattle.std.specs.Prelude.{ℕ, zero, suc, ◌+◌, ◌-◌, ◌/◌, min, max, ◌≡◌, List, [], ◌∷◌, get_or, set, replicate}
use Rattle.ast.specs.Image.{word_at, node_count, type_count, root_count, record_kind, record_length}

-- a place as 16 bits hold it
abbrev pub clipped : ℕ → ℕ
clipped at = min at 65535

-- where the record after the one at a place stands
unfoldable pub place_after : List ℕ → (at : ℕ) → ℕ
place_after image at = clipped (at + record_length image at)

-- k records, the first of them at `at`: the place after them
unfoldable pub place_last : List ℕ → (k at : ℕ) → ℕ
place_last image zero at = at
place_last image (suc k) at = place_last image k (place_after image at)

-- and their places, filled in from index i on
unfoldable pub fill : List ℕ → (i k at : ℕ) → (places : List ℕ) → List ℕ
fill image i zero at places = places
fill image i (suc k) at places = fill image (i + 1) k (place_after image at) (set places i at)

-- what filling them in does: the answer, and the places after it
pub record Filled (image : List ℕ) (i k at : ℕ) (old : List ℕ) (r : ℕ) (new : List ℕ) : Type 0 where
  pub last : r ≡ place_last image k at
  pub places : new ≡ fill image i k at old

-- ── How many levels types have, by those that are already filled in ──

abbrev pub levels_in : (places : List ℕ) → (t : ℕ) → ℕ
levels_in places t = get_or places (2560 + t) 0

-- the most of k fields from word `at` on
unfoldable pub most_in : (image places : List ℕ) → (at k : ℕ) → ℕ
most_in image places at zero = 0
most_in image places at (suc k) = max (levels_in places (word_at image (at + 1))) (most_in image places (at + 2) k)

-- one for each kind, of the record at a place: how many levels are inside
abbrev pub Inside : Type 0
Inside = (image places : List ℕ) → (at : ℕ) → ℕ

abbrev pub none_inside : Inside
none_inside image places at = 0

abbrev pub inner_inside : Inside
inner_inside image places at = levels_in places (word_at image (at + 1))

abbrev pub fields_inside : Inside
fields_inside image places at = most_in image places (at + 2) ((record_length image at - 2) / 2)

-- "Type records: 0 Atom (token, kind 1 to 5), 1 Foreign (token), 2 Option, 3 Array (inner), 4 Record (token, pairs)."
unfoldable pub levels_inside : Inside
levels_inside image places at =
    get_or (none_inside ∷ none_inside ∷ inner_inside ∷ inner_inside ∷ fields_inside ∷ []) (record_kind image at) none_inside image places at

-- type t's levels, as 16 bits hold them
unfoldable pub levels_at : (image places : List ℕ) → (t : ℕ) → ℕ
levels_at image places t = clipped (1 + levels_inside image places (get_or places (2048 + t) 0))

-- k types from type t on: their levels, filled in
unfoldable pub fill_levels : List ℕ → (t k : ℕ) → (places : List ℕ) → List ℕ
fill_levels image t zero places = places
fill_levels image t (suc k) places = fill_levels image (t + 1) k (set places (2560 + t) (levels_at image places t))

-- Of an image: node n's place at index n, type t's at index 2048 + t, and its levels at index 2560 + t, of at most 2,048 nodes and 512
-- types ("Limits: N 2,048; T 512"), filled into a list
abbrev pub places_in : (image places : List ℕ) → List ℕ
places_in image places =
    let nodes : ℕ = min (node_count image) 2048 in
    let types : ℕ = min (type_count image) 512 in
    let first : ℕ = clipped (4 + root_count image) in
    fill_levels image 0 types (fill image 2048 types (place_last image nodes first) (fill image 0 nodes first places))

unfoldable pub no_places : List ℕ
no_places = replicate 3072 0

-- and into zeros: 0 where there is none
unfoldable pub places_of : List ℕ → List ℕ
places_of image = places_in image no_places
