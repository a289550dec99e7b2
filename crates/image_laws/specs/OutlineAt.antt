-- The outline of a node by place: what the reader notes of it (ast: `Outline`), found in the words of its record, kind by kind as in
-- document 01's table ("Rest of each"). Definitions.
use Rattle.std.specs.Prelude.{ℕ, zero, suc, ◌+◌, ◌*◌, ◌-◌, ◌/◌, cond, List, [], ◌∷◌, ◌++◌, get_or, eqb}
use Rattle.ast.specs.Image.{word_at, node_count, root_count, slot_count, node_place, record_kind, record_length}
use Rattle.ast.specs.Outline.{Outline}
use Rattle.ast.specs.ImageFault.{Outlines}

-- k words, each `step` after the one before, from word `at` on
unfoldable pub parts_from : List ℕ → (step at k : ℕ) → List ℕ
parts_from image step at zero = []
parts_from image step at (suc k) = word_at image at ∷ parts_from image step (at + step) k

-- the parts of the record at a place: the numbers of nodes in it, in order
abbrev pub Parts : Type 0
Parts = List ℕ → (at : ℕ) → List ℕ

abbrev pub no_parts : Parts
no_parts image at = []

-- 2 Bin: token, operator, left, right
abbrev pub bin_parts : Parts
bin_parts image at = word_at image (at + 4) ∷ word_at image (at + 5) ∷ []

-- 3 Unary: token, operator, right
abbrev pub unary_parts : Parts
unary_parts image at = word_at image (at + 4) ∷ []

-- 4 Let: name, right
abbrev pub let_parts : Parts
let_parts image at = word_at image (at + 3) ∷ []

-- 5 Fn: name, return type, argument count, name and type of each, body
abbrev pub fn_parts : Parts
fn_parts image at = let count : ℕ = word_at image (at + 4) in parts_from image 1 (at + 5 + 2 * count) (record_length image at - (5 + 2 * count))

-- of a Match, k cases from word `at` on, then the default, up to word `end`: "per case token, condition, body count, body; then default token, body"
unfoldable pub case_parts : List ℕ → (end at k : ℕ) → List ℕ
case_parts image end at zero = parts_from image 1 (at + 1) (end - (at + 1))
case_parts image end at (suc k) =
    word_at image (at + 1) ∷ parts_from image 1 (at + 3) (word_at image (at + 2)) ++ case_parts image end (at + 3 + word_at image (at + 2)) k

-- 6 Match: case count; the cases
abbrev pub match_parts : Parts
match_parts image at = case_parts image (at + record_length image at) (at + 3) (word_at image (at + 2))

-- 7 Call: target, arguments
abbrev pub call_parts : Parts
call_parts image at = word_at image (at + 2) ∷ parts_from image 1 (at + 3) (record_length image at - 3)

-- 8 Field: target, name
abbrev pub field_parts : Parts
field_parts image at = word_at image (at + 2) ∷ []

-- 9 Cast: token, left, type
abbrev pub cast_parts : Parts
cast_parts image at = word_at image (at + 3) ∷ []

-- 12 Record: token, name and value pairs
abbrev pub record_parts : Parts
record_parts image at = parts_from image 2 (at + 4) ((record_length image at - 3) / 2)

-- 13 Array: token, members
abbrev pub array_parts : Parts
array_parts image at = parts_from image 1 (at + 3) (record_length image at - 3)

unfoldable pub parts_by_kind : List Parts
parts_by_kind =
    no_parts ∷ no_parts ∷ bin_parts ∷ unary_parts ∷ let_parts ∷ fn_parts ∷ match_parts ∷ call_parts ∷ field_parts ∷ cast_parts ∷ no_parts ∷ no_parts ∷ record_parts ∷ array_parts ∷ []

unfoldable pub parts_at : Parts
parts_at image at = get_or parts_by_kind (record_kind image at) no_parts image at

-- kind 5 is Fn
unfoldable pub arguments_at : List ℕ → (at : ℕ) → ℕ
arguments_at image at = cond (eqb (record_kind image at) 5) (word_at image (at + 4)) 0

-- the outline of the record at a place
abbrev pub outline_from : List ℕ → (at : ℕ) → Outline
outline_from image at =
    record { kind = record_kind image at; slot = word_at image (at + 1); arguments = arguments_at image at; parts = parts_at image at }

-- of node n
unfoldable pub outline_at : List ℕ → (n : ℕ) → Outline
outline_at image n = outline_from image (node_place image n)

-- of k nodes from node n on
unfoldable pub outlines_from : List ℕ → (n k : ℕ) → List Outline
outlines_from image n zero = []
outlines_from image n (suc k) = outline_at image n ∷ outlines_from image (n + 1) k

-- of the whole image
unfoldable pub outlines_in : List ℕ → Outlines
outlines_in image =
    record { slots = slot_count image; roots = parts_from image 1 4 (root_count image); nodes = outlines_from image 0 (node_count image) }
