-- Whether what is sought stands in a type: what `contains_unknown`, `contains_slot` and `has_bound_slot` have in common. Definitions.
use Rattle.std.specs.Prelude.{ℕ, zero, suc, ◌+◌, Bool, true, false, ◌||◌, List, get_or, eqb}
use Rattle.tok.specs.Word.{kind_of, payload_of}
use Rattle.ptype.specs.Words.{unknown_word, inner_word, field_count}
use Rattle.ptype.specs.Kinds.{wraps}

-- in k fields from index `at` on; `go` says it of a type word
unfoldable pub found_from : (go : ℕ → Bool) → (types : List ℕ) → (at k : ℕ) → Bool
found_from go types at zero = false
found_from go types at (suc k) = go (get_or types (at + 1) 0) || found_from go types (at + 2) k

-- in the fields of a Record
abbrev pub found_among : (go : ℕ → Bool) → (types : List ℕ) → (w : ℕ) → Bool
found_among go types w = found_from go types (payload_of w + 1) (field_count types w)

-- In a type, as deep as the first number says; below that Unknown stands. `leaf` says it of the word of a type that holds no other.
unfoldable pub found_within : (leaf : ℕ → Bool) → (types : List ℕ) → (deep w : ℕ) → Bool
found_within leaf types zero w = leaf unknown_word
found_within leaf types (suc f) w = elim (wraps (kind_of w)) [
  | true ↦ found_within leaf types f (inner_word types w)
  | false ↦ elim (eqb (kind_of w) 8) [ true ↦ found_among (λ v. found_within leaf types f v) types w | false ↦ leaf w ]
]

-- a word of kind k
abbrev pub of_kind : (k : ℕ) → ℕ → Bool
of_kind k w = eqb (kind_of w) k
