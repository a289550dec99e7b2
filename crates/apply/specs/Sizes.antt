-- How many words putting types for slots adds, and which word it gives. Both go by the words `old` that were used at the start and by how
-- many words are used: so the pairs of a Record need not be kept while the types of its fields are put. Definitions.
-- "Option and Array add one word, Record of n fields 1 + 2n, inner first, where the Rust allocates type nodes."
use Rattle.std.specs.Prelude.{cond, List, [], ◌∷◌, ℕ, zero, suc, ◌+◌, ◌-◌, ◌*◌, get_or, eqb}
use Rattle.tok.specs.Word.{kind_of, payload_of, word_of}
use Rattle.tok.specs.Text.{Texts, name_bytes}
use Rattle.ptype.specs.Kinds.{wraps}
use Rattle.ptype.specs.Words.{inner_word, field_count, unfolded}
use Rattle.ptype.specs.Slots.{Binding, bound_to, bound_or, has_bound_slot}

-- of `left` fields from index `at` on; `size` says it of one
unfoldable pub sizes_of : (size : ℕ → ℕ) → (old : List ℕ) → (at left : ℕ) → ℕ
sizes_of size old at zero = 0
sizes_of size old at (suc left) = size (get_or old (at + 1) 0) + sizes_of size old (at + 2) left

-- of a word that holds a bound slot
unfoldable pub size_inside : (size : ℕ → ℕ) → (old : List ℕ) → (word : ℕ) → ℕ
size_inside size old w =
    cond (wraps (kind_of w)) (size (inner_word old w) + 1)
    (cond (eqb (kind_of w) 8) (sizes_of size old (payload_of w + 1) (field_count old w) + (1 + 2 * field_count old w)) 0)

-- "only substituted compound types allocate"
unfoldable pub size_within : Texts → List Binding → (old : List ℕ) → (deep word : ℕ) → ℕ
size_within texts bs old zero w = 0
size_within texts bs old (suc f) w = cond (has_bound_slot bs (unfolded texts old (suc f) w)) (size_inside (size_within texts bs old f) old w) 0

-- The word that is given for w when `end` words are used, of which the last `size` were added for it.
unfoldable pub word_inside : Texts → List Binding → (old : List ℕ) → (end size word : ℕ) → ℕ
word_inside texts bs old end size w =
    cond (eqb (kind_of w) 10) (bound_or w (bound_to (name_bytes texts w) bs))
    (cond (eqb size 0) w (cond (wraps (kind_of w)) (word_of (kind_of w) (end - 1)) (word_of 8 (end - (1 + 2 * field_count old w)))))

unfoldable pub word_before : Texts → List Binding → (old : List ℕ) → (deep end size word : ℕ) → ℕ
word_before texts bs old zero end size w = w
word_before texts bs old (suc f) end size w = word_inside texts bs old end size w

-- name and type of each field, where their types are put after `used` words
unfoldable pub pairs_after : Texts → List Binding → (old : List ℕ) → (deep used at left : ℕ) → List ℕ
pairs_after texts bs old deep used at zero = []
pairs_after texts bs old deep used at (suc left) =
    let x : ℕ = get_or old (at + 1) 0 in
    let size : ℕ = size_within texts bs old deep x in
    get_or old at 0 ∷ word_before texts bs old deep (used + size) size x ∷ pairs_after texts bs old deep (used + size) (at + 2) left
