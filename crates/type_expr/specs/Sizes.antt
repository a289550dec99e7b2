-- How many words a type expression adds to the types buffer, and which word refers to the type then. Both go by the type expression
-- and by how many words are used: so the pairs of a Record need not be kept while the types of its fields are added. Definitions.
-- "Option and Array add one word, Record of n fields 1 + 2n, inner first, where the Rust allocates type nodes."
use Rattle.std.specs.Prelude.{ℕ, suc, ◌+◌, ◌-◌, ◌*◌, List, [], ◌∷◌}
use Rattle.tok.specs.Word.{payload_of, word_of}
use Rattle.ast.specs.TypeExpr.{TypeExpr, TypeFields, AtomType, ForeignType, OptionType, ArrayType, RecordType, no_type, type_field}

unfoldable pub fields_in : TypeFields → ℕ
fields_in no_type = 0
fields_in (type_field name t fs) = suc (fields_in fs)

unfoldable mutual
  pub size_of : TypeExpr → ℕ
  size_of (AtomType token k) = 0
  size_of (ForeignType token) = 0
  size_of (OptionType t) = size_of t + 1
  size_of (ArrayType t) = size_of t + 1
  size_of (RecordType token fs) = sizes_of fs + (1 + 2 * fields_in fs)

  pub sizes_of : TypeFields → ℕ
  sizes_of no_type = 0
  sizes_of (type_field name t fs) = size_of t + sizes_of fs

-- the word of a type when `end` words are used, of which the type's own are the last
unfoldable pub word_before : (end : ℕ) → TypeExpr → ℕ
word_before end (AtomType token k) = word_of k 0
word_before end (ForeignType token) = word_of 9 (payload_of token)
word_before end (OptionType t) = word_of 6 (end - 1)
word_before end (ArrayType t) = word_of 7 (end - 1)
word_before end (RecordType token fs) = word_of 8 (end - (1 + 2 * fields_in fs))

-- name and type of each field, where their types are added after `used` words
unfoldable pub pairs_after : (used : ℕ) → TypeFields → List ℕ
pairs_after used no_type = []
pairs_after used (type_field name t fs) = name ∷ word_before (used + size_of t) t ∷ pairs_after (used + size_of t) fs
