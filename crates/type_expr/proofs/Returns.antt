-- A type expression by what it is: how many words it adds, its word, and its token. Over variables for what the calls gave. Assumes nothing.
use Rattle.std.specs.Prelude.{ℕ, ◌+◌, ◌-◌, ◌*◌, ◌≡◌, length}
use Rattle.std.proofs.Common.{◌∙◌}
use Rattle.tok.specs.Word.{payload_of, word_of}
use Rattle.ast.specs.TypeExpr.{TypeExpr, TypeFields, AtomType, ForeignType, OptionType, ArrayType, RecordType, type_token}
use Rattle.places.specs.Levels.{levels_of, most_levels}
use Rattle.type_expr.specs.Trees.{trees}
use Rattle.type_expr.specs.Sizes.{size_of, sizes_of, word_before}
use Rattle.type_expr.proofs.FieldReturns.{Listed, fields-long}

module _ {x t : TypeExpr} where
  pub levels-option : OptionType t ≡ x → levels_of x ≡ 1 + levels_of t
  unfolding levels_of
  levels-option e = rw (← e)

  pub levels-array : ArrayType t ≡ x → levels_of x ≡ 1 + levels_of t
  unfolding levels_of
  levels-array e = rw (← e)

  pub token-option : OptionType t ≡ x → type_token x ≡ type_token t
  unfolding type_token
  token-option e = rw (← e)

  pub token-array : ArrayType t ≡ x → type_token x ≡ type_token t
  unfolding type_token
  token-array e = rw (← e)

  pub size-option : OptionType t ≡ x → size_of x ≡ size_of t + 1
  unfolding size_of
  size-option e = rw (← e)

  pub size-array : ArrayType t ≡ x → size_of x ≡ size_of t + 1
  unfolding size_of
  size-array e = rw (← e)

  module _ (end : ℕ) {w : ℕ} where
    pub word-option : OptionType t ≡ x → w ≡ word_of 6 (end - 1) → w ≡ word_before end x
    unfolding word_before
    word-option e ew = rw (← e) ew

    pub word-array : ArrayType t ≡ x → w ≡ word_of 7 (end - 1) → w ≡ word_before end x
    unfolding word_before
    word-array e ew = rw (← e) ew

module _ {x : TypeExpr} {token : ℕ} where
  pub levels-atom : {k : ℕ} → AtomType token k ≡ x → levels_of x ≡ 1
  unfolding levels_of
  levels-atom e = rw (← e)

  pub levels-foreign : ForeignType token ≡ x → levels_of x ≡ 1
  unfolding levels_of
  levels-foreign e = rw (← e)

  pub levels_record : {fs : TypeFields} → RecordType token fs ≡ x → levels_of x ≡ 1 + most_levels fs
  unfolding levels_of
  levels_record e = rw (← e)

  pub token-atom : {k : ℕ} → AtomType token k ≡ x → type_token x ≡ token
  unfolding type_token
  token-atom e = rw (← e)

  pub token-foreign : ForeignType token ≡ x → type_token x ≡ token
  unfolding type_token
  token-foreign e = rw (← e)

  pub token_record : {fs : TypeFields} → RecordType token fs ≡ x → type_token x ≡ token
  unfolding type_token
  token_record e = rw (← e)

  pub size-atom : {k : ℕ} → AtomType token k ≡ x → size_of x ≡ 0
  unfolding size_of
  size-atom e = rw (← e)

  pub size-foreign : ForeignType token ≡ x → size_of x ≡ 0
  unfolding size_of
  size-foreign e = rw (← e)

  pub size_record : (fs : Listed) → RecordType token (trees fs) ≡ x → size_of x ≡ sizes_of (trees fs) + (1 + 2 * length fs)
  unfolding size_of
  size_record fs e = rw (← e, ← fields-long fs)

  module _ (end : ℕ) {w : ℕ} where
    pub word-atom : {k : ℕ} → AtomType token k ≡ x → w ≡ word_of k 0 → w ≡ word_before end x
    unfolding word_before
    word-atom e ew = rw (← e) ew

    pub word-foreign : ForeignType token ≡ x → w ≡ word_of 9 (payload_of token) → w ≡ word_before end x
    unfolding word_before
    word-foreign e ew = rw (← e) ew

    pub word_record : (fs : Listed) {n : ℕ} → RecordType token (trees fs) ≡ x → n ≡ length fs → w ≡ word_of 8 (end - (1 + 2 * n)) → w ≡ word_before end x
    unfolding word_before
    word_record fs e en ew = rw (← e) (ew ∙ rw (en, fields-long fs))
