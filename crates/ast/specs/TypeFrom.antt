-- From a type expression to a type word (frontend/lib.rs: `type_from_type_expr`). Definitions.
-- "Option and Array add one word, Record of n fields 1 + 2n, inner first, where the Rust allocates type nodes."
use Rattle.std.specs.Prelude.{ℕ, List, [], ◌∷◌}
use Rattle.tok.specs.Word.{payload_of, word_of}
use Rattle.tok.specs.Text.{Texts}
use Rattle.tok.specs.Step.{Step, Refusal, ◌>>=◌, return}
use Rattle.ptype.specs.Add.{Buffer, add_wrap, add_record}
use Rattle.ast.specs.TypeExpr.{TypeExpr, TypeFields, AtomType, ForeignType, OptionType, ArrayType, RecordType, no_type, type_field}

-- for node n, whose rule runs. A Foreign from the script is kind 9 with the token's payload.
unfoldable mutual
  pub type_from : Texts → (n : ℕ) → TypeExpr → Step Buffer Refusal ℕ
  type_from texts n (AtomType token k) = return (word_of k 0)
  type_from texts n (ForeignType token) = return (word_of 9 (payload_of token))
  type_from texts n (OptionType t) = do
    inner ← type_from texts n t
    add_wrap texts n 6 inner
  type_from texts n (ArrayType t) = do
    inner ← type_from texts n t
    add_wrap texts n 7 inner
  type_from texts n (RecordType token fs) = do
    pairs ← fields_from_exprs texts n fs
    add_record texts n pairs

  -- names as they are, types in order
  pub fields_from_exprs : Texts → (n : ℕ) → TypeFields → Step Buffer Refusal (List ℕ)
  fields_from_exprs texts n no_type = return []
  fields_from_exprs texts n (type_field name t fs) = do
    w ← type_from texts n t
    rest ← fields_from_exprs texts n fs
    return (name ∷ w ∷ rest)
