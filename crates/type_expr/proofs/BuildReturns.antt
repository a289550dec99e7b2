-- Each return of `build`, over variables for what the calls gave: by what the type expression is. Assumes nothing.
use Rattle.std.specs.Prelude.{ℕ, ◌≡◌, refl, length, Result as Answered, Ok, Err}
use Rattle.tok.specs.Word.{payload_of, word_of}
use Rattle.tok.specs.Text.{Texts}
use Rattle.tok.specs.Step.{Step, Refusal, next}
use Rattle.ptype.specs.Add.{Buffer, add_wrap}
use Rattle.add.specs.declared.AddError.{AddError}
use Rattle.add.specs.declared.Arena.{Arena}
use Rattle.add.specs.Answer.{buffer_of, answer_of, result_of, Allocates}
use Rattle.add.specs.AllocLaws.{allocates_none, allocates_stop, allocates_then}
use Rattle.add.specs.Parts.{measured}
use Rattle.add.specs.PartsLaws.{record_steps}
use Rattle.ast.specs.TypeExpr.{TypeExpr, AtomType, ForeignType, OptionType, ArrayType, RecordType}
use Rattle.ast.specs.TypeFrom.{type_from}
use Rattle.type_expr.specs.Trees.{trees}
use Rattle.type_expr.proofs.FieldReturns.{Listed, steps, two-each, record-steps}

abbrev from : TypeExpr → Texts → (n : ℕ) → Step Buffer Refusal ℕ
from x T n = type_from T n x

module _ {x : TypeExpr} {a : Arena} where
  pub from-atom : {token k w : ℕ} → AtomType token k ≡ x → w ≡ word_of k 0 → Allocates (from x) a (Ok w) a
  unfolding type_from
  from-atom e ew = allocates_none (λ T n. rw (← e, ew))

  pub from-foreign : {token w : ℕ} → ForeignType token ≡ x → w ≡ word_of 9 (payload_of token) → Allocates (from x) a (Ok w) a
  unfolding type_from
  from-foreign e ew = allocates_none (λ T n. rw (← e, ew))

module _ {x : TypeExpr} {token : ℕ} (fs : Listed) (e : RecordType token (trees fs) ≡ x) where
  record_is : (a : Arena) (T : Texts) (n : ℕ) → from x T n (buffer_of a) ≡ next (record-steps fs T n (buffer_of a)) (measured T n)
  unfolding type_from
  record_is a T n = rw (← e) (record_steps T n (length fs) (steps T n fs) (buffer_of a) (λ pairs b. two-each T n fs (buffer_of a) pairs b))

  pub record_refused : {a a₁ : Arena} {y : AddError} → Allocates (record-steps fs) a (Err y) a₁ → Allocates (from x) a (Err y) a₁
  record_refused {a} = allocates_stop (λ T n. measured T n) (record_is a)

  pub record_closed : {a a₁ : Arena} {w : ℕ} {y : Answered ℕ AddError} → Allocates (record-steps fs) a (Ok w) a₁
      → ((T : Texts) (n : ℕ) → measured T n w (buffer_of a₁) ≡ result_of n (answer_of y a₁.used) a₁.words.now) → Allocates (from x) a y a₁
  record_closed {a} g c = allocates_then (λ T n. measured T n) (record_is a) g (record { lent = refl; keeps = refl; result = c })

module _ {x t : TypeExpr} where
  option_is : OptionType t ≡ x → (a : Arena) (T : Texts) (n : ℕ) → from x T n (buffer_of a) ≡ next (type_from T n t (buffer_of a)) (add_wrap T n 6)
  unfolding type_from
  option_is e a T n = rw (← e)

  array-is : ArrayType t ≡ x → (a : Arena) (T : Texts) (n : ℕ) → from x T n (buffer_of a) ≡ next (type_from T n t (buffer_of a)) (add_wrap T n 7)
  unfolding type_from
  array-is e a T n = rw (← e)

  module _ {a a₁ : Arena} where
    pub option-stop : {y : AddError} → OptionType t ≡ x → Allocates (from t) a (Err y) a₁ → Allocates (from x) a (Err y) a₁
    option-stop e = allocates_stop (λ T n. add_wrap T n 6) (option_is e a)

    pub option-put : {w : ℕ} {y : Answered ℕ AddError} {a₂ : Arena} → OptionType t ≡ x → Allocates (from t) a (Ok w) a₁ → Allocates (λ T n. add_wrap T n 6 w) a₁ y a₂ → Allocates (from x) a y a₂
    option-put e = allocates_then (λ T n. add_wrap T n 6) (option_is e a)

    pub array-stop : {y : AddError} → ArrayType t ≡ x → Allocates (from t) a (Err y) a₁ → Allocates (from x) a (Err y) a₁
    array-stop e = allocates_stop (λ T n. add_wrap T n 7) (array-is e a)

    pub array-put : {w : ℕ} {y : Answered ℕ AddError} {a₂ : Arena} → ArrayType t ≡ x → Allocates (from t) a (Ok w) a₁ → Allocates (λ T n. add_wrap T n 7 w) a₁ y a₂ → Allocates (from x) a y a₂
    array-put e = allocates_then (λ T n. add_wrap T n 7) (array-is e a)
