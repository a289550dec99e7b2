-- The pairs of fields as a list, and what a type expression's record says. Assumes nothing.
use Rattle.std.specs.Prelude.{ℕ, zero, suc, ◌+◌, ◌-◌, ◌≤◌, ◌≡◌, refl, List, [], ◌∷◌, get_or, length}
use Rattle.std.proofs.Common.{arith, ap, ◌∙◌}
use Rattle.ptype.proofs.UnfoldLaws.{one_less}
use Rattle.ptype.specs.declared.TypeKind.{TypeKind}
use Rattle.ptype.specs.TypeKind.{kind_of_type, number_of_type}
use Rattle.add.specs.KindLaws.{kind-numbered}
use Rattle.ast.specs.TypeExpr.{type_of, type_fields_from}
use Rattle.type_expr.specs.Trees.{numbered, pairs_from, trees}

pub pairs-long : (words : List ℕ) (at k : ℕ) → length (pairs_from words at k) ≡ k
unfolding pairs_from
pairs-long words at zero = refl
pairs-long words at (suc k) = omega (arith, pairs-long words (at + 2) k)

pub pairs-none : (words : List ℕ) (at : ℕ) {k : ℕ} → k ≡ 0 → pairs_from words at k ≡ []
unfolding pairs_from
pairs-none words at e = rw e

pub pairs-more : (words : List ℕ) (at : ℕ) {k name t : ℕ} → (k ≡ 0 → ⊥) → name ≡ get_or words at 0 → t ≡ get_or words (at + 1) 0
    → pairs_from words at k ≡ (name, numbered words t) ∷ pairs_from words (at + 2) (k - 1)
unfolding pairs_from
pairs-more words at {k} p en et = ap (λ n. pairs_from words at n) (one_less p) ∙ rw (en, et)

-- the fields of pairs are those that the words say
pub fields_are : (words : List ℕ) (at k : ℕ) → trees (pairs_from words at k) ≡ type_fields_from (type_of words) words at k
unfolding pairs_from trees type_fields_from
fields_are words at zero = refl
fields_are words at (suc k) = rw (fields_are words (at + 2) k)

-- the kind of an Atom, by its number
pub kind-is : {y : ℕ} {kind : TypeKind} → kind ≡ kind_of_type y → y ≤ 5 → number_of_type kind ≡ y
kind-is e l = ap number_of_type e ∙ kind-numbered _ (omega arith)
