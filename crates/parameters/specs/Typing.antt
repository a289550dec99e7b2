-- The type of a type expression, from the code that adds it to the rules' step. Assumes nothing.
use Rattle.std.specs.Prelude.{ℕ, ◌≡◌, List}
use Rattle.tok.specs.Text.{Texts}
use Rattle.ptype.specs.Add.{buffer}
use Rattle.library.specs.Package.{Package}
use Rattle.add.specs.Answer.{Added, result_of}
use Rattle.ast.specs.TypeExpr.{TypeExpr}
use Rattle.ast.specs.TypeFrom.{type_from}
use Rattle.rules.specs.Steps.{type_from_expr}
use Rattle.state.specs.declared.Used.{Used}
use Rattle.state.specs.Adding.{added_of, added-step}
use Rattle.state.specs.Context.{ctx}
use Rattle.state.specs.World.{Steps}

-- of what `type_from_type_expr` says
pub type-steps : (e : TypeExpr) (a : Added) {t t' : List ℕ} {u : Used} → ((T : Texts) (n : ℕ) → type_from T n e (buffer t u.types) ≡ result_of n a t')
    → (T : Texts) (ls : List Package) (v n : ℕ) (s d m : List ℕ) → Steps (type_from_expr (ctx T ls v) n e) s t d m u s t' d m (added_of n u a)
unfolding type_from_expr
type-steps e a p T ls v n s d m = added-step n (type_from T n e) a (p T n)
