-- The kinds of records by their numbers (document 01, "Image": "0 Atom" to "13 Array", and "Type records: 0 Atom" to "4 Record"). Definitions.
use Rattle.std.specs.Prelude.{ℕ, List, [], ◌∷◌, get_or}
use Rattle.ast.specs.declared.NodeKind.{NodeKind}
use Rattle.ast.specs.declared.NodeKind.TheVariants as node
use Rattle.ast.specs.declared.ExprKind.{ExprKind}
use Rattle.ast.specs.declared.ExprKind.TheVariants as expr

unfoldable pub kinds_of_nodes : List NodeKind
kinds_of_nodes =
    node.Atom ∷ node.Ident ∷ node.Bin ∷ node.Unary ∷ node.Let ∷ node.Fn ∷ node.Match ∷ node.Call ∷ node.Field ∷ node.Cast ∷ node.Import ∷ node.Extern
    ∷ node.Record ∷ node.Array ∷ []

unfoldable pub kind_of_node : (number : ℕ) → NodeKind
kind_of_node k = get_or kinds_of_nodes k node.None

unfoldable pub kinds_of_exprs : List ExprKind
kinds_of_exprs = expr.Atom ∷ expr.Foreign ∷ expr.Option ∷ expr.Array ∷ expr.Record ∷ []

unfoldable pub kind_of_expr : (number : ℕ) → ExprKind
kind_of_expr k = get_or kinds_of_exprs k expr.None
