-- What a kind says of its number. Laws, which callers of `NodeKind::of` and `ExprKind::of` cite. Assumes nothing.
use Rattle.std.specs.Prelude.{ℕ, ◌≤◌, ◌≡◌, refl}
use Rattle.std.proofs.Common.{rules, sym, ◌∙◌}
use Rattle.std.proofs.lemmas.List.{get_or_past}
use Rattle.facts.specs.Lists.{EachAt, each_at}
use Rattle.ast.specs.declared.NodeKind.{NodeKind}
use Rattle.ast.specs.declared.NodeKind.TheVariants as node
use Rattle.ast.specs.declared.ExprKind.{ExprKind}
use Rattle.ast.specs.declared.ExprKind.TheVariants as expr
use Rattle.ast.specs.Kinds.{kinds_of_nodes, kind_of_node, kinds_of_exprs, kind_of_expr}

abbrev pub NodeNumber : NodeKind → (number : ℕ) → Type 0
NodeNumber node.Atom k = k ≡ 0
NodeNumber node.Ident k = k ≡ 1
NodeNumber node.Bin k = k ≡ 2
NodeNumber node.Unary k = k ≡ 3
NodeNumber node.Let k = k ≡ 4
NodeNumber node.Fn k = k ≡ 5
NodeNumber node.Match k = k ≡ 6
NodeNumber node.Call k = k ≡ 7
NodeNumber node.Field k = k ≡ 8
NodeNumber node.Cast k = k ≡ 9
NodeNumber node.Import k = k ≡ 10
NodeNumber node.Extern k = k ≡ 11
NodeNumber node.Record k = k ≡ 12
NodeNumber node.Array k = k ≡ 13
NodeNumber node.None k = 14 ≤ k

at_node : (k : ℕ) → NodeNumber (kind_of_node k) k
unfolding kind_of_node kinds_of_nodes EachAt
at_node = each_at NodeNumber kinds_of_nodes node.None (search rules) (λ k h. h)

-- the kind x was found of the number k
pub node-number : {x : NodeKind} (k : ℕ) → x ≡ kind_of_node k → NodeNumber x k
node-number k e = rw e (at_node k)

named_node : (x : NodeKind) (k : ℕ) → NodeNumber x k → x ≡ kind_of_node k
unfolding kind_of_node kinds_of_nodes
named_node node.Atom k e = rw e refl
named_node node.Ident k e = rw e refl
named_node node.Bin k e = rw e refl
named_node node.Unary k e = rw e refl
named_node node.Let k e = rw e refl
named_node node.Fn k e = rw e refl
named_node node.Match k e = rw e refl
named_node node.Call k e = rw e refl
named_node node.Field k e = rw e refl
named_node node.Cast k e = rw e refl
named_node node.Import k e = rw e refl
named_node node.Extern k e = rw e refl
named_node node.Record k e = rw e refl
named_node node.Array k e = rw e refl
named_node node.None k h = sym (get_or_past kinds_of_nodes k node.None h)

-- it is no other
pub node-not : {x y : NodeKind} (k : ℕ) → x ≡ kind_of_node k → (x ≡ y → ⊥) → NodeNumber y k → ⊥
node-not {y = y} k e n h = n (e ∙ sym (named_node y k h))

abbrev pub ExprNumber : ExprKind → (number : ℕ) → Type 0
ExprNumber expr.Atom k = k ≡ 0
ExprNumber expr.Foreign k = k ≡ 1
ExprNumber expr.Option k = k ≡ 2
ExprNumber expr.Array k = k ≡ 3
ExprNumber expr.Record k = k ≡ 4
ExprNumber expr.None k = 5 ≤ k

at_expr : (k : ℕ) → ExprNumber (kind_of_expr k) k
unfolding kind_of_expr kinds_of_exprs EachAt
at_expr = each_at ExprNumber kinds_of_exprs expr.None (search rules) (λ k h. h)

pub expr-number : {x : ExprKind} (k : ℕ) → x ≡ kind_of_expr k → ExprNumber x k
expr-number k e = rw e (at_expr k)

named_expr : (x : ExprKind) (k : ℕ) → ExprNumber x k → x ≡ kind_of_expr k
unfolding kind_of_expr kinds_of_exprs
named_expr expr.Atom k e = rw e refl
named_expr expr.Foreign k e = rw e refl
named_expr expr.Option k e = rw e refl
named_expr expr.Array k e = rw e refl
named_expr expr.Record k e = rw e refl
named_expr expr.None k h = sym (get_or_past kinds_of_exprs k expr.None h)

pub expr-not : {x y : ExprKind} (k : ℕ) → x ≡ kind_of_expr k → (x ≡ y → ⊥) → ExprNumber y k → ⊥
expr-not {y = y} k e n h = n (e ∙ sym (named_expr y k h))
