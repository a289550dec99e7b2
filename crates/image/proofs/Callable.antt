-- A node that may be called, by its kind. Assumes nothing.
use Prim.Native.Nat.{ℕ}
use mathlib.Core.Bool.{true, false, ◌||◌}
use mathlib.Core.Path.{◌≡◌, refl, sym, ◌∙◌}
use lib.Dec.{eqb}
use borrow.Author.Tests.{ne_eqb}
use Rattle.std.specs.Prelude.{◌⊎◌}
use Rattle.std.proofs.Common.{inl, inr}
use Rattle.ast.specs.declared.NodeKind.{NodeKind}
use Rattle.ast.specs.declared.NodeKind.TheVariants as node
use Rattle.ast.specs.Kinds.{kind_of_node}
use Rattle.ast.specs.KindLaws.{node-number, node-not}

module _ {x : NodeKind} (k : ℕ) (e : x ≡ kind_of_node k) where
  pub may_call : (x ≡ node.Ident) ⊎ (x ≡ node.Field) → true ≡ (eqb k 1 || eqb k 8)
  may_call (inl q) = let n : k ≡ 1 = node-number k (sym q ∙ e) in rw n refl
  may_call (inr q) = let n : k ≡ 8 = node-number k (sym q ∙ e) in rw n refl

  pub may_not : (x ≡ node.Ident → ⊥) → (x ≡ node.Field → ⊥) → false ≡ (eqb k 1 || eqb k 8)
  may_not i f = rw (ne_eqb k 1 (node-not k e i), ne_eqb k 8 (node-not k e f)) refl
