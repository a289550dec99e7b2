-- Which function takes which kind: what each asks for, by the arm of `typecheck::node` that calls it. Assumes nothing.
use Rattle.std.specs.Prelude.{ℕ, ◌≤◌, ◌≡◌, refl, ◌⊎◌, true, List, get_or}
use Rattle.std.proofs.Common.{sym, ap, ◌∙◌, inl, inr, arith}
use Rattle.tok.specs.Text.{Texts}
use Rattle.ast.specs.declared.NodeKind.{NodeKind}
use Rattle.ast.specs.declared.NodeKind.TheVariants as node
use Rattle.ast.specs.Image.{record_kind}
use Rattle.ast.specs.Kinds.{kind_of_node}
use Rattle.ast.specs.KindLaws.{node-number}
use Rattle.places.specs.NodesAt.{kind-small}
use Rattle.visit.specs.declared.State.{State}
use Rattle.visit.specs.Whole.{Lent}
use Rattle.ready.specs.Ready.{NodeVisit, node-ready}
use Rattle.leaves.specs.Leaves.{LeafReady}
use Rattle.walking.specs.Kinds.{is_leaf, has_one, Leaf, OneOperand, Is}
use Rattle.walking.specs.Visited.{ClassVisit}

module _ {T : Texts} {image places words : List ℕ} {n at : ℕ} {st : State} {b : Lent} (e : at ≡ get_or places n 0) (v : NodeVisit T image places words n st b) where
  there : record_kind image at ≡ record_kind image (get_or places n 0)
  there = ap (record_kind image) e

  -- a kind that has a function of its own
  pub to_rule : {j : ℕ} → record_kind image at ≡ j → ClassVisit (Is j) T image places words n st b
  to_rule q = record { visit = v; kind = sym there ∙ q }

  module _ {x : NodeKind} (ex : x ≡ kind_of_node (record_kind image at)) where
    -- Unary, Let, Field
    pub to_one : (x ≡ node.Unary) ⊎ ((x ≡ node.Let) ⊎ (x ≡ node.Field)) → ClassVisit OneOperand T image places words n st b
    unfolding has_one
    to_one k = record { visit = v; kind = rw (← there) (one k) }
      where
        one : (x ≡ node.Unary) ⊎ ((x ≡ node.Let) ⊎ (x ≡ node.Field)) → OneOperand (record_kind image at)
        one (inl p) = rw (node-number (record_kind image at) (sym p ∙ ex)) refl
        one (inr (inl p)) = rw (node-number (record_kind image at) (sym p ∙ ex)) refl
        one (inr (inr p)) = rw (node-number (record_kind image at) (sym p ∙ ex)) refl

    -- Atom, Ident, Import, Extern
    pub to-leaf : (x ≡ node.Atom) ⊎ ((x ≡ node.Ident) ⊎ ((x ≡ node.Import) ⊎ (x ≡ node.Extern))) → LeafReady T image places words n st b.scratch
    unfolding is_leaf
    to-leaf k = record { node = node-ready v; kind = rw (← there) (leaf k); free = v.ready.free; library = v.ready.given.library }
      where
        leaf : (x ≡ node.Atom) ⊎ ((x ≡ node.Ident) ⊎ ((x ≡ node.Import) ⊎ (x ≡ node.Extern))) → Leaf (record_kind image at)
        leaf (inl p) = rw (node-number (record_kind image at) (sym p ∙ ex)) refl
        leaf (inr (inl p)) = rw (node-number (record_kind image at) (sym p ∙ ex)) refl
        leaf (inr (inr (inl p))) = rw (node-number (record_kind image at) (sym p ∙ ex)) refl
        leaf (inr (inr (inr p))) = rw (node-number (record_kind image at) (sym p ∙ ex)) refl

    -- an accepted image has nodes of the kinds 0 to 13
    pub a-kind : x ≡ node.None → ⊥
    a-kind p = let k : 14 ≤ record_kind image at = node-number (record_kind image at) (sym p ∙ ex) in omega (arith, k, kind-small (node-ready v) e refl refl)
