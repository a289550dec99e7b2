-- The nodes of an accepted image as trees: one law for each kind. Node n stands at its place, `node_place image n`, and the words there are
-- as document 01's table says; each part is the tree of its number. Assumes nothing but that the image is accepted.
use Prim.Native.Nat.{ℕ, zero, suc, ◌<◌}
use Rattle.std.specs.Prelude.{◌≡◌, refl, List, get_or}
use Rattle.std.proofs.Common.{◌∙◌, arith}
use Rattle.ast.specs.Image.{node_count, node_place, record_kind, record_length}
use Rattle.ast.specs.TypeExpr.{type_of}
use Rattle.ast.specs.Node.{read_atom, read_ident, read_bin, read_unary, read_let, read_fn, read_match, read_call, read_field, read_cast, read_import, read_extern, read_record}
use Rattle.ast.specs.Node.{read_array, read_absent, readers, tree_within, tree_of}
use Rattle.image_laws.proofs.Accepted.{Accepted}
use Rattle.trees.specs.SameWords.{Agree, same_self}
use Rattle.trees.specs.SameRecords.{read_node, node_as, node-same}

module _ {text image : List ℕ} (a : Accepted text image) where
  -- the types of an image are its own
  own-types : {bound : ℕ} → Agree bound (type_of image) (type_of image)
  own-types = record { agree = λ t l. refl }

  -- "A part's number is smaller than its owner's": any two numbers of levels that are enough give the same tree
  tree-enough : (f g n : ℕ) → n < f → n < g → n < node_count image → tree_within image f n ≡ tree_within image g n
  unfolding tree_within read_node
  tree-enough zero g n h k l = absurd (omega arith)
  tree-enough (suc f) zero n h k l = absurd (omega arith)
  tree-enough (suc f) (suc g) n h k l =
      node-same {go = tree_within image g} {go' = tree_within image f} (a.node n l) (record { agree = λ p q. tree-enough f g p (omega arith) (omega arith) (omega arith) }) own-types
      (same_self image (node_place image n) (record_length image (node_place image n)))

  -- the tree of a node is what its kind's reader gives, its parts being the trees of their numbers
  pub tree-step : (n : ℕ) → n < node_count image → tree_of image n ≡ read_node (tree_of image) image n (node_place image n)
  unfolding tree_of tree_within read_node
  tree-step n l =
      node-same {go = tree_of image} {go' = tree_within image n} (a.node n l) (record { agree = λ p q. tree-enough n (suc p) p (omega arith) (omega arith) (omega arith) }) own-types
      (same_self image (node_place image n) (record_length image (node_place image n)))

  module _ (n : ℕ) (l : n < node_count image) where
    tree_as : (k : ℕ) → record_kind image (node_place image n) ≡ k → tree_of image n ≡ get_or readers k read_absent (tree_of image) image n (node_place image n)
    tree_as k e = tree-step n l ∙ node_as (tree_of image) image n (node_place image n) k e

    -- 0 Atom | token, type kind 2 to 5
    pub tree-atom : record_kind image (node_place image n) ≡ 0 → tree_of image n ≡ read_atom (tree_of image) image n (node_place image n)
    unfolding readers
    tree-atom e = tree_as 0 e

    -- 1 Ident | name
    pub tree-ident : record_kind image (node_place image n) ≡ 1 → tree_of image n ≡ read_ident (tree_of image) image n (node_place image n)
    unfolding readers
    tree-ident e = tree_as 1 e

    -- 2 Bin | token, operator, left, right
    pub tree-bin : record_kind image (node_place image n) ≡ 2 → tree_of image n ≡ read_bin (tree_of image) image n (node_place image n)
    unfolding readers
    tree-bin e = tree_as 2 e

    -- 3 Unary | token, operator, right
    pub tree-unary : record_kind image (node_place image n) ≡ 3 → tree_of image n ≡ read_unary (tree_of image) image n (node_place image n)
    unfolding readers
    tree-unary e = tree_as 3 e

    -- 4 Let | name, right
    pub tree_let : record_kind image (node_place image n) ≡ 4 → tree_of image n ≡ read_let (tree_of image) image n (node_place image n)
    unfolding readers
    tree_let e = tree_as 4 e

    -- 5 Fn | name, return type, argument count, name and type of each, body
    pub tree-fn : record_kind image (node_place image n) ≡ 5 → tree_of image n ≡ read_fn (tree_of image) image n (node_place image n)
    unfolding readers
    tree-fn e = tree_as 5 e

    -- 6 Match | case count; per case token, condition, body count, body; then default token, body
    pub tree-match : record_kind image (node_place image n) ≡ 6 → tree_of image n ≡ read_match (tree_of image) image n (node_place image n)
    unfolding readers
    tree-match e = tree_as 6 e

    -- 7 Call | target (Ident or Field), arguments
    pub tree-call : record_kind image (node_place image n) ≡ 7 → tree_of image n ≡ read_call (tree_of image) image n (node_place image n)
    unfolding readers
    tree-call e = tree_as 7 e

    -- 8 Field | target, name
    pub tree-field : record_kind image (node_place image n) ≡ 8 → tree_of image n ≡ read_field (tree_of image) image n (node_place image n)
    unfolding readers
    tree-field e = tree_as 8 e

    -- 9 Cast | token, left, type
    pub tree-cast : record_kind image (node_place image n) ≡ 9 → tree_of image n ≡ read_cast (tree_of image) image n (node_place image n)
    unfolding readers
    tree-cast e = tree_as 9 e

    -- 10 Import | token, paths
    pub tree_import : record_kind image (node_place image n) ≡ 10 → tree_of image n ≡ read_import (tree_of image) image n (node_place image n)
    unfolding readers
    tree_import e = tree_as 10 e

    -- 11 Extern | token, name, function count; each: name, return type, argument count, pairs
    pub tree-extern : record_kind image (node_place image n) ≡ 11 → tree_of image n ≡ read_extern (tree_of image) image n (node_place image n)
    unfolding readers
    tree-extern e = tree_as 11 e

    -- 12 Record | token, name and value pairs
    pub tree_record : record_kind image (node_place image n) ≡ 12 → tree_of image n ≡ read_record (tree_of image) image n (node_place image n)
    unfolding readers
    tree_record e = tree_as 12 e

    -- 13 Array | token, members
    pub tree-array : record_kind image (node_place image n) ≡ 13 → tree_of image n ≡ read_array (tree_of image) image n (node_place image n)
    unfolding readers
    tree-array e = tree_as 13 e
