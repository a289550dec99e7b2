-- What holds of every node of an accepted image holds of all that is visited in it. By induction on numbers: parts have smaller ones.
-- Assumes nothing but that the image is accepted.
use Prim.Native.Nat.{ℕ, zero, suc, ◌+◌, ◌<◌}
use Rattle.std.proofs.Common.{arith}
use Rattle.std.specs.Prelude.{refl}
use mathlib.Core.List.{List, ◌∷◌, ◌++◌}
use Rattle.ast.specs.declared.NodeKind.{NodeKind}
use Rattle.ast.specs.declared.NodeKind.TheVariants as kind
use Rattle.ast.specs.Kinds.{kind_of_node}
use Rattle.ast.specs.KindLaws.{NodeNumber, node-number}
use Rattle.ast.specs.Image.{word_at, node_count, root_count, node_place, record_kind}
use Rattle.ast.specs.Node.{Node, Cases, nodes_from, cases_from, values_from, tree_of, first_roots, roots_of}
use Rattle.ast.specs.Outline.{Counts}
use Rattle.image_laws.specs.Many.{Each}
use Rattle.image_laws.specs.RecordWords.{Under, Pair, CasesWords, default_words, case_words}
use Rattle.image_laws.proofs.NodesRead.{bin-words, unary-words, let_words, fn-words, match-words, call-words, field-words, cast-words, record_words, array-words}
use Rattle.image_laws.proofs.Accepted.{Accepted}
use Rattle.trees.specs.SameWords.{each_first, each-rest, cases_default}
use Rattle.trees.specs.Trees.{tree-atom, tree-ident, tree-bin, tree-unary, tree_let, tree-fn, tree-match, tree-call, tree-field, tree-cast, tree_import, tree-extern, tree_record, tree-array}
use Rattle.rules.specs.Visited.{visited_below, visited_among, visited_in_cases, visited_in_values, visited_in}
use Rattle.rules.specs.Promises.{Every}
use Rattle.tworuns.specs.Pool.{every_join}

module _ (image : List ℕ) (P : Node → Type 0) where
  -- a node and all that is visited below it
  abbrev Deep : Node → Type 0
  Deep x = Every P (x ∷ visited_below x)

  -- lists of parts of node n
  module _ (n : ℕ) (go : (p : ℕ) → p < n → Deep (tree_of image p)) where
    nodes-every : (k at : ℕ) → Each (Under n image) 1 at k → Every P (visited_among (nodes_from (tree_of image) image at k))
    unfolding visited_among nodes_from Every
    nodes-every zero at e = tt
    nodes-every (suc k) at e =
        let x : Node = tree_of image (word_at image at) in
        every_join P (x ∷ visited_below x) _ (go (word_at image at) (each_first (Under n image) e).under) (nodes-every k (at + 1) (each-rest (Under n image) e))

    values-every : {text : List ℕ} (k at : ℕ) → Each (Pair text n image) 2 at k → Every P (visited_in_values (values_from (tree_of image) image at k))
    unfolding visited_in_values values_from Every
    values-every zero at e = tt
    values-every {text} (suc k) at e =
        every_join P (tree_of image (word_at image (at + 1)) ∷ visited_below (tree_of image (word_at image (at + 1)))) _
        (go (word_at image (at + 1)) (each_first (Pair text n image) e).value.under) (values-every k (at + 2) (each-rest (Pair text n image) e))

    cases-every : {c : Counts} {end at k : ℕ} → CasesWords c image n end at k → Every P (visited_in_cases (cases_from (tree_of image) image at k))
    unfolding visited_in_cases cases_from Every
    cases-every (default_words t l b) = tt
    cases-every (case_words {at = at} {k = k} t q body others) =
        let x : Node = tree_of image (word_at image (at + 1)) in
        let ys : List Node = visited_among (nodes_from (tree_of image) image (at + 3) (word_at image (at + 2))) in
        every_join P ((x ∷ visited_below x) ++ ys) _
        (every_join P (x ∷ visited_below x) ys (go (word_at image (at + 1)) q.under) (nodes-every (word_at image (at + 2)) (at + 3) body)) (cases-every others)

module _ {text image : List ℕ} (a : Accepted text image) (P : Node → Type 0) (own : (n : ℕ) → n < node_count image → P (tree_of image n)) where
  by_kind : (n : ℕ) (l : n < node_count image) → ((p : ℕ) → p < n → Every P (tree_of image p ∷ visited_below (tree_of image p)))
      → (x : NodeKind) → NodeNumber x (record_kind image (node_place image n))
      → Every P (visited_below (tree_of image n))
  unfolding visited_below Every
  by_kind n l go kind.Atom e = rw (tree-atom a n l e) tt
  by_kind n l go kind.Ident e = rw (tree-ident a n l e) tt
  by_kind n l go kind.Bin e =
      let w = bin-words (a.node n l) e in
      let x : Node = tree_of image (word_at image (node_place image n + 4)) in
      let y : Node = tree_of image (word_at image (node_place image n + 5)) in
      rw (tree-bin a n l e) (every_join P (x ∷ visited_below x) (y ∷ visited_below y) (go _ w.left.under) (go _ w.right.under))
  by_kind n l go kind.Unary e = rw (tree-unary a n l e) (go _ (unary-words (a.node n l) e).right.under)
  by_kind n l go kind.Let e = rw (tree_let a n l e) (go _ (let_words (a.node n l) e).right.under)
  by_kind n l go kind.Fn e = rw (tree-fn a n l e) (nodes-every image P n go _ _ (fn-words (a.node n l) e).body)
  by_kind n l go kind.Match e =
      let w = match-words (a.node n l) e in
      let cs : Cases = cases_from (tree_of image) image (node_place image n + 3) (word_at image (node_place image n + 2)) in
      rw (tree-match a n l e) (every_join P (visited_in_cases cs) _ (cases-every image P n go w.cases) (nodes-every image P n go _ _ (cases_default w.cases)))
  by_kind n l go kind.Call e = rw (tree-call a n l e) (nodes-every image P n go _ _ (call-words (a.node n l) e).args)
  by_kind n l go kind.Field e = rw (tree-field a n l e) (go _ (field-words (a.node n l) e).target.under)
  by_kind n l go kind.Cast e = rw (tree-cast a n l e) (go _ (cast-words (a.node n l) e).left.under)
  by_kind n l go kind.Import e = rw (tree_import a n l e) tt
  by_kind n l go kind.Extern e = rw (tree-extern a n l e) tt
  by_kind n l go kind.Record e = rw (tree_record a n l e) (values-every image P n go _ _ (record_words (a.node n l) e).values)
  by_kind n l go kind.Array e = rw (tree-array a n l e) (nodes-every image P n go _ _ (array-words (a.node n l) e).members)
  by_kind n l go kind.None e = absurd (let h = (a.node n l).words.kind in omega arith)

  -- f levels are enough for n
  deep : (f n : ℕ) → n < f → n < node_count image → Every P (tree_of image n ∷ visited_below (tree_of image n))
  unfolding Every
  deep zero n h l = absurd (omega arith)
  deep (suc f) n h l =
      let k : ℕ = record_kind image (node_place image n) in
      (own n l, by_kind n l (λ p q. deep f p (omega arith) (omega arith)) (kind_of_node k) (node-number k refl))

  -- what is visited below some nodes below N
  pub visited-list : (k at : ℕ) → Each (Under (node_count image) image) 1 at k → Every P (visited_among (nodes_from (tree_of image) image at k))
  visited-list k at e = nodes-every image P (node_count image) (λ p q. deep (node_count image) p q q) k at e

  -- THE LAW
  pub visited-every : Every P (visited_in image)
  unfolding visited_in roots_of first_roots
  visited-every = visited-list (root_count image) 4 a.roots
