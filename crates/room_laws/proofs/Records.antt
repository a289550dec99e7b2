-- What a node takes by itself is no more than its record in the image is long; and the records lie one after the other within the image.
-- Assumes nothing but that the image is accepted.
use Prim.Native.Nat.{ℕ, zero, suc, ◌+◌, ◌-◌, ◌≤◌, ◌<◌}
use Rattle.std.proofs.Common.{arith, add-one, ap}
use Rattle.std.specs.Prelude.{◌≡◌, refl, List, length}
use Rattle.ast.specs.declared.NodeKind.{NodeKind}
use Rattle.ast.specs.declared.NodeKind.TheVariants as kind
use Rattle.ast.specs.Kinds.{kind_of_node}
use Rattle.ast.specs.KindLaws.{NodeNumber, node-number}
use Rattle.ast.specs.Image.{word_at, node_count, type_count, root_count, record_after, node_place, type_place, record_kind, record_length}
use Rattle.ast.specs.TypeExpr.{args_from}
use Rattle.ast.specs.Node.{Node, nodes_from, words_from, externs_from, tree_of}
use Rattle.ast.specs.Outline.{Counts}
use Rattle.image_laws.specs.RecordWords.{FunctionsWords, no_functions, function_words}
use Rattle.image_laws.proofs.NodesRead.{let_words, fn-words, extern-words}
use Rattle.image_laws.proofs.Places.{node-next, type-next, type-first}
use Rattle.image_laws.proofs.Accepted.{Accepted}
use Rattle.trees.specs.Trees.{tree-atom, tree-ident, tree-bin, tree-unary, tree_let, tree-fn, tree-match, tree-call, tree-field, tree-cast, tree_import, tree-extern, tree_record, tree-array}
use Rattle.accepts.specs.Count.{up_to}
use Rattle.room_laws.specs.Room.{extern_words, call_room}
use Rattle.room_laws.specs.Sums.{own_room}

-- ── Lists of a record ──

args-long : (image : List ℕ) (k at : ℕ) → length (args_from image at k) ≡ k
unfolding args_from
args-long image zero at = refl
args-long image (suc k) at = ap suc (args-long image k (at + 2))

words_long : (image : List ℕ) (k at : ℕ) → length (words_from image at k) ≡ k
unfolding words_from
words_long image zero at = refl
words_long image (suc k) at = ap suc (words_long image k (at + 1))

call_long : (go : ℕ → Node) (image : List ℕ) (k at : ℕ) → call_room (nodes_from go image at k) ≡ k
unfolding call_room nodes_from
call_long go image zero at = refl
call_long go image (suc k) at = omega (arith, call_long go image k (at + 1))

externs_long : {c : Counts} {image : List ℕ} {end at k : ℕ} → FunctionsWords c image end at k → at + extern_words (externs_from image at k) ≡ end + 3
unfolding extern_words externs_from
externs_long (no_functions e) = omega (arith, e)
externs_long {image = image} (function_words {at = at} m y args others) = omega (arith, externs_long others, args-long image (word_at image (at + 2)) (at + 3))

-- ── By kind ──

module _ {text image : List ℕ} (a : Accepted text image) (n : ℕ) (l : n < node_count image) where
  abbrev at : ℕ
  at = node_place image n

  by_kind : (x : NodeKind) → NodeNumber x (record_kind image at) → own_room (tree_of image n) ≤ record_length image at
  unfolding own_room
  by_kind kind.Atom e = rw (tree-atom a n l e) (omega arith)
  by_kind kind.Ident e = rw (tree-ident a n l e) (omega arith)
  by_kind kind.Bin e = rw (tree-bin a n l e) (omega arith)
  by_kind kind.Unary e = rw (tree-unary a n l e) (omega arith)
  by_kind kind.Let e = rw (tree_let a n l e) (omega (arith, (let_words (a.node n l) e).long))
  by_kind kind.Fn e =
      rw (tree-fn a n l e) (omega (arith, (fn-words (a.node n l) e).long, args-long image (word_at image (at + 4)) (at + 5)))
  by_kind kind.Match e = rw (tree-match a n l e) (omega arith)
  by_kind kind.Call e = rw (tree-call a n l e) (omega (arith, call_long (tree_of image) image (record_length image at - 3) (at + 3)))
  by_kind kind.Field e = rw (tree-field a n l e) (omega arith)
  by_kind kind.Cast e = rw (tree-cast a n l e) (omega arith)
  by_kind kind.Import e = rw (tree_import a n l e) (omega (arith, words_long image (record_length image at - 3) (at + 3)))
  by_kind kind.Extern e =
      rw (tree-extern a n l e) (omega (arith, externs_long (extern-words (a.node n l) e).functions))
  by_kind kind.Record e = rw (tree_record a n l e) (omega arith)
  by_kind kind.Array e = rw (tree-array a n l e) (omega arith)
  by_kind kind.None e = absurd (let h = (a.node n l).words.kind in omega arith)

  -- THE LAW of one node
  pub own_room_lem : own_room (tree_of image n) ≤ record_length image (node_place image n)
  own_room_lem = by_kind (kind_of_node (record_kind image at)) (node-number (record_kind image at) refl)

-- ── One after the other ──

records_sum : (image : List ℕ) (k : ℕ) → node_place image 0 + up_to (λ n. record_length image (node_place image n)) k ≡ node_place image k
unfolding up_to
records_sum image zero = omega arith
records_sum image (suc k) = rw (← add-one k) (omega (arith, records_sum image k, node-next image k))

types-after : (image : List ℕ) (k : ℕ) → type_place image 0 ≤ type_place image k
types-after image zero = omega arith
types-after image (suc k) = rw (← add-one k) (omega (arith, types-after image k, type-next image k))

-- "counts ..; the roots; node records; type records; nothing after"
pub records_within : {text image : List ℕ} → Accepted text image → 4 + root_count image + up_to (λ n. record_length image (node_place image n)) (node_count image) ≤ length image
unfolding node_place record_after
records_within {text} {image} a =
    omega (arith, records_sum image (node_count image), type-first image, types-after image (type_count image), a.whole)
