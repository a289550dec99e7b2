-- "any statements are added after the script's last": an accepted image that is extended keeps every old tree. Its roots stand where they
-- stood, its node records move by the number of new roots, its type records by that and the new node words; and the same words give the same
-- trees. Assumes nothing but that both images are accepted.
use Rattle.std.specs.Prelude.{ℕ, zero, suc, ◌+◌, ◌-◌, ◌≤◌, ◌<◌, ◌≡◌, refl, List, [], ◌∷◌, ◌++◌, length, get_or, take, drop}
use Rattle.std.proofs.Common.{arith, add-zero, add-one, sym, ap, ◌∙◌, length-append, length-take, length-drop, get_or-append-add, get_or-drop, get_or-take}
use Rattle.std.proofs.Math.ListN.{get_or-append}
use Rattle.ast.specs.Image.{word_at, node_count, type_count, root_count, slot_count, record_after, node_place, type_place, record_length}
use Rattle.ast.specs.TypeExpr.{type_of}
use Rattle.ast.specs.Node.{tree_of, first_roots, roots_of}
use Rattle.tok.specs.Word.{payload_of}
use Rattle.image_laws.proofs.Places.{node-next, type-next, type-first}
use Rattle.image_laws.proofs.Accepted.{Accepted}
use Rattle.trees.specs.SameWords.{SameWords, Agree, nodes-same}
use Rattle.trees.proofs.TypeTrees.{type-same, type-step}
use Rattle.trees.specs.SameRecords.{node-same}
use Rattle.trees.specs.Trees.{tree-step}
use Rattle.refusals.specs.Inputs.{Inputs}
use Rattle.rules.specs.Promises.{MoreStatements, root_words, node_records, type_records}

-- ── Where records stand in an accepted image ──

-- from one number to a larger one the places rise
module _ (place : ℕ → ℕ) (rise : (n : ℕ) → place n ≤ place (n + 1)) where
  rises : (n d : ℕ) → place n ≤ place (n + d)
  rises n zero = rw (add-zero n) (omega arith)
  rises n (suc d) =
      let e : n + suc d ≡ n + d + 1 = omega arith in
      rw e (omega (arith, rises n d, rise (n + d)))

  pub places_rise : (n m : ℕ) → n ≤ m → place n ≤ place m
  places_rise n m l = let e : n + (m - n) ≡ m = omega arith in rw e at (rises n (m - n))

node_rise : (image : List ℕ) (n m : ℕ) → n ≤ m → node_place image n ≤ node_place image m
node_rise image n m l = places_rise (node_place image) (λ p. omega (arith, node-next image p)) n m l

type_rise : (image : List ℕ) (n m : ℕ) → n ≤ m → type_place image n ≤ type_place image m
type_rise image n m l = places_rise (type_place image) (λ p. omega (arith, type-next image p)) n m l

node-first : (image : List ℕ) → node_place image 0 ≡ 4 + root_count image
unfolding node_place record_after
node-first image = refl

module _ {text image : List ℕ} (a : Accepted text image) where
  -- the types begin in the image, after the roots
  pub nodes-end : node_place image (node_count image) ≤ length image
  nodes-end = omega (arith, type_rise image 0 (type_count image) (omega arith), type-first image, a.whole)

  pub roots-end : 4 + root_count image ≤ node_place image (node_count image)
  roots-end = omega (arith, node_rise image 0 (node_count image) (omega arith), node-first image)

  -- a record ends before the next one, and before the end of all
  node-within : (n : ℕ) → n < node_count image → node_place image n + record_length image (node_place image n) ≤ node_place image (node_count image)
  node-within n l = omega (arith, node-next image n, node_rise image (n + 1) (node_count image) (omega arith))

  type-within : (n : ℕ) → n < type_count image → type_place image n + record_length image (type_place image n) ≤ length image
  type-within n l = omega (arith, type-next image n, type_rise image (n + 1) (type_count image) (omega arith), a.whole)

-- ── The extended image, in three parts ──

module _ {i i' : Inputs} (m : MoreStatements i i') (a : Accepted i.script i.image) (a' : Accepted i'.script i'.image) where
  abbrev old : List ℕ
  old = i.image

  abbrev new : List ℕ
  new = i'.image

  -- how many places nodes and types move
  abbrev k : ℕ
  k = length m.roots

  abbrev j : ℕ
  j = length m.roots + length m.nodes

  nodes-more : node_count new ≡ node_count old + m.more_nodes
  nodes-more = ap (λ (l : List ℕ). get_or l 0 0) m.longer

  types_more : type_count new ≡ type_count old + m.more_types
  types_more = ap (λ (l : List ℕ). get_or l 1 0) m.longer

  pub roots-more : root_count new ≡ root_count old + k
  roots-more = ap (λ (l : List ℕ). get_or l 2 0) m.longer

  roots-long : length (root_words old) ≡ root_count old
  roots-long = simp (length-take, length-drop) (omega (arith, nodes-end a, roots-end a))

  nodes-long : length (node_records old) ≡ node_place old (node_count old) - (4 + root_count old)
  nodes-long = simp (length-take, length-drop) (omega (arith, nodes-end a, roots-end a))

  types_long : length (type_records old) ≡ length old - node_place old (node_count old)
  types_long = length-drop (node_place old (node_count old)) old

  -- the three parts
  abbrev all_roots : List ℕ
  all_roots = root_words old ++ m.roots

  abbrev all_nodes : List ℕ
  all_nodes = node_records old ++ m.nodes

  abbrev all_types : List ℕ
  all_types = type_records old ++ m.types

  front_long : length (all_roots ++ all_nodes) ≡ length all_roots + length all_nodes
  front_long = length-append all_roots all_nodes

  all-roots-long : length all_roots ≡ root_count old + k
  all-roots-long = omega (arith, length-append (root_words old) m.roots, roots-long)

  all-nodes-long : length all_nodes ≡ node_place old (node_count old) - (4 + root_count old) + length m.nodes
  all-nodes-long = omega (arith, length-append (node_records old) m.nodes, nodes-long)

  -- the word after the four counts, and so on
  word_after : (n : ℕ) → word_at new (4 + n) ≡ get_or ((all_roots ++ all_nodes) ++ all_types) n 0
  word_after n =
      ap (λ (l : List ℕ). get_or l (4 + n) 0) m.longer
      ∙ get_or-append-add ((node_count old + m.more_nodes) ∷ (type_count old + m.more_types) ∷ (root_count old + k) ∷ (slot_count old + m.more_slots) ∷ []) ((all_roots ++ all_nodes) ++ all_types) n 0

  -- the old roots stand where they stood
  root-word : (n : ℕ) → n < root_count old → word_at new (4 + n) ≡ word_at old (4 + n)
  root-word n l =
      let r = roots-long in
      let s = all-roots-long in
      let f = front_long in
      word_after n
      ∙ get_or-append (all_roots ++ all_nodes) all_types 0 n (omega arith)
      ∙ get_or-append all_roots all_nodes 0 n (omega arith)
      ∙ get_or-append (root_words old) m.roots 0 n (omega arith)
      ∙ get_or-take (root_count old) (drop 4 old) n 0 l
      ∙ get_or-drop 4 old n 0

  -- the old node words move by k
  node-word : (p : ℕ) → 4 + root_count old ≤ p → p < node_place old (node_count old) → word_at new (p + k) ≡ word_at old p
  node-word p low high =
      let d : ℕ = p - (4 + root_count old) in
      let n = nodes-long in
      let s = all-roots-long in
      let t = all-nodes-long in
      let f = front_long in
      let at : p + k ≡ 4 + (length all_roots + d) = omega arith in
      let back : 4 + root_count old + d ≡ p = omega arith in
      ap (word_at new) at
      ∙ word_after (length all_roots + d)
      ∙ get_or-append (all_roots ++ all_nodes) all_types 0 (length all_roots + d) (omega arith)
      ∙ get_or-append-add all_roots all_nodes d 0
      ∙ get_or-append (node_records old) m.nodes 0 d (omega arith)
      ∙ get_or-drop (4 + root_count old) (take (node_place old (node_count old)) old) d 0
      ∙ get_or-take (node_place old (node_count old)) old (4 + root_count old + d) 0 (omega arith)
      ∙ ap (word_at old) back

  -- the old type words move by j
  type-word : (p : ℕ) → node_place old (node_count old) ≤ p → p < length old → word_at new (p + j) ≡ word_at old p
  type-word p low high =
      let d : ℕ = p - node_place old (node_count old) in
      let n = types_long in
      let s = all-roots-long in
      let t = all-nodes-long in
      let f = front_long in
      let r = roots-end a in
      let at : p + j ≡ 4 + (length (all_roots ++ all_nodes) + d) = omega arith in
      let back : node_place old (node_count old) + d ≡ p = omega arith in
      ap (word_at new) at
      ∙ word_after (length (all_roots ++ all_nodes) + d)
      ∙ get_or-append-add (all_roots ++ all_nodes) all_types d 0
      ∙ get_or-append (type_records old) m.types 0 d (omega arith)
      ∙ get_or-drop (node_place old (node_count old)) old d 0
      ∙ ap (word_at old) back

  -- ── Places ──

  node-place : (n : ℕ) → n ≤ node_count old → node_place new n ≡ node_place old n + k
  node-place zero l = omega (arith, node-first new, node-first old, roots-more)
  node-place (suc n) l =
      let h = node-place n (omega arith) in
      let w = node-within a n (omega arith) in
      let long = (a.node n (omega arith)).words.long in
      let low = node_rise old 0 n (omega arith) in
      let first = node-first old in
      let same : word_at new (node_place old n + k) ≡ word_at old (node_place old n) = node-word (node_place old n) (omega arith) (omega arith) in
      let e : record_length new (node_place new n) ≡ record_length old (node_place old n) = rw h (ap payload_of same) in
      rw (← (add-one n)) (omega (arith, node-next new n, node-next old n))

  -- the words `nodes` are the new node records
  nodes-place : node_place new (node_count new) ≡ node_place old (node_count old) + j
  nodes-place =
      let e = ap (λ (l : List ℕ). length l) m.whole in
      let s : length (node_records new) ≡ node_place new (node_count new) - (4 + root_count new) = simp (length-take, length-drop) (omega (arith, nodes-end a', roots-end a')) in
      omega (arith, all-nodes-long, roots-more, roots-end a, roots-end a')

  type-place : (t : ℕ) → t ≤ type_count old → type_place new t ≡ type_place old t + j
  type-place zero l = omega (arith, type-first new, type-first old, nodes-place)
  type-place (suc t) l =
      let h = type-place t (omega arith) in
      let w = type-within a t (omega arith) in
      let long = (a.type t (omega arith)).words.long in
      let low = type_rise old 0 t (omega arith) in
      let first = type-first old in
      let same : word_at new (type_place old t + j) ≡ word_at old (type_place old t) = type-word (type_place old t) (omega arith) (omega arith) in
      let e : record_length new (type_place new t) ≡ record_length old (type_place old t) = rw h (ap payload_of same) in
      rw (← (add-one t)) (omega (arith, type-next new t, type-next old t))

  -- ── Trees ──

  type-words : (t : ℕ) → t < type_count old → SameWords old new (type_place old t) (type_place new t) (record_length old (type_place old t))
  type-words t l = record {
    same = λ p h.
        let low = type_rise old 0 t (omega arith) in
        let first = type-first old in
        let high = type-within a t l in
        let e : type_place new t + p ≡ type_place old t + p + j = omega (arith, type-place t (omega arith)) in
        rw e (type-word (type_place old t + p) (omega arith) (omega arith));
  }

  type-kept : (f t : ℕ) → t < f → t < type_count old → type_of new t ≡ type_of old t
  type-kept zero t h l = absurd (omega arith)
  type-kept (suc f) t h l =
      type-step a' t (omega (arith, types_more))
      ∙ (type-same {go = type_of old} {go' = type_of new} (record { agree = λ p q. type-kept f p (omega arith) (omega arith) }) (a.type t l) (type-words t l) ∙ sym (type-step a t l))

  types-agree : Agree (type_count old) (type_of old) (type_of new)
  types-agree = record { agree = λ t l. type-kept (type_count old) t l l }

  node-words : (n : ℕ) → n < node_count old → SameWords old new (node_place old n) (node_place new n) (record_length old (node_place old n))
  node-words n l = record {
    same = λ p h.
        let low = node_rise old 0 n (omega arith) in
        let first = node-first old in
        let high = node-within a n l in
        let e : node_place new n + p ≡ node_place old n + p + k = omega (arith, node-place n (omega arith)) in
        rw e (node-word (node_place old n + p) (omega arith) (omega arith));
  }

  node_kept : (f n : ℕ) → n < f → n < node_count old → tree_of new n ≡ tree_of old n
  node_kept zero n h l = absurd (omega arith)
  node_kept (suc f) n h l =
      tree-step a' n (omega (arith, nodes-more))
      ∙ (node-same {go = tree_of old} {go' = tree_of new} (a.node n l) (record { agree = λ p q. node_kept f p (omega arith) (omega arith) }) types-agree (node-words n l) ∙ sym (tree-step a n l))

  -- THE LAWS: old nodes are the same trees, and so are the old roots.
  pub tree-kept : (n : ℕ) → n < node_count old → tree_of new n ≡ tree_of old n
  tree-kept n l = node_kept (node_count old) n l l

  pub roots_kept : first_roots new (root_count old) ≡ roots_of old
  unfolding first_roots roots_of
  roots_kept = nodes-same old new {n = node_count old} (record { agree = tree-kept }) (root_count old) 4 4 (record { same = root-word }) a.roots
