-- The room that functions take, node by node, as the code counts it. One law for each way out. Assumes nothing.
use Prim.Native.Nat.{ℕ, ◌+◌, ◌*◌, ◌-◌, ◌≤◌, ◌<◌}
use mathlib.Core.Bool.{Bool, true, false, cond}
use mathlib.Core.Path.{◌≡◌, refl, sym, ap, ◌∙◌}
use mathlib.Core.Option.{none, some}
use mathlib.Core.List.{List, [], ◌∷◌}
use native.Mathlib.Omega.{arith}
use lib.Dec.{ltb}
use borrow.Author.Tests.{lt-ltb, le-ltb, ltb-true, ltb-false, ne_eqb}
use Rattle.tok.specs.Word.{kind_of}
use Rattle.ast.specs.Image.{word_at, node_count, slot_count, root_count, record_kind, record_length}
use Rattle.ast.specs.Outline.{Outline}
use Rattle.ast.specs.declared.NodeKind.{NodeKind}
use Rattle.ast.specs.declared.NodeKind.TheVariants as node
use Rattle.ast.specs.Kinds.{kind_of_node}
use Rattle.ast.specs.KindLaws.{node-number, node-not}
use Rattle.ast.specs.Room.{entry_words, function_words, room_fault}
use Rattle.image_laws.specs.OutlineAt.{arguments_at, outline_from, outline_at, outlines_from}
use Rattle.node_parts.specs.Lists.{outlines-next, outlines-none, NodesLeft, nodes-first, nodes-step}

-- ── One node ──

module _ (image : List ℕ) (at : ℕ) {head : ℕ} (eh : head ≡ word_at image at) where
  pub fn_words : {n : ℕ} → node.Fn ≡ kind_of_node (kind_of head) → n ≡ arguments_at image at → 3 + 2 * n ≡ entry_words (outline_from image at)
  unfolding entry_words
  fn_words e en = let k : record_kind image at ≡ 5 = rw (← eh) (node-number _ e) in rw (k, ← en) refl

  pub other_words : {x : NodeKind} → x ≡ kind_of_node (kind_of head) → (x ≡ node.Fn → ⊥) → 0 ≡ entry_words (outline_from image at)
  unfolding entry_words
  other_words e n = let k : record_kind image at ≡ 5 → ⊥ = rw (← eh) (node-not _ e n) in rw (ne_eqb (record_kind image at) 5 k) refl

-- ── All nodes ──

words-next : (o : Outline) (os : List Outline) → function_words (o ∷ os) ≡ entry_words o + function_words os
unfolding function_words
words-next o os = refl

words-none : function_words [] ≡ 0
unfolding function_words
words-none = refl

-- what is too much for the first is too much for all
less-first : (left need others : ℕ) → left < need → ltb left (need + others) ≡ true
less-first left need others h = lt-ltb left (need + others) (omega arith)

less-rest : (left need others : ℕ) → need ≤ left → ltb left (need + others) ≡ ltb (left - need) others
less-rest left need others h = by (ltb (left - need) others) refl
  where
    by : (b : Bool) → ltb (left - need) others ≡ b → ltb left (need + others) ≡ b
    by true e = lt-ltb left (need + others) (let p = ltb-true (left - need) others e in omega arith)
    by false e = le-ltb left (need + others) (let p = ltb-false (left - need) others e in omega arith)

-- node i is next, at word `at`, and `left` words are left
pub record ToFit (image : List ℕ) (n functions at left i : ℕ) : Type 0 where
  pub nodes : NodesLeft image n at i
  pub rest : ltb functions (function_words (outlines_from image 0 n)) ≡ ltb left (function_words (outlines_from image i (n - i)))

pub to-fit : (image : List ℕ) (n functions r : ℕ) → r ≡ root_count image → ToFit image n functions (4 + r) functions 0
to-fit image n functions r e =
    record { nodes = nodes-first image n r e; rest = let z : n - 0 ≡ n = omega arith in ap (λ k. ltb functions (function_words (outlines_from image 0 k))) (sym z) }

module _ {image : List ℕ} {n functions at left i : ℕ} (h : ToFit image n functions at left i) where
  module _ {need : ℕ} (l : i < n) (e : need ≡ entry_words (outline_from image at)) where
    need_here : function_words (outlines_from image i (n - i)) ≡ need + function_words (outlines_from image (i + 1) (n - (i + 1)))
    unfolding outline_at
    need_here =
        ap function_words (outlines-next image i n l)
        ∙ words-next _ _
        ∙ ap (λ k. k + function_words (outlines_from image (i + 1) (n - (i + 1)))) (ap (λ p. entry_words (outline_from image p)) (sym h.nodes.place) ∙ sym e)

    pub no_room : left < need → ltb functions (function_words (outlines_from image 0 n)) ≡ true
    no_room t = h.rest ∙ ap (ltb left) need_here ∙ less-first left need _ t

    pub fit-more : {at' : ℕ} → need ≤ left → at' ≡ at + record_length image at → ToFit image n functions at' (left - need) (i + 1)
    fit-more f p =
        record {
          nodes = nodes-step h.nodes l p;
          rest = h.rest ∙ ap (ltb left) need_here ∙ less-rest left need _ f;
        }

  pub fit-end : n ≤ i → ltb functions (function_words (outlines_from image 0 n)) ≡ false
  fit-end l = h.rest ∙ ap (λ os. ltb left (function_words os)) (outlines-none image i n l) ∙ ap (ltb left) words-none ∙ le-ltb left 0 (omega arith)

-- ── The whole ──

module _ (image : List ℕ) (slots functions : ℕ) where
  pub slots-short : {v : ℕ} → v ≡ slot_count image → slots ≤ v → some 0 ≡ room_fault slots functions (slot_count image) (outlines_from image 0 (node_count image))
  unfolding room_fault
  slots-short {v} e h = sym (rw (lt-ltb slots (slot_count image + 1) (omega arith)) refl)

  module _ {v n : ℕ} (ev : v ≡ slot_count image) (en : n ≡ node_count image) (room : v < slots) where
    by-functions : (b : Bool) → ltb functions (function_words (outlines_from image 0 n)) ≡ b
        → cond b (some 0) none ≡ room_fault slots functions (slot_count image) (outlines_from image 0 (node_count image))
    unfolding room_fault
    by-functions b e = sym (rw (le-ltb slots (slot_count image + 1) (omega arith), ← en, e) refl)

    pub functions-short : ltb functions (function_words (outlines_from image 0 n)) ≡ true
        → some 0 ≡ room_fault slots functions (slot_count image) (outlines_from image 0 (node_count image))
    functions-short e = by-functions true e

    pub fits : ltb functions (function_words (outlines_from image 0 n)) ≡ false
        → none ≡ room_fault slots functions (slot_count image) (outlines_from image 0 (node_count image))
    fits e = by-functions false e
