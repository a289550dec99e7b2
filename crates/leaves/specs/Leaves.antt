-- A node below which nothing is visited: what its rule asks for, and one law for each kind. Assumes nothing.
use Rattle.std.specs.Prelude.{ℕ, zero, suc, ◌+◌, ◌-◌, ◌≤◌, ◌≡◌, refl, List, length, get_or}
use Rattle.std.proofs.Common.{◌∙◌, arith}
use Rattle.std.proofs.Math.Path.{ap}
use Rattle.tok.specs.Text.{Texts}
use Rattle.tok.specs.Word.{kind_of, word_of}
use Rattle.ptype.specs.declared.TypeKind.{TypeKind}
use Rattle.ptype.specs.TypeKind.{kind_of_type, number_of_type, kinds_of_types}
use Rattle.library.specs.Package.{packages_of}
use Rattle.library.specs.Accepted.{LibraryFine}
use Rattle.ast.specs.Image.{record_kind, record_length, slot_count}
use Rattle.ast.specs.declared.NodeKind.{NodeKind}
use Rattle.ast.specs.declared.NodeKind.TheVariants as kinds
use Rattle.ast.specs.Kinds.{kind_of_node}
use Rattle.ast.specs.KindLaws.{node-not}
use Rattle.ast.specs.Node.{words_from, externs_from, tree_of}
use Rattle.rules.specs.declared.Answer.{Answer}
use Rattle.rules.specs.Steps.{set_known}
use Rattle.rules.specs.Rules.{ident, node}
use Rattle.state.specs.Context.{ctx}
use Rattle.places.specs.NodesAt.{NodeReady, record_room, node-atom, words-atom, node-ident, node_import, words_import, node-extern, words-extern}
use Rattle.room_laws.specs.Room.{room, rows, extern_words}
use Rattle.visit.specs.declared.State.{State}
use Rattle.visit.specs.Whole.{Lent, Visit}
use Rattle.visit.specs.Within.{Visits}
use Rattle.visit.specs.Free.{Free, free-top}
use Rattle.imports.specs.Holding.{import_rule, CanHoldAll}
use Rattle.extern_package.specs.Packing.{extern_rule, ExternReady}
use Rattle.walking.specs.Kinds.{Leaf, is-extern}
use Rattle.walking.specs.Visited.{NodeVisited}

-- a node of an accepted image whose kind is such a one, room for what it adds, and an accepted library
pub record LeafReady (T : Texts) (image places words : List ℕ) (n : ℕ) (st : State) (scratch : List ℕ) : Type 0 where
  pub node : NodeReady image places n
  pub kind : Leaf (kind_of (get_or image (get_or places n 0) 0))
  pub free : Free (room (tree_of image n)) st scratch
  pub library : LibraryFine T words

words-many : (image : List ℕ) (at k : ℕ) → length (words_from image at k) ≡ k
unfolding words_from
words-many image at k = go k at
  where
    go : (k at : ℕ) → length (words_from image at k) ≡ k
    go ℕ.zero at = refl
    go (ℕ.suc k) at = ap ℕ.suc (go k (at + 1))

-- the kinds of types without payload are counted as their words have them
kind-back : (k : ℕ) → k ≤ 5 → number_of_type (kind_of_type k) ≡ k
unfolding kind_of_type kinds_of_types
kind-back zero h = refl
kind-back (suc zero) h = refl
kind-back (suc (suc zero)) h = refl
kind-back (suc (suc (suc zero))) h = refl
kind-back (suc (suc (suc (suc zero)))) h = refl
kind-back (suc (suc (suc (suc (suc zero))))) h = refl
kind-back (suc (suc (suc (suc (suc (suc k)))))) h = absurd (omega arith)

-- ── What each kind asks for ──

module _ {T : Texts} {image places words : List ℕ} {n : ℕ} {st : State} {scratch : List ℕ} (r : LeafReady T image places words n st scratch) where
  pub few-names : st.names.base + st.names.depth ≤ 4096
  few-names = omega (arith, free-top r.free)

  module _ {at : ℕ} (e : at ≡ get_or places n 0) where
    -- "type kind 2 to 5"
    pub atom-word : {w t : ℕ} {x : TypeKind} → record_kind image at ≡ 0 → w ≡ get_or image (at + 3) 0 → x ≡ kind_of_type w → t ≡ word_of (number_of_type x) 0 → t ≡ word_of w 0
    atom-word {w} q ew ex et = et ∙ ap (λ y. word_of y 0) (ap number_of_type ex ∙ kind-back w (omega (arith, ew, (words-atom r.node e refl refl q).most)))

    -- the kind that is left
    pub kind-extern : {x : NodeKind} → x ≡ kind_of_node (record_kind image at) → (x ≡ kinds.Atom → ⊥) → (x ≡ kinds.Ident → ⊥) → (x ≡ kinds.Import → ⊥) → record_kind image at ≡ 11
    kind-extern ex a i m = is-extern (record_kind image at) (rw e r.kind) (node-not _ ex a) (node-not _ ex i) (node-not _ ex m)

    module _ {long : ℕ} (length_at : long ≡ record_length image at) where
      pub import_long : record_kind image at ≡ 10 → 3 ≤ long
      import_long q = omega (arith, (words_import r.node e refl refl q).long, length_at)

      pub import_ready : record_kind image at ≡ 10 → CanHoldAll T words st scratch (at + 3) (long - 3)
      unfolding room
      import_ready q =
          let w = words_import r.node e refl refl q in
          let f : Free (length (words_from image (at + 3) (record_length image at - 3))) st scratch = rw (node_import r.node e refl refl q) at r.free in
          record {
            fine = r.library;
            free = rw (length_at) (rw (words-many image (at + 3) (record_length image at - 3)) at f);
            room = omega (arith, record_room r.node e, w.long, length_at);
          }

      pub extern-ready : {count : ℕ} → record_kind image at ≡ 11 → count ≡ get_or image (at + 4) 0 → ExternReady image places st scratch (at + 5) (at + long) count
      unfolding room
      extern-ready q ec = rw (ec, length_at) (record {
        functions = record { readable = r.node.readable; functions = (words-extern r.node e refl refl q).functions; low = omega (arith, record_room r.node e) };
        free = rw (node-extern r.node e refl refl q) at r.free;
      })

-- ── The rule of each kind ──

module _ (T : Texts) {image places : List ℕ} (words : List ℕ) {n : ℕ} (is : NodeReady image places n) {at : ℕ} (e : at ≡ get_or places n 0)
    {st : State} {b b' : Lent} {v : Visit Answer} where
  pub atom-visited : {slot w t : ℕ} → record_kind image at ≡ 0 → slot ≡ get_or image (at + 1) 0 → w ≡ get_or image (at + 3) 0 → t ≡ word_of w 0 → Visits (set_known slot t) 0 0 words st b b' v
      → NodeVisited T image words n st b b' v
  unfolding node room rows
  atom-visited q es ew et x = rw (node-atom is e refl refl q, ← es, ← ew, ← et) x

  pub ident-visited : {slot name : ℕ} → record_kind image at ≡ 1 → slot ≡ get_or image (at + 1) 0 → name ≡ get_or image (at + 2) 0
      → Visits (ident (ctx T (packages_of words) (slot_count image)) n slot name) 0 0 words st b b' v
      → NodeVisited T image words n st b b' v
  unfolding node room rows
  ident-visited q es en x = rw (node-ident is e refl refl q, ← es, ← en) x

  pub import_visited : {slot token long : ℕ} → record_kind image at ≡ 10 → slot ≡ get_or image (at + 1) 0 → token ≡ get_or image (at + 2) 0 → long ≡ record_length image at
      → Visits (import_rule (ctx T (packages_of words) (slot_count image)) n slot token (words_from image (at + 3) (long - 3))) (long - 3) 0 words st b b' v → NodeVisited T image words n st b b' v
  unfolding node room rows import_rule
  import_visited {long = long} q es et el x = rw (node_import is e refl refl q, ← es, ← et, ← el, words-many image (at + 3) (long - 3)) x

  pub extern-visited : {slot name count : ℕ} → record_kind image at ≡ 11 → slot ≡ get_or image (at + 1) 0 → name ≡ get_or image (at + 3) 0 → count ≡ get_or image (at + 4) 0
      → Visits (extern_rule (ctx T (packages_of words) (slot_count image)) n slot name (externs_from image (at + 5) count)) (extern_words (externs_from image (at + 5) count)) 0 words st b b' v
      → NodeVisited T image words n st b b' v
  unfolding node room rows extern_rule
  extern-visited q es en ec x = rw (node-extern is e refl refl q, ← es, ← en, ← ec) x
