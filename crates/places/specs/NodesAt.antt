-- A node by the words of its record, which begins at `at` with the word h, of kind k, as the code finds them: for each kind the tree, and
-- what its words are. Assumes nothing.
use Rattle.std.specs.Prelude.{ℕ, ◌+◌, ◌≤◌, ◌<◌, ◌≡◌, List, get_or}
use Rattle.std.proofs.Common.{sym, ap, subst, ◌∙◌, arith}
use Rattle.tok.specs.Word.{kind_of, payload_of}
use Rattle.ast.specs.Image.{node_count, node_place, record_kind, record_length}
use Rattle.ast.specs.Node.{read_atom, read_ident, read_bin, read_unary, read_let, read_fn, read_match, read_call, read_field, read_cast, read_import, read_extern, read_record, read_array, tree_of}
use Rattle.ast.specs.Outline.{Counts}
use Rattle.image_laws.specs.RecordWords.{Under, AtomWords, IdentWords, BinWords, UnaryWords, LetWords, FnWords, MatchWords, CallWords, FieldWords, CastWords, ImportWords}
use Rattle.image_laws.specs.RecordWords.{ExternWords, RecordWords, ArrayWords}
use Rattle.image_laws.proofs.NodesRead.{atom-words, ident-words, bin-words, unary-words, let_words, fn-words, match-words, call-words, field-words, cast-words, import_words}
use Rattle.image_laws.proofs.NodesRead.{extern-words, record_words, array-words}
use Rattle.image_laws.proofs.Accepted.{counts_in}
use Rattle.trees.specs.Trees.{tree-atom, tree-ident, tree-bin, tree-unary, tree_let, tree-fn, tree-match, tree-call, tree-field, tree-cast, tree_import, tree-extern, tree_record, tree-array}
use Rattle.places.specs.Readable.{Readable, node-there, node-read, node-room, node-kind}

-- a node of an accepted image, with the places of its records
pub record NodeReady (image places : List ℕ) (n : ℕ) : Type 0 where
  pub readable : Readable image places
  pub below : n < node_count image

-- a part of node n
pub record PartReady (image places : List ℕ) (n part : ℕ) : Type 0 where
  pub ready : NodeReady image places part
  pub under : part < n

-- "A part's number is smaller than its owner's": the part whose number stands at a place
pub part-ready : {image places : List ℕ} {n p i : ℕ} → NodeReady image places n → Under n image p → i ≡ get_or image p 0 → PartReady image places n i
part-ready r u e = record { ready = record { readable = r.readable; below = omega (arith, u.under, r.below) }; under = omega (arith, u.under) }

-- the counts of the image, and its text
abbrev pub counts_of : {image places : List ℕ} {n : ℕ} → NodeReady image places n → Counts
counts_of {image} r = counts_in r.readable.text image

module _ {image places : List ℕ} {n at : ℕ} (r : NodeReady image places n) (e : at ≡ get_or places n 0) where
  there : at ≡ node_place image n
  there = node-there r.readable r.below e

  -- the record stands in the image
  pub record_room : at + record_length image at ≤ 8192
  record_room = node-room r.readable r.below e

  module _ {h k : ℕ} (eh : h ≡ get_or image at 0) (ek : k ≡ kind_of h) where
    kind : (j : ℕ) → k ≡ j → record_kind image (node_place image n) ≡ j
    kind j q = node-kind r.readable r.below e j eh ek q

    -- a kind of document 01's
    pub kind-small : k < 14
    kind-small = rw (ek, eh, there) (node-read r.readable r.below e).words.kind

    pub length-there : {long : ℕ} → long ≡ payload_of h → long ≡ record_length image at
    length-there el = el ∙ ap payload_of eh

    -- 0 Atom | token, type kind 2 to 5
    pub node-atom : k ≡ 0 → tree_of image n ≡ read_atom (tree_of image) image n at
    node-atom q = tree-atom r.readable.accepted n r.below (kind 0 q) ∙ ap (read_atom (tree_of image) image n) (sym there)

    pub words-atom : k ≡ 0 → AtomWords (counts_of r) image n at
    words-atom q = subst (AtomWords (counts_of r) image n) (sym there) (atom-words (node-read r.readable r.below e) (kind 0 q))

    -- 1 Ident | name
    pub node-ident : k ≡ 1 → tree_of image n ≡ read_ident (tree_of image) image n at
    node-ident q = tree-ident r.readable.accepted n r.below (kind 1 q) ∙ ap (read_ident (tree_of image) image n) (sym there)

    pub words-ident : k ≡ 1 → IdentWords (counts_of r) image n at
    words-ident q = subst (IdentWords (counts_of r) image n) (sym there) (ident-words (node-read r.readable r.below e) (kind 1 q))

    -- 2 Bin | token, operator, left, right
    pub node-bin : k ≡ 2 → tree_of image n ≡ read_bin (tree_of image) image n at
    node-bin q = tree-bin r.readable.accepted n r.below (kind 2 q) ∙ ap (read_bin (tree_of image) image n) (sym there)

    pub words-bin : k ≡ 2 → BinWords (counts_of r) image n at
    words-bin q = subst (BinWords (counts_of r) image n) (sym there) (bin-words (node-read r.readable r.below e) (kind 2 q))

    -- 3 Unary | token, operator, right
    pub node-unary : k ≡ 3 → tree_of image n ≡ read_unary (tree_of image) image n at
    node-unary q = tree-unary r.readable.accepted n r.below (kind 3 q) ∙ ap (read_unary (tree_of image) image n) (sym there)

    pub words-unary : k ≡ 3 → UnaryWords (counts_of r) image n at
    words-unary q = subst (UnaryWords (counts_of r) image n) (sym there) (unary-words (node-read r.readable r.below e) (kind 3 q))

    -- 4 Let | name, right
    pub node_let : k ≡ 4 → tree_of image n ≡ read_let (tree_of image) image n at
    node_let q = tree_let r.readable.accepted n r.below (kind 4 q) ∙ ap (read_let (tree_of image) image n) (sym there)

    pub words_let : k ≡ 4 → LetWords (counts_of r) image n at
    words_let q = subst (LetWords (counts_of r) image n) (sym there) (let_words (node-read r.readable r.below e) (kind 4 q))

    -- 5 Fn | name, return type, argument count, name and type of each, body
    pub node-fn : k ≡ 5 → tree_of image n ≡ read_fn (tree_of image) image n at
    node-fn q = tree-fn r.readable.accepted n r.below (kind 5 q) ∙ ap (read_fn (tree_of image) image n) (sym there)

    pub words-fn : k ≡ 5 → FnWords (counts_of r) image n at
    words-fn q = subst (FnWords (counts_of r) image n) (sym there) (fn-words (node-read r.readable r.below e) (kind 5 q))

    -- 6 Match | case count; per case token, condition, body count, body; then default token, body
    pub node-match : k ≡ 6 → tree_of image n ≡ read_match (tree_of image) image n at
    node-match q = tree-match r.readable.accepted n r.below (kind 6 q) ∙ ap (read_match (tree_of image) image n) (sym there)

    pub words-match : k ≡ 6 → MatchWords (counts_of r) image n at
    words-match q = subst (MatchWords (counts_of r) image n) (sym there) (match-words (node-read r.readable r.below e) (kind 6 q))

    -- 7 Call | target (Ident or Field), arguments
    pub node_call : k ≡ 7 → tree_of image n ≡ read_call (tree_of image) image n at
    node_call q = tree-call r.readable.accepted n r.below (kind 7 q) ∙ ap (read_call (tree_of image) image n) (sym there)

    pub words-call : k ≡ 7 → CallWords (counts_of r) image n at
    words-call q = subst (CallWords (counts_of r) image n) (sym there) (call-words (node-read r.readable r.below e) (kind 7 q))

    -- 8 Field | target, name
    pub node-field : k ≡ 8 → tree_of image n ≡ read_field (tree_of image) image n at
    node-field q = tree-field r.readable.accepted n r.below (kind 8 q) ∙ ap (read_field (tree_of image) image n) (sym there)

    pub words-field : k ≡ 8 → FieldWords (counts_of r) image n at
    words-field q = subst (FieldWords (counts_of r) image n) (sym there) (field-words (node-read r.readable r.below e) (kind 8 q))

    -- 9 Cast | token, left, type
    pub node-cast : k ≡ 9 → tree_of image n ≡ read_cast (tree_of image) image n at
    node-cast q = tree-cast r.readable.accepted n r.below (kind 9 q) ∙ ap (read_cast (tree_of image) image n) (sym there)

    pub words-cast : k ≡ 9 → CastWords (counts_of r) image n at
    words-cast q = subst (CastWords (counts_of r) image n) (sym there) (cast-words (node-read r.readable r.below e) (kind 9 q))

    -- 10 Import | token, paths
    pub node_import : k ≡ 10 → tree_of image n ≡ read_import (tree_of image) image n at
    node_import q = tree_import r.readable.accepted n r.below (kind 10 q) ∙ ap (read_import (tree_of image) image n) (sym there)

    pub words_import : k ≡ 10 → ImportWords (counts_of r) image n at
    words_import q = subst (ImportWords (counts_of r) image n) (sym there) (import_words (node-read r.readable r.below e) (kind 10 q))

    -- 11 Extern | token, name, function count; each: name, return type, argument count, pairs
    pub node-extern : k ≡ 11 → tree_of image n ≡ read_extern (tree_of image) image n at
    node-extern q = tree-extern r.readable.accepted n r.below (kind 11 q) ∙ ap (read_extern (tree_of image) image n) (sym there)

    pub words-extern : k ≡ 11 → ExternWords (counts_of r) image n at
    words-extern q = subst (ExternWords (counts_of r) image n) (sym there) (extern-words (node-read r.readable r.below e) (kind 11 q))

    -- 12 Record | token, name and value pairs
    pub node_record : k ≡ 12 → tree_of image n ≡ read_record (tree_of image) image n at
    node_record q = tree_record r.readable.accepted n r.below (kind 12 q) ∙ ap (read_record (tree_of image) image n) (sym there)

    pub words_record : k ≡ 12 → RecordWords (counts_of r) image n at
    words_record q = subst (RecordWords (counts_of r) image n) (sym there) (record_words (node-read r.readable r.below e) (kind 12 q))

    -- 13 Array | token, members
    pub node-array : k ≡ 13 → tree_of image n ≡ read_array (tree_of image) image n at
    node-array q = tree-array r.readable.accepted n r.below (kind 13 q) ∙ ap (read_array (tree_of image) image n) (sym there)

    pub words-array : k ≡ 13 → ArrayWords (counts_of r) image n at
    words-array q = subst (ArrayWords (counts_of r) image n) (sym there) (array-words (node-read r.readable r.below e) (kind 13 q))
