-- The nodes of an image one after the other: where reading accepts them, each record stands at its place with its outline there.
-- Assumes nothing.
use Prim.Native.Nat.{ℕ, zero, suc, ◌+◌, ◌≤◌, ◌<◌}
use Rattle.std.specs.Prelude.{◌≡◌, List}
use Rattle.std.proofs.Common.{sym, ap, subst, ◌∙◌}
use native.Mathlib.Omega.{arith}
use Rattle.std.proofs.Math.Decide.{ℕ_discrete}
use Rattle.tok.specs.Step.{ok}
use Rattle.reader.specs.Reading.{standing}
use Rattle.reader.specs.Reads.{Within, Reads, reads, reads_then, reads-show, reads_self, reads-shown}
use Rattle.ast.specs.Image.{word_at, node_place, record_kind, record_length}
use Rattle.ast.specs.Outline.{Counts}
use Rattle.ast.specs.NodeRecords.{callable}
use Rattle.ast.specs.Nodes.{node, nodes}
use Rattle.image_laws.specs.OutlineAt.{outline_from, outline_at, outlines_from}
use Rattle.image_laws.specs.RecordWords.{AtomWords, IdentWords, BinWords, UnaryWords, LetWords, FnWords, MatchWords, CallWords}
use Rattle.image_laws.specs.RecordWords.{FieldWords, CastWords, ImportWords, ExternWords, RecordWords, ArrayWords}
use Rattle.image_laws.proofs.NodeLaws.{NodeWords, any_node, atom-node, ident-node, bin-node, unary-node, let_node, fn-node, match-node}
use Rattle.image_laws.proofs.NodeLaws.{call-node, field-node, cast-node, import_node, extern-node, record_node_lem, array-node}
use Rattle.image_laws.proofs.Places.{node-next, outlines-more, outlines-known}

-- node n was read: its record is accepted at its place, and gives its outline
pub record NodeRead (c : Counts) (image : List ℕ) (n : ℕ) : Type 0 where
  pub least : ℕ
  pub after : ℕ
  pub read : node c (outlines_from image 0 n) n (standing image (node_place image n) least)
      ≡ ok (outline_from image (node_place image n)) (standing image (node_place image n + record_length image (node_place image n)) after)
  pub words : NodeWords c image (node_place image n)
  pub within : Within image (node_place image n + record_length image (node_place image n))

module _ (c : Counts) (image : List ℕ) where
  -- the node at its place
  one : (n least : ℕ) → Reads image (outline_at image n) (node_place image (n + 1)) (NodeRead c image n) (node c (outlines_from image 0 n) n (standing image (node_place image n) least))
  unfolding outline_at
  one n least =
      let at : ℕ = node_place image n in
      rw (← node-next image n)
      (reads-show (λ w s. record { least = least; after = s.0; read = s.1; words = s.2; within = w })
      (reads_self (any_node c (outlines_from image 0 n) image n at least)))

  either : (n k : ℕ) → NodeRead c image n → ((j : ℕ) → n + 1 ≤ j → j < n + 1 + k → NodeRead c image j) → (j : ℕ) → n ≤ j → j < n + suc k → NodeRead c image j
  either n k here others j low high = elim (ℕ_discrete j n) [
    | yes e ↦ subst (NodeRead c image) (sym e) here
    | no d ↦ others j (omega arith) (omega arith)
  ]

  pub nodes-give : (k n least : ℕ) → Within image (node_place image n)
      → Reads image (outlines_from image 0 (n + k)) (node_place image (n + k)) ((j : ℕ) → n ≤ j → j < n + k → NodeRead c image j)
      (nodes c k n (outlines_from image 0 n) (standing image (node_place image n) least))
  unfolding nodes
  nodes-give zero n least w =
      let e : n + 0 ≡ n = omega arith in
      rw e (reads least w (λ j low high. absurd (omega arith)))
  nodes-give (suc k) n least w =
      let e : n + 1 + k ≡ n + suc k = omega arith in
      let f : 0 + n ≡ n = omega arith in
      reads_then _ (one n least)
      λ l₁ w₁ here. rw (← e, ← (rw f at (outlines-more image 0 n)))
      (reads-show (λ _ others. rw e (either n k here others)) (nodes-give k (n + 1) l₁ w₁))

-- ── What the words of an accepted node are, kind by kind ──

module _ {c : Counts} {image : List ℕ} {n : ℕ} (r : NodeRead c image n) where
  pub atom-words : record_kind image (node_place image n) ≡ 0 → AtomWords c image n (node_place image n)
  atom-words e = (reads-shown (atom-node c (outlines_from image 0 n) image n (node_place image n) e r.least) r.read).1

  pub ident-words : record_kind image (node_place image n) ≡ 1 → IdentWords c image n (node_place image n)
  ident-words e = (reads-shown (ident-node c (outlines_from image 0 n) image n (node_place image n) e r.least) r.read).1

  pub bin-words : record_kind image (node_place image n) ≡ 2 → BinWords c image n (node_place image n)
  bin-words e = (reads-shown (bin-node c (outlines_from image 0 n) image n (node_place image n) e r.least) r.read).1

  pub unary-words : record_kind image (node_place image n) ≡ 3 → UnaryWords c image n (node_place image n)
  unary-words e = (reads-shown (unary-node c (outlines_from image 0 n) image n (node_place image n) e r.least) r.read).1

  pub let_words : record_kind image (node_place image n) ≡ 4 → LetWords c image n (node_place image n)
  let_words e = (reads-shown (let_node c (outlines_from image 0 n) image n (node_place image n) e r.least) r.read).1

  pub fn-words : record_kind image (node_place image n) ≡ 5 → FnWords c image n (node_place image n)
  fn-words e = (reads-shown (fn-node c (outlines_from image 0 n) image n (node_place image n) e r.least) r.read).1

  pub match-words : record_kind image (node_place image n) ≡ 6 → MatchWords c image n (node_place image n)
  match-words e = (reads-shown (match-node c (outlines_from image 0 n) image n (node_place image n) e r.least) r.read).1

  pub call-words : record_kind image (node_place image n) ≡ 7 → CallWords c image n (node_place image n)
  call-words e =
      let w = (reads-shown (call-node c (outlines_from image 0 n) image n (node_place image n) e r.least) r.read).1 in
      record {
        long = w.long;
        target = w.target;
        callable = ap callable (sym (outlines-known image n (word_at image (node_place image n + 2)) w.target.under)) ∙ w.callable;
        args = w.args;
      }

  pub field-words : record_kind image (node_place image n) ≡ 8 → FieldWords c image n (node_place image n)
  field-words e = (reads-shown (field-node c (outlines_from image 0 n) image n (node_place image n) e r.least) r.read).1

  pub cast-words : record_kind image (node_place image n) ≡ 9 → CastWords c image n (node_place image n)
  cast-words e = (reads-shown (cast-node c (outlines_from image 0 n) image n (node_place image n) e r.least) r.read).1

  pub import_words : record_kind image (node_place image n) ≡ 10 → ImportWords c image n (node_place image n)
  import_words e = (reads-shown (import_node c (outlines_from image 0 n) image n (node_place image n) e r.least) r.read).1

  pub extern-words : record_kind image (node_place image n) ≡ 11 → ExternWords c image n (node_place image n)
  extern-words e = (reads-shown (extern-node c (outlines_from image 0 n) image n (node_place image n) e r.least) r.read).1

  pub record_words : record_kind image (node_place image n) ≡ 12 → RecordWords c image n (node_place image n)
  record_words e = (reads-shown (record_node_lem c (outlines_from image 0 n) image n (node_place image n) e r.least) r.read).1

  pub array-words : record_kind image (node_place image n) ≡ 13 → ArrayWords c image n (node_place image n)
  array-words e = (reads-shown (array-node c (outlines_from image 0 n) image n (node_place image n) e r.least) r.read).1
