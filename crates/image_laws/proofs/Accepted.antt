-- What an accepted image has: its limits, its roots, every node and every type at its place, nothing after; and that its outlines are
-- those that stand there. Assumes nothing.
use Rattle.std.specs.Prelude.{ℕ, ◌≤◌, ◌<◌, Bool, true, false, refl, List, length, leb, ltb}
use Rattle.std.proofs.Math.Path.{◌≡◌}
use Rattle.std.proofs.Common.{sym, subst, arith, zero-add, leb-true, ltb-false}
use Rattle.std.proofs.Math.Option.{none, some}
use Rattle.std.proofs.Math.Decide.{dec_lt}
use Rattle.tok.specs.Text.{Texts}
use Rattle.tok.specs.Step.{Result, ok, refused}
use Rattle.tok.specs.Reader.{Cursor, most_words, most_bytes, ends, start, fault_of, unless_long}
use Rattle.reader.specs.Reading.{standing, gave}
use Rattle.reader.specs.Reads.{Within, Reads, reads, faults, reads_then, reads_to, reads_word}
use Rattle.reader.specs.Laws.{ends_left, ends_here}
use Rattle.ast.specs.Image.{node_count, type_count, root_count, slot_count, record_after, node_place, type_place}
use Rattle.ast.specs.Outline.{Counts}
use Rattle.ast.specs.ImageFault.{Outlines, image, image_read, image_fault}
use Rattle.image_laws.specs.OutlineAt.{outlines_from, outlines_in}
use Rattle.image_laws.specs.Many.{Each}
use Rattle.image_laws.specs.RecordWords.{Under}
use Rattle.image_laws.proofs.RecordLaws.{parts-give}
use Rattle.image_laws.proofs.NodesRead.{NodeRead, nodes-give}
use Rattle.image_laws.proofs.TypeLaws.{TypeRead, types-give}

-- the script text and the counts of an image
abbrev pub counts_in : (text image : List ℕ) → Counts
counts_in text words = record { text = text; nodes = node_count words; types = type_count words; slots = slot_count words }

pub record Accepted (text image : List ℕ) : Type 0 where
  -- "Limits: N 2,048; T 512; R 512; V 4,096; image .. 8,192 words ..; each text 65,536 bytes"
  pub most-nodes : node_count image ≤ 2048
  pub most-types : type_count image ≤ 512
  pub most-roots : root_count image ≤ 512
  pub most-slots : slot_count image ≤ 4096
  pub most-words : length image ≤ most_words
  pub bytes_within : length text ≤ most_bytes
  -- "the roots": nodes below N
  pub roots : Each (Under (node_count image) image) 1 4 (root_count image)
  -- "node records; type records; nothing after"
  pub node : (n : ℕ) → n < node_count image → NodeRead (counts_in text image) image n
  pub type : (t : ℕ) → t < type_count image → TypeRead (counts_in text image) image t
  pub whole : type_place image (type_count image) ≡ length image

-- "nothing after"
ends-give : (words : List ℕ) (at least : ℕ) → Within words at → Reads words tt at (length words ≤ at) (ends (standing words at least))
unfolding gave
ends-give words at least w = elim (dec_lt at (length words)) [
  | yes h ↦ subst (Reads words tt at (length words ≤ at)) (sym (ends_left words at least h)) (faults at)
  | no h ↦ let l : length words ≤ at = omega arith in subst (Reads words tt at (length words ≤ at)) (sym (ends_here words at least l)) (reads least w l)
]

-- the four counts, the roots, the nodes, the types, the end
image-gives : (t : Texts) (words : List ℕ) → length t.script ≤ most_bytes
    → Reads words (outlines_in words) (length words) (Accepted t.script words) (image t (standing words 0 4))
unfolding image outlines_in outlines_from node_place type_place record_after
image-gives t words short =
    let c : Counts = counts_in t.script words in
    reads_then _ (reads_word (λ n. leb n 2048) _ words 0 4)
    λ l₁ w₁ n. reads_then _ (reads_word (λ n. leb n 512) _ words 1 l₁)
    λ l₂ w₂ y. reads_then _ (reads_word (λ n. leb n 512) _ words 2 l₂)
    λ l₃ w₃ r. reads_then _ (reads_word (λ n. leb n 4096) _ words 3 l₃)
    λ l₄ w₄ v. reads_then _ (parts-give (node_count words) words (root_count words) 4 l₄ w₄)
    λ l₅ w₅ rs. reads_then _ (rw zero-add at (nodes-give c words (node_count words) 0 l₅ w₅))
    λ l₆ w₆ ns. reads_then _ (rw zero-add at (types-give c words (type_count words) 0 l₆ w₆))
    λ l₇ w₇ ts. reads_then _ (ends-give words (type_place words (type_count words)) l₇ w₇)
    λ l₈ w₈ e.
    (let whole : type_place words (type_count words) ≡ length words = omega (arith, w₈.in_list) in
    reads_to (length words) (λ _. whole)
    (reads l₈ w₈
    (record {
      most-nodes = leb-true (node_count words) 2048 n;
      most-types = leb-true (type_count words) 512 y;
      most-roots = leb-true (root_count words) 512 r;
      most-slots = leb-true (slot_count words) 4096 v;
      most-words = omega (arith, w₈.in_most);
      bytes_within = short;
      roots = rs;
      node = λ j h. ns j (omega arith) h;
      type = λ j h. ts j (omega arith) h;
      whole = whole;
    })))

-- "a text over its limit comes first, with place 0"
long_or_not : (t : Texts) (words : List ℕ) (b : Bool) → ltb most_bytes (length t.script) ≡ b
    → Reads words (outlines_in words) (length words) (Accepted t.script words) (unless_long b (image t (start 4 words)))
unfolding unless_long
long_or_not t words true e = faults 0
long_or_not t words false e = image-gives t words (ltb-false most_bytes (length t.script) e)

pub read-gives : (t : Texts) (words : List ℕ) → Reads words (outlines_in words) (length words) (Accepted t.script words) (image_read t words)
unfolding image_read
read-gives t words = long_or_not t words _ refl

-- ── For an image that is not refused ──

module _ (t : Texts) (words : List ℕ) where
  read_out : {r : Result Cursor ℕ Outlines} → Reads words (outlines_in words) (length words) (Accepted t.script words) r → fault_of r ≡ none → Accepted t.script words
  unfolding fault_of
  read_out (reads least w a) e = a
  read_out (faults place) e = let z : ◌≡◌ {A = ℕ} 0 1 = cc in absurd (omega arith)

  -- what it has
  pub accepted : image_fault t words ≡ none → Accepted t.script words
  unfolding image_fault
  accepted e = read_out (read-gives t words) e

  answer-out : {r : Result Cursor ℕ Outlines} {o : Outlines} {c : Cursor} → Reads words (outlines_in words) (length words) (Accepted t.script words) r → r ≡ ok o c → o ≡ outlines_in words
  answer-out (reads least w a) e = cc
  answer-out (faults place) e = cc

  -- its outlines are those that stand there
  pub outlines-read : {o : Outlines} {c : Cursor} → image_read t words ≡ ok o c → o ≡ outlines_in words
  outlines-read e = answer-out (read-gives t words) e

  accept_out : {r : Result Cursor ℕ Outlines} → Reads words (outlines_in words) (length words) (Accepted t.script words) r → fault_of r ≡ none
      → (least : ℕ) × (r ≡ ok (outlines_in words) (standing words (length words) least))
  unfolding fault_of
  accept_out (reads least w a) e = (least, refl)
  accept_out (faults place) e = let z : ◌≡◌ {A = ℕ} 0 1 = cc in absurd (omega arith)

  -- it is read to its end
  pub accepted-read : image_fault t words ≡ none → (least : ℕ) × (image_read t words ≡ ok (outlines_in words) (standing words (length words) least))
  unfolding image_fault
  accepted-read e = accept_out (read-gives t words) e

-- an image that is refused is read to the place that is told
refuse-out : (r : Result Cursor ℕ Outlines) (p : ℕ) → fault_of r ≡ some p → r ≡ refused p
unfolding fault_of
refuse-out (ok o c) p e = cc
refuse-out (refused q) p e = cc

pub refused-read : (t : Texts) (words : List ℕ) (p : ℕ) → image_fault t words ≡ some p → image_read t words ≡ refused p
unfolding image_fault
refused-read t words p e = refuse-out (image_read t words) p e
