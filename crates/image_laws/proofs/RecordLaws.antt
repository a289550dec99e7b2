-- Each kind's rule, by place: what it answers where it accepts, and that its words are as `RecordWords` says. Assumes nothing.
use Rattle.std.specs.Prelude.{ℕ, zero, suc, ◌+◌, ◌*◌, ◌-◌, ◌≡◌, refl, List, [], ◌∷◌, leb}
use Rattle.std.proofs.Math.Bool.{and-eq-true_iff}
use Rattle.std.proofs.Common.{sym, ap, ◌∙◌, arith}
use borrow.Author.Tests.{ltb-true, leb-true}
use Rattle.utf8.specs.Rfc3629.{range}
use Rattle.tok.specs.Step.{◌>>=◌}
use Rattle.tok.specs.Reader.{Read, word, below, many}
use Rattle.tok.specs.Name.{good_name, in_script}
use Rattle.reader.specs.Reading.{standing}
use Rattle.reader.specs.Reads.{Within, Reads, reads, reads_then, reads_to, reads-show, reads-as, reads-next, reads_word}
use Rattle.ast.specs.Image.{word_at, record_kind, record_length}
use Rattle.ast.specs.Outline.{Outline, Counts, Here, outline}
use Rattle.ast.specs.NodeRecords.{atom, ident, bin, unary, binding, field, cast}
use Rattle.image_laws.specs.OutlineAt.{parts_from, bin_parts, unary_parts, let_parts, field_parts, cast_parts}
use Rattle.image_laws.specs.Many.{Each, answers_from, gives-many}
use Rattle.image_laws.specs.RecordWords.{Named, Under, Pair, AtomWords, IdentWords, BinWords, UnaryWords, LetWords, FieldWords, CastWords}

-- ── One word ──

-- of a name, and of a number below another
pub named-at : (text words : List ℕ) (at least : ℕ)
    → Reads words (word_at words at) (at + 1) (Named text words at) (word (good_name in_script text) (standing words at least))
named-at text words at least = reads-show (λ _ e. record { good = e }) (reads_word _ _ words at least)

pub under_at : (n : ℕ) (words : List ℕ) (at least : ℕ)
    → Reads words (word_at words at) (at + 1) (Under n words at) (below n (standing words at least))
under_at n words at least = reads-show (λ _ e. record { under = ltb-true (word_at words at) n e }) (reads_word _ _ words at least)

-- the same, with the place counted from a base
pub named : (text words : List ℕ) (base k least : ℕ)
    → Reads words (word_at words (base + k)) (base + suc k) (Named text words (base + k)) (word (good_name in_script text) (standing words (base + k) least))
named text words base k least = reads-show (λ _ e. record { good = e }) (reads-next _ _ words base k least)

pub under : (n : ℕ) (words : List ℕ) (base k least : ℕ)
    → Reads words (word_at words (base + k)) (base + suc k) (Under n words (base + k)) (below n (standing words (base + k) least))
under n words base k least = reads-show (λ _ e. record { under = ltb-true (word_at words (base + k)) n e }) (reads-next _ _ words base k least)

-- ── Lists ──

answers-parts : (words : List ℕ) (step d k at : ℕ) → answers_from (λ p. word_at words (p + d)) step at k ≡ parts_from words step (at + d) k
unfolding answers_from parts_from
answers-parts words step d zero at = refl
answers-parts words step d (suc k) at =
    let e : at + d + step ≡ at + step + d = omega arith in
    ap (λ l. word_at words (at + d) ∷ l) (answers-parts words step d k (at + step) ∙ ap (λ p. parts_from words step p k) (sym e))

answers-words : (words : List ℕ) (step k at : ℕ) → answers_from (word_at words) step at k ≡ parts_from words step at k
unfolding answers_from parts_from
answers-words words step zero at = refl
answers-words words step (suc k) at = ap (λ l. word_at words at ∷ l) (answers-words words step k (at + step))

-- k numbers below n
pub parts-give : (n : ℕ) (words : List ℕ) (k at least : ℕ) → Within words at
    → Reads words (parts_from words 1 at k) (at + k) (Each (Under n words) 1 at k) (many k (below n) (standing words at least))
parts-give n words k at least w =
    reads_to (at + k) (λ _. omega arith) (reads-as (answers-words words 1 k at) (gives-many words (below n) (word_at words) 1 (Under n words) (under_at n words) k at least w))

-- k names
pub names-give : (text words : List ℕ) (k at least : ℕ) → Within words at
    → Reads words (parts_from words 1 at k) (at + k) (Each (Named text words) 1 at k) (many k (word (good_name in_script text)) (standing words at least))
names-give text words k at least w =
    reads_to (at + k) (λ _. omega arith)
    (reads-as (answers-words words 1 k at) (gives-many words (word (good_name in_script text)) (word_at words) 1 (Named text words) (named-at text words) k at least w))

-- k pairs of a name and a number below n
abbrev pub pair_rule : (text : List ℕ) (n : ℕ) → Read ℕ
pair_rule text n = ◌>>=◌ (word (good_name in_script text)) (λ _. below n)

pair-at : (text : List ℕ) (n : ℕ) (words : List ℕ) (at least : ℕ)
    → Reads words (word_at words (at + 1)) (at + 2) (Pair text n words at) (pair_rule text n (standing words at least))
pair-at text n words at least =
    reads_then _ (named-at text words at least) λ l w p. reads-show (λ _ q. record { name = p; value = q }) (under n words at 1 l)

pub pairs-give : (text : List ℕ) (n : ℕ) (words : List ℕ) (k at least : ℕ) → Within words at
    → Reads words (parts_from words 2 (at + 1) k) (at + 2 * k) (Each (Pair text n words) 2 at k) (many k (pair_rule text n) (standing words at least))
pairs-give text n words k at least w =
    reads-as (answers-parts words 2 1 k at) (gives-many words (pair_rule text n) (λ p. word_at words (p + 1)) 2 (Pair text n words) (pair-at text n words) k at least w)

-- ── The kinds ──

-- Node n, whose record stands at word `at`; its words after the slot are read from `at + 2` on.
module _ (c : Counts) (before : List Outline) (image : List ℕ) (n at : ℕ) where
  abbrev pub here_at : Here
  here_at =
      record { counts = c; before = before; number = n; kind = record_kind image at; slot = word_at image (at + 1); left = record_length image at - 2 }

  -- what a kind's rule gives: the outline with these parts, up to the end of the record
  abbrev pub Rest : (Here → Read Outline) → (arguments : ℕ) (parts : List ℕ) → Type 0 → Type 0
  Rest rule arguments parts Shown =
      (least : ℕ) → Reads image (outline here_at arguments parts) (at + record_length image at) Shown (rule here_at (standing image (at + 2) least))

  pub atom-gives : record_length image at ≡ 4 → Rest atom 0 [] (AtomWords c image n at)
  unfolding atom
  atom-gives long least =
      rw long
      (reads_then _ (named c.text image at 2 least)
      λ l₁ w₁ t. reads_then _ (reads-next (range 2 5) _ image at 3 l₁)
      λ l₂ w₂ e. reads l₂ w₂
      (record {
        long = long;
        token = t;
        least = leb-true 2 (word_at image (at + 3)) ((and-eq-true_iff (leb 2 (word_at image (at + 3))) _).0 e).0;
        most = leb-true (word_at image (at + 3)) 5 ((and-eq-true_iff (leb 2 (word_at image (at + 3))) _).0 e).1;
      }))

  pub ident-gives : record_length image at ≡ 3 → Rest ident 0 [] (IdentWords c image n at)
  unfolding ident
  ident-gives long least = rw long (reads_then _ (named c.text image at 2 least) λ l₁ w₁ t. reads l₁ w₁ (record { long = long; name = t }))

  pub bin_gives : record_length image at ≡ 6 → Rest bin 0 (bin_parts image at) (BinWords c image n at)
  unfolding bin
  bin_gives long least =
      rw long
      (reads_then _ (named c.text image at 2 least)
      λ l₁ w₁ t. reads_then _ (under 9 image at 3 l₁)
      λ l₂ w₂ o. reads_then _ (under n image at 4 l₂)
      λ l₃ w₃ l. reads_then _ (under n image at 5 l₃)
      λ l₄ w₄ r. reads l₄ w₄ (record { long = long; token = t; operator = o; left = l; right = r }))

  pub unary-gives : record_length image at ≡ 5 → Rest unary 0 (unary_parts image at) (UnaryWords c image n at)
  unfolding unary
  unary-gives long least =
      rw long
      (reads_then _ (named c.text image at 2 least)
      λ l₁ w₁ t. reads_then _ (under 9 image at 3 l₁)
      λ l₂ w₂ o. reads_then _ (under n image at 4 l₂)
      λ l₃ w₃ r. reads l₃ w₃ (record { long = long; token = t; operator = o; right = r }))

  pub let_gives : record_length image at ≡ 4 → Rest binding 0 (let_parts image at) (LetWords c image n at)
  unfolding binding
  let_gives long least =
      rw long
      (reads_then _ (named c.text image at 2 least)
      λ l₁ w₁ t. reads_then _ (under n image at 3 l₁)
      λ l₂ w₂ r. reads l₂ w₂ (record { long = long; name = t; right = r }))

  pub field-gives : record_length image at ≡ 4 → Rest field 0 (field_parts image at) (FieldWords c image n at)
  unfolding field
  field-gives long least =
      rw long
      (reads_then _ (under n image at 2 least)
      λ l₁ w₁ t. reads_then _ (named c.text image at 3 l₁)
      λ l₂ w₂ m. reads l₂ w₂ (record { long = long; target = t; name = m }))

  pub cast-gives : record_length image at ≡ 5 → Rest cast 0 (cast_parts image at) (CastWords c image n at)
  unfolding cast
  cast-gives long least =
      rw long
      (reads_then _ (named c.text image at 2 least)
      λ l₁ w₁ t. reads_then _ (under n image at 3 l₁)
      λ l₂ w₂ l. reads_then _ (under c.types image at 4 l₂)
      λ l₃ w₃ y. reads l₃ w₃ (record { long = long; token = t; left = l; type = y }))
