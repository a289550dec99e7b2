-- "any or all of this": inputs that pass refusals 1 to 6 extend themselves by no package and by no statement. So packages alone, and statements
-- alone, are instances of `Larger`. Assumes nothing.
use Rattle.std.specs.Prelude.{ℕ, ◌+◌, ◌≤◌, ◌≡◌, refl, List, [], ◌∷◌, ◌++◌, length, get_or, take, drop}
use Rattle.std.proofs.Common.{arith, add-zero, sym, ap, ◌∙◌, append_assoc, append-nil, take-append-drop, length-take-le, drop-cons, drop-drop}
use Rattle.std.proofs.Math.Option.{none}
use Rattle.std.proofs.lemmas.List.{drop-append-le}
use Rattle.library.specs.Package.{pool_of}
use Rattle.library.specs.Accepted.{library-fine}
use Rattle.ast.specs.Image.{node_count, type_count, root_count, slot_count, node_place}
use Rattle.image_laws.proofs.Accepted.{Accepted}
use Rattle.refusals.specs.Inputs.{Inputs, Buffers, texts_in}
use Rattle.refusals.specs.Refusals.{refusal_of}
use Rattle.rules.specs.Check.{check_of}
use Rattle.rules.specs.Promises.{Answered, AnsweredClean, Longer, root_words, node_records, type_records, package_words, MorePackages, MoreStatements, Kept, AddsNothing}
use Rattle.tworuns.proofs.Larger.{ends, larger, larger-without-statements}
use Rattle.accepts.proofs.Passed.{passed}
use Rattle.accepts.specs.LongerImage.{roots-end, nodes-end}
use Rattle.accepts.proofs.AcceptedInputs.{accepts}
use Rattle.accepts.proofs.Extended.{extends}

-- ── A library and an image, part by part ──

-- "pool length P, package count, P pool words, then the packages"
library-parts : (words : List ℕ) → 2 ≤ length words → words ≡ get_or words 0 0 ∷ get_or words 1 0 ∷ pool_of words ++ package_words words
library-parts words l =
    let p : ℕ = get_or words 0 0 in
    drop-cons words 0 0 (omega arith)
    ∙ ap (λ (r : List ℕ). get_or words 0 0 ∷ r) (drop-cons words 1 0 (omega arith)
    ∙ ap (λ (r : List ℕ). get_or words 1 0 ∷ r) (sym (take-append-drop p (drop 2 words)) ∙ ap (λ (r : List ℕ). take p (drop 2 words) ++ r) (drop-drop p 2 words)))

module _ {text image : List ℕ} (a : Accepted text image) where
  abbrev types : ℕ
  types = node_place image (node_count image)

  -- "the roots; node records; type records; nothing after"
  after-counts : drop 4 image ≡ root_words image ++ node_records image ++ type_records image
  after-counts =
      let long : length (take types image) ≡ types = length-take-le types image (nodes-end a) in
      sym (take-append-drop (root_count image) (drop 4 image))
      ∙ ap (λ (r : List ℕ). root_words image ++ r)
      (drop-drop (root_count image) 4 image
      ∙ (ap (drop (4 + root_count image)) (sym (take-append-drop types image)) ∙ drop-append-le (4 + root_count image) (take types image) (drop types image) (omega (arith, roots-end a))))
      ∙ sym (append_assoc (root_words image) (node_records image) (type_records image))

  -- "counts N nodes, T type expressions, R roots, V slots", and what is after them
  image-parts : image ≡ node_count image ∷ type_count image ∷ root_count image ∷ slot_count image ∷ root_words image ++ node_records image ++ type_records image
  image-parts =
      let e = roots-end a in
      let f = nodes-end a in
      drop-cons image 0 0 (omega arith)
      ∙ ap (λ (r : List ℕ). node_count image ∷ r) (drop-cons image 1 0 (omega arith)
      ∙ ap (λ (r : List ℕ). type_count image ∷ r) (drop-cons image 2 0 (omega arith)
      ∙ ap (λ (r : List ℕ). root_count image ∷ r) (drop-cons image 3 0 (omega arith) ∙ ap (λ (r : List ℕ). slot_count image ∷ r) after-counts)))

-- ── Nothing added ──

-- of a library that stays as it was: no packages more
pub same-library : (i i' : Inputs) (b : Buffers) → refusal_of i b ≡ none → i'.library_text ≡ i.library_text → i'.library ≡ i.library → MorePackages i i'
same-library i i' b e t l =
    let fine = library-fine (texts_in i) i.library (passed i b e).library in
    record {
      text = [];
      pool = [];
      packages = [];
      count = 0;
      longer_text = t ∙ sym (append-nil i.library_text);
      longer =
          l
          ∙ rw (add-zero (get_or i.library 0 0), add-zero (get_or i.library 1 0), append-nil (pool_of i.library), append-nil (package_words i.library))
          (library-parts i.library (omega (arith, fine.pool_within)));
    }

-- of a script that stays as it was: no statements more
pub record SameScript (i i' : Inputs) : Type 0 where
  pub more : MoreStatements i i'
  pub no_roots : more.roots ≡ []

pub same-script : (i i' : Inputs) (b : Buffers) → refusal_of i b ≡ none → i'.script ≡ i.script → i'.image ≡ i.image → SameScript i i'
same-script i i' b e t l = record {
  more = record {
    text = [];
    more_nodes = 0;
    more_types = 0;
    more_slots = 0;
    roots = [];
    nodes = [];
    types = [];
    longer_text = t ∙ sym (append-nil i.script);
    longer =
        l
        ∙ rw (
          add-zero (node_count i.image),
          add-zero (type_count i.image),
          add-zero (root_count i.image),
          add-zero (slot_count i.image),
          append-nil (root_words i.image),
          append-nil (node_records i.image),
          append-nil (type_records i.image),
        )
        (image-parts (passed i b e).image);
    whole = ap node_records l ∙ sym (append-nil (node_records i.image));
  };
  no_roots = refl;
}

pub same-buffers : (b : Buffers) → Longer b b
same-buffers b = record {
  slots = omega arith;
  functions = omega arith;
  types = omega arith;
  diagnostics = omega arith;
  messages = omega arith;
  scratch = omega arith;
}

pub nothing-added : (i : Inputs) (b : Buffers) → refusal_of i b ≡ none → AddsNothing i b
nothing-added i b e =
    let s = same-script i i b e refl refl in
    record { packages = same-library i i b e refl refl; statements = s.more; no_roots = s.no_roots; buffers = same-buffers b }

-- ── Each addition alone ──

pub packages-alone : (i i' : Inputs) (b b' : Buffers) → MorePackages i i' → i'.script ≡ i.script → i'.image ≡ i.image → Longer b b'
    → AnsweredClean (check_of i b) → Answered (check_of i' b') → Kept i i' b' (check_of i b) (check_of i' b') × ((check_of i' b').diagnostics ≡ 0)
packages-alone i i' b b' m t l long clean answered =
    let s = same-script i i' b (ends i b clean.answered).passed t l in (
      larger accepts extends i i' b b' m s.more long clean answered,
      larger-without-statements accepts extends i i' b b' m s.more s.no_roots long clean answered,
    )

pub statements-alone : (i i' : Inputs) (b b' : Buffers) → MoreStatements i i' → i'.library_text ≡ i.library_text → i'.library ≡ i.library → Longer b b'
    → AnsweredClean (check_of i b) → Answered (check_of i' b') → Kept i i' b' (check_of i b) (check_of i' b')
statements-alone i i' b b' m t l long clean answered =
    larger accepts extends i i' b b' (same-library i i' b (ends i b clean.answered).passed t l) m long clean answered
