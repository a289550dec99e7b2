-- The type records of an image: what their words are, and where reading accepts them, each stands at its place. Assumes nothing.
use Prim.Native.Nat.{ℕ, zero, suc, ◌+◌, ◌*◌, ◌-◌, ◌/◌, ◌%◌, ◌≤◌, ◌<◌}
use Rattle.std.specs.Prelude.{true, ◌≡◌, refl, List, leb}
use Rattle.std.proofs.lemmas.Bool.{false≢true}
use Rattle.std.proofs.Math.Bool.{and-eq-true_iff}
use Rattle.std.proofs.Common.{sym, subst}
use Rattle.std.proofs.Math.Path.{ap}
use native.Mathlib.Omega.{arith}
use Rattle.std.proofs.Math.Decide.{ℕ_discrete}
use borrow.Author.Tests.{leb-true, eqb-true}
use Rattle.utf8.specs.Rfc3629.{range}
use Rattle.tok.specs.Step.{ok}
use Rattle.reader.specs.Reading.{standing}
use Rattle.reader.specs.Reads.{Within, Reads, reads, reads_then, reads_to, reads-show, reads_self, reads-shown, reads_word, reads-next}
use Rattle.ast.specs.Image.{word_at, type_place, record_kind, record_length}
use Rattle.ast.specs.Outline.{Counts}
use Rattle.ast.specs.TypeRecords.{TypeRule, type_atom, type_foreign, type_inner, type_field, type_record, type_kinds, type_kind, good_type_head, type_expression, type_expressions}
use Rattle.image_laws.specs.RecordWords.{TypeAtomWords, TypeForeignWords, TypeInnerWords, TypeRecordWords}
use Rattle.image_laws.proofs.RecordLaws.{named, under, pairs-give}
use Rattle.image_laws.proofs.Places.{type-next}

-- what is so of every type record: it has a kind of document 01's
pub record TypeWords (image : List ℕ) (at : ℕ) : Type 0 where
  pub kind : record_kind image at < 5
  pub long : 2 ≤ record_length image at

-- Type t, whose record stands at word `at`.
module _ (c : Counts) (image : List ℕ) (t at : ℕ) where
  -- what reading the record gives: up to its end
  abbrev pub TypeGives : Type 0 → Type 0
  TypeGives Shown = (least : ℕ) → Reads image tt (at + record_length image at) Shown (type_expression c t (standing image at least))

  -- the head, then the kind's own rule
  type-by : {Shown : Type 0} (rule : TypeRule) → (type_kind (word_at image at)).rest ≡ rule
      → (good_type_head (word_at image at) ≡ true → (least : ℕ) → Reads image tt (at + record_length image at) Shown (rule c t (record_length image at - 1) (standing image (at + 1) least)))
      → TypeGives Shown
  unfolding type_expression
  type-by rule p rest least = reads_then _ (reads_word good_type_head _ image at least) λ l w g. rw p (rest g l)

  pub type-atom : record_kind image at ≡ 0 → TypeGives (TypeAtomWords c image t at)
  unfolding good_type_head type_kind type_kinds type_atom
  type-atom e =
      type-by type_atom (rw e)
      (λ g least. let long : record_length image at ≡ 3 = eqb-true _ _ (rw (e, good_type_head) at g) in
      rw long
      (reads_then _ (named c.text image at 1 least)
      λ l₁ w₁ n. reads_then _ (reads-next (range 1 5) _ image at 2 l₁)
      λ l₂ w₂ r. reads l₂ w₂
      (record {
        long = long;
        token = n;
        least = leb-true 1 (word_at image (at + 2)) ((and-eq-true_iff (leb 1 (word_at image (at + 2))) _).0 r).0;
        most = leb-true (word_at image (at + 2)) 5 ((and-eq-true_iff (leb 1 (word_at image (at + 2))) _).0 r).1;
      })))

  pub type-foreign : record_kind image at ≡ 1 → TypeGives (TypeForeignWords c image t at)
  unfolding good_type_head type_kind type_kinds type_foreign
  type-foreign e =
      type-by type_foreign (rw e)
      (λ g least. let long : record_length image at ≡ 2 = eqb-true _ _ (rw (e, good_type_head) at g) in
      rw long (reads_then _ (named c.text image at 1 least) λ l₁ w₁ n. reads l₁ w₁ (record { long = long; token = n })))

  -- Option and Array alike
  inner : (type_kind (word_at image at)).rest ≡ type_inner → (good_type_head (word_at image at) ≡ true → record_length image at ≡ 2) → TypeGives (TypeInnerWords c image t at)
  unfolding type_inner
  inner p two =
      type-by type_inner p
      (λ g least. rw (two g) (reads_then _ (under t image at 1 least) λ l₁ w₁ i. reads l₁ w₁ (record { long = two g; inner = i })))

  pub type-option : record_kind image at ≡ 2 → TypeGives (TypeInnerWords c image t at)
  unfolding good_type_head type_kind type_kinds
  type-option e = inner (rw e) (λ g. eqb-true _ _ (rw (e, good_type_head) at g))

  pub type-array : record_kind image at ≡ 3 → TypeGives (TypeInnerWords c image t at)
  unfolding good_type_head type_kind type_kinds
  type-array e = inner (rw e) (λ g. eqb-true _ _ (rw (e, good_type_head) at g))

  pub type_record_lem : record_kind image at ≡ 4 → TypeGives (TypeRecordWords c image t at)
  unfolding good_type_head type_kind type_kinds type_record type_field
  type_record_lem e =
      type-by type_record (rw e)
      (λ g least. let both = (and-eq-true_iff (leb 2 (record_length image at)) _).0 (rw (e, good_type_head) at g) in
      let low : 2 ≤ record_length image at = leb-true _ _ both.0 in
      let even : record_length image at % 2 ≡ 0 = eqb-true _ _ both.1 in
      let k : ℕ = (record_length image at - 2) / 2 in
      let same : (record_length image at - 1 - 1) / 2 ≡ (record_length image at - 2) / 2 = ap (λ m. m / 2) (omega arith) in
      let whole : 2 + 2 * ((record_length image at - 2) / 2) ≡ record_length image at = omega arith in
      reads_then _ (named c.text image at 1 least)
      λ l₁ w₁ n. rw same
      (reads_then _ (pairs-give c.text t image k (at + 2) l₁ w₁)
      λ l₂ w₂ fs. reads_to (at + record_length image at) (λ _. omega arith) (reads l₂ w₂ (record { long = whole; token = n; fields = fs }))))

  -- of any kind: one that document 01 does not name is refused
  by_kind : (k : ℕ) → record_kind image at ≡ k → TypeGives (TypeWords image at)
  unfolding good_type_head type_kind type_kinds type_expression
  by_kind zero e least = reads-show (λ _ w. record { kind = omega arith; long = let l = w.long in omega arith }) (type-atom e least)
  by_kind (suc zero) e least = reads-show (λ _ w. record { kind = omega arith; long = let l = w.long in omega arith }) (type-foreign e least)
  by_kind (suc (suc zero)) e least = reads-show (λ _ w. record { kind = omega arith; long = let l = w.long in omega arith }) (type-option e least)
  by_kind (suc (suc (suc zero))) e least = reads-show (λ _ w. record { kind = omega arith; long = let l = w.long in omega arith }) (type-array e least)
  by_kind (suc (suc (suc (suc zero)))) e least = reads-show (λ _ w. record { kind = omega arith; long = let l = w.long in omega arith }) (type_record_lem e least)
  by_kind (suc (suc (suc (suc (suc k))))) e least =
      reads_then _ (reads_word good_type_head _ image at least) λ l₁ w₁ g. absurd (false≢true (rw (e, good_type_head) at g))

  pub any_type : TypeGives (TypeWords image at)
  any_type = by_kind (record_kind image at) refl

-- ── One after the other ──

-- type t was read: its record is accepted at its place
pub record TypeRead (c : Counts) (image : List ℕ) (t : ℕ) : Type 0 where
  pub least : ℕ
  pub after : ℕ
  pub read : type_expression c t (standing image (type_place image t) least) ≡ ok tt (standing image (type_place image t + record_length image (type_place image t)) after)
  pub words : TypeWords image (type_place image t)
  pub within : Within image (type_place image t + record_length image (type_place image t))

module _ (c : Counts) (image : List ℕ) where
  one : (t least : ℕ) → Reads image tt (type_place image (t + 1)) (TypeRead c image t) (type_expression c t (standing image (type_place image t) least))
  one t least =
      rw (← type-next image t)
      (reads-show (λ w s. record { least = least; after = s.0; read = s.1; words = s.2; within = w }) (reads_self (any_type c image t (type_place image t) least)))

  either : (t k : ℕ) → TypeRead c image t → ((j : ℕ) → t + 1 ≤ j → j < t + 1 + k → TypeRead c image j) → (j : ℕ) → t ≤ j → j < t + suc k → TypeRead c image j
  either t k here others j low high = elim (ℕ_discrete j t) [
    | yes e ↦ subst (TypeRead c image) (sym e) here
    | no d ↦ others j (omega arith) (omega arith)
  ]

  pub types-give : (k t least : ℕ) → Within image (type_place image t)
      → Reads image tt (type_place image (t + k)) ((j : ℕ) → t ≤ j → j < t + k → TypeRead c image j) (type_expressions c k t (standing image (type_place image t) least))
  unfolding type_expressions
  types-give zero t least w =
      let e : t + 0 ≡ t = omega arith in
      rw e (reads least w (λ j low high. absurd (omega arith)))
  types-give (suc k) t least w =
      let e : t + 1 + k ≡ t + suc k = omega arith in
      reads_then _ (one t least)
      λ l₁ w₁ here. rw (← e) (reads-show (λ _ others. rw e (either t k here others)) (types-give k (t + 1) l₁ w₁))

-- ── What the words of an accepted type are, kind by kind ──

module _ {c : Counts} {image : List ℕ} {t : ℕ} (r : TypeRead c image t) where
  pub type-atom-words : record_kind image (type_place image t) ≡ 0 → TypeAtomWords c image t (type_place image t)
  type-atom-words e = reads-shown (type-atom c image t (type_place image t) e r.least) r.read

  pub type-foreign-words : record_kind image (type_place image t) ≡ 1 → TypeForeignWords c image t (type_place image t)
  type-foreign-words e = reads-shown (type-foreign c image t (type_place image t) e r.least) r.read

  pub type-option-words : record_kind image (type_place image t) ≡ 2 → TypeInnerWords c image t (type_place image t)
  type-option-words e = reads-shown (type-option c image t (type_place image t) e r.least) r.read

  pub type-array-words : record_kind image (type_place image t) ≡ 3 → TypeInnerWords c image t (type_place image t)
  type-array-words e = reads-shown (type-array c image t (type_place image t) e r.least) r.read

  pub type_record_words : record_kind image (type_place image t) ≡ 4 → TypeRecordWords c image t (type_place image t)
  type_record_words e = reads-shown (type_record_lem c image t (type_place image t) e r.least) r.read
