-- A type expression by the words of its record, which begins at `at` with the word h, of kind k: one law for each kind. Assumes nothing.
use Rattle.std.specs.Prelude.{ℕ, zero, suc, ◌+◌, ◌*◌, ◌-◌, ◌/◌, ◌≤◌, ◌<◌, ◌≡◌, refl, ◌⊎◌, List, get_or}
use Rattle.std.proofs.Common.{sym, ap, ◌∙◌, arith, inl, inr}
use Rattle.std.proofs.Math.Decide.{ℕ_discrete}
use Rattle.ast.specs.declared.ExprKind.{ExprKind}
use Rattle.ast.specs.declared.ExprKind.TheVariants as expr
use Rattle.ast.specs.Kinds.{kind_of_expr}
use Rattle.ast.specs.KindLaws.{expr-number}
use Rattle.tok.specs.Word.{kind_of, payload_of}
use Rattle.ptype.proofs.UnfoldLaws.{one_less}
use Rattle.ast.specs.Image.{type_place, record_kind, record_length}
use Rattle.ast.specs.TypeExpr.{type_of, AtomType, ForeignType, OptionType, ArrayType, RecordType, type_fields_from}
use Rattle.ast.specs.TypeExpr.{read_atom_type, read_foreign_type, read_option_type, read_array_type, read_record_type}
use Rattle.image_laws.specs.Many.{Each}
use Rattle.image_laws.specs.RecordWords.{Pair, TypeAtomWords, TypeInnerWords, TypeRecordWords}
use Rattle.image_laws.proofs.TypeLaws.{type-atom-words, type-option-words, type-array-words, type_record_words}
use Rattle.image_laws.proofs.Accepted.{counts_in}
use Rattle.trees.specs.SameWords.{each_first, each-rest}
use Rattle.trees.proofs.TypeTrees.{tree-type-atom, tree-type-foreign, tree-type-option, tree-type-array, tree-type_record}
use Rattle.places.specs.Readable.{type-there, type-read, type-kind}
use Rattle.type_expr.specs.Ready.{TypeReady, PartReady, FieldsReady}

-- "Type records: 0 Atom .., 1 Foreign .., 2 Option, 3 Array .., 4 Record"
only-array : (k : ℕ) → k < 5 → (k ≡ 0 → ⊥) → (k ≡ 1 → ⊥) → (k ≡ 4 → ⊥) → (k ≡ 2 → ⊥) → k ≡ 3
only-array zero l a f c o = absurd (a refl)
only-array (suc zero) l a f c o = absurd (f refl)
only-array (suc (suc zero)) l a f c o = absurd (o refl)
only-array (suc (suc (suc zero))) l a f c o = refl
only-array (suc (suc (suc (suc zero)))) l a f c o = absurd (c refl)
only-array (suc (suc (suc (suc (suc k))))) l a f c o = absurd (omega arith)

module _ {image places : List ℕ} {t at : ℕ} (r : TypeReady image places t) (e : at ≡ get_or places (2048 + t) 0) where
  there : at ≡ type_place image t
  there = type-there r.readable r.below e

  -- its words stand in the image
  pub words-there : at + 2 ≤ 8192
  words-there =
      let w = (type-read r.readable r.below e).words.long in
      let m = (type-read r.readable r.below e).within.in_most in
      rw there (omega arith)

  module _ {h k : ℕ} (eh : h ≡ get_or image at 0) (ek : k ≡ kind_of h) where
    kind : (j : ℕ) → k ≡ j → record_kind image (type_place image t) ≡ j
    kind j q = type-kind r.readable r.below e j eh ek q

    pub type-atom : k ≡ 0 → type_of image t ≡ AtomType (get_or image (at + 1) 0) (get_or image (at + 2) 0)
    type-atom q = tree-type-atom r.readable.accepted t r.below (kind 0 q) ∙ ap (read_atom_type (type_of image) image) (sym there)

    pub type-foreign : k ≡ 1 → type_of image t ≡ ForeignType (get_or image (at + 1) 0)
    type-foreign q = tree-type-foreign r.readable.accepted t r.below (kind 1 q) ∙ ap (read_foreign_type (type_of image) image) (sym there)

    pub type-option : k ≡ 2 → type_of image t ≡ OptionType (type_of image (get_or image (at + 1) 0))
    type-option q = tree-type-option r.readable.accepted t r.below (kind 2 q) ∙ ap (read_option_type (type_of image) image) (sym there)

    pub type-array : k ≡ 3 → type_of image t ≡ ArrayType (type_of image (get_or image (at + 1) 0))
    type-array q = tree-type-array r.readable.accepted t r.below (kind 3 q) ∙ ap (read_array_type (type_of image) image) (sym there)

    pub type_record_lem : {long : ℕ} → long ≡ payload_of h → k ≡ 4
        → type_of image t ≡ RecordType (get_or image (at + 1) 0) (type_fields_from (type_of image) image (at + 2) ((long - 2) / 2))
    type_record_lem el q =
        tree-type_record r.readable.accepted t r.below (kind 4 q) ∙ ap (read_record_type (type_of image) image) (sym there)
        ∙ ap (λ x. RecordType (get_or image (at + 1) 0) (type_fields_from (type_of image) image (at + 2) ((x - 2) / 2))) (ap payload_of (sym eh) ∙ sym el)

    -- one that is none of the others is an Array
    pub kind-array : (k ≡ 0 → ⊥) → (k ≡ 1 → ⊥) → (k ≡ 4 → ⊥) → (k ≡ 2 → ⊥) → k ≡ 3
    kind-array a f c o = only-array k (rw (kind k refl) at (type-read r.readable r.below e).words.kind) a f c o

    -- an Atom's kind
    pub atom-low : {x : ℕ} → k ≡ 0 → x ≡ get_or image (at + 2) 0 → x ≤ 5
    atom-low q ex =
        let w : TypeAtomWords (counts_in r.readable.text image) image t (type_place image t) = type-atom-words (type-read r.readable r.below e) (kind 0 q) in
        let m : get_or image (at + 2) 0 ≤ 5 = rw there w.most in
        omega arith

    pub atom-kind : {x : ℕ} → k ≡ 0 → x ≡ get_or image (at + 2) 0 → x < 16
    atom-kind q ex = omega (arith, atom-low q ex)

    -- what is inside an Option or an Array
    inside : TypeInnerWords (counts_in r.readable.text image) image t (type_place image t) → {i : ℕ} → i ≡ get_or image (at + 1) 0 → PartReady image places t i
    inside w ei =
        let l : get_or image (at + 1) 0 < t = rw there w.inner.under in
        record { ready = record { readable = r.readable; below = omega (arith, r.below) }; under = omega arith }

    pub option-ready : {i : ℕ} → k ≡ 2 → i ≡ get_or image (at + 1) 0 → PartReady image places t i
    option-ready q = inside (type-option-words (type-read r.readable r.below e) (kind 2 q))

    pub array-ready : {i : ℕ} → k ≡ 3 → i ≡ get_or image (at + 1) 0 → PartReady image places t i
    array-ready q = inside (type-array-words (type-read r.readable r.below e) (kind 3 q))

    pub wrapped-ready : {x : ExprKind} {i : ℕ} → x ≡ kind_of_expr k → (x ≡ expr.Option) ⊎ (x ≡ expr.Array) → i ≡ get_or image (at + 1) 0 → PartReady image places t i
    wrapped-ready p (inl q) = option-ready (expr-number k (sym q ∙ p))
    wrapped-ready p (inr q) = array-ready (expr-number k (sym q ∙ p))

    pub inner-ready : {i : ℕ} → (k ≡ 0 → ⊥) → (k ≡ 1 → ⊥) → (k ≡ 4 → ⊥) → i ≡ get_or image (at + 1) 0 → PartReady image places t i
    inner-ready a f c ei = elim (ℕ_discrete k 2) [
      | yes q ↦ option-ready q ei
      | no d ↦ array-ready (kind-array a f c d) ei
    ]

    -- the fields of a Record
    pub fields-ready : {m : ℕ} → m ≡ (payload_of h - 2) / 2 → k ≡ 4 → FieldsReady image places t (at + 2) m
    fields-ready {m} em q =
        let w : TypeRecordWords (counts_in r.readable.text image) image t (type_place image t) = type_record_words (type-read r.readable r.below e) (kind 4 q) in
        let long = payload_of h in
        let z : record_length image (type_place image t) ≡ long = ap (record_length image) (sym there) ∙ ap payload_of (sym eh) in
        let room : at + long ≤ 8192 = rw (← z, there) (type-read r.readable r.below e).within.in_most in
        let whole : 2 + 2 * ((long - 2) / 2) ≡ long = rw z at w.long in
        rw em record {
          readable = r.readable;
          below = r.below;
          pairs = rw (z, ← there) at w.fields;
          room = omega arith;
        }

-- the first pair's type, and the pairs after it
module _ {image places : List ℕ} {owner at left : ℕ} (r : FieldsReady image places owner at left) (d : left ≡ 0 → ⊥) where
  pairs : Each (Pair r.readable.text owner image) 2 at (suc (left - 1))
  pairs = rw (one_less d) at r.pairs

  pub first-ready : {i : ℕ} → i ≡ get_or image (at + 1) 0 → PartReady image places owner i
  first-ready ei =
      let l : get_or image (at + 1) 0 < owner = (each_first (Pair r.readable.text owner image) pairs).value.under in
      record { ready = record { readable = r.readable; below = omega (arith, r.below) }; under = omega arith }

  pub rest-ready : FieldsReady image places owner (at + 2) (left - 1)
  rest-ready = record {
    readable = r.readable;
    below = r.below;
    pairs = each-rest (Pair r.readable.text owner image) pairs;
    room = omega (arith, r.room, d);
  }
