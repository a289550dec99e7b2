-- A type expression of more than 32 levels is refused, whatever the buffer holds: what is added means a type that is as deep as the type
-- expression, and no type that is added is deeper than 32. By induction on the type expression. Assumes nothing.
use Prim.Native.Nat.{ℕ, zero, suc, ◌+◌, ◌-◌, ◌/◌, ◌≤◌, ◌<◌, max}
use Rattle.std.specs.Prelude.{◌≡◌, false, List, ◌∷◌}
use Rattle.std.proofs.Math.Path.{refl, ap}
use Rattle.std.proofs.Common.{◌∙◌}
use native.Mathlib.Omega.{arith}
use Rattle.std.proofs.Math.Decide.{ℕ_discrete}
use Rattle.std.proofs.Math.ListN.{get_or}
use Rattle.tok.specs.Word.{kind_of, payload_of, word_of}
use Rattle.tok.specs.Text.{Texts, name_bytes}
use Rattle.tok.specs.Step.{ok, Step, Refusal, next, return}
use Rattle.ptype.specs.Ty.{Ty, Fields, plain, wrap, rec, named, no_field, field, depth_of, deepest}
use Rattle.ptype.specs.Kinds.{wraps, Plain}
use Rattle.ptype.specs.Words.{ty_of}
use Rattle.ptype.proofs.UnfoldLaws.{unfolded-plain, unfolded-named}
use Rattle.ptype.specs.Inside.{Within, below}
use Rattle.ptype.proofs.InsideLaws.{throughout_flat, refers-flat}
use Rattle.ptype.specs.Add.{Buffer, add_wrap, add_record}
use Rattle.add.specs.Means.{Means, PairsMean, none, pair, Grown}
use Rattle.add.specs.StepLaws.{next-ok, of-answer}
use Rattle.add.specs.AddLaws.{grown-same, grown-then, means-grown, wrap-means, record_means}
use Rattle.ast.specs.TypeExpr.{TypeExpr, TypeFields, AtomType, ForeignType, OptionType, ArrayType, RecordType, no_type, type_field, type_of, type_fields_from}
use Rattle.ast.specs.TypeFrom.{type_from, fields_from_exprs}
use Rattle.places.specs.Levels.{levels_of, most_levels}
use Rattle.type_expr.specs.Ready.{TypeReady, FieldsReady}
use Rattle.type_expr.specs.TypesAt.{type-atom, type-foreign, type-option, type-array, type_record_lem, kind-array, atom-low, option-ready, array-ready, fields-ready, first-ready, rest-ready}
use Rattle.type_expr.specs.SizeLaws.{fields-none, fields-first}

-- "Atom (token, kind 1 to 5)", all the way down
unfoldable mutual
  pub Atoms : TypeExpr → Type 0
  Atoms (AtomType token k) = k ≤ 5
  Atoms (ForeignType token) = Unit {0}
  Atoms (OptionType t) = Atoms t
  Atoms (ArrayType t) = Atoms t
  Atoms (RecordType token fs) = AllAtoms fs

  pub AllAtoms : TypeFields → Type 0
  AllAtoms no_type = Unit {0}
  AllAtoms (type_field name t fs) = Atoms t × AllAtoms fs

-- a kind up to 5 holds nothing
low-plain : (k : ℕ) → k ≤ 5 → Plain k
low-plain zero l = record { no_wrap = refl; no_record = λ e. omega arith; no_name = refl }
low-plain (suc zero) l = record { no_wrap = refl; no_record = λ e. omega arith; no_name = refl }
low-plain (suc (suc zero)) l = record { no_wrap = refl; no_record = λ e. omega arith; no_name = refl }
low-plain (suc (suc (suc zero))) l = record { no_wrap = refl; no_record = λ e. omega arith; no_name = refl }
low-plain (suc (suc (suc (suc zero)))) l = record { no_wrap = refl; no_record = λ e. omega arith; no_name = refl }
low-plain (suc (suc (suc (suc (suc zero))))) l = record { no_wrap = refl; no_record = λ e. omega arith; no_name = refl }
low-plain (suc (suc (suc (suc (suc (suc k)))))) l = absurd (omega arith)

-- a word that holds nothing means a type one level deep
flat-within : (b : Buffer) (w : ℕ) → wraps (kind_of w) ≡ false → (kind_of w ≡ 8 → ⊥) → (deep : ℕ) → Within b.words b.used deep w
flat-within b w a c zero = below
flat-within b w a c (suc deep) = throughout_flat (refers-flat a c) a c

-- the word w means a type that is so deep
pub record Built (T : Texts) (b : Buffer) (w levels : ℕ) : Type 0 where
  pub type : Ty
  pub means : Means T b w type
  pub deep : depth_of type ≡ levels

record AllBuilt (T : Texts) (b : Buffer) (pairs : List ℕ) (levels : ℕ) : Type 0 where
  types : Fields
  mean : PairsMean T b pairs types
  deep : deepest types ≡ levels

built-atom : (T : Texts) (b : Buffer) (k : ℕ) → k ≤ 5 → Built T b (word_of k 0) 1
unfolding ty_of depth_of
built-atom T b k l =
    let e : k ≡ kind_of (word_of k 0) = omega arith in
    let p : Plain (kind_of (word_of k 0)) = rw e at (low-plain k l) in
    record {
      type = plain k;
      means = record { within = flat-within b (word_of k 0) p.no_wrap p.no_record; is = unfolded-plain T b.words (word_of k 0) {deep = 33} refl e (low-plain k l); shallow = omega arith };
      deep = refl;
    }

built-foreign : (T : Texts) (b : Buffer) (p : ℕ) → Built T b (word_of 9 (payload_of p)) 1
unfolding ty_of depth_of
built-foreign T b p =
    let w = word_of 9 (payload_of p) in
    let e : 9 ≡ kind_of (word_of 9 (payload_of p)) = omega arith in
    record {
      type = named 9 (name_bytes T w);
      means = record { within = flat-within b w (rw (← e)) (λ z. omega arith); is = unfolded-named T b.words w {deep = 33} refl e refl; shallow = omega arith };
      deep = refl;
    }

module _ (T : Texts) (n : ℕ) where
  mutual
    unfolding type_from levels_of Atoms depth_of

    pub built : (t : TypeExpr) (b : Buffer) (w : ℕ) (b' : Buffer) → Atoms t → type_from T n t b ≡ ok w b' → Built T b' w (levels_of t) × Grown b b'
    built (AtomType token k) b w b' a e = of-answer (λ v s. Built T s v 1 × Grown b s) e (built-atom T b k a, grown-same b)
    built (ForeignType token) b w b' a e = of-answer (λ v s. Built T s v 1 × Grown b s) e (built-foreign T b token, grown-same b)
    built (OptionType t) b w b' a e =
        let x = next-ok (type_from T n t b) (add_wrap T n 6) w b' e in
        let i = built t b x.0 x.1 a x.2 in
        let y = wrap-means n 6 x.0 refl i.0.means x.3 in
        (record { type = wrap 6 i.0.type; means = y.0; deep = ap (λ d. 1 + d) i.0.deep }, grown-then i.1 y.1)
    built (ArrayType t) b w b' a e =
        let x = next-ok (type_from T n t b) (add_wrap T n 7) w b' e in
        let i = built t b x.0 x.1 a x.2 in
        let y = wrap-means n 7 x.0 refl i.0.means x.3 in
        (record { type = wrap 7 i.0.type; means = y.0; deep = ap (λ d. 1 + d) i.0.deep }, grown-then i.1 y.1)
    built (RecordType token fs) b w b' a e =
        let x = next-ok (fields_from_exprs T n fs b) (add_record T n) w b' e in
        let i = built-fields fs b x.0 x.1 a x.2 in
        let y = record_means n i.0.mean x.3 in
        (record { type = rec i.0.types; means = y.0; deep = ap (λ d. 1 + d) i.0.deep }, grown-then i.1 y.1)

    built-fields : (fs : TypeFields) (b : Buffer) (pairs : List ℕ) (b' : Buffer) → AllAtoms fs → fields_from_exprs T n fs b ≡ ok pairs b' → AllBuilt T b' pairs (most_levels fs) × Grown b b'
    built-fields no_type b pairs b' a e =
        of-answer (λ ps s. AllBuilt T s ps 0 × Grown b s) e (record { types = no_field; mean = none; deep = refl }, grown-same b)
    built-fields (type_field name t fs) b pairs b' a e =
        let rest : ℕ → Step Buffer Refusal (List ℕ) = λ new s. next (fields_from_exprs T n fs s) (λ others. return (name ∷ new ∷ others)) in
        let x = next-ok (type_from T n t b) rest pairs b' e in
        let y = next-ok (fields_from_exprs T n fs x.1) (λ others. return (name ∷ x.0 ∷ others)) pairs b' x.3 in
        let i = built t b x.0 x.1 a.0 x.2 in
        let j = built-fields fs x.1 y.0 y.1 a.1 y.2 in
        of-answer (λ ps s. AllBuilt T s ps (max (levels_of t) (most_levels fs)) × Grown b s) y.3 (
          record {
            types = field (name_bytes T name) i.0.type j.0.types;
            mean = pair {fs = j.0.types} (means-grown j.1 i.0.means) j.0.mean;
            deep = rw (i.0.deep, j.0.deep);
          },
          grown-then i.1 j.1,
        )

  -- more than 32 levels are refused
  pub deep-refused : (t : TypeExpr) (b : Buffer) (w : ℕ) (b' : Buffer) → Atoms t → 32 < levels_of t → type_from T n t b ≡ ok w b' → ⊥
  deep-refused t b w b' a l e =
      let i = (built t b w b' a e).0 in
      omega (arith, i.deep, i.means.shallow)

-- The type expressions of an accepted image have such atoms: parts are numbered below their owners.
module _ (image places : List ℕ) where
  abbrev AtomsBelow : (f : ℕ) → Type 0
  AtomsBelow f = (t : ℕ) → TypeReady image places t → t < f → Atoms (type_of image t)

  fields-atoms : (f : ℕ) → AtomsBelow f → (left owner at : ℕ) → FieldsReady image places owner at left → owner ≤ f → AllAtoms (type_fields_from (type_of image) image at left)
  unfolding type_fields_from Atoms
  fields-atoms f h zero owner at r l = tt
  fields-atoms f h (suc left) owner at r l =
      let d : suc left ≡ 0 → ⊥ = λ z. omega arith in
      let p = first-ready r d refl in
      let m : suc left - 1 ≡ left = omega arith in
      let q : FieldsReady image places owner (at + 2) left = rw m at (rest-ready r d) in
      (h (get_or image (at + 1) 0) p.ready (omega (arith, p.under)), fields-atoms f h left owner (at + 2) q l)

  level-atoms : (f : ℕ) → AtomsBelow f → AtomsBelow (suc f)
  unfolding Atoms
  level-atoms f h t r l = by (ℕ_discrete k 0)
    where
      at : ℕ
      at = get_or places (2048 + t) 0

      k : ℕ
      k = kind_of (get_or image at 0)

      wrapped : (k ≡ 0 → ⊥) → (k ≡ 1 → ⊥) → (k ≡ 4 → ⊥) → Dec (k ≡ 2) → Atoms (type_of image t)
      wrapped na nf nr (yes q) =
          let p = option-ready r refl refl refl q refl in
          rw (type-option r refl refl refl q) (h (get_or image (at + 1) 0) p.ready (omega (arith, p.under)))
      wrapped na nf nr (no d) =
          let q = kind-array r refl refl refl na nf nr d in
          let p = array-ready r refl refl refl q refl in
          rw (type-array r refl refl refl q) (h (get_or image (at + 1) 0) p.ready (omega (arith, p.under)))

      list : (k ≡ 0 → ⊥) → (k ≡ 1 → ⊥) → Dec (k ≡ 4) → Atoms (type_of image t)
      list na nf (yes q) =
          rw (type_record_lem r refl refl refl refl q) (fields-atoms f h ((payload_of (get_or image at 0) - 2) / 2) t (at + 2) (fields-ready r refl refl refl refl q) (omega arith))
      list na nf (no d) = wrapped na nf d (ℕ_discrete k 2)

      foreign : (k ≡ 0 → ⊥) → Dec (k ≡ 1) → Atoms (type_of image t)
      foreign na (yes q) = rw (type-foreign r refl refl refl q) tt
      foreign na (no d) = list na d (ℕ_discrete k 4)

      by : Dec (k ≡ 0) → Atoms (type_of image t)
      by (yes q) = rw (type-atom r refl refl refl q) (atom-low r refl refl refl q refl)
      by (no d) = foreign d (ℕ_discrete k 1)

  atoms-below : (f : ℕ) → AtomsBelow f
  atoms-below zero t r l = absurd (omega arith)
  atoms-below (suc f) t r l = level-atoms f (atoms-below f) t r l

  pub atoms : (t : ℕ) → TypeReady image places t → Atoms (type_of image t)
  atoms t r = atoms-below (suc t) t r (omega arith)

-- How many levels a type has, as the array says.
pub levels-there : {image places : List ℕ} {t levels : ℕ} → TypeReady image places t → levels ≡ get_or places (2560 + t) 0 → levels ≡ levels_of (type_of image t)
levels-there {t = t} r e = e ∙ r.readable.placed.levels t r.below

-- The levels of fields: the first, and the others.
module _ (go : ℕ → TypeExpr) (image : List ℕ) (at left : ℕ) where
  pub most-none : left ≡ 0 → most_levels (type_fields_from go image at left) ≡ 0
  unfolding levels_of
  most-none e = ap most_levels (fields-none go image at e)

  pub most-first : {x : ℕ} → (left ≡ 0 → ⊥) → x ≡ get_or image (at + 1) 0
      → most_levels (type_fields_from go image at left) ≡ max (levels_of (go x)) (most_levels (type_fields_from go image (at + 2) (left - 1)))
  unfolding levels_of
  most-first d e = ap most_levels (fields-first go image at d) ∙ rw e
