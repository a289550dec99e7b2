-- Slots and Unknown in the signatures of an accepted library, said of the trees that the walk reads, which are at most 32 deep after the
-- library is measured: no Unknown, slots only under flag 1, and those of the return type in some argument. By induction on the levels.
-- Assumes nothing.
use Prim.Native.Nat.{ℕ, zero, suc, ◌+◌, ◌*◌, ◌≤◌, ◌<◌}
use Rattle.std.proofs.Common.{arith, ◌∙◌, inl, inr}
use Rattle.std.proofs.Math.Decide.{dec_le}
use Rattle.std.specs.Prelude.{◌≡◌, Bool, true, false, get_or}
use Rattle.std.proofs.Math.Path.{refl, sym, ap, ap₂}
use Rattle.std.proofs.Math.Bool.{and-eq-true_iff}
use Rattle.std.proofs.Math.Option.{none}
use mathlib.Core.List.{List, [], ◌∷◌, ◌++◌, map}
use borrow.Author.Tests.{ne_eqb, not-true}
use Rattle.tok.specs.Word.{kind_of, payload_of}
use Rattle.tok.specs.Text.{Texts, same_bytes}
use Rattle.tok.proofs.TextLaws.{same_bytes-true}
use Rattle.ptype.specs.Ty.{contains_unknown, any_unknown, contains_slot, depth_of, deepest}
use Rattle.ptype.specs.Words.{inner_word, field_count, fields_from, unfolded, ty_of}
use Rattle.ptype.specs.Kinds.{shape, is_plain, is_wrap, is_record, is_named}
use Rattle.ptype.proofs.UnfoldLaws.{unfolded-plain, unfolded-wrap, unfolded_record, unfolded-named}
use Rattle.ptype.proofs.DepthLaws as depth
use Rattle.ptype.specs.Inside.{wrapped, in_field}
use Rattle.library.specs.Pool.{Pool}
use Rattle.library.specs.Package.{Param, Signature, Function, Package, pool_of, packages_of}
use Rattle.library.specs.Slots.{pool_ty, slot_names, no_slot, slot_names_of, name_among, all_among, return_stands}
use Rattle.library.specs.LibraryFault.{library_fault}
use Rattle.library.specs.Each.{Each}
use Rattle.library.specs.TypeWords.{TypeWord, good_type-true, either_true}
use Rattle.library.specs.PoolRead.{PoolFine}
use Rattle.library.specs.PoolTrees as trees
use Rattle.library.specs.PoolTypes.{type-inside}
use Rattle.library.specs.PackagesRead.{TypeFine, ParamFine, SignatureFine, FunctionFine, PackageFine}
use Rattle.library.specs.Accepted.{library_pool, library-fine}
use Rattle.rules.specs.Walk.{param_types, function_types, package_types}
use Rattle.rules.specs.Promises.{Every}
use Rattle.tworuns.specs.Pool.{every_front, every_back}
use Rattle.library_laws.specs.Slots.{Measured, slots_in, SignatureTypes}

-- ── Trees ──

module _ (p : Pool) (fine : PoolFine p) where
  -- 33 levels are all of a measured type
  pub measured-tree : (w : ℕ) → TypeWord p p.size w → Measured p.texts p.words w → pool_ty p w ≡ ty_of p.texts p.words w
  unfolding pool_ty ty_of
  measured-tree w t m = elim (dec_le 32 (p.size + 1)) [
    | yes l ↦ sym (depth.ty_of-enough p.texts p.words (p.size + 1) w m.low l)
    | no l ↦
        trees.unfolded-enough p.texts p.words (trees.pool_backward fine) (p.size + 1) 33 p.size w (omega arith) (trees.type-refers t) (omega arith) (omega arith)
  ]

  fields-known : (f : ℕ) → ((v : ℕ) → TypeWord p p.size v → depth_of (unfolded p.texts p.words f v) ≤ f → contains_unknown (unfolded p.texts p.words f v) ≡ false)
      → (at k : ℕ) → ((i j : ℕ) → i < k → j ≡ at + 2 * i + 1 → TypeWord p p.size (get_or p.words j 0))
      → deepest (fields_from (unfolded p.texts p.words f) p.texts p.words at k) ≤ f
      → any_unknown (fields_from (unfolded p.texts p.words f) p.texts p.words at k) ≡ false
  unfolding fields_from depth_of contains_unknown
  fields-known f go at zero h l = refl
  fields-known f go at (suc k) h l =
      rw (go (get_or p.words (at + 1) 0) (h 0 (at + 1) (omega arith) (omega arith)) (omega arith))
      (fields-known f go (at + 2) k (λ i j m e. h (suc i) j (omega arith) (omega arith)) (omega arith))

  type-known : (f w : ℕ) → TypeWord p p.size w → depth_of (unfolded p.texts p.words f w) ≤ f → contains_unknown (unfolded p.texts p.words f w) ≡ false
  unfolding depth_of contains_unknown
  type-known zero w t l = absurd (omega (arith, depth.depth_positive (unfolded p.texts p.words zero w)))
  type-known (suc f) w t l = elim (shape (kind_of w)) [
    | is_plain h ↦ rw (unfolded-plain p.texts p.words w {deep = suc f} refl refl h) (ne_eqb (kind_of w) 11 (λ e. omega (arith, t.kind.high)))
    | is_wrap h ↦
        let e = unfolded-wrap p.texts p.words w {deep = suc f} refl refl h in
        let d = ap depth_of e in
        rw e (type-known f (inner_word p.words w) (type-inside fine t (wrapped h)) (omega arith))
    | is_record h ↦
        let e = unfolded_record p.texts p.words w {deep = suc f} refl refl h in
        let d = ap depth_of e in
        rw e (fields-known f (λ v. type-known f v) (payload_of w + 1) (field_count p.words w) (λ i j m q. rw q (type-inside fine t (in_field h i m))) (omega arith))
    | is_named h ↦ rw (unfolded-named p.texts p.words w {deep = suc f} refl refl h) refl
  ]

  known : (w : ℕ) → TypeWord p p.size w → Measured p.texts p.words w → contains_unknown (ty_of p.texts p.words w) ≡ false
  unfolding ty_of
  known w t m = type-known 33 w t (omega (arith, m.low))

  flat-type : {s : Bool} (w : ℕ) → TypeFine p s w → Measured p.texts p.words w → s ≡ false → contains_slot (ty_of p.texts p.words w) ≡ false
  unfolding no_slot
  flat-type w t m e = ap contains_slot (sym (measured-tree w (good_type-true p p.size w t.good) m)) ∙ not-true _ (t.slots e)

  -- ── Signatures ──

  params-known : (s : Bool) (ps : List Param) → Each (ParamFine p s) ps → Every (Measured p.texts p.words) (param_types ps)
      → Every (λ w. contains_unknown (ty_of p.texts p.words w) ≡ false) (param_types ps)
  unfolding Each Every param_types
  params-known s [] h m = tt
  params-known s (a ∷ ps) h m = (known a.type (good_type-true p p.size a.type h.0.type.good) m.0, params-known s ps h.1 m.1)

  params-flat : (s : Bool) (ps : List Param) → Each (ParamFine p s) ps → Every (Measured p.texts p.words) (param_types ps) → s ≡ false
      → Every (λ w. contains_slot (ty_of p.texts p.words w) ≡ false) (param_types ps)
  unfolding Each Every param_types
  params-flat s [] h m e = tt
  params-flat s (a ∷ ps) h m e = (flat-type a.type h.0.type m.0 e, params-flat s ps h.1 m.1 e)

  params-slots : (s : Bool) (ps : List Param) → Each (ParamFine p s) ps → Every (Measured p.texts p.words) (param_types ps)
      → slot_names_of p (map (λ a. a.type) ps) ≡ slots_in p.texts p.words (param_types ps)
  unfolding Each Every param_types slot_names_of slots_in
  params-slots s [] h m = refl
  params-slots s (a ∷ ps) h m =
      ap₂ (λ xs ys. xs ++ ys) (ap slot_names (measured-tree a.type (good_type-true p p.size a.type h.0.type.good) m.0)) (params-slots s ps h.1 m.1)

among-all : (n : List ℕ) (xs ys : List (List ℕ)) → all_among xs ys ≡ true → name_among n xs ≡ true → name_among n ys ≡ true
unfolding name_among all_among
among-all n [] ys h e = let z : ◌≡◌ {A = ℕ} 0 1 = cc in absurd (omega arith)
among-all n (x ∷ xs) ys h e =
    let b = (and-eq-true_iff (name_among x ys) (all_among xs ys)).0 h in
    elim (either_true (same_bytes n x) (name_among n xs) e) [
      | inl s ↦ rw (same_bytes-true n x s) b.0
      | inr s ↦ among-all n xs ys b.1 s
    ]

module _ (p : Pool) (fine : PoolFine p) where
  signature-typed : (s : Signature) → SignatureFine p s → Every (Measured p.texts p.words) (param_types s.params) → Measured p.texts p.words s.ret
      → SignatureTypes p.texts p.words s
  unfolding Every return_stands
  signature-typed s f ms m =
      let g = good_type-true p p.size s.ret f.ret.good in
      record {
        known = (known p fine s.ret g m, params-known p fine s.with_slots s.params f.params ms);
        flat = λ e. (flat-type p fine s.ret f.ret m e, params-flat p fine s.with_slots s.params f.params ms e);
        stand = λ n e. rw (params-slots p fine s.with_slots s.params f.params ms) at (among-all n _ _ f.stands (rw (measured-tree p fine s.ret g m) e));
      }

  functions-typed : (fs : List Function) → Each (FunctionFine p) fs → Every (Measured p.texts p.words) (function_types fs)
      → Every (λ f. SignatureTypes p.texts p.words f.sig) fs
  unfolding Each Every function_types
  functions-typed [] h m = tt
  functions-typed (f ∷ fs) h m =
      let r = every_back (Measured p.texts p.words) (param_types f.sig.params) (f.sig.ret ∷ function_types fs) m in (
        signature-typed f.sig h.0.sig (every_front (Measured p.texts p.words) (param_types f.sig.params) (f.sig.ret ∷ function_types fs) m) r.0,
        functions-typed fs h.1 r.1,
      )

  packages-typed : (ks : List Package) → Each (PackageFine p) ks → Every (Measured p.texts p.words) (package_types ks)
      → Every (λ k. Every (λ f. SignatureTypes p.texts p.words f.sig) k.functions) ks
  unfolding Each Every package_types
  packages-typed [] h m = tt
  packages-typed (k ∷ ks) h m = (
    functions-typed k.functions h.0.functions (every_front (Measured p.texts p.words) (function_types k.functions) (package_types ks) m),
    packages-typed ks h.1 (every_back (Measured p.texts p.words) (function_types k.functions) (package_types ks) m),
  )

-- THE LAW: of an accepted library whose types were measured.
pub signature-types : (t : Texts) (words : List ℕ) → library_fault t words ≡ none → Every (Measured t (pool_of words)) (package_types (packages_of words))
    → Every (λ k. Every (λ f. SignatureTypes t (pool_of words) f.sig) k.functions) (packages_of words)
signature-types t words accepted m =
    let f = library-fine t words accepted in
    packages-typed (library_pool t words) f.pool (packages_of words) f.packages m
