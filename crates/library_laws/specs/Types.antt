-- The types of an accepted library, those of the pool and of the signatures: each refers into the pool, has a type's kind and its names in
-- their text, all the way down. By induction on the levels, and over packages. Assumes nothing.
use Rattle.std.specs.Prelude.{ℕ, zero, suc, ◌<◌, ◌≡◌, Bool, true, get_or, leb}
use Rattle.std.proofs.Common.{arith, sym, inl, inr, leb-true}
use Rattle.std.proofs.Math.Path.{subst}
use Rattle.std.proofs.Math.Bool.{and-eq-true_iff}
use Rattle.std.proofs.Math.Option.{none}
use mathlib.Core.List.{List, [], ◌∷◌}
use Rattle.tok.specs.Word.{kind_of}
use Rattle.tok.specs.Text.{Texts}
use Rattle.ptype.specs.Inside.{Throughout, below, level}
use Rattle.library.specs.Pool.{Pool, pool_word}
use Rattle.library.specs.Package.{Param, Function, Package, pool_of, packages_of}
use Rattle.library.specs.LibraryFault.{library_fault}
use Rattle.library.specs.Each.{Each}
use Rattle.library.specs.TypeWords.{TypeWord, good_type-true}
use Rattle.library.specs.PoolRead.{PoolFine}
use Rattle.library.specs.PoolTrees.{type-refers}
use Rattle.library.specs.PoolTypes.{type-more, type-inside, names_lie}
use Rattle.library.specs.PackagesRead.{ParamFine, FunctionFine, PackageFine}
use Rattle.library.specs.Accepted.{library_pool, library-fine, pool-length}
use Rattle.rules.specs.Walk.{pool_types, param_types, function_types, package_types}
use Rattle.rules.specs.Promises.{Every}
use Rattle.tworuns.specs.Pool.{TypeFine, every_join}
use Rattle.tworuns.specs.Walk.{every_map}
use Rattle.tworuns.specs.Accepted.{TypeOf, library_types}
use Rattle.library_laws.specs.Every.{every-at, every-type, is_type}

module _ (p : Pool) (fine : PoolFine p) where
  type-fine : (deep w : ℕ) → TypeWord p p.size w → Throughout (TypeFine p.texts p.words p.size) p.words deep w
  type-fine zero w t = below
  type-fine (suc f) w t =
      level (record { refers = type-refers t; kind = t.kind.low; names = names_lie fine t }) (λ v i. type-fine f v (type-inside fine t i))

  -- a pool word that is a type's
  word-type : (i : ℕ) → i < p.size → is_type (pool_word p i) ≡ true → TypeWord p p.size (pool_word p i)
  word-type i l e =
      let f = fine.each i l in
      let h = (and-eq-true_iff (leb 1 (kind_of (pool_word p i))) _).0 e in
      let low = leb-true 1 (kind_of (pool_word p i)) h.0 in
      let high = leb-true (kind_of (pool_word p i)) 11 h.1 in
      elim f.kinds [
        | inl k ↦ absurd (omega arith)
        | inr r ↦ elim r [
          | inl k ↦ absurd (omega arith)
          | inr k ↦ type-more (omega arith) (good_type-true p i (pool_word p i) (f.type k))
        ]
      ]

  -- the types of signatures
  pub param-types : (with_slots : Bool) (ps : List Param) → Each (ParamFine p with_slots) ps → Every (TypeWord p p.size) (param_types ps)
  unfolding Each Every param_types
  param-types s [] h = tt
  param-types s (a ∷ ps) h = (good_type-true p p.size a.type h.0.type.good, param-types s ps h.1)

  function-types : (fs : List Function) → Each (FunctionFine p) fs → Every (TypeWord p p.size) (function_types fs)
  unfolding Each Every function_types
  function-types [] h = tt
  function-types (f ∷ fs) h =
      every_join (TypeWord p p.size) (param_types f.sig.params) (f.sig.ret ∷ function_types fs)
      (param-types f.sig.with_slots f.sig.params h.0.sig.params)
      (good_type-true p p.size f.sig.ret h.0.sig.ret.good, function-types fs h.1)

  pub package_types_lem : (ks : List Package) → Each (PackageFine p) ks → Every (TypeWord p p.size) (package_types ks)
  unfolding Each Every package_types
  package_types_lem [] h = tt
  package_types_lem (k ∷ ks) h =
      every_join (TypeWord p p.size) (function_types k.functions) (package_types ks) (function-types k.functions h.0.functions) (package_types_lem ks h.1)

-- ── Accepted ──

module _ (t : Texts) (words : List ℕ) (accepted : library_fault t words ≡ none) where
  abbrev pool : Pool
  pool = library_pool t words

  pool-fine : PoolFine pool
  pool-fine = (library-fine t words accepted).pool

  -- all of them are type words that refer into the pool
  pub type-words : Every (TypeWord (library_pool t words) (get_or words 0 0)) (library_types words)
  type-words =
      every_join (TypeWord pool pool.size) (pool_types (pool_of words)) (package_types (packages_of words))
      (every-type (TypeWord pool pool.size) (pool_of words) (every-at _ (pool_of words) (λ i l. word-type pool pool-fine i (omega (arith, pool-length t words accepted)))))
      (package_types_lem pool pool-fine (packages_of words) (library-fine t words accepted).packages)

  -- THE LAW
  pub library-types : Every (TypeOf t (pool_of words)) (library_types words)
  unfolding TypeOf
  library-types =
      every_map (TypeWord pool pool.size) _
      (λ w h. subst (λ n. Throughout (TypeFine t (pool_of words) n) (pool_of words) 33 w) (sym (pool-length t words accepted)) (type-fine pool pool-fine 33 w h)) _ type-words
