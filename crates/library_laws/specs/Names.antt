-- The names of an accepted library: each lies in the library text and is well formed by RFC 3629. By what reading has shown of each
-- word. Assumes nothing.
use Rattle.std.specs.Prelude.{ℕ, ◌≡◌, refl, Bool, true, ◌||◌, ◌⊎◌, eqb}
use Rattle.std.proofs.Common.{arith, sym, ◌∙◌, true≢false, inl, inr, eqb-true}
use Rattle.std.proofs.Math.Option.{none}
use mathlib.Core.List.{List, [], ◌∷◌, ◌++◌}
use Rattle.tok.specs.Word.{kind_of}
use Rattle.tok.specs.Text.{Texts}
use Rattle.tok.specs.Name.{good_payload, in_library}
use Rattle.tok.proofs.NameLaws.{good_name-payload, name_bytes-well_formed}
use Rattle.ptype.specs.Kinds.{names}
use Rattle.ptype.specs.Inside.{Lies}
use Rattle.ptype.proofs.GrowLaws.{accepted-lies}
use Rattle.library.specs.Pool.{Pool, pool_word}
use Rattle.library.specs.Package.{Param, Function, Package, pool_of, packages_of}
use Rattle.library.specs.LibraryFault.{library_fault}
use Rattle.library.specs.Each.{Each}
use Rattle.library.specs.TypeWords.{TypeWord, good_type-true, either_true}
use Rattle.library.specs.PoolRead.{WordFine}
use Rattle.library.specs.PackagesRead.{ParamFine, FunctionFine, PackageFine}
use Rattle.library.specs.Accepted.{library_pool, library-fine, pool-length}
use Rattle.rules.specs.Names.{word_names, param_names, function_names, package_names}
use Rattle.rules.specs.Promises.{Every, ReadsWell}
use Rattle.tworuns.specs.Walk.{every_map}
use Rattle.tworuns.specs.Pool.{every_join}
use Rattle.library_laws.specs.Every.{every-at, every-name, carries_name}

-- a name that is accepted in the library text
record AcceptedName (t : Texts) (w : ℕ) : Type 0 where
  pub payload : good_payload in_library t.library w ≡ true

-- the kinds of a word that carries a name
carries : (k : ℕ) → (eqb k 9 || (eqb k 10 || eqb k 12)) ≡ true → (names k ≡ true) ⊎ (k ≡ 12)
carries k e = elim (either_true (eqb k 9) _ e) [
  | inl a ↦ inl (rw a refl)
  | inr a ↦ elim (either_true (eqb k 10) _ a) [
    | inl b ↦ inl (rw (eqb-true k 10 b) refl)
    | inr b ↦ inr (eqb-true _ _ b)
  ]
]

no_name : (k : ℕ) → k ≡ 0 → names k ≡ true → ⊥
no_name k e n = true≢false (sym n ∙ rw e refl)

module _ (p : Pool) where
  type-name : {own w : ℕ} → TypeWord p own w → carries_name w ≡ true → AcceptedName p.texts w
  type-name {w = w} t e = elim (carries (kind_of w) e) [
    | inl k ↦ record { payload = t.name k }
    | inr k ↦ absurd (omega (arith, t.kind.high))
  ]

  word-name : (i : ℕ) → WordFine p i → carries_name (pool_word p i) ≡ true → AcceptedName p.texts (pool_word p i)
  word-name i f e = elim f.kinds [
    | inl k ↦ elim (carries (kind_of (pool_word p i)) e) [ inl n ↦ absurd (no_name (kind_of (pool_word p i)) k n) | inr n ↦ absurd (omega arith) ]
    | inr r ↦ elim r [
      | inl k ↦ record { payload = good_name-payload in_library p.texts.library (pool_word p i) (f.name k) }
      | inr k ↦ type-name (good_type-true p i (pool_word p i) (f.type k)) e
    ]
  ]

  type-names : {own w : ℕ} → TypeWord p own w → Every (AcceptedName p.texts) (word_names (w ∷ []))
  unfolding Every
  type-names {w = w} t = every-name (AcceptedName p.texts) (w ∷ []) (type-name t, tt)

  param-names : (with_slots : Bool) (ps : List Param) → Each (ParamFine p with_slots) ps → Every (AcceptedName p.texts) (param_names ps)
  unfolding Each Every param_names
  param-names s [] h = tt
  param-names s (a ∷ ps) h = (
    record { payload = good_name-payload in_library p.texts.library a.name h.0.name },
    every_join (AcceptedName p.texts) (word_names (a.type ∷ [])) (param_names ps) (type-names (good_type-true p p.size a.type h.0.type.good)) (param-names s ps h.1),
  )

  function-names : (fs : List Function) → Each (FunctionFine p) fs → Every (AcceptedName p.texts) (function_names fs)
  unfolding Each Every function_names
  function-names [] h = tt
  function-names (f ∷ fs) h = (
    record { payload = good_name-payload in_library p.texts.library f.name h.0.name },
    every_join (AcceptedName p.texts) (param_names f.sig.params ++ word_names (f.sig.ret ∷ [])) (function_names fs)
        (every_join (AcceptedName p.texts) (param_names f.sig.params) (word_names (f.sig.ret ∷ []))
        (param-names f.sig.with_slots f.sig.params h.0.sig.params) (type-names (good_type-true p p.size f.sig.ret h.0.sig.ret.good)))
        (function-names fs h.1),
  )

  package_names_lem : (ks : List Package) → Each (PackageFine p) ks → Every (AcceptedName p.texts) (package_names ks)
  unfolding Each Every package_names
  package_names_lem [] h = tt
  package_names_lem (k ∷ ks) h = (
    record { payload = good_name-payload in_library p.texts.library k.name h.0.name },
    every_join (AcceptedName p.texts) (function_names k.functions) (package_names ks) (function-names k.functions h.0.functions) (package_names_lem ks h.1),
  )

well : (t : Texts) (w : ℕ) → AcceptedName t w → ReadsWell t w
well t w a = name_bytes-well_formed t in_library w a.payload

-- ── Accepted ──

module _ (t : Texts) (words : List ℕ) (accepted : library_fault t words ≡ none) where
  pool-accepts : Every (AcceptedName t) (word_names (pool_of words))
  pool-accepts =
      every-name (AcceptedName t) (pool_of words)
      (every-at _ (pool_of words) (λ i l. word-name (library_pool t words) i ((library-fine t words accepted).pool.each i (omega (arith, pool-length t words accepted)))))

  packages_accept : Every (AcceptedName t) (package_names (packages_of words))
  packages_accept = package_names_lem (library_pool t words) (packages_of words) (library-fine t words accepted).packages

  -- THE LAWS: the names of the packages lie in their text,
  pub names_lie : Every (Lies t) (package_names (packages_of words))
  names_lie = every_map (AcceptedName t) (Lies t) (λ w a. accepted-lies t in_library w a.payload) _ packages_accept

  -- and are well formed, those of the pool too.
  pub pool-well : Every (ReadsWell t) (word_names (pool_of words))
  pool-well = every_map (AcceptedName t) (ReadsWell t) (well t) _ pool-accepts

  pub packages-well : Every (ReadsWell t) (package_names (packages_of words))
  packages-well = every_map (AcceptedName t) (ReadsWell t) (well t) _ packages_accept
