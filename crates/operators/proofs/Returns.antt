-- Each return of the functions, over variables for what the calls gave. By rewriting with the tests. Assumes nothing.
use Rattle.std.specs.Prelude.{ℕ, ◌≡◌, Bool, true, false, ◌&&◌, ◌||◌, List, Option, Some, None, Ok, Err, get_or, set, eqb, leb}
use Rattle.std.proofs.Common.{sym, ap, ◌∙◌}
use Rattle.std.specs.Result.{IsErrAnd}
use Rattle.tok.specs.Word.{kind_of, word_of}
use Rattle.tok.specs.Text.{Texts}
use Rattle.tok.specs.Step.{◌>>◌, when}
use Rattle.ptype.specs.declared.TypeKind.{TypeKind}
use Rattle.ptype.specs.TypeKind.{kind_of_type, number_of_type}
use Rattle.ptype.specs.Ty.{same_ty}
use Rattle.ptype.specs.Words.{ty_of}
use Rattle.library.specs.Package.{Package}
use Rattle.err.specs.declared.Counts.{Counts}
use Rattle.err.specs.Message.{unsupported, incompatible, bad_unary, redundant_cast, bad_cast}
use Rattle.err.specs.Report.{Reports}
use Rattle.rules.specs.declared.Answer.{Answer}
use Rattle.rules.specs.declared.Answer.TheVariants.{Known, Poison}
use Rattle.rules.specs.Steps.{Done, ty, tree, set_known, report, poison}
use Rattle.rules.specs.Operators.{result_kind, fuse, unary, castable, cast}
use Rattle.state.specs.declared.Used.{Used}
use Rattle.state.specs.declared.Refusal.{Refusal}
use Rattle.state.specs.Context.{ctx}
use Rattle.state.specs.World.{Rest, world, Step, stepped, Steps}
use Rattle.state.specs.Reporting.{told_of, reports_step, poisons-step, on-ok, on-err}
use Rattle.operators.proofs.KindLaws.{unless_none, result-by-kinds, castable-by-kinds, takes-by-kind, taken-number, some_of, none_of}

-- a slot's type
pub known_steps : (s : List ℕ) (u : Used) (slot w : ℕ) {s' : List ℕ} → s' ≡ set s slot w → (t d m : List ℕ) → Steps (set_known slot w) s t d m u s' t d m (Ok (Known slot, u))
unfolding set_known stepped
known_steps s u slot w e t d m = record { step = λ rest. rw e }

-- ---- fuse
module _ (T : Texts) (s t d m : List ℕ) (u : Used) (n slot token op left right : ℕ) {l r : ℕ} {kl kr : TypeKind} {k : Option TypeKind} (hl : l ≡ get_or s left 0) (hr : r ≡ get_or s right 0)
    (hkl : kl ≡ kind_of_type (kind_of l)) (hkr : kr ≡ kind_of_type (kind_of r)) (hk : k ≡ unless_none (result_kind op (number_of_type kl) (number_of_type kr))) where
  found : k ≡ unless_none (result_kind op (kind_of l) (kind_of r))
  found = hk ∙ ap (λ i. unless_none i) (result-by-kinds op (kind_of l) (kind_of r) hkl hkr)

  none : k ≡ None → eqb (result_kind op (kind_of l) (kind_of r)) 0 ≡ true
  none z = none_of (result_kind op (kind_of l) (kind_of r)) (sym z ∙ found)

  fuse-is :
      (ls : List Package) (v : ℕ) (rest : Rest) →
      fuse (ctx T ls v) n slot token op left right (world rest s t d m u)
      ≡ when (eqb (result_kind op (kind_of l) (kind_of r)) 0)
      (when (same_ty (ty_of T t l) (ty_of T t r)) (poison n (unsupported token op (ty_of T t l))) (poison n (incompatible token op (ty_of T t l) (ty_of T t r))))
      (set_known slot (word_of (result_kind op (kind_of l) (kind_of r)) 0)) (world rest s t d m u)
  unfolding fuse ty tree
  fuse-is ls v rest = rw (hl, hr)

  pub fuse-known :
      {j : TypeKind} {w : ℕ} {s' : List ℕ} {q : Step Answer} → k ≡ Some j → w ≡ word_of (number_of_type j) 0 → ((t d m : List ℕ) → Steps (set_known slot w) s t d m u s' t d m q) →
      (ls : List Package) (v : ℕ) → Steps (fuse (ctx T ls v) n slot token op left right) s t d m u s' t d m q
  unfolding when
  fuse-known {j} z e p ls v =
      let (some, same) = some_of op (kind_of l) (kind_of r) j (sym z ∙ found) in
      record { step = λ rest. fuse-is ls v rest ∙ rw (some, ← same, ← e) ((p t d m).step rest) }

  module _ {same : Bool} {d' m' : List ℕ} {x : Option Counts} {q : Step Answer} (z : k ≡ None) (hs : same ≡ same_ty (ty_of T t l) (ty_of T t r)) (hq : q ≡ told_of n u x Poison) where
    pub fuse-unsupported :
        same ≡ true → Reports (unsupported token op (ty_of T t l)) d m u.told d' m' x →
        (ls : List Package) (v : ℕ) → Steps (fuse (ctx T ls v) n slot token op left right) s t d m u s t d' m' q
    unfolding when
    fuse-unsupported e p ls v = record { step = λ rest. fuse-is ls v rest ∙ rw (none z, ← hs, e, hq) ((poisons-step n p).step rest) }

    pub fuse-incompatible :
        same ≡ false → Reports (incompatible token op (ty_of T t l) (ty_of T t r)) d m u.told d' m' x →
        (ls : List Package) (v : ℕ) → Steps (fuse (ctx T ls v) n slot token op left right) s t d m u s t d' m' q
    unfolding when
    fuse-incompatible e p ls v = record { step = λ rest. fuse-is ls v rest ∙ rw (none z, ← hs, e, hq) ((poisons-step n p).step rest) }

-- ---- unary
module _ (T : Texts) (s t d m : List ℕ) (u : Used) (n slot token op right : ℕ) {r : ℕ} {kind : TypeKind} {takes : Bool} (hr : r ≡ get_or s right 0) (hk : kind ≡ kind_of_type (kind_of r))
    (ht : takes ≡ leb op 1 && (eqb (number_of_type kind) 3 || eqb (number_of_type kind) 4)) where
  taken : takes ≡ leb op 1 && (eqb (kind_of r) 3 || eqb (kind_of r) 4)
  taken = ht ∙ takes-by-kind (leb op 1) (kind_of r) hk

  unary-is :
      (ls : List Package) (v : ℕ) (rest : Rest) →
      unary (ctx T ls v) n slot token op right (world rest s t d m u)
      ≡ when takes (set_known slot (word_of (kind_of r) 0)) (poison n (bad_unary token op (ty_of T t r))) (world rest s t d m u)
  unfolding unary ty tree
  unary-is ls v rest = rw (taken, hr)

  pub unary-known :
      {w : ℕ} {s' : List ℕ} {q : Step Answer} → takes ≡ true → w ≡ word_of (number_of_type kind) 0 → ((t d m : List ℕ) → Steps (set_known slot w) s t d m u s' t d m q) →
      (ls : List Package) (v : ℕ) → Steps (unary (ctx T ls v) n slot token op right) s t d m u s' t d m q
  unfolding when
  unary-known z e p ls v =
      let same : number_of_type kind ≡ kind_of r = rw hk (taken-number (leb op 1) (kind_of r) (sym taken ∙ z)) in
      record { step = λ rest. unary-is ls v rest ∙ rw (z, ← same, ← e) ((p t d m).step rest) }

  pub unary_bad :
      {d' m' : List ℕ} {x : Option Counts} {q : Step Answer} → takes ≡ false → Reports (bad_unary token op (ty_of T t r)) d m u.told d' m' x → q ≡ told_of n u x Poison →
      (ls : List Package) (v : ℕ) → Steps (unary (ctx T ls v) n slot token op right) s t d m u s t d' m' q
  unfolding when
  unary_bad z p hq ls v = record { step = λ rest. unary-is ls v rest ∙ rw (z, hq) ((poisons-step n p).step rest) }

-- ---- cast
module _ (T : Texts) (s t d m : List ℕ) (u : Used) (n slot token left to : ℕ) {l : ℕ} {kl kt : TypeKind} {casts : Bool} (hl : l ≡ get_or s left 0)
    (hkl : kl ≡ kind_of_type (kind_of l)) (hkt : kt ≡ kind_of_type (kind_of to)) (hc : casts ≡ castable (number_of_type kl) (number_of_type kt)) where
  cast_is :
      (ls : List Package) (v : ℕ) (rest : Rest) →
      cast (ctx T ls v) n slot token left to (world rest s t d m u)
      ≡ when casts (set_known slot to)
      (when (same_ty (ty_of T t l) (ty_of T t to)) (report n (redundant_cast token (ty_of T t l)) >> set_known slot to) (poison n (bad_cast token (ty_of T t l) (ty_of T t to))))
      (world rest s t d m u)
  unfolding cast ty tree
  cast_is ls v rest = rw (hc, castable-by-kinds (kind_of l) (kind_of to) hkl hkt, hl)

  pub cast-known :
      {s' : List ℕ} {q : Step Answer} → casts ≡ true → ((t d m : List ℕ) → Steps (set_known slot to) s t d m u s' t d m q) →
      (ls : List Package) (v : ℕ) → Steps (cast (ctx T ls v) n slot token left to) s t d m u s' t d m q
  unfolding when
  cast-known z p ls v = record { step = λ rest. cast_is ls v rest ∙ rw z ((p t d m).step rest) }

  module _ {same : Bool} {d' m' : List ℕ} {x : Option Counts} (z : casts ≡ false) (hs : same ≡ same_ty (ty_of T t l) (ty_of T t to)) where
    pub cast_bad :
        {q : Step Answer} → same ≡ false → Reports (bad_cast token (ty_of T t l) (ty_of T t to)) d m u.told d' m' x → q ≡ told_of n u x Poison →
        (ls : List Package) (v : ℕ) → Steps (cast (ctx T ls v) n slot token left to) s t d m u s t d' m' q
    unfolding when
    cast_bad e p hq ls v = record { step = λ rest. cast_is ls v rest ∙ rw (z, ← hs, e, hq) ((poisons-step n p).step rest) }

    module _ {after : Step Done} (e : same ≡ true) (p : Reports (redundant_cast token (ty_of T t l)) d m u.told d' m' x) (ha : after ≡ told_of n u x tt) where
      reported : Steps (report n (redundant_cast token (ty_of T t l))) s t d m u s t d' m' after
      reported = rw ha (reports_step n p)

      pub cast-full : {f : Refusal} {q : Step Answer} → after ≡ Err f → IsErrAnd q (λ y. y ≡ f) → (ls : List Package) (v : ℕ) → Steps (cast (ctx T ls v) n slot token left to) s t d m u s t d' m' q
      unfolding when
      cast-full h k ls v = record { step = λ rest. cast_is ls v rest ∙ rw (z, ← hs, e) ((on-err (λ _. set_known slot to) reported h k).step rest) }

      pub cast_same :
          {w : Used} {s' : List ℕ} {q : Step Answer} → after ≡ Ok (tt, w) → ((t d m : List ℕ) → Steps (set_known slot to) s t d m w s' t d m q) →
          (ls : List Package) (v : ℕ) → Steps (cast (ctx T ls v) n slot token left to) s t d m u s' t d' m' q
      unfolding when
      cast_same h k ls v = record { step = λ rest. cast_is ls v rest ∙ rw (z, ← hs, e) ((on-ok (λ _. set_known slot to) reported h (k t d' m')).step rest) }
