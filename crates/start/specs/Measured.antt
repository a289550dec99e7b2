-- Every library type measured: the rules' `measure` is one test of all words, and the words of the library come part by part. By induction on
-- lists. Assumes nothing.
use Prim.Native.Nat.{ℕ, suc, ◌+◌, ◌-◌, ◌<◌, ◌≤◌, min}
use Rattle.std.specs.Prelude.{◌≡◌, refl, Bool, true, false, ◌&&◌, cond, List, [], ◌∷◌, ◌++◌, length, drop}
use Rattle.std.proofs.Math.Path.{sym, ap}
use Rattle.std.proofs.Common.{◌∙◌, append_assoc, add-one, drop_of_length-le, drop-cons}
use Rattle.std.proofs.Math.Bool.{and-true}
use native.Mathlib.Omega.{arith}
use Rattle.std.proofs.Math.ListN.{get_or}
use Rattle.tok.specs.Text.{Texts}
use Rattle.tok.specs.Step.{ok, refused, refusal, when}
use Rattle.add.specs.Parts.{shallow}
use Rattle.add.specs.Pool.{all_shallow}
use Rattle.add.specs.Pool as A
use Rattle.add.specs.PoolLaws.{shallow-append}
use Rattle.library.specs.Package.{Param, param, Function, pool_of, function_at, function_end, functions_from, packages_from, packages_of}
use Rattle.library.specs.PackagesRead.{package_end}
use Rattle.library.specs.Past.{functions-held, packages-held}
use Rattle.rules.specs.World.{Ctx, World}
use Rattle.rules.specs.Steps.{tree}
use Rattle.rules.specs.Walk.{pool_types, param_types, function_types, package_types, measure}
use Rattle.tworuns.specs.Accepted.{library_types}

-- one test of all words
pub measure-all : (c : Ctx) (n : ℕ) (words : List ℕ) (s : World) → measure c n words s ≡ cond (all_shallow c.texts s.types.words words) (ok (tt {0}) s) (refused (refusal 8 n))
unfolding measure tree when all_shallow
measure-all c n [] s = refl
measure-all c n (w ∷ ws) s = by (shallow c.texts s.types.words w) (measure-all c n ws s)
  where
    by : (q : Bool) → measure c n ws s ≡ cond (all_shallow c.texts s.types.words ws) (ok (tt {0}) s) (refused (refusal 8 n))
        → when q (measure c n ws) (λ _. refused (refusal 8 n)) s ≡ cond (q && all_shallow c.texts s.types.words ws) (ok (tt {0}) s) (refused (refusal 8 n))
    by true h = h
    by false h = refl

-- the pool's types, as `add` has them
pub pool-types : (ws : List ℕ) → pool_types ws ≡ A.pool_types ws
unfolding pool_types A.pool_types
pool-types [] = refl
pool-types (w ∷ ws) = rw (pool-types ws)

-- ── The parts of the library ──

module _ (t : Texts) (types : List ℕ) where
  -- words in two parts, the first of them measured
  then-rest : (xs ys : List ℕ) {q : Bool} → q ≡ all_shallow t types xs → all_shallow t types (xs ++ ys) ≡ (q && all_shallow t types ys)
  then-rest xs ys e = rw (shallow-append t types xs ys, ← e)

  -- the pool, then the packages
  module _ (words : List ℕ) {pool : List ℕ} {q : Bool} (hp : pool ≡ pool_of words) (e : q ≡ all_shallow t types (A.pool_types pool)) where
    pool-first : all_shallow t types (library_types words) ≡ (q && all_shallow t types (package_types (packages_of words)))
    pool-first = then-rest (pool_types (pool_of words)) (package_types (packages_of words))
        (e ∙ ap (λ l. all_shallow t types (A.pool_types l)) hp ∙ ap (all_shallow t types) (sym (pool-types (pool_of words))))

    pub library-deep : q ≡ false → false ≡ all_shallow t types (library_types words)
    library-deep h = sym (pool-first ∙ rw h)

    pub library-by : {r : Bool} → q ≡ true → r ≡ all_shallow t types (package_types (packages_of words)) → r ≡ all_shallow t types (library_types words)
    library-by h p = p ∙ sym (pool-first ∙ rw h)

  -- the arguments of a function
  module _ (ps : List Param) (i : ℕ) where
    pub arguments-over : length ps ≤ i → all_shallow t types (param_types (drop i ps)) ≡ true
    unfolding all_shallow param_types
    arguments-over h = rw (drop_of_length-le ps h)

    module _ {w : ℕ} {q : Bool} (l : i < length ps) (hw : w ≡ (get_or ps i (param 0 0)).type) (hq : q ≡ shallow t types w) where
      argument-first : all_shallow t types (param_types (drop i ps)) ≡ (q && all_shallow t types (param_types (drop (i + 1) ps)))
      unfolding all_shallow param_types
      argument-first = rw (drop-cons ps i (param 0 0) l, hq, hw, add-one)

      pub argument-next : q ≡ true → all_shallow t types (param_types (drop i ps)) ≡ all_shallow t types (param_types (drop (i + 1) ps))
      argument-next e = rw (argument-first, e)

      pub argument-deep : q ≡ false → all_shallow t types (param_types (drop i ps)) ≡ false
      argument-deep e = rw (argument-first, e)

  -- a function
  module _ (f : Function) {q : Bool} (e : q ≡ all_shallow t types (param_types f.sig.params)) where
    pub function-deep : q ≡ false → false ≡ all_shallow t types (function_types (f ∷ []))
    unfolding function_types
    function-deep h = sym (then-rest (param_types f.sig.params) (f.sig.ret ∷ []) e ∙ rw h)

    pub function-by : {w : ℕ} {r : Bool} → q ≡ true → w ≡ f.sig.ret → r ≡ shallow t types w → r ≡ all_shallow t types (function_types (f ∷ []))
    unfolding function_types all_shallow
    function-by {r = r} h hw p = sym (then-rest (param_types f.sig.params) (f.sig.ret ∷ []) e ∙ rw (h, ← hw, ← p) (and-true r))

  function-parts : (f : Function) (fs : List Function) → function_types (f ∷ fs) ≡ function_types (f ∷ []) ++ function_types fs
  unfolding function_types
  function-parts f fs = sym (append_assoc (param_types f.sig.params) (f.sig.ret ∷ []) (function_types fs))

  module _ (words : List ℕ) where
    -- functions from a word on
    module _ (at left : ℕ) where
      pub functions-over : left ≤ 0 → all_shallow t types (function_types (functions_from words at left)) ≡ true
      unfolding all_shallow function_types functions_from
      functions-over h =
          let z : left ≡ 0 = omega arith in
          rw z

      module _ {q : Bool} (l : 0 < left) (e : q ≡ all_shallow t types (function_types (function_at words at ∷ []))) where
        function-first : all_shallow t types (function_types (functions_from words at left)) ≡ (q && all_shallow t types (function_types (functions_from words (function_end words at) (left - 1))))
        unfolding functions_from
        function-first =
            let z : left ≡ suc (left - 1) = omega arith in
            ap (λ k. all_shallow t types (function_types (functions_from words at k))) z
            ∙ ap (all_shallow t types) (function-parts (function_at words at) (functions_from words (function_end words at) (left - 1)))
            ∙ then-rest (function_types (function_at words at ∷ [])) (function_types (functions_from words (function_end words at) (left - 1))) e

        pub functions-deep : q ≡ false → all_shallow t types (function_types (functions_from words at left)) ≡ false
        functions-deep h = rw (function-first, h)

        pub functions-next : {at' : ℕ} → q ≡ true → at' ≡ min (function_end words at) (length words)
            → all_shallow t types (function_types (functions_from words at left)) ≡ all_shallow t types (function_types (functions_from words at' (left - 1)))
        functions-next h p = rw (function-first, h, p, functions-held words (left - 1) (function_end words at))

    -- packages from a word on
    module _ (at left : ℕ) where
      pub packages-over : left ≤ 0 → all_shallow t types (package_types (packages_from words at left)) ≡ true
      unfolding all_shallow package_types packages_from
      packages-over h =
          let z : left ≡ 0 = omega arith in
          rw z

      module _ {k : ℕ} {q : Bool} (l : 0 < left) (hk : k ≡ get_or words (at + 1) 0) (e : q ≡ all_shallow t types (function_types (functions_from words (at + 2) k))) where
        package_first : all_shallow t types (package_types (packages_from words at left)) ≡ (q && all_shallow t types (package_types (packages_from words (package_end words at) (left - 1))))
        unfolding package_types packages_from
        package_first =
            let z : left ≡ suc (left - 1) = omega arith in
            ap (λ j. all_shallow t types (package_types (packages_from words at j))) z
            ∙ then-rest (function_types (functions_from words (at + 2) (get_or words (at + 1) 0))) (package_types (packages_from words (package_end words at) (left - 1)))
            (e ∙ ap (λ j. all_shallow t types (function_types (functions_from words (at + 2) j))) hk)

        pub packages-deep : q ≡ false → all_shallow t types (package_types (packages_from words at left)) ≡ false
        packages-deep h = rw (package_first, h)

        pub packages-next : {at' : ℕ} → q ≡ true → at' ≡ min (package_end words at) (length words)
            → all_shallow t types (package_types (packages_from words at left)) ≡ all_shallow t types (package_types (packages_from words at' (left - 1)))
        packages-next h p = rw (package_first, h, p, packages-held words (left - 1) (package_end words at))

    pub packages-begin : {at left : ℕ} → at ≡ min (2 + get_or words 0 0) (length words) → left ≡ get_or words 1 0
        → all_shallow t types (package_types (packages_of words)) ≡ all_shallow t types (package_types (packages_from words at left))
    unfolding packages_of
    packages-begin e f = rw (e, f, packages-held words (get_or words 1 0) (2 + get_or words 0 0))
