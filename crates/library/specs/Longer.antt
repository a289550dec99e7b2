-- An accepted library that is extended by packages at its end keeps every old package: its words move by as many places as the pool has
-- grown, and what is decoded there is the same. By induction on how much is decoded. Assumes nothing.
use Prim.Native.Nat.{ℕ, zero, suc, ◌+◌, ◌*◌, ◌-◌, ◌≤◌, ◌<◌}
use Rattle.std.specs.Prelude.{◌≡◌, List, ◌∷◌, ◌++◌, drop, eqb}
use Rattle.std.proofs.Math.Path.{refl, ap, ap₂}
use Rattle.std.proofs.Common.{sym, ◌∙◌, arith, zero-add, suc-add, length-take, length-drop, get_or-append-add, get_or-drop}
use Rattle.std.proofs.Math.ListN.{length, get_or, length-append, get_or-append}
use Rattle.tok.specs.Text.{Texts}
use Rattle.library.specs.Package.{param, signature, function, pkg, pool_of, params_from, function_at, function_end, functions_from, functions_end, packages_from, packages_of}
use Rattle.library.specs.PackagesRead.{package_at, package_end, packages_end}
use Rattle.library.specs.Past.{functions_end-after}
use Rattle.library.specs.Accepted.{LibraryFine, packages_place}

-- ── Words that have moved ──

-- the words from a place on stand s places further in another list
pub record Moved (words words' : List ℕ) (from s : ℕ) : Type 0 where
  pub at : (i : ℕ) → from ≤ i → i < length words → get_or words' (i + s) 0 ≡ get_or words i 0

module _ {words words' : List ℕ} {from s : ℕ} (moved : Moved words words' from s) where
  word_moved : (i j : ℕ) → from ≤ i → i < length words → j ≡ i + s → get_or words' j 0 ≡ get_or words i 0
  word_moved i j l m e = rw e (moved.at i l m)

  params-moved : (k at to : ℕ) → from ≤ at → at + 2 * k ≤ length words → to ≡ at + s → params_from words' to k ≡ params_from words at k
  unfolding params_from
  params-moved zero at to l m e = refl
  params-moved (suc k) at to l m e =
      ap₂ (λ a xs. a ∷ xs)
      (ap₂ param (word_moved at to l (omega arith) e) (word_moved (at + 1) (to + 1) (omega arith) (omega arith) (omega arith)))
      (params-moved k (at + 2) (to + 2) (omega arith) (omega arith) (omega arith))

  -- a function that lies in the list
  module _ (at to : ℕ) (l : from ≤ at) (m : function_end words at ≤ length words) (e : to ≡ at + s) where
    count-moved : get_or words' (to + 2) 0 ≡ get_or words (at + 2) 0
    count-moved = word_moved (at + 2) (to + 2) (omega arith) (omega arith) (omega arith)

    function-moved : function_at words' to ≡ function_at words at
    unfolding function_at
    function-moved =
        let n : ℕ = get_or words (at + 2) 0 in
        rw (count-moved, word_moved at to l (omega arith) e, word_moved (at + 1) (to + 1) (omega arith) (omega arith) (omega arith))
        (ap₂ (λ ps r. function (get_or words at 0) (signature ps r (eqb (get_or words (at + 1) 0) 1)))
        (params-moved n (at + 3) (to + 3) (omega arith) (omega arith) (omega arith))
        (word_moved (at + 3 + 2 * n) (to + 3 + 2 * n) (omega arith) (omega arith) (omega arith)))

    end_moved : function_end words' to ≡ function_end words at + s
    end_moved = rw count-moved (omega arith)

  functions-moved : (k at to : ℕ) → from ≤ at → functions_end words at k ≤ length words → to ≡ at + s → functions_from words' to k ≡ functions_from words at k
  unfolding functions_from functions_end
  functions-moved zero at to l m e = refl
  functions-moved (suc k) at to l m e =
      let h : function_end words at ≤ length words = omega (arith, functions_end-after words k (function_end words at)) in
      ap₂ (λ f fs. f ∷ fs) (function-moved at to l h e)
      (functions-moved k (function_end words at) (function_end words' to) (omega arith) m (end_moved at to l h e))

  functions_end-moved : (k at to : ℕ) → from ≤ at → functions_end words at k ≤ length words → to ≡ at + s → functions_end words' to k ≡ functions_end words at k + s
  unfolding functions_end
  functions_end-moved zero at to l m e = e
  functions_end-moved (suc k) at to l m e =
      let h : function_end words at ≤ length words = omega (arith, functions_end-after words k (function_end words at)) in
      functions_end-moved k (function_end words at) (function_end words' to) (omega arith) m (end_moved at to l h e)

pub packages_end-after : (words : List ℕ) (k at : ℕ) → at ≤ packages_end words at k
unfolding packages_end
packages_end-after words zero at = omega arith
packages_end-after words (suc k) at =
    omega (arith, packages_end-after words k (package_end words at), functions_end-after words (get_or words (at + 1) 0) (at + 2))

module _ {words words' : List ℕ} {from s : ℕ} (moved : Moved words words' from s) where
  -- a package that lies in the list
  module _ (at to : ℕ) (l : from ≤ at) (m : package_end words at ≤ length words) (e : to ≡ at + s) where
    within : at + 2 ≤ length words
    within = omega (arith, functions_end-after words (get_or words (at + 1) 0) (at + 2))

    functions-count : get_or words' (to + 1) 0 ≡ get_or words (at + 1) 0
    functions-count = word_moved moved (at + 1) (to + 1) (omega arith) (omega (arith, within)) (omega arith)

    package_moved : package_at words' to ≡ package_at words at
    package_moved =
        rw (functions-count, word_moved moved at to l (omega (arith, within)) e)
        (ap (pkg (get_or words at 0)) (functions-moved moved (get_or words (at + 1) 0) (at + 2) (to + 2) (omega arith) m (omega arith)))

    package_end-moved : package_end words' to ≡ package_end words at + s
    package_end-moved = rw functions-count (functions_end-moved moved (get_or words (at + 1) 0) (at + 2) (to + 2) (omega arith) m (omega arith))

    package_after : from ≤ package_end words at
    package_after = omega (arith, functions_end-after words (get_or words (at + 1) 0) (at + 2))

  packages-moved : (k at to : ℕ) → from ≤ at → packages_end words at k ≤ length words → to ≡ at + s → packages_from words' to k ≡ packages_from words at k
  unfolding packages_from packages_end
  packages-moved zero at to l m e = refl
  packages-moved (suc k) at to l m e =
      let h : package_end words at ≤ length words = omega (arith, packages_end-after words k (package_end words at)) in
      ap₂ (λ p ps. p ∷ ps) (package_moved at to l h e)
      (packages-moved k (package_end words at) (package_end words' to) (package_after at to l h e) m (package_end-moved at to l h e))

  packages_end-moved : (k at to : ℕ) → from ≤ at → packages_end words at k ≤ length words → to ≡ at + s → packages_end words' to k ≡ packages_end words at k + s
  unfolding packages_end
  packages_end-moved zero at to l m e = e
  packages_end-moved (suc k) at to l m e =
      let h : package_end words at ≤ length words = omega (arith, packages_end-after words k (package_end words at)) in
      packages_end-moved k (package_end words at) (package_end words' to) (package_after at to l h e) m (package_end-moved at to l h e)

-- some packages, and those after them
packages-split : (words : List ℕ) (k m at : ℕ) → packages_from words at (k + m) ≡ packages_from words at k ++ packages_from words (packages_end words at k) m
unfolding packages_from packages_end
packages-split words zero m at = rw (zero-add m) refl
packages-split words (suc k) m at = rw (suc-add k m) (ap (λ ps. package_at words at ∷ ps) (packages-split words k m (package_end words at)))

-- ── A longer library ──

-- the packages as words, as `MorePackages` has them
abbrev pub package_words : List ℕ → List ℕ
package_words words = drop (packages_place words) words

module _ (t : Texts) (words words' pool packages : List ℕ) (count : ℕ) (fine : LibraryFine t words)
    (longer : words' ≡ (get_or words 0 0 + length pool) ∷ (get_or words 1 0 + count) ∷ (pool_of words ++ pool) ++ (package_words words ++ packages)) where
  pool-long : length (pool_of words) ≡ get_or words 0 0
  pool-long = simp (length-take, length-drop) (omega (arith, fine.pool_within))

  packages-long : length (package_words words) ≡ length words - packages_place words
  packages-long = length-drop (packages_place words) words

  front : List ℕ
  front = (get_or words 0 0 + length pool) ∷ (get_or words 1 0 + count) ∷ (pool_of words ++ pool)

  front_long : length front ≡ 2 + get_or words 0 0 + length pool
  unfolding front
  front_long = simp length-append (omega (arith, pool-long))

  longer-front : words' ≡ front ++ (package_words words ++ packages)
  unfolding front
  longer-front = longer

  -- the old package words
  word_kept : (k i j : ℕ) → packages_place words + k ≡ i → j ≡ length front + k → i < length words → get_or words' j 0 ≡ get_or words i 0
  word_kept k i j d e m =
      ap₂ (λ ws n. get_or ws n 0) longer-front e
      ∙ get_or-append-add front (package_words words ++ packages) k 0
      ∙ get_or-append (package_words words) packages 0 k (omega (arith, packages-long))
      ∙ get_or-drop (packages_place words) words k 0
      ∙ ap (λ n. get_or words n 0) d

  moved_by : Moved words words' (packages_place words) (length pool)
  moved_by = record { at = λ i l m. word_kept (i - packages_place words) i (i + length pool) (omega arith) (omega (arith, front_long)) m }

  -- THE LAW: the packages of the larger library begin with those of the smaller one.
  pub packages-kept : packages_of words' ≡ packages_of words ++ packages_from words' (length words + length pool) count
  unfolding packages_of
  packages-kept =
      let k : ℕ = get_or words 1 0 in
      let at : ℕ = packages_place words in
      let to : ℕ = 2 + (get_or words 0 0 + length pool) in
      let within : packages_end words at k ≤ length words = omega (arith, fine.ends) in
      ap₂ (λ p n. packages_from words' (2 + p) n) (ap (λ ws. get_or ws 0 0) longer) (ap (λ ws. get_or ws 1 0) longer)
      ∙ packages-split words' k count to
      ∙ ap₂ (λ ps n. ps ++ packages_from words' n count)
      (packages-moved moved_by k at to (omega arith) within (omega arith))
      (packages_end-moved moved_by k at to (omega arith) within (omega arith) ∙ ap (λ n. n + length pool) (sym fine.ends))
