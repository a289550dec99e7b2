-- The words of a library are owed by its counts, each: so a library within the limit has its fault before word 8,192, and one that offends at
-- word 8,192 is an accepted library of 8,192 words with more after it. Assumes nothing.
use Prim.Native.Nat.{ℕ, zero, suc, ◌+◌, ◌*◌, ◌-◌, ◌≤◌, ◌<◌}
use Rattle.std.specs.Prelude.{true, ◌≡◌, refl, List, [], ◌∷◌, ◌++◌, length, ltb}
use Rattle.std.proofs.Math.Option.{some}
use Rattle.std.proofs.Common.{arith, lt-ltb, le-ltb, eq-eqb, ne_eqb, leb-true}
use Rattle.std.proofs.Math.Decide.{dec_lt, ℕ_discrete}
use Rattle.tok.specs.Word.{kind_of}
use Rattle.tok.specs.Text.{Texts}
use Rattle.tok.specs.Reader.{start, most_words, most_bytes}
use Rattle.library.specs.Pool.{Pool, fields, good_pool_word, pairs_after, pool_from}
use Rattle.library.specs.Package.{Function}
use Rattle.library.specs.PackageRecords.{argument, function_record, function_records, package_record}
use Rattle.library.specs.LibraryFault.{pool_read, library, library_read, library_fault}
use Rattle.certain.specs.Owed.{Owed, OwedTo, owed_as, owed-return, owed-then, owing-then, owed-word, owed-pairs, owed-ends, paid-fault, GoesOn, goes_on}
use Rattle.certain.proofs.LibraryCertain.{library_certain}

-- ── The pool ──

module _ (p : Pool) where
  fields-owed : (n i end : ℕ) → end ≡ i + 2 * n → OwedTo (2 * n) (λ j. j ≡ end) (fields p n i)
  unfolding fields
  fields-owed zero i end e = owed-return i (omega arith)
  fields-owed (suc n) i end e =
      owed_as (suc (suc (2 * n))) (2 * suc n) (omega arith) (owed-word (suc (2 * n)) _ _ λ _ _. owed-word (2 * n) _ _ λ _ _. fields-owed n (i + 2) end (omega arith))

  -- "The pairs stand in the pool too."
  pairs-within : (i w : ℕ) → good_pool_word p i w ≡ true → i < p.size → i + 1 + 2 * pairs_after w ≤ p.size
  unfolding good_pool_word
  pairs-within i w e l = elim (ℕ_discrete (kind_of w) 0) [
    | yes z ↦
        let h = rw (eq-eqb (kind_of w) 0 z) at e in
        rw (eq-eqb (kind_of w) 0 z) (leb-true _ _ h)
    | no z ↦ rw (ne_eqb (kind_of w) 0 z) (omega arith)
  ]

  pool-owed : (turns i : ℕ) → i ≤ p.size → p.size ≤ i + turns → Owed (p.size - i) (pool_from p turns i)
  unfolding pool_from
  pool-owed zero i l h = owed_as 0 (p.size - i) (omega arith) (owed-return tt tt)
  pool-owed (suc turns) i l h = elim (dec_lt i p.size) [
    | yes m ↦
        rw (lt-ltb i p.size m)
        (owed_as (suc (p.size - i - 1)) (p.size - i) (omega arith)
        (owed-word (p.size - i - 1) _ _ λ w g.
        let k : ℕ = pairs_after w in
        let end : ℕ = i + 1 + 2 * k in
        let b : end ≤ p.size = pairs-within i w g m in
        owed_as (2 * k + (p.size - end)) (p.size - i - 1) (omega arith)
        (owed-then (2 * k) (p.size - end) _ _ (fields-owed k (i + 1) end refl) λ j e. rw e (pool-owed turns end b (omega arith)))))
    | no m ↦ rw (le-ltb i p.size (omega arith)) (owed_as 0 (p.size - i) (omega arith) (owed-return tt tt))
  ]

  -- ── Packages ──

  argument-owed : (flag : ℕ) → Owed 2 (argument p flag)
  unfolding argument
  argument-owed flag = owed-word 1 _ _ λ n _. owed-word 0 _ _ λ t _. owed-return _ tt

  function-owed : (before : List Function) → Owed 4 (function_record p before)
  unfolding function_record
  function-owed before =
      owed-word 3 _ _ λ group _. owed-word 2 _ _ λ flag _. owing-then 1 _ _ _ λ count _.
      owed_as (2 * count + 1) (1 + 2 * count) (omega arith)
      (owed-then (2 * count) 1 _ _ (owed-pairs count _ (argument-owed flag)) λ args _. owed-word 0 _ _ λ ret _. owed-return _ tt)

  functions-owed : (count : ℕ) (before : List Function) → Owed (4 * count) (function_records p count before)
  unfolding function_records
  functions-owed zero before = owed-return before tt
  functions-owed (suc count) before =
      owed_as (4 + 4 * count) (4 * suc count) (omega arith) (owed-then 4 (4 * count) _ _ (function-owed before) λ f _. functions-owed count (before ++ (f ∷ [])))

  package_owed : Owed 2 (package_record p)
  unfolding package_record
  package_owed =
      owed-word 1 _ _ λ n _. owing-then 0 _ _ _ λ count _.
      owed_as (4 * count + 0) (0 + 4 * count) (omega arith) (owed-then (4 * count) 0 _ _ (functions-owed count []) λ fs _. owed-return _ tt)

-- ── The library ──

library-owed : (t : Texts) (words : List ℕ) → Owed 2 (library t words)
unfolding library
library-owed t words =
    owing-then 1 _ _ _ λ size _.
    owed_as (suc size) (1 + size) (omega arith)
    (owing-then size _ _ _ λ count _.
    let p : Pool = pool_read t words size in
    owed_as (size - 0 + (2 * count + 0)) (size + 2 * count) (omega arith)
    (owed-then (size - 0) (2 * count + 0) _ _ (pool-owed p size 0 (omega arith) (omega arith)) λ _ _.
    owed-then (2 * count) 0 _ _ (owed-pairs count _ (package_owed p)) λ packages _.
    owed-then 0 0 _ _ owed-ends λ _ _. owed-return packages tt))

-- THE LAWS: a library within the limit has its fault before word 8,192.
pub library-before : (t : Texts) (words : List ℕ) (p : ℕ) → length words ≤ most_words → library_fault t words ≡ some p → p < most_words
unfolding library_fault library_read
library-before t words p l e =
    paid-fault _ p (ltb most_bytes (length t.library)) ((library-owed t words).pays 0 (start 2 words) (record { owed = omega arith; in_most = omega arith; in_list = omega arith })) e

-- At word 8,192 a library offends only if its first 8,192 words are an accepted library, and a word follows.
pub library-goes-on : (t : Texts) (words : List ℕ) → library_fault t words ≡ some most_words → GoesOn (library_fault t) words
library-goes-on t words e = goes_on (library_fault t) (library_certain t) (library-before t) words e
