-- Refusal 2: a library that agrees with a refused one up to and including the offending word is refused at the same word. A pool word's rule
-- asks only pool words before it; the rules of packages are asked where the pool stands whole before them. Assumes nothing.
use Prim.Native.Nat.{ℕ, zero, suc, ◌+◌, ◌*◌, ◌≤◌, ◌<◌}
use Rattle.std.specs.Prelude.{cond, ◌≡◌, List, [], ◌∷◌, ◌++◌, length, take, leb, ltb, eqb}
use Rattle.std.proofs.Math.Path.{refl, ap}
use Rattle.std.proofs.Common.{sym, arith, length-take-le, take-take, lt-ltb, le-ltb}
use Rattle.std.proofs.Math.Option.{none, some}
use Rattle.std.proofs.Math.Decide.{dec_lt}
use Rattle.tok.specs.Word.{kind_of, payload_of}
use Rattle.tok.specs.Text.{Texts}
use Rattle.tok.specs.Step.{next, ◌>>=◌, return}
use Rattle.tok.specs.Reader.{Read, many, start, ends, most_bytes}
use Rattle.reader.specs.Reading.{standing}
use Rattle.library.specs.Pool.{Pool, good_named, good_type, fields, good_pool_word, pairs_after, pool_from}
use Rattle.library.specs.Package.{Function, Package}
use Rattle.library.specs.PackageRecords.{argument, function_record, function_records, package_record}
use Rattle.library.specs.LibraryFault.{pool_read, library, library_read, library_fault}
use Rattle.certain.specs.Forward.{Onward, onward-return, onward_then, onward-word, Agree, Alike, both, ForwardTo, Forward, alike_then, alike-map, alike-word, forward-return}
use Rattle.certain.specs.Forward.{forward-then, forward-many, forward-word, forward-ends, PlaceIn, place_in, alike-fault, alike-after, long-fault, long-place, long_after}
use Rattle.certain.specs.LibraryCertain.{pool-same, wrapped_same, record_same}

-- ── Packages: one pool for both ──

module _ {k : ℕ} {words words' : List ℕ} (agree : Agree k words words') (p : Pool) where
  argument-forward : (flag : ℕ) → Forward k words words' (argument p flag)
  unfolding argument
  argument-forward flag = forward-then _ _ (forward-word agree _ _) λ n. forward-then _ _ (forward-word agree _ _) λ t. forward-return _

  function-forward : (before : List Function) → Forward k words words' (function_record p before)
  unfolding function_record
  function-forward before =
      forward-then _ _ (forward-word agree _ _) λ group.
      forward-then _ _ (forward-word agree _ _) λ flag.
      forward-then _ _ (forward-word agree _ _) λ count.
      forward-then _ _ (forward-many count _ (argument-forward flag)) λ args.
      forward-then _ _ (forward-word agree _ _) λ ret. forward-return _

  functions-forward : (count : ℕ) (before : List Function) → Forward k words words' (function_records p count before)
  unfolding function_records
  functions-forward zero before = forward-return before
  functions-forward (suc count) before = forward-then _ _ (function-forward before) λ f. functions-forward count (before ++ (f ∷ []))

  package_forward : Forward k words words' (package_record p)
  unfolding package_record
  package_forward =
      forward-then _ _ (forward-word agree _ _) λ n.
      forward-then _ _ (forward-word agree _ _) λ count.
      forward-then _ _ (functions-forward count []) λ fs. forward-return _

-- ── The pool is read forward ──

module _ (p : Pool) where
  fields-onward : (n i : ℕ) → Onward (fields p n i)
  unfolding fields
  fields-onward zero i = onward-return i
  fields-onward (suc n) i = onward_then _ _ (onward-word _ _) λ _. onward_then _ _ (onward-word _ _) λ _. fields-onward n (i + 2)

  pool-onward : (turns i : ℕ) → Onward (pool_from p turns i)
  unfolding pool_from
  pool-onward zero i = onward-return tt
  pool-onward (suc turns) i = elim (dec_lt i p.size) [
    | yes l ↦ rw (lt-ltb i p.size l) (onward_then _ _ (onward-word _ _) λ w. onward_then _ _ (fields-onward (pairs_after w) (i + 1)) λ j. pool-onward turns j)
    | no l ↦ rw (le-ltb i p.size (omega arith)) (onward-return tt)
  ]

module _ {k : ℕ} {words words' : List ℕ} (agree : Agree k words words') (t : Texts) (size : ℕ) where
  abbrev pool : Pool
  pool = pool_read t words size

  abbrev pool' : Pool
  pool' = pool_read t words' size

  module _ (own w : ℕ) (low : own + 2 ≤ k) where
    type-same : good_type pool' own w ≡ good_type pool own w
    unfolding good_type good_named
    type-same = rw (wrapped_same agree t size own w low, record_same agree t size own w low) refl

    head-same : good_pool_word pool' own w ≡ good_pool_word pool own w
    unfolding good_pool_word
    head-same = ap (cond (eqb (kind_of w) 0) (leb (own + 1 + 2 * payload_of w) size)) type-same

  -- pairs from index i on, which stands at word i + 2
  fields-alike : (n i at least : ℕ) → at ≡ i + 2 → at ≤ k
      → Alike k words words' (λ j to. (to ≡ j + 2) × (i ≤ j)) (fields pool n i (standing words at least)) (fields pool' n i (standing words' at least))
  unfolding fields
  fields-alike zero i at least e l = both i at least l (e, omega arith)
  fields-alike (suc n) i at least e l =
      alike_then _ _ (alike-word agree _ _ _ at least l (λ _ w. refl)) (λ _ at₁ least₁ l₁ e₁.
      alike_then _ _ (alike-word agree _ _ _ at₁ least₁ l₁ (λ h w. type-same (i + 1) w (omega arith))) (λ _ at₂ least₂ l₂ e₂.
      alike-map (λ j to q. (q.0, omega (arith, q.1))) (fields-alike n (i + 2) at₂ least₂ (omega arith) l₂))
      (λ _. fields-onward pool n (i + 2)))
      (λ _. onward_then _ _ (onward-word _ _) λ _. fields-onward pool n (i + 2))

  pool-alike : (turns i at least : ℕ) → at ≡ i + 2 → at ≤ k → size ≤ i + turns
      → Alike k words words' (λ _ to. size + 2 ≤ to) (pool_from pool turns i (standing words at least)) (pool_from pool' turns i (standing words' at least))
  unfolding pool_from
  pool-alike zero i at least e l h = both tt at least l (omega arith)
  pool-alike (suc turns) i at least e l h = elim (dec_lt i size) [
    | yes m ↦
        rw (lt-ltb i size m)
        (alike_then _ _ (alike-word agree (good_pool_word pool i) (good_pool_word pool' i) _ at least l (λ b w. head-same i w (omega arith))) (λ w at₁ least₁ l₁ e₁.
        alike_then _ _ (fields-alike (pairs_after w) (i + 1) at₁ least₁ (omega arith) l₁) (λ j at₂ least₂ l₂ q.
        let low = q.1 in
        pool-alike turns j at₂ least₂ q.0 l₂ (omega arith))
        (λ j. pool-onward pool turns j))
        (λ w. onward_then _ _ (fields-onward pool (pairs_after w) (i + 1)) λ j. pool-onward pool turns j))
    | no m ↦ rw (le-ltb i size (omega arith)) (both tt at least l (omega arith))
  ]

-- ── The library ──

-- what follows the pool
abbrev after_pool : Pool → ℕ → Read (List Package)
after_pool p count = ◌>>=◌ (many count (package_record p)) (λ packages. ◌>>=◌ ends (λ _. return packages))

module _ {k : ℕ} {words words' : List ℕ} (agree : Agree k words words') (t : Texts) where
  after-forward : (p : Pool) (count : ℕ) → ForwardTo k words words' (λ to. length words' ≤ to) (after_pool p count)
  after-forward p count = forward-then _ _ (forward-many count _ (package_forward agree p)) λ packages. forward-ends agree packages

  pool-after : (size count : ℕ) → Onward (◌>>=◌ (pool_from (pool_read t words size) size 0) (λ _. after_pool (pool_read t words size) count))
  pool-after size count = onward_then _ _ (pool-onward (pool_read t words size) size 0) λ _. (after-forward (pool_read t words size) count).onward

  -- the pool of the one list, and of the other, with what follows
  pool-then : (size count at least : ℕ) → at ≡ 2 → at ≤ k
      → Alike k words words' (λ _ to. length words' ≤ to) (next (pool_from (pool_read t words size) size 0 (standing words at least)) (λ _. after_pool (pool_read t words size) count))
      (next (pool_from (pool_read t words' size) size 0 (standing words' at least)) (λ _. after_pool (pool_read t words' size) count))
  pool-then size count at least e l =
      alike_then _ _ (pool-alike agree t size size 0 at least (omega arith) l (omega arith)) (λ _ at₁ least₁ l₁ h.
      rw (pool-same agree t size (omega arith)) ((after-forward (pool_read t words size) count).alike at₁ least₁ l₁))
      (λ _. (after-forward (pool_read t words size) count).onward)

  library-alike : Alike k words words' (λ _ to. length words' ≤ to) (library t words (start 2 words)) (library t words' (start 2 words'))
  unfolding library
  library-alike =
      alike_then _ _ (alike-word agree _ _ _ 0 2 (omega arith) (λ _ w. refl)) (λ size at₁ least₁ l₁ e₁.
      alike_then _ _ (alike-word agree _ _ _ at₁ least₁ l₁ (λ _ w. refl)) (λ count at₂ least₂ l₂ e₂.
      pool-then size count at₂ least₂ (omega arith) l₂)
      (λ count. pool-after size count))
      (λ size. onward_then _ _ (onward-word _ _) λ count. pool-after size count)

  library-onward : Onward (library t words)
  unfolding library
  library-onward = onward_then _ _ (onward-word _ _) λ size. onward_then _ _ (onward-word _ _) λ count. pool-after size count

-- THE LAWS: the words up to and including the offending word decide it.
pub library_certain : (t : Texts) (words words' : List ℕ) (p : ℕ) → library_fault t words ≡ some p → take (p + 1) words' ≡ take (p + 1) words → library_fault t words' ≡ some p
unfolding library_fault library_read
library_certain t words words' p e a =
    let agree : Agree (p + 1) words words' = record { front = a } in
    long-fault _ _ p (ltb most_bytes (length t.library)) (alike-fault p (omega arith) (library-alike agree t)) e

-- It is a word of the library or the library's length, and no later than word 8,192.
pub library-place_in : (t : Texts) (words : List ℕ) (p : ℕ) → library_fault t words ≡ some p → PlaceIn words p
unfolding library_fault library_read
library-place_in t words p e =
    let agree : Agree 0 words words = record { front = refl } in
    long-place _ words p (ltb most_bytes (length t.library)) (place_in words p ((library-onward agree t).inside (length words) (start 2 words) (omega arith) (omega arith))) e

-- Where the first n words are an accepted library, a word after them offends, the first. So, with n = 8,192, "a buffer over 8,192 words
-- offends at word 8,192".
pub library-after : (t : Texts) (words : List ℕ) (n : ℕ) → n < length words → library_fault t (take n words) ≡ none → library_fault t words ≡ some n
unfolding library_fault library_read
library-after t words n l e =
    let agree : Agree n (take n words) words = record { front = sym (take-take n n words (omega arith)) } in
    let long : length (take n words) ≡ n = length-take-le n words (omega arith) in
    long_after _ _ n (ltb most_bytes (length t.library))
    (alike-after (sym long) l ((library-onward agree t).inside (length (take n words)) (start 2 (take n words)) (omega arith) (omega arith)) (library-alike agree t)) e
