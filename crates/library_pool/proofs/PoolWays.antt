-- Reading fields and the pool as the code's loops do: what is left to read is read from where the loop stands. Assumes nothing.
use Prim.Native.Nat.{ℕ, zero, suc, ◌+◌, ◌*◌, ◌-◌, ◌≤◌, ◌<◌}
use mathlib.Core.Path.{◌≡◌, refl, sym, ap, ◌∙◌}
use mathlib.Core.Bool.{Bool}
use mathlib.Core.List.{List, []}
use native.Mathlib.Omega.{arith}
use borrow.Author.Tests.{lt-ltb, le-ltb}
use Rattle.std.specs.Prelude.{Result, Ok, Err}
use Rattle.tok.specs.Text.{texts_of}
use Rattle.tok.specs.Step.{◌>>=◌, return}
use Rattle.tok.specs.Reader.{word}
use Rattle.reader.specs.declared.Fault.{Fault}
use Rattle.reader.specs.Reading.{Reader, next_word, onward, gave, Comes}
use Rattle.reader.specs.Laws.{owed}
use Rattle.library.specs.Pool.{Pool, pool_at, good_type, name, fields, good_pool_word, pairs_after, pool_from}

-- ── The fields: k of n are read ──

module _ (p : Pool) (n k i : ℕ) where
  -- one pair, then those after it
  pub fields_some : k < n → fields p (n - k) (i + 2 * k) ≡ (do
    _ ← name p
    _ ← word (good_type p (i + 2 * k + 1))
    fields p (n - (k + 1)) (i + 2 * (k + 1)))
  unfolding fields
  fields_some h =
      let s : n - k ≡ suc (n - (k + 1)) = omega arith in
      let m : i + 2 * (k + 1) ≡ i + 2 * k + 2 = omega arith in
      rw (s, m) refl

  pub fields_none : n ≤ k → k ≤ n → fields p (n - k) (i + 2 * k) ≡ return (i + 2 * n)
  unfolding fields
  fields_none h g =
      let s : n - k ≡ 0 = omega arith in
      let m : k ≡ n = omega arith in
      rw (s, m) refl

  -- a pair is read
  pub fields-turn : k < n → (to at next : Reader) → Comes to (name p) (next_word to) (Ok at)
      → Comes at (word (good_type p (i + 2 * k + 1))) (next_word at) (Ok next)
      → onward to (fields p (n - k) (i + 2 * k)) ≡ onward next (fields p (n - (k + 1)) (i + 2 * (k + 1)))
  unfolding gave
  fields-turn h to at next e f = rw (fields_some h, e.0, f.0) refl

-- ── The pool ──

module _ (p : Pool) (turns i : ℕ) (l : i < p.size) (to : Reader) (w : ℕ) where
  abbrev Head : Result Reader Fault → Type 0
  Head r = onward to (word (good_pool_word p i)) ≡ gave w r

  module _ (at : Reader) (head : Head (Ok at)) (j : ℕ) where
    pool_some : (next : Reader) → onward at (fields p (pairs_after w) (i + 1)) ≡ gave j (Ok next)
        → onward to (pool_from p (suc turns) i) ≡ onward next (pool_from p turns j)
    unfolding pool_from gave
    pool_some next f = rw (lt-ltb i p.size l, head, f) refl

    fields_stop : (fault : Fault) → onward at (fields p (pairs_after w) (i + 1)) ≡ gave j (Err fault)
        → onward to (pool_from p (suc turns) i) ≡ gave tt (Err fault)
    unfolding pool_from gave
    fields_stop fault f = rw (lt-ltb i p.size l, head, f) refl

  head_stops : (fault : Fault) → Head (Err fault) → onward to (pool_from p (suc turns) i) ≡ gave tt (Err fault)
  unfolding pool_from gave
  head_stops fault f = rw (lt-ltb i p.size l, f) refl

pool_none : (p : Pool) (turns i : ℕ) (to : Reader) → p.size ≤ i → onward to (pool_from p turns i) ≡ gave tt (Ok to)
unfolding pool_from gave
pool_none p zero i to l = refl
pool_none p (suc turns) i to l = rw (le-ltb i p.size l) refl

-- The loop over the pool: the next word is at index i, and no more than `turns` heads are left.
pub record PoolLeft (library pool : List ℕ) (size : ℕ) (from to : Reader) (i : ℕ) : Type 0 where
  pub turns : ℕ
  pub enough : size ≤ i + turns
  pub same : to.words ≡ from.words
  pub rest : (script : List ℕ)
      → onward to (pool_from (pool_at (texts_of script library) size pool) turns i) ≡ onward from (pool_from (pool_at (texts_of script library) size pool) size 0)

module _ {library pool : List ℕ} {size : ℕ} {from : Reader} where
  pub pool-begin : PoolLeft library pool size from from 0
  pool-begin = record { turns = size; enough = omega arith; same = refl; rest = λ s. refl }

  module _ {to : Reader} {i : ℕ} (h : PoolLeft library pool size from to i) where
    -- the pool, beside a script
    abbrev beside : List ℕ → Pool
    beside script = pool_at (texts_of script library) size pool

    abbrev FieldsCome : Reader → ℕ → Result Reader Fault → Type 0
    FieldsCome at n r = (script : List ℕ) (z : ℕ) → Comes at (fields (pool_at (texts_of script library) z pool) n (i + 1)) (i + 1 + 2 * n) r

    from-here : (script : List ℕ) → i < size → onward from (pool_from (beside script) size 0) ≡ onward to (pool_from (beside script) (suc (h.turns - 1)) i)
    from-here script l =
        let s : h.turns ≡ suc (h.turns - 1) = omega (arith, h.enough) in
        sym (rw s at (h.rest script))

    module _ (l : i < size) (w : ℕ) (good : Bool) (ew : w ≡ next_word to) (eg : (script : List ℕ) → good ≡ good_pool_word (beside script) i w) where
      head-by : (script : List ℕ) (r : Result Reader Fault) → onward to (word (λ _. good)) ≡ gave (next_word to) r
          → onward to (word (good_pool_word (beside script) i)) ≡ gave w r
      head-by script r read = owed (good_pool_word (beside script) i) (λ _. 0) to r w 0 good ew (eg script) refl read

      pub pool-head_stops : (fault : Fault) → Comes to (word (λ _. good)) (next_word to) (Err fault)
          → (script : List ℕ) → Comes from (pool_from (beside script) size 0) tt (Err fault)
      pool-head_stops fault read script = (from-here script l ∙ head_stops (beside script) (h.turns - 1) i l to w fault (head-by script (Err fault) read.0), tt)

      module _ (at : Reader) (read : Comes to (word (λ _. good)) (next_word to) (Ok at)) (n : ℕ) (en : n ≡ pairs_after w) where
        fields-read : (script : List ℕ) (r : Result Reader Fault) → FieldsCome at n r
            → onward at (fields (beside script) (pairs_after w) (i + 1)) ≡ gave (i + 1 + 2 * n) r
        fields-read script r g = ap (λ k. onward at (fields (beside script) k (i + 1))) (sym en) ∙ (g script size).0

        pub pool-fields_stop : (fault : Fault) → FieldsCome at n (Err fault) → (script : List ℕ) → Comes from (pool_from (beside script) size 0) tt (Err fault)
        pool-fields_stop fault g script =
            (from-here script l ∙ fields_stop (beside script) (h.turns - 1) i l to w at (head-by script (Ok at) read.0) (i + 1 + 2 * n) fault (fields-read script (Err fault) g), tt)

        pub pool-turn : (next : Reader) → FieldsCome at n (Ok next) → PoolLeft library pool size from next (i + (1 + 2 * n))
        pool-turn next g =
            let j : i + (1 + 2 * n) ≡ i + 1 + 2 * n = omega arith in
            record {
              turns = h.turns - 1;
              enough = omega (arith, h.enough);
              same = (g [] 0).1 ∙ read.1 ∙ h.same;
              rest = λ script.
                  rw j (sym (from-here script l ∙ pool_some (beside script) (h.turns - 1) i l to w at (head-by script (Ok at) read.0) (i + 1 + 2 * n) next (fields-read script (Ok next) g)));
            }

    pub pool-done : size ≤ i → (script : List ℕ) → Comes from (pool_from (beside script) size 0) tt (Ok to)
    pool-done l script = (sym (h.rest script) ∙ pool_none (beside script) h.turns i to l, h.same)
