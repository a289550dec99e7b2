-- Each return of the functions, over variables for what the calls gave. By rewriting with the tests. Assumes nothing.
use mathlib.Core.Path.{◌≡◌, refl, ap, ◌∙◌}
use mathlib.Core.List.{List, [], ◌∷◌, ◌++◌}
use mathlib.Core.Bool.{Bool, true, false}
use Prim.Native.Nat.{ℕ, ◌+◌, ◌*◌, ◌<◌, ◌≤◌, min}
use native.Mathlib.Omega.{arith}
use lib.Dec.{leb}
use lib.ListN.{get_or, set, length, drop, length-set}
use lib.Seq.{set-set, set-get_or}
use borrow.Author.Tests.{le-leb, lt-leb}
use Rattle.tok.specs.Word.{word_of}
use Rattle.tok.specs.Text.{Texts}
use Rattle.tok.specs.Step.{Step, Refusal, ok, refused, refusal, when}
use Rattle.ptype.specs.Add.{Buffer, buffer, overwrite, write, append, add_type, add_wrap}
use Rattle.std.specs.Prelude.{Ok, Err}
use Rattle.add.specs.declared.AddError.{AddError}
use Rattle.add.specs.declared.AddError.TheVariants.{Full, TooDeep}
use Rattle.add.specs.declared.Arena.{Arena}
use Rattle.add.specs.Answer.{number_of, buffer_of, Adds}
use Rattle.add.specs.Parts.{opened, shallow, measured}
use Rattle.add.specs.Pool.{copy_pool, Copies}
use Rattle.add.specs.WriteLaws.{write-one}

-- an answer with a word; one that refuses, and leaves the words as they were
module _ {step : Texts → ℕ → Step Buffer Refusal ℕ} {a a' : Arena} (g : a'.words.ghost_name ≡ a.words.ghost_name) {l : List ℕ} (e : a'.words.now ≡ l)
    (k : length l ≡ length a.words.now) where
  adds-put : {w u : ℕ} → a'.used ≡ u → ((t : Texts) (n : ℕ) → step t n (buffer_of a) ≡ ok w (buffer l u)) → Adds step a (Ok w) a'
  adds-put eu h = record { allocates = record { lent = g; keeps = ap length e ∙ k; result = λ t n. rw (e, eu) (h t n) }; words = λ t n. rw (h t n) e; used = tt }

  adds-err : {x : AddError} → l ≡ a.words.now → a'.used ≡ a.used → ((t : Texts) (n : ℕ) → step t n (buffer_of a) ≡ refused (refusal (number_of x) n)) → Adds step a (Err x) a'
  adds-err o eu h = record { allocates = record { lent = g; keeps = ap length e ∙ k; result = h }; words = λ t n. rw (h t n) (e ∙ o); used = eu }

module _ (a : Arena) (kind inner : ℕ) {room : ℕ} (hr : room ≡ min (length a.words.now) 8192) where
  pub wrap-full : {a' : Arena} → a'.words.ghost_name ≡ a.words.ghost_name → a'.words.now ≡ a.words.now → a'.used ≡ a.used → room ≤ a.used → Adds (λ t n. add_wrap t n kind inner) a (Err Full) a'
  unfolding add_wrap add_type when
  wrap-full g e eu h = adds-err g e refl refl eu (λ t n. rw (lt-leb (a.used + 1) (min (length a.words.now) 8192) (omega arith)))

  module _ {word : ℕ} {q : Bool} (h : a.used < room) (hw : word ≡ word_of kind a.used) (hq : (t : Texts) → q ≡ shallow t (set a.words.now a.used inner) word) where
    wrap-is : (t : Texts) (n : ℕ) → add_wrap t n kind inner (buffer_of a)
        ≡ when q (λ _. ok word (buffer (set a.words.now a.used inner) (a.used + 1))) (λ _. refused (refusal 8 n)) (buffer_of a)
    unfolding add_wrap add_type when append
    wrap-is t n = rw (le-leb (a.used + 1) (min (length a.words.now) 8192) (omega arith), write-one, ← hw, ← hq t)

    pub wrap-put : {a' : Arena} → a'.words.ghost_name ≡ a.words.ghost_name → q ≡ true → a'.words.now ≡ set a.words.now a.used inner → a'.used ≡ a.used + 1
        → Adds (λ t n. add_wrap t n kind inner) a (Ok word) a'
    unfolding when
    wrap-put g p e eu = adds-put g e (length-set _ _ _) eu (λ t n. wrap-is t n ∙ rw p)

    pub wrap-deep : {a' : Arena} → a'.words.ghost_name ≡ a.words.ghost_name → q ≡ false → a'.words.now ≡ set (set a.words.now a.used inner) a.used (get_or a.words.now a.used 0)
        → a'.used ≡ a.used → Adds (λ t n. add_wrap t n kind inner) a (Err TooDeep) a'
    unfolding when
    wrap-deep g p e eu = adds-err g (e ∙ rw (set-set, set-get_or)) refl refl eu (λ t n. wrap-is t n ∙ rw p)

module _ (a : Arena) (fields : ℕ) {room : ℕ} {q : Bool} (hr : room ≡ min (length a.words.now) 8192) (hq : q ≡ leb (a.used + (1 + 2 * fields)) room)
    {a' : Arena} (g : a'.words.ghost_name ≡ a.words.ghost_name) where
  pub open_full : a'.words.now ≡ a.words.now → a'.used ≡ a.used → q ≡ false → Adds (λ t n. opened n fields) a (Err Full) a'
  unfolding opened when
  open_full e eu p = adds-err g e refl refl eu (λ t n. rw (← hr, ← hq, p))

  pub open_put : {word : ℕ} → q ≡ true → word ≡ word_of 8 a.used → a'.words.now ≡ set a.words.now a.used fields → a'.used ≡ a.used + (1 + 2 * fields)
      → Adds (λ t n. opened n fields) a (Ok word) a'
  unfolding opened when
  open_put p hw e eu = adds-put g e (length-set _ _ _) eu (λ t n. rw (← hr, ← hq, p, write-one, ← hw))

module _ (l : List ℕ) (w u : ℕ) {q : Bool} (hq : (t : Texts) → q ≡ shallow t l w) (t : Texts) (n : ℕ) where
  pub close_put : q ≡ true → measured t n w (buffer l u) ≡ ok w (buffer l u)
  unfolding measured when
  close_put p = rw (← hq t, p)

  pub close_deep : q ≡ false → measured t n w (buffer l u) ≡ refused (refusal 8 n)
  unfolding measured when
  close_deep p = rw (← hq t, p)

-- what is written over a list that is long enough stands before the rest of it
over-front : (old new : List ℕ) → length new ≤ length old → overwrite old new ≡ new ++ drop (length new) old
unfolding overwrite
over-front [] [] h = refl
over-front [] (y ∷ ys) h = absurd (omega arith)
over-front (x ∷ xs) [] h = refl
over-front (x ∷ xs) (y ∷ ys) h = ap (λ l. y ∷ l) (over-front xs ys (omega arith))

-- copying
module _ (pool old : List ℕ) where
  module _ {room : ℕ} (hr : room ≡ min (length old) 8192) where
    pub copy_full : room < length pool → Copies pool old false old
    unfolding copy_pool when
    copy_full h = record { result = is; words = λ n used. rw (is n used) }
      where
        is : (n used : ℕ) → copy_pool n pool (buffer old used) ≡ refused (refusal 7 n)
        is n used = rw (lt-leb (length pool) (min (length old) 8192) (omega arith))

    pub copy_all : length pool ≤ room → Copies pool old true (pool ++ drop (length pool) old)
    unfolding copy_pool when write
    copy_all h = rw (← over-front old pool (omega arith)) (record { result = is; words = λ n used. rw (is n used) })
      where
        is : (n used : ℕ) → copy_pool n pool (buffer old used) ≡ ok tt (buffer (write old 0 pool) (length pool))
        is n used = rw (le-leb (length pool) (min (length old) 8192) (omega arith))
