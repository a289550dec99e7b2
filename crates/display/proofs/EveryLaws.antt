-- Words at even steps: all words of a list, and the types of a signature's arguments; and the turn and the end of `show_every`'s loop. Assumes nothing.
use Prim.Native.Nat.{ℕ, zero, suc, ◌+◌, ◌-◌, ◌≤◌, ◌<◌}
use mathlib.Core.Path.{◌≡◌, refl, sym}
use mathlib.Core.List.{List, [], ◌++◌, map}
use native.Mathlib.Numerals.{add-one}
use native.Mathlib.Omega.{arith}
use lib.ListN.{length, get_or, drop, drop_of_length-le}
use lib.Seq.{drop-cons}
use Rattle.tok.specs.Text.{Texts, text}
use Rattle.ptype.specs.Ty.{Ty}
use Rattle.ptype.specs.Words.{fields_from, ty_of}
use Rattle.ptype.specs.Show.{show}
use Rattle.display.specs.Joined.{sig, separated}
use Rattle.display.specs.JoinedLaws.{joined_after, joined-start, joined-turn, joined_end}
use Rattle.display.specs.Signature.{arg_types, args_of}
use Rattle.display.specs.Every.{every}

module _ (go : ℕ → Ty) (words : List ℕ) where
  every-from : (i k : ℕ) → i + k ≡ length words → every go words i 1 k ≡ map go (drop i words)
  unfolding every
  every-from i zero e = rw (drop_of_length-le words {i = i} (omega arith))
  every-from i (suc k) e = rw (drop-cons words i 0 (omega arith), every-from (i + 1) k (omega arith), add-one)

  pub every-word : every go words 0 1 (length words) ≡ map go words
  every-word = every-from 0 (length words) (omega arith)

  pub every-argument : (t : Texts) (i k : ℕ) → every go words (i + 1) 2 k ≡ arg_types (fields_from go t words i k)
  unfolding every arg_types fields_from
  every-argument t i zero = refl
  every-argument t i (suc k) =
      let e : i + 1 + 2 ≡ i + 2 + 1 = omega arith in
      rw (e, every-argument t (i + 2) k)

  -- ---- the loop: `done` types are written, those from index i on are owed
  abbrev pub owed : (i step count done : ℕ) → List ℕ
  owed i step count done = joined_after done (text ", ") (map show (every go words i step (count - done)))

  pub every-start : (i step count : ℕ) → sig (every go words i step count) ≡ owed i step count 0
  unfolding sig
  every-start i step count = let e : count - 0 ≡ count = omega arith in rw e (sym (joined-start _ _))

  pub every-turn : (i step : ℕ) {count done w : ℕ} → done < count → w ≡ get_or words i 0 → owed i step count done ≡ separated done (text ", ") ++ show (go w) ++ owed (i + step) step count (done + 1)
  unfolding every
  every-turn i step {count} {done} h e =
      let k : count - done ≡ suc (count - (done + 1)) = omega arith in
      rw (k, e) (joined-turn done (text ", ") (show (go (get_or words i 0))) (map show (every go words (i + step) step (count - (done + 1)))))

  pub every-end : (i step : ℕ) {count done : ℕ} → count ≤ done → owed i step count done ≡ []
  unfolding every
  every-end i step {count} {done} h =
      let k : count - done ≡ 0 = omega arith in
      rw k (joined_end done (text ", "))

-- the types of a signature's arguments, whose count was read
pub arguments : (t : Texts) (types words : List ℕ) {a n : ℕ} → a ≡ get_or words 0 0 → n ≡ a → sig (arg_types (args_of t types words)) ≡ sig (every (ty_of t types) words 2 2 n)
arguments t types words ea en = rw (en, ea, every-argument (ty_of t types) words t 1)
