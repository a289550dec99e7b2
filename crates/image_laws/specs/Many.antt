-- The same rule read again and again (tok: `many`), by place. Assumes nothing.
use Prim.Native.Nat.{ℕ, zero, suc, ◌+◌, ◌*◌, ◌<◌}
use Rattle.std.specs.Prelude.{◌≡◌, List, [], ◌∷◌}
use Rattle.std.proofs.Common.{le_of_suc-le-suc, not-suc-le-zero, arith}
use Rattle.std.proofs.Math.Nat.{mul-suc, mul-zero}
use Rattle.tok.specs.Reader.{Read, many}
use Rattle.reader.specs.Reading.{standing}
use Rattle.reader.specs.Reads.{Within, Reads, reads, reads_then, reads_to}

-- what holds at k places, each `step` after the one before
pub record Each (P : ℕ → Type 0) (step at k : ℕ) : Type 0 where
  pub each : (i : ℕ) → i < k → P (at + step * i)

each_none : (P : ℕ → Type 0) (step at : ℕ) → Each P step at zero
each_none P step at = record { each = λ i h. absurd (not-suc-le-zero h) }

module _ (P : ℕ → Type 0) (step at k : ℕ) (p : P at) (others : Each P step (at + step) k) where
  more : (i : ℕ) → i < suc k → P (at + step * i)
  more zero h = rw mul-zero (let e : at + 0 ≡ at = omega arith in rw e p)
  more (suc i) h =
      let e : at + step + step * i ≡ at + step * suc i = rw mul-suc (omega arith) in
      rw e at (others.each i (le_of_suc-le-suc h))

  each_more : Each P step at (suc k)
  each_more = record { each = more }

-- the answers at k places
unfoldable pub answers_from : {A : Type 0} → (ℕ → A) → (step at k : ℕ) → List A
answers_from f step at zero = []
answers_from f step at (suc k) = f at ∷ answers_from f step (at + step) k

module _ {A : Type 0} (words : List ℕ) (m : Read A) (f : ℕ → A) (step : ℕ) (P : ℕ → Type 0)
    (one : (at least : ℕ) → Reads words (f at) (at + step) (P at) (m (standing words at least))) where
  pub gives-many : (k at least : ℕ) → Within words at
      → Reads words (answers_from f step at k) (at + step * k) (Each P step at k) (many k m (standing words at least))
  unfolding many answers_from
  gives-many zero at least w =
      reads_to (at + step * 0) (λ _. rw mul-zero (omega arith)) (reads least w (each_none P step at))
  gives-many (suc k) at least w =
      reads_then _ (one at least)
      λ l w' p. reads_then _ (gives-many k (at + step) l w')
      λ l'' w'' ps. reads_to (at + step * suc k) (λ _. rw mul-suc (omega arith)) (reads l'' w'' (each_more P step at k p ps))
