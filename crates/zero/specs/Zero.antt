-- Zeros written over the front of a buffer, at most as many as it is long. Assumes nothing.
use Rattle.std.specs.Prelude.{ℕ, zero, suc, ◌≤◌, min, ◌≡◌, refl, Bool, true, false, List, [], ◌∷◌, leb, length, replicate}
use Rattle.std.proofs.Common.{sym, ap, ◌∙◌, arith, leb-true, leb-false}
use Rattle.ptype.specs.Add.{overwrite, write}
use Rattle.rules.specs.Check.{zeros, zeroed}
use Rattle.refuse.specs.Answer.{buffers_of}

-- the first n words are 0, as far as the buffer goes
unfoldable pub zero_first : (n : ℕ) → List ℕ → List ℕ
zero_first n l = write l 0 (replicate n 0)

-- a buffer no longer than that is all zero
over-all : (l : List ℕ) (n : ℕ) → length l ≤ n → overwrite l (replicate n 0) ≡ zeros l
unfolding overwrite
over-all [] n h = refl
over-all (x ∷ l) zero h = absurd (omega arith)
over-all (x ∷ l) (suc n) h = ap (λ r. 0 ∷ r) (over-all l n (omega arith))

zero-past : (l : List ℕ) (n : ℕ) → length l ≤ n → zero_first n l ≡ zeros l
unfolding zero_first write
zero-past l n h = over-all l n h

-- past the end of the buffer nothing is written
pub zero-least : (l : List ℕ) (n : ℕ) {m : ℕ} → m ≡ min n (length l) → zero_first m l ≡ zero_first n l
zero-least l n {m} e = by (leb n (length l)) refl
  where
    by : (b : Bool) → leb n (length l) ≡ b → zero_first m l ≡ zero_first n l
    by true h = let q : m ≡ n = omega (arith, leb-true n (length l) h) in ap (λ k. zero_first k l) q
    by false h =
        let k : length l ≤ n = omega (arith, leb-false n (length l) h) in
        let q : length l ≤ m = omega arith in
        zero-past l m q ∙ sym (zero-past l n k)

-- all six buffers
pub zero-six : (s f t d m e : List ℕ) {s' f' t' d' m' e' : List ℕ} → s' ≡ zeros s → f' ≡ zeros f → t' ≡ zeros t → d' ≡ zeros d → m' ≡ zeros m → e' ≡ zeros e
    → buffers_of s' f' t' d' m' e' ≡ zeroed (buffers_of s f t d m e)
unfolding zeroed
zero-six s f t d m e h₁ h₂ h₃ h₄ h₅ h₆ = rw (h₁, h₂, h₃, h₄, h₅, h₆)
