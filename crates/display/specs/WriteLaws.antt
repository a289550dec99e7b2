-- Laws of `write`: what was written before stays in front, and nothing goes past the end. Assumes nothing.
use Rattle.std.specs.Prelude.{ℕ, zero, suc, ◌+◌, ◌≤◌, ◌≡◌, refl, List, [], ◌∷◌, ◌++◌, length, take, drop, set}
use Rattle.std.proofs.Common.{ap, zero-add, suc-add, arith, take-append-drop}
use Rattle.std.proofs.Math.Seq.{take-nil, drop-nil}
use Rattle.ptype.specs.Add.{overwrite, write}

-- nothing is written past the end
pub write-past : (o : List ℕ) (n : ℕ) (s : List ℕ) → length o ≤ n → write o n s ≡ o
unfolding overwrite write
write-past [] n s h = simp (take-nil, drop-nil)
write-past (x ∷ o) zero s h =
    let z : ⊥ = omega arith in
    absurd z
write-past (x ∷ o) (suc n) s h = ap (λ l. x ∷ l) (write-past o n s (omega arith))

-- the buffer is as long as before
pub length-write : (o : List ℕ) (n : ℕ) (s : List ℕ) → length (write o n s) ≡ length o
unfolding overwrite write
length-write [] n s = simp (take-nil, drop-nil)
length-write (x ∷ o) zero [] = refl
length-write (x ∷ o) zero (y ∷ s) = ap suc (length-write o zero s)
length-write (x ∷ o) (suc n) s = ap suc (length-write o n s)

-- no bytes
pub write_nil : (o : List ℕ) (n : ℕ) → write o n [] ≡ o
unfolding overwrite write
write_nil [] n = simp (take-nil, drop-nil)
write_nil (x ∷ o) zero = refl
write_nil (x ∷ o) (suc n) = ap (λ l. x ∷ l) (write_nil o n)

-- s, and then t behind it
pub write-append : (o : List ℕ) (n : ℕ) (s t : List ℕ) → write o n (s ++ t) ≡ write (write o n s) (n + length s) t
unfolding overwrite write
write-append [] n s t = simp (take-nil, drop-nil)
write-append (x ∷ o) zero [] t = refl
write-append (x ∷ o) zero (y ∷ s) t = rw (zero-add (suc (length s))) (ap (λ l. y ∷ l) (rw (zero-add (length s)) at (write-append o zero s t)))
write-append (x ∷ o) (suc n) s t = rw (suc-add n (length s)) (ap (λ l. x ∷ l) (write-append o n s t))

-- where s fills the buffer, nothing behind it is written
pub write-stop : (o : List ℕ) (n : ℕ) (s t : List ℕ) → length o ≤ n + length s → write o n s ≡ write o n (s ++ t)
unfolding overwrite write
write-stop [] n s t h = simp (take-nil, drop-nil)
write-stop (x ∷ o) zero [] t h =
    let z : ⊥ = omega arith in
    absurd z
write-stop (x ∷ o) zero (y ∷ s) t h = ap (λ l. y ∷ l) (write-stop o zero s t (omega arith))
write-stop (x ∷ o) (suc n) s t h = ap (λ l. x ∷ l) (write-stop o n s t (omega arith))

-- one byte
pub write-one : (o : List ℕ) (n b : ℕ) → write o n (b ∷ []) ≡ set o n b
unfolding overwrite write
write-one [] n b = simp (take-nil, drop-nil)
write-one (x ∷ []) zero b = refl
write-one (x ∷ y ∷ o) zero b = refl
write-one (x ∷ o) (suc n) b = ap (λ l. x ∷ l) (write-one o n b)

-- into a front that has room for all of it
pub overwrite-front : (q : List ℕ) (k : ℕ) (s : List ℕ) → length s ≤ k → overwrite (take k q) s ++ drop k q ≡ overwrite q s
unfolding overwrite
overwrite-front [] k s h = simp (take-nil, drop-nil)
overwrite-front (x ∷ q) zero [] h = refl
overwrite-front (x ∷ q) zero (y ∷ s) h =
    let z : ⊥ = omega arith in
    absurd z
overwrite-front (x ∷ q) (suc k) [] h = ap (λ l. x ∷ l) (take-append-drop k q)
overwrite-front (x ∷ q) (suc k) (y ∷ s) h = ap (λ l. y ∷ l) (overwrite-front q k s (omega arith))
