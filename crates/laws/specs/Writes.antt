-- What `write` leaves: the length, what stands before the place, and what stands behind the new words. Assumes nothing.
use Rattle.std.specs.Prelude.{ℕ, zero, suc, ◌+◌, ◌≤◌, ◌≡◌, refl, List, [], ◌∷◌, ◌++◌, length, take, drop}
use Rattle.std.proofs.Common.{arith, sym, ap, ◌∙◌, length-append, take-append-drop}
use Rattle.ptype.specs.Add.{overwrite, write}

length-overwrite : (l new : List ℕ) → length (overwrite l new) ≡ length l
unfolding overwrite
length-overwrite [] new = refl
length-overwrite (x ∷ xs) [] = refl
length-overwrite (x ∷ xs) (y ∷ ys) = ap suc (length-overwrite xs ys)

pub length-write : (l : List ℕ) (at : ℕ) (new : List ℕ) → length (write l at new) ≡ length l
unfolding write
length-write l at new =
    length-append (take at l) _
    ∙ (ap (λ (n : ℕ). length (take at l) + n) (length-overwrite (drop at l) new)
    ∙ (sym (length-append (take at l) (drop at l)) ∙ ap (λ (x : List ℕ). length x) (take-append-drop at l)))

-- what stands before the place stays
pub front-write : (l : List ℕ) (k at : ℕ) (new : List ℕ) → k ≤ at → take k (write l at new) ≡ take k l
unfolding write overwrite
front-write l zero at new h = refl
front-write [] (suc k) zero new h = refl
front-write [] (suc k) (suc at) new h = refl
front-write (x ∷ xs) (suc k) zero new h = absurd (omega arith)
front-write (x ∷ xs) (suc k) (suc at) new h = ap (λ (t : List ℕ). x ∷ t) (front-write xs k at new (omega arith))

past-overwrite : (l new : List ℕ) (k : ℕ) → length new ≤ k → drop k (overwrite l new) ≡ drop k l
unfolding overwrite
past-overwrite [] new k h = refl
past-overwrite (x ∷ xs) [] k h = refl
past-overwrite (x ∷ xs) (y ∷ ys) zero h = absurd (omega arith)
past-overwrite (x ∷ xs) (y ∷ ys) (suc k) h = past-overwrite xs ys k (omega arith)

-- what stands behind the new words stays
pub past-write : (l : List ℕ) (k at : ℕ) (new : List ℕ) → at + length new ≤ k → drop k (write l at new) ≡ drop k l
unfolding write overwrite
past-write l k zero new h = past-overwrite l new k (omega arith)
past-write [] k (suc at) new h = refl
past-write (x ∷ xs) zero (suc at) new h = absurd (omega arith)
past-write (x ∷ xs) (suc k) (suc at) new h = past-write xs k at new (omega arith)
