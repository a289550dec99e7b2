-- Laws of `write`: words written from a place on in parts, and what stays. By induction on the list. Assumes nothing.
use Rattle.std.specs.Prelude.{◌≡◌, refl, List, [], ◌∷◌, ◌++◌, ℕ, zero, suc, ◌+◌, ◌<◌, ◌≤◌, length, get_or, set}
use Rattle.std.proofs.Common.{ap, sym, ◌∙◌, add-zero, zero-add, suc-add, arith}
use Rattle.ptype.specs.Add.{overwrite, write}

write-none : (at : ℕ) (new : List ℕ) → write [] at new ≡ []
unfolding write overwrite
write-none zero new = refl
write-none (suc at) new = refl

-- nothing written changes nothing
pub write_nil : (l : List ℕ) (at : ℕ) → write l at [] ≡ l
unfolding write overwrite
write_nil [] at = write-none at []
write_nil (x ∷ l) zero = refl
write_nil (x ∷ l) (suc at) = ap (λ r. x ∷ r) (write_nil l at)

-- the first word, and then the others after it
pub write_cons : (l : List ℕ) (at y : ℕ) (ys : List ℕ) → write l at (y ∷ ys) ≡ write (set l at y) (suc at) ys
unfolding write overwrite
write_cons [] at y ys = write-none at (y ∷ ys) ∙ sym (write-none (suc at) ys)
write_cons (x ∷ l) zero y ys = refl
write_cons (x ∷ l) (suc at) y ys = ap (λ r. x ∷ r) (write_cons l at y ys)

pub write-one : (l : List ℕ) (at y : ℕ) → write l at (y ∷ []) ≡ set l at y
write-one l at y = write_cons l at y [] ∙ write_nil (set l at y) (suc at)

pub write_two : (l : List ℕ) (at y z : ℕ) → write l at (y ∷ z ∷ []) ≡ set (set l at y) (suc at) z
write_two l at y z = write_cons l at y (z ∷ []) ∙ write-one (set l at y) (suc at) z

-- Words written in two parts, the front part first
pub write-append : (l : List ℕ) (at : ℕ) (xs ys : List ℕ) → write l at (xs ++ ys) ≡ write (write l at xs) (at + length xs) ys
write-append l at [] ys = rw (add-zero, write_nil)
write-append l at (x ∷ xs) ys =
    let e : suc at + length xs ≡ at + suc (length xs) = omega arith in
    rw (write_cons l at x (xs ++ ys), write_cons l at x xs, ← e) (write-append (set l at x) (suc at) xs ys)

-- a word before the place, set before or after the writing
write-set : (l : List ℕ) (i y j : ℕ) (ys : List ℕ) → i < j → write (set l i y) j ys ≡ set (write l j ys) i y
unfolding write overwrite
write-set [] i y j ys h = rw write-none
write-set (x ∷ l) i y zero ys h =
    let z : ⊥ = omega arith in
    absurd z
write-set (x ∷ l) zero y (suc j) ys h = refl
write-set (x ∷ l) (suc i) y (suc j) ys h = ap (λ r. x ∷ r) (write-set l i y j ys (omega arith))

-- or the back part first
pub write-back : (l : List ℕ) (at : ℕ) (xs ys : List ℕ) → write l at (xs ++ ys) ≡ write (write l (at + length xs) ys) at xs
write-back l at [] ys = rw (add-zero, write_nil)
write-back l at (x ∷ xs) ys =
    let e : suc at + length xs ≡ at + suc (length xs) = omega arith in
    write_cons l at x (xs ++ ys)
    ∙ write-back (set l at x) (suc at) xs ys
    ∙ ap (λ r. write r (suc at) xs) (write-set l at x (suc at + length xs) ys (omega arith))
    ∙ sym (write_cons (write l (suc at + length xs) ys) at x xs)
    ∙ ap (λ k. write (write l k ys) at (x ∷ xs)) e

pub length-write : (l : List ℕ) (at : ℕ) (new : List ℕ) → length (write l at new) ≡ length l
unfolding write overwrite
length-write [] at new = rw write-none
length-write (x ∷ l) zero [] = refl
length-write (x ∷ l) zero (y ∷ ys) = ap suc (length-write l zero ys)
length-write (x ∷ l) (suc at) new = ap suc (length-write l at new)

-- past the end nothing is written
pub write-past : (l : List ℕ) (at : ℕ) (new : List ℕ) → length l ≤ at → write l at new ≡ l
unfolding write overwrite
write-past [] at new h = write-none at new
write-past (x ∷ l) zero new h =
    let z : ⊥ = omega arith in
    absurd z
write-past (x ∷ l) (suc at) new h = ap (λ r. x ∷ r) (write-past l at new (omega arith))

-- what stands before the place stays
pub get_d_write-before : (l : List ℕ) (at : ℕ) (new : List ℕ) (j : ℕ) → j < at → get_or (write l at new) j 0 ≡ get_or l j 0
unfolding write overwrite
get_d_write-before [] at new j h = rw write-none
get_d_write-before (x ∷ l) zero new j h =
    let z : ⊥ = omega arith in
    absurd z
get_d_write-before (x ∷ l) (suc at) new zero h = refl
get_d_write-before (x ∷ l) (suc at) new (suc j) h = get_d_write-before l at new j (omega arith)

overwrite_in : (l new : List ℕ) (i : ℕ) → i < length new → i < length l → get_or (overwrite l new) i 0 ≡ get_or new i 0
unfolding overwrite
overwrite_in [] new i h k =
    let z : ⊥ = omega arith in
    absurd z
overwrite_in (x ∷ l) [] i h k =
    let z : ⊥ = omega arith in
    absurd z
overwrite_in (x ∷ l) (y ∷ ys) zero h k = refl
overwrite_in (x ∷ l) (y ∷ ys) (suc i) h k = overwrite_in l ys i (omega arith) (omega arith)

-- the new words stand from the place on
pub get_d_write_in : (l : List ℕ) (at : ℕ) (new : List ℕ) (i : ℕ) → i < length new → at + i < length l → get_or (write l at new) (at + i) 0 ≡ get_or new i 0
unfolding write
get_d_write_in [] at new i h k =
    let z : ⊥ = omega arith in
    absurd z
get_d_write_in (x ∷ l) zero new i h k = rw zero-add (overwrite_in (x ∷ l) new i h (omega arith))
get_d_write_in (x ∷ l) (suc at) new i h k = rw suc-add (get_d_write_in l at new i h (omega arith))
