-- Facts on lists: what lies past the end is neither taken nor dropped; what holds of each item at its index. By induction on the lists. Assumes nothing.
use Rattle.std.specs.Prelude.{ℕ, zero, suc, min, ◌≤◌, ◌≡◌, List, [], ◌∷◌, length, take, drop, get_or, ⊤}
use Rattle.std.proofs.Common.{ap, zero-le, arith}
use Rattle.std.proofs.Math.Nat.{zero-min, suc-min-suc}
use Rattle.std.proofs.Math.Seq.{take-nil, drop-nil}

pub take_within : (n : ℕ) (l : List ℕ) → take (min n (length l)) l ≡ take n l
take_within n [] = simp take-nil
take_within zero (x ∷ l) = rw zero-min
take_within (suc n) (x ∷ l) = rw suc-min-suc (ap (λ r. x ∷ r) (take_within n l))

pub drop-within : (n : ℕ) (l : List ℕ) → drop (min n (length l)) l ≡ drop n l
drop-within n [] = simp drop-nil
drop-within zero (x ∷ l) = rw zero-min
drop-within (suc n) (x ∷ l) = rw suc-min-suc (drop-within n l)

-- P holds of each item and its index
unfoldable pub EachAt : {X : Type 0} → (X → ℕ → Type 0) → List X → Type 0
EachAt P [] = ⊤
EachAt P (x ∷ xs) = P x 0 × EachAt (λ y i. P y (suc i)) xs

-- so it does of what is read at any index, where it does past the end
pub each_at : {X : Type 0} (P : X → ℕ → Type 0) (xs : List X) (d : X) → EachAt P xs → ((i : ℕ) → length xs ≤ i → P d i) → (i : ℕ) → P (get_or xs i d) i
unfolding EachAt
each_at P [] d h past i = past i zero-le
each_at P (x ∷ xs) d h past zero = h.0
each_at P (x ∷ xs) d h past (suc i) = each_at (λ y j. P y (suc j)) xs d h.1 (λ j l. past (suc j) (omega arith)) i
