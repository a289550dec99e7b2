-- The digits of a number, read from the left, give the number back. Assumes nothing.
use Rattle.std.specs.Prelude.{ℕ, zero, suc, ◌+◌, ◌*◌, ◌-◌, ◌/◌, ◌%◌, ◌^◌, ◌<◌, ◌≡◌, refl, Bool, true, false, List, [], ◌∷◌, ◌++◌, ltb}
use Rattle.std.proofs.Common.{arith, pow-suc}
use Rattle.std.proofs.Math.Nat.{pow-zero}
use Rattle.ptype.specs.Show.{digits, decimal}

-- ten times what was read so far, and the next digit
unfoldable pub read : (sofar : ℕ) → List ℕ → ℕ
read n [] = n
read n (d ∷ ds) = read (10 * n + (d - 48)) ds

read-append : (n : ℕ) (s t : List ℕ) → read n (s ++ t) ≡ read (read n s) t
unfolding read
read-append n [] t = refl
read-append n (d ∷ s) t = read-append (10 * n + (d - 48)) s t

digits-read : (most n : ℕ) → n < 10 ^ most → read 0 (digits most n) ≡ n
unfolding read digits
digits-read zero n h = let z : n < 1 = rw (pow-zero 10) at h in omega arith
digits-read (suc k) n h =
    let s : n < 10 ^ k * 10 = rw (pow-suc 10 k) at h in
    go (ltb n 10) refl (digits-read k (n / 10) (omega arith))
  where
    go : (b : Bool) → ltb n 10 ≡ b → read 0 (digits k (n / 10)) ≡ n / 10 → read 0 (digits (suc k) n) ≡ n
    go true e more = rw (e, digits) (omega arith)
    go false e more = rw (e, digits, read-append 0 (digits k (n / 10)) ((48 + n % 10) ∷ []), more) (omega arith)

-- of every number of 32 bits
pub decimal-read : (n : ℕ) → n < 2 ^ 32 → read 0 (decimal n) ≡ n
unfolding decimal
decimal-read n h = digits-read 10 n (omega arith)
