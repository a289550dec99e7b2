-- How many digits are written of a number. By induction on how many there can be. Assumes nothing.
use Rattle.std.specs.Prelude.{ℕ, zero, suc, ◌+◌, ◌/◌, ◌%◌, ◌^◌, ◌<◌, ◌≤◌, ◌≡◌, List, [], ◌∷◌, length, replicate, Result, ⊤}
use Rattle.std.proofs.Common.{arith, pow-suc, length-append, ap, ◌∙◌}
use native.Mathlib.Numerals.{add-one, sub-one}
use Rattle.facts.specs.Tests.{by_order}
use Rattle.ptype.specs.Show.{digits}
use Rattle.display.proofs.DigitLaws.{digits-one, digits_more}
use Rattle.display.specs.declared.Full.{Full}
use Rattle.display.specs.WritingLaws.{written_place}
use Rattle.display.specs.Writing.{written}
use Rattle.commands.specs.Digits.{IsDigitCount}
use Rattle.commands.specs.Printed.{NumberBytes}

-- a number below 10 takes one digit, another one more than its tenth
one : (n : ℕ) → n < 10 → IsDigitCount 10 1 n 1
one n h = (omega arith, omega arith, λ l. absurd (omega arith))

one_more : (n k : ℕ) → 10 ≤ n → IsDigitCount 10 1 (n / 10) k → IsDigitCount 10 1 n (suc k)
one_more n zero h d = absurd (omega (arith, d.0))
one_more n (suc zero) h d = let b = d.1 in (omega arith, omega arith, λ l. omega arith)
one_more n (suc (suc j)) h d =
    let b = d.1 in
    let e : 1 < suc (suc j) = omega arith in
    let c = d.2 e in
    let c : 10 ^ suc j ≤ n / 10 = rw (sub-one (suc (suc j))) at c in
    let p = pow-suc 10 (suc j) in
    let q = pow-suc 10 (suc (suc j)) in
    let t : 10 ^ suc (suc j) ≤ n = omega arith in
    (omega arith, omega arith, λ l. rw sub-one t)

some : (k n : ℕ) → 10 ≤ n → n < 10 ^ suc k → 0 < k
some zero n m h = absurd (omega arith)
some (suc k) n m h = omega arith

-- the digits, and how many they are at most
Counted : (most n : ℕ) → Type 0
Counted most n = IsDigitCount 10 1 n (length (digits most n)) × (length (digits most n) ≤ most)

digits_counted : (most n : ℕ) → 0 < most → n < 10 ^ most → Counted most n
unfolding Counted
digits_counted zero n p h = absurd (omega arith)
digits_counted (suc k) n p h =
    let s = pow-suc 10 k in
    by_order 10 n
    (λ m. more m (digits_counted k (n / 10) (some k n m h) (omega arith)))
    (λ l. rw (digits-one (suc k) n (λ z. omega arith) l) (one n l, omega arith))
  where
    more : 10 ≤ n → Counted k (n / 10) → Counted (suc k) n
    more m d =
        let l = length-append (digits k (n / 10)) ((48 + n % 10) ∷ []) in
        rw (digits_more (suc k) n (λ z. omega arith) m, sub-one, l, add-one) (one_more n _ m d.0, omega (arith, d.1))

-- where a number that is written to 20 bytes ends
pub printed :
    (n : ℕ) {o : List ℕ} {at₀ at : ℕ} {r : Result ⊤ Full} {o' : List ℕ} → n < 2 ^ 64 → (o ≡ replicate 20 0) × (at₀ ≡ 0) →
    (r, (o', at)) ≡ written o at₀ (digits 20 n) → NumberBytes n at
unfolding Counted
printed n {o} {at₀} {at} h z e =
    let c = digits_counted 20 n (omega arith) (omega arith) in
    let l : length o ≡ 20 = ap length z.0 in
    let p : at ≡ length (digits 20 n) = ap (λ q. q.1.1) e ∙ written_place o at₀ (digits 20 n) ∙ omega (arith, c.1, z.1) in
    rw p (record { fewest = c.0; few = c.1 })
