-- Sums over lists, and how often a number stands in one. Refusal 4's tests (ast: `twice`) say that none stands there twice. Assumes nothing.
use Rattle.std.specs.Prelude.{ℕ, zero, suc, ◌+◌, ◌*◌, ◌≤◌, ◌<◌, ◌≡◌, refl, Bool, true, false, ◌||◌, cond, List, [], ◌∷◌, ◌++◌, map, eqb}
use Rattle.std.proofs.Common.{zero-mul, arith, sym, ◌∙◌, true≢false, eq-eqb, ne_eqb, subst}
use Rattle.std.proofs.Math.Decide.{ℕ_discrete}
pub use Rattle.facts.specs.Tests.{neither}
use Rattle.ast.specs.Claims.{among, twice}
use Rattle.rules.specs.Promises.{Every}

-- ── Sums ──

-- the sum of f over a list
unfoldable pub total : {A : Type 0} → (f : A → ℕ) → List A → ℕ
total f [] = 0
total f (x ∷ xs) = f x + total f xs

pub total-append : {A : Type 0} (f : A → ℕ) (xs ys : List A) → total f (xs ++ ys) ≡ total f xs + total f ys
unfolding total
total-append f [] ys = omega arith
total-append f (x ∷ xs) ys = omega (arith, total-append f xs ys)

pub total-map : {A B : Type 0} (f : B → ℕ) (g : A → B) (xs : List A) → total f (map g xs) ≡ total (λ x. f (g x)) xs
unfolding total
total-map f g [] = refl
total-map f g (x ∷ xs) = omega (arith, total-map f g xs)

pub total_le : {A : Type 0} (P : A → Type 0) (f g : A → ℕ) → ((x : A) → P x → f x ≤ g x) → (xs : List A) → Every P xs → total f xs ≤ total g xs
unfolding total Every
total_le P f g h [] e = omega arith
total_le P f g h (x ∷ xs) e = omega (arith, h x e.0, total_le P f g h xs e.1)

-- the sum of f over the numbers below k
unfoldable pub up_to : (f : ℕ → ℕ) → (k : ℕ) → ℕ
up_to f zero = 0
up_to f (suc k) = up_to f k + f k

up_to_le : (f g : ℕ → ℕ) → ((p : ℕ) → f p ≤ g p) → (k : ℕ) → up_to f k ≤ up_to g k
unfolding up_to
up_to_le f g h zero = omega arith
up_to_le f g h (suc k) = omega (arith, h k, up_to_le f g h k)

up_to_add : (f g : ℕ → ℕ) (k : ℕ) → up_to (λ p. f p + g p) k ≡ up_to f k + up_to g k
unfolding up_to
up_to_add f g zero = refl
up_to_add f g (suc k) = omega (arith, up_to_add f g k)

up_to-same : (f g : ℕ → ℕ) → ((p : ℕ) → f p ≡ g p) → (k : ℕ) → up_to f k ≡ up_to g k
unfolding up_to
up_to-same f g h zero = refl
up_to-same f g h (suc k) = omega (arith, h k, up_to-same f g h k)

-- ── How often ──

-- 1 where two numbers are the same, else 0
unfoldable pub one : ℕ → ℕ → ℕ
one m x = cond (eqb m x) 1 0

pub one_same : (m : ℕ) → one m m ≡ 1
unfolding one
one_same m = rw (eq-eqb m m refl)

pub one-other : (m x : ℕ) → (m ≡ x → ⊥) → one m x ≡ 0
unfolding one
one-other m x n = rw (ne_eqb m x n)

-- how often m stands in a list
abbrev pub count : ℕ → List ℕ → ℕ
count m xs = total (one m) xs

-- among a list is what stands there at least once
among-false : (m : ℕ) (xs : List ℕ) → count m xs ≡ 0 → among m xs ≡ false
unfolding total among
among-false m [] e = refl
among-false m (x ∷ xs) e = elim (ℕ_discrete m x) [
  | yes q ↦ let z : one m x ≡ 1 = rw q (one_same x) in absurd (omega arith)
  | no n ↦ rw (ne_eqb m x n) (among-false m xs (omega arith))
]

not-among : (m : ℕ) (xs : List ℕ) → among m xs ≡ false → count m xs ≡ 0
unfolding total among
not-among m [] e = refl
not-among m (x ∷ xs) e = elim (ℕ_discrete m x) [
  | yes q ↦ absurd (true≢false (sym (eq-eqb m x q) ∙ (neither (eqb m x) (among m xs) e).0))
  | no n ↦ omega (arith, one-other m x n, not-among m xs (neither (eqb m x) (among m xs) e).1)
]

-- none of the numbers is taken or stands among them twice: no number stands in both together more than once
pub twice-count : (m : ℕ) (taken xs : List ℕ) → twice taken xs ≡ false → count m taken ≤ 1 → count m taken + count m xs ≤ 1
unfolding total twice
twice-count m taken [] e h = omega arith
twice-count m taken (x ∷ xs) e h =
    let k = twice-count m (x ∷ taken) xs (neither (among x taken) (twice (x ∷ taken) xs) e).1 (by (ℕ_discrete m x)) in
    omega arith
  where
    by : Dec (m ≡ x) → one m x + count m taken ≤ 1
    by (yes q) =
        let z : count m taken ≡ 0 = rw q (not-among x taken (neither (among x taken) (twice (x ∷ taken) xs) e).0) in
        let o : one m x ≡ 1 = rw q (one_same x) in
        omega arith
    by (no n) = omega (arith, one-other m x n)

-- and the other way round
pub count-twice : (taken xs : List ℕ) → ((m : ℕ) → count m taken + count m xs ≤ 1) → twice taken xs ≡ false
unfolding total twice
count-twice taken [] h = refl
count-twice taken (x ∷ xs) h =
    let z : count x taken ≡ 0 = omega (arith, h x, one_same x) in
    rw (among-false x taken z) (count-twice (x ∷ taken) xs (λ m. omega (arith, h m)))

-- ── A list without repetitions ──

-- f at x alone
up_to-none : (f : ℕ → ℕ) (x k : ℕ) → k ≤ x → up_to (λ p. one p x * f p) k ≡ 0
unfolding up_to
up_to-none f x zero h = refl
up_to-none f x (suc k) h =
    let o : one k x ≡ 0 = one-other k x (λ e. omega arith) in
    rw (o, zero-mul (f k)) (omega (arith, up_to-none f x k (omega arith)))

up_to-here : (f : ℕ → ℕ) (k : ℕ) → up_to (λ p. one p k * f p) (suc k) ≡ f k
unfolding up_to
up_to-here f k = rw (one_same k) (omega (arith, up_to-none f k k (omega arith)))

up_to-one : (f : ℕ → ℕ) (x k : ℕ) → x < k → up_to (λ p. one p x * f p) k ≡ f x
unfolding up_to
up_to-one f x zero h = absurd (omega arith)
up_to-one f x (suc k) h = elim (ℕ_discrete k x) [
  | yes q ↦ subst (λ y. up_to (λ p. one p y * f p) (suc k) ≡ f y) q (up_to-here f k)
  | no n ↦ rw (one-other k x n, zero-mul (f k)) (omega (arith, up_to-one f x k (omega arith)))
]

up_to-zero : (f : ℕ → ℕ) (k : ℕ) → up_to (λ p. 0 * f p) k ≡ 0
unfolding up_to
up_to-zero f zero = refl
up_to-zero f (suc k) = rw (zero-mul (f k)) (omega (arith, up_to-zero f k))

-- a sum over a list, number by number
total-up_to : (f : ℕ → ℕ) (k : ℕ) (xs : List ℕ) → Every (λ p. p < k) xs → total f xs ≡ up_to (λ p. count p xs * f p) k
unfolding total Every
total-up_to f k [] e = sym (up_to-zero f k)
total-up_to f k (x ∷ xs) e =
    let a = up_to-one f x k e.0 in
    let b = total-up_to f k xs e.1 in
    let d = up_to_add (λ p. one p x * f p) (λ p. count p xs * f p) k in
    let g = up_to-same (λ p. (one p x + count p xs) * f p) (λ p. one p x * f p + count p xs * f p) (λ p. omega arith) k in
    omega arith

-- Where f counts, no number stands in the list twice: the sum over the list is at most that over all numbers below k.
pub once_le : (f : ℕ → ℕ) (k : ℕ) (xs : List ℕ) → Every (λ p. p < k) xs → ((p : ℕ) → count p xs * f p ≤ f p) → total f xs ≤ up_to f k
once_le f k xs e h = rw (total-up_to f k xs e) (up_to_le (λ p. count p xs * f p) f h k)

-- none of a list's numbers is k or more
pub count-high : (m k : ℕ) (xs : List ℕ) → Every (λ p. p < k) xs → k ≤ m → count m xs ≡ 0
unfolding total Every
count-high m k [] e h = refl
count-high m k (x ∷ xs) e h = let l = e.0 in omega (arith, one-other m x (λ q. omega arith), count-high m k xs e.1 h)
