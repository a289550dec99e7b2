-- Laws of groups: a group has one name, and no entry outside it has that name. Assumes nothing.
use Rattle.std.specs.Prelude.{ℕ, zero, suc, ◌+◌, ◌-◌, ◌≤◌, ◌<◌, ◌≡◌, refl, ◌⊎◌, true, List, get_or}
use Rattle.std.proofs.Common.{sym, ap, ◌∙◌, arith}
use Rattle.std.proofs.Math.Logic.{inl, inr}
use Rattle.std.proofs.Math.Decide.{dec_lt, dec_le}
use Rattle.tok.specs.Text.{Texts}
use Rattle.name_order.specs.Order.{new_in, name_of, Rearranged, Grouped, GroupEnd}

pub rearranged-none : {order : List ℕ} {n : ℕ} → Rearranged order order n
rearranged-none = record { long = refl; all = λ p h. h; only = λ p h. h }

pub rearranged-then : {a b c : List ℕ} {n : ℕ} → Rearranged a b n → Rearranged b c n → Rearranged a c n
rearranged-then f g = record {
  long = g.long ∙ f.long;
  all = λ p h. g.all p (f.all p h);
  only = λ p h. f.only p (g.only p h);
}

-- a name begins at a rank
pub Begins : (order : List ℕ) (n at : ℕ) → Type 0
Begins order n at = (at ≡ 0) ⊎ ((at < n) → new_in (get_or order at 0) ≡ true)

-- one group: the ranks from `at` up to `end`
pub record Group (t : Texts) (words order : List ℕ) (n at end : ℕ) : Type 0 where
  pub alike : (i : ℕ) → at ≤ i → i < end → name_of t words order at ≡ name_of t words order i
  pub others : (i j : ℕ) → at ≤ i → i < end → j < n → name_of t words order i ≡ name_of t words order j → (at ≤ j) × (j < end)

module _ {t : Texts} {words order : List ℕ} {n : ℕ} (g : Grouped t words order n) (at end : ℕ) (b : Begins order n at) (e : GroupEnd order at n end) where
  alike_from : (k i : ℕ) → i ≡ at + k → i < end → name_of t words order at ≡ name_of t words order i
  alike_from zero i q l = let z : at ≡ i = omega arith in ap (name_of t words order) z
  alike_from (suc k) i q l =
      let z : i - 1 ≡ at + k = omega arith in
      alike_from k (i - 1) z (omega arith) ∙ g.same i (omega arith) (omega (arith, e.within)) (e.inner i (omega arith) l)

  not-before : (i j : ℕ) → at ≤ i → i < end → j < n → name_of t words order i ≡ name_of t words order j → at ≤ j
  unfolding Begins
  not-before i j l m o q = elim (dec_le at j) [
    | yes h ↦ h
    | no h ↦ elim b [
      | inl z ↦ absurd (omega arith)
      | inr f ↦ absurd (g.apart at (omega arith) (omega (arith, e.within)) (f (omega (arith, e.within))) j i (omega arith) l (omega (arith, e.within)) (sym q))
    ]
  ]

  not_after : (i j : ℕ) → at ≤ i → i < end → j < n → name_of t words order i ≡ name_of t words order j → j < end
  not_after i j l m o q = elim (dec_lt j end) [
    | yes h ↦ h
    | no h ↦ absurd (g.apart end (omega arith) (omega arith) (e.next (omega arith)) i j m (omega arith) o q)
  ]

  pub group-is : Group t words order n at end
  group-is = record {
    alike = λ i l m. alike_from (i - at) i (omega arith) m;
    others = λ i j l m o q. (not-before i j l m o q, not_after i j l m o q);
  }

pub begins-next : (order : List ℕ) (n at end : ℕ) → GroupEnd order at n end → Begins order n end
unfolding Begins
begins-next order n at end e = inr e.next

pub begins-first : (order : List ℕ) (n : ℕ) → Begins order n 0
unfolding Begins
begins-first order n = inl refl
