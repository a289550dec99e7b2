-- An order of byte strings: by the first byte that differs, else the shorter one first. Definition, and its laws. Assumes nothing.
use Rattle.std.specs.Prelude.{ℕ, ◌<◌, ◌≡◌, refl, ◌⊎◌, Bool, true, false, cond, List, [], ◌∷◌, eqb, ltb}
use Rattle.std.proofs.Common.{inl, inr, arith, eq-eqb, ne_eqb, lt-ltb, ltb-true}
use Rattle.std.proofs.lemmas.Bool.{false≢true}
use Rattle.std.proofs.Math.Decide.{ℕ_discrete}

unfoldable pub bytes_before : List ℕ → List ℕ → Bool
bytes_before [] [] = false
bytes_before [] (b ∷ t) = true
bytes_before (a ∷ s) [] = false
bytes_before (a ∷ s) (b ∷ t) = cond (eqb a b) (bytes_before s t) (ltb a b)

-- no string comes before itself
pub before_self : (s : List ℕ) → bytes_before s s ≡ false
unfolding bytes_before
before_self [] = refl
before_self (a ∷ s) = rw (eq-eqb a a refl) (before_self s)

-- the first bytes are equal and the rest decides, or they decide
by_heads : (a b : ℕ) (r : Bool) → cond (eqb a b) r (ltb a b) ≡ true → ((a ≡ b) × (r ≡ true)) ⊎ (a < b)
by_heads a b r e = elim (ℕ_discrete a b) [
  | yes h ↦ inl (h, rw (eq-eqb a b h) at e)
  | no d ↦ inr (ltb-true a b (rw (ne_eqb a b d) at e))
]

heads_less : (a b : ℕ) (r : Bool) → a < b → cond (eqb a b) r (ltb a b) ≡ true
heads_less a b r l = rw (ne_eqb a b (λ e. omega arith), lt-ltb a b l) refl

heads_same : (a b : ℕ) (r : Bool) → a ≡ b → r ≡ true → cond (eqb a b) r (ltb a b) ≡ true
heads_same a b r e h = rw (eq-eqb a b e) h

pub before-trans : (s t u : List ℕ) → bytes_before s t ≡ true → bytes_before t u ≡ true → bytes_before s u ≡ true
unfolding bytes_before
before-trans [] [] u e f = absurd (false≢true e)
before-trans [] (b ∷ t) [] e f = absurd (false≢true f)
before-trans [] (b ∷ t) (c ∷ u) e f = refl
before-trans (a ∷ s) [] u e f = absurd (false≢true e)
before-trans (a ∷ s) (b ∷ t) [] e f = absurd (false≢true f)
before-trans (a ∷ s) (b ∷ t) (c ∷ u) e f = elim (by_heads a b (bytes_before s t) e) [
  | inl h ↦ elim (by_heads b c (bytes_before t u) f) [
    | inl k ↦ heads_same a c (bytes_before s u) (omega arith) (before-trans s t u h.1 k.1)
    | inr k ↦ heads_less a c (bytes_before s u) (omega arith)
  ]
  | inr h ↦ elim (by_heads b c (bytes_before t u) f) [
    | inl k ↦ heads_less a c (bytes_before s u) (omega arith)
    | inr k ↦ heads_less a c (bytes_before s u) (omega arith)
  ]
]
