-- `well_formed` is the test of `Octets`. The alternatives of UTF8-char exclude one another, by their first octets. Assumes nothing.
use Rattle.std.specs.Prelude.{ℕ, ◌≡◌, refl, true, false, List, [], ◌∷◌, ◌++◌}
use Rattle.std.proofs.Common.{◌∙◌, append_assoc, arith}
use Rattle.std.proofs.lemmas.Bool.{false≢true}
use Rattle.facts.specs.Tests.{by-test}
use Rattle.utf8.specs.Rfc3629.{utf8_1, utf8_2, utf8_3, utf8_4, Char, one, two, three, four, Octets, none, more, well_formed, begun1, begun2, begun3}
use Rattle.utf8.proofs.Laws.Tests.{in_2, first_3, first_4, not_1, not_2, not_3}

-- ---- where the test is true, the characters that it read
mutual
  unfolding well_formed begun1 begun2 begun3

  pub octets_of : (s : List ℕ) → well_formed s ≡ true → Octets s
  octets_of [] e = none
  octets_of (a ∷ s) e =
      by-test (utf8_1 a) (λ h. more (one h) (octets_of s (rw (h, well_formed) at e))) (λ h. octets1 a s (rw (h, well_formed) at e))

  octets1 : (a : ℕ) (s : List ℕ) → begun1 a s ≡ true → Octets (a ∷ s)
  octets1 a [] e = absurd (false≢true e)
  octets1 a (b ∷ s) e =
      by-test (utf8_2 a b) (λ h. more (two h) (octets_of s (rw (h, begun1) at e))) (λ h. octets2 a b s (rw (h, begun1) at e))

  octets2 : (a b : ℕ) (s : List ℕ) → begun2 a b s ≡ true → Octets (a ∷ b ∷ s)
  octets2 a b [] e = absurd (false≢true e)
  octets2 a b (c ∷ s) e =
      by-test (utf8_3 a b c) (λ h. more (three h) (octets_of s (rw (h, begun2) at e))) (λ h. octets3 a b c s (rw (h, begun2) at e))

  octets3 : (a b c : ℕ) (s : List ℕ) → begun3 a b c s ≡ true → Octets (a ∷ b ∷ c ∷ s)
  octets3 a b c [] e = absurd (false≢true e)
  octets3 a b c (d ∷ s) e =
      by-test (utf8_4 a b c d) (λ h. more (four h) (octets_of s (rw (h, begun3) at e))) (λ h. absurd (false≢true (rw (h, begun3) at e)))

-- ---- one more octet ends the character, or it goes on
module _ (a : ℕ) (s : List ℕ) where
  ends_1 : utf8_1 a ≡ true → well_formed (a ∷ s) ≡ well_formed s
  unfolding well_formed
  ends_1 h = rw (h, well_formed)

  pub goes_1 : utf8_1 a ≡ false → well_formed (a ∷ s) ≡ begun1 a s
  unfolding well_formed
  goes_1 h = rw (h, well_formed)

module _ (a b : ℕ) (s : List ℕ) where
  ends_2 : utf8_2 a b ≡ true → begun1 a (b ∷ s) ≡ well_formed s
  unfolding well_formed
  ends_2 h = rw (h, begun1)

  pub goes_2 : utf8_2 a b ≡ false → begun1 a (b ∷ s) ≡ begun2 a b s
  unfolding well_formed
  goes_2 h = rw (h, begun1)

module _ (a b c : ℕ) (s : List ℕ) where
  ends_3 : utf8_3 a b c ≡ true → begun2 a b (c ∷ s) ≡ well_formed s
  unfolding well_formed
  ends_3 h = rw (h, begun2)

  pub goes_3 : utf8_3 a b c ≡ false → begun2 a b (c ∷ s) ≡ begun3 a b c s
  unfolding well_formed
  goes_3 h = rw (h, begun2)

module _ (a b c d : ℕ) (s : List ℕ) where
  ends_4 : utf8_4 a b c d ≡ true → begun3 a b c (d ∷ s) ≡ well_formed s
  unfolding well_formed
  ends_4 h = rw (h, begun3)

  pub stops_4 : utf8_4 a b c d ≡ false → begun3 a b c (d ∷ s) ≡ false
  unfolding well_formed
  stops_4 h = rw (h, begun3)

-- ---- a character at the front is taken off
pub front : {c : List ℕ} → Char c → (s : List ℕ) → well_formed (c ++ s) ≡ well_formed s
front (one {a} h) s = ends_1 a s h
front (two {a} {b} h) s =
    goes_1 a (b ∷ s) (not_1 a (omega (arith, in_2 a b h)))
    ∙ ends_2 a b s h
front (three {a} {b} {c} h) s =
    goes_1 a (b ∷ c ∷ s) (not_1 a (omega (arith, first_3 a b c h)))
    ∙ goes_2 a b (c ∷ s) (not_2 a b (omega (arith, first_3 a b c h)))
    ∙ ends_3 a b c s h
front (four {a} {b} {c} {d} h) s =
    goes_1 a (b ∷ c ∷ d ∷ s) (not_1 a (omega (arith, first_4 a b c d h)))
    ∙ goes_2 a b (c ∷ d ∷ s) (not_2 a b (omega (arith, first_4 a b c d h)))
    ∙ goes_3 a b c (d ∷ s) (not_3 a b c (first_4 a b c d h).0)
    ∙ ends_4 a b c d s h

-- ---- and so are several
pub octets_front : {s : List ℕ} → Octets s → (t : List ℕ) → well_formed (s ++ t) ≡ well_formed t
octets_front none t = refl
octets_front (more {c} {s} k r) t = rw (append_assoc c s t) (front k (s ++ t) ∙ octets_front r t)

pub well-of : {s : List ℕ} → Octets s → well_formed s ≡ true
unfolding well_formed
well-of none = refl
well-of (more {c} {s} k r) = front k s ∙ well-of r
