-- Where a well-formed string can be cut into two: at its character boundaries, and nowhere else. Assumes nothing.
use Rattle.std.specs.Prelude.{ℕ, zero, suc, ◌≤◌, ◌≡◌, refl, true, not, List, [], ◌∷◌, ◌⊎◌, take}
use Rattle.std.proofs.lemmas.Bool.{false≢true}
use Rattle.std.proofs.Common.{inl, inr, ⊎_elim, arith}
use Rattle.utf8.specs.Rfc3629.{utf8_tail, one, two, three, four, Octets, none, more}
use Rattle.utf8.specs.Properties.{begins, boundary}
use Rattle.utf8.proofs.Laws.Tests.{in_1, in_2, first_3, first_4, tail_2, tails_3, tails_4, not_tail_low, not_tail_high}

-- ---- the front of a string up to a boundary: an inner octet of a character is a tail, so none is cut
inner : {P : Type 0} (a : ℕ) → utf8_tail a ≡ true → not (utf8_tail a) ≡ true → P
inner a t e = absurd (false≢true (rw t at e))

pub cut : {s : List ℕ} → Octets s → (i : ℕ) → boundary s i ≡ true → Octets (take i s)
unfolding boundary begins
cut none zero e = none
cut none (suc i) e = none
cut (more (one h) r) zero e = none
cut (more (one h) r) (suc i) e = more (one h) (cut r i e)
cut (more (two h) r) zero e = none
cut (more (two {a} {b} h) r) (suc zero) e = inner b (tail_2 a b h) e
cut (more (two h) r) (suc (suc i)) e = more (two h) (cut r i e)
cut (more (three h) r) zero e = none
cut (more (three {a} {b} {c} h) r) (suc zero) e = inner b (tails_3 a b c h).0 e
cut (more (three {a} {b} {c} h) r) (suc (suc zero)) e = inner c (tails_3 a b c h).1 e
cut (more (three h) r) (suc (suc (suc i))) e = more (three h) (cut r i e)
cut (more (four h) r) zero e = none
cut (more (four {a} {b} {c} {d} h) r) (suc zero) e = inner b (tails_4 a b c d h).0 e
cut (more (four {a} {b} {c} {d} h) r) (suc (suc zero)) e = inner c (tails_4 a b c d h).1 e
cut (more (four {a} {b} {c} {d} h) r) (suc (suc (suc zero))) e = inner d (tails_4 a b c d h).2 e
cut (more (four h) r) (suc (suc (suc (suc i)))) e = more (four h) (cut r i e)

-- ---- the first octets of characters
abbrev pub First : List ℕ → Type 0
First [] = Unit {0}
First (a ∷ s) = (a ≤ 0x7F) ⊎ ((0xC2 ≤ a) × (a ≤ 0xF4))

pub first : {s : List ℕ} → Octets s → First s
first none = tt
first (more (one {a} h) r) = inl (in_1 a h)
first (more (two {a} {b} h) r) = inr (omega (arith, in_2 a b h))
first (more (three {a} {b} {c} h) r) = inr (omega (arith, first_3 a b c h))
first (more (four {a} {b} {c} {d} h) r) = inr (omega (arith, first_4 a b c d h))

pub first-begins : (s : List ℕ) → First s → begins s ≡ true
unfolding begins
first-begins [] f = refl
first-begins (a ∷ s) f = ⊎_elim (λ p. rw (not_tail_low a p)) (λ p. rw (not_tail_high a (omega arith))) f
