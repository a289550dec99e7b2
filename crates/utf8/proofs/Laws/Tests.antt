-- The tests of the rules as facts on numbers: where a test is true, what the octets are, and the reverse. Assumes nothing.
use Rattle.std.specs.Prelude.{ℕ, ◌≤◌, ◌<◌, ◌≡◌, true, false, ◌&&◌, leb}
use Rattle.std.proofs.Common.{zero-le, arith, lit≤, leb-true, le-leb}
use Rattle.std.proofs.Math.Bool.{or-true}
pub use Rattle.facts.specs.Tests.{both, by-either, by-test, refuted, same, by_order}
use Rattle.utf8.specs.Rfc3629.{range, utf8_tail, utf8_1, utf8_2, utf8_3, utf8_4}

-- ---- truth values
-- ---- ranges
pub in_range : (lo hi a : ℕ) → range lo hi a ≡ true → (lo ≤ a) × (a ≤ hi)
in_range lo hi a e =
    let p = both (leb lo a) (leb a hi) e in
    (leb-true lo a p.0, leb-true a hi p.1)

pub range_in : (lo hi a : ℕ) → lo ≤ a → a ≤ hi → range lo hi a ≡ true
range_in lo hi a p q = rw (le-leb lo a p, le-leb a hi q)

pub range-out : (lo hi a : ℕ) → hi < a → range lo hi a ≡ false
range-out lo hi a p = refuted (range lo hi a) (λ e. omega (arith, in_range lo hi a e))

-- two octets within bounds, and a UTF8-tail
pub record Within3 (al ah bl bh a b c : ℕ) : Type 0 where
  pub a_from : al ≤ a
  pub a_to : a ≤ ah
  pub b_from : bl ≤ b
  pub b_to : b ≤ bh
  pub c_from : 0x80 ≤ c
  pub c_to : c ≤ 0xBF

module _ (al ah bl bh a b c : ℕ) where
  within_of : range al ah a && range bl bh b && utf8_tail c ≡ true → Within3 al ah bl bh a b c
  within_of e =
      let p = both (range al ah a && range bl bh b) (range 0x80 0xBF c) e in
      let q = both (range al ah a) (range bl bh b) p.0 in
      let f = in_range al ah a q.0 in
      let g = in_range bl bh b q.1 in
      let h = in_range 0x80 0xBF c p.1 in
      record { a_from = f.0; a_to = f.1; b_from = g.0; b_to = g.1; c_from = h.0; c_to = h.1 }

  of-within : Within3 al ah bl bh a b c → range al ah a && range bl bh b && utf8_tail c ≡ true
  of-within w =
      rw (range_in al ah a w.a_from w.a_to, range_in bl bh b w.b_from w.b_to, range_in 0x80 0xBF c w.c_from w.c_to)

-- ---- the rules
pub in_tail : (a : ℕ) → utf8_tail a ≡ true → (0x80 ≤ a) × (a ≤ 0xBF)
in_tail a e = in_range 0x80 0xBF a e

pub tail_in : (a : ℕ) → 0x80 ≤ a → a ≤ 0xBF → utf8_tail a ≡ true
tail_in a p q = range_in 0x80 0xBF a p q

pub in_1 : (a : ℕ) → utf8_1 a ≡ true → a ≤ 0x7F
in_1 a e = (in_range 0x00 0x7F a e).1

pub in_2 : (a b : ℕ) → utf8_2 a b ≡ true → (0xC2 ≤ a) × (a ≤ 0xDF) × (0x80 ≤ b) × (b ≤ 0xBF)
unfolding utf8_2
in_2 a b e =
    let p = both (range 0xC2 0xDF a) (utf8_tail b) e in
    let f = in_range 0xC2 0xDF a p.0 in
    let g = in_tail b p.1 in
    (f.0, f.1, g.0, g.1)

module _ {P : Type 0} (a b c : ℕ) where
  pub in_3 :
      utf8_3 a b c ≡ true →
      (Within3 0xE0 0xE0 0xA0 0xBF a b c → P) →
      (Within3 0xE1 0xEC 0x80 0xBF a b c → P) →
      (Within3 0xED 0xED 0x80 0x9F a b c → P) →
      (Within3 0xEE 0xEF 0x80 0xBF a b c → P) →
      P
  unfolding utf8_3
  in_3 e f g h k =
      by-either _ _ e
      (λ e. by-either _ _ e (λ e. by-either _ _ e (λ e. f (within_of _ _ _ _ a b c e)) (λ e. g (within_of _ _ _ _ a b c e))) (λ e. h (within_of _ _ _ _ a b c e)))
      (λ e. k (within_of _ _ _ _ a b c e))

  pub in_4 :
      (d : ℕ) → utf8_4 a b c d ≡ true →
      (Within3 0xF0 0xF0 0x90 0xBF a b c → (0x80 ≤ d) × (d ≤ 0xBF) → P) →
      (Within3 0xF1 0xF3 0x80 0xBF a b c → (0x80 ≤ d) × (d ≤ 0xBF) → P) →
      (Within3 0xF4 0xF4 0x80 0x8F a b c → (0x80 ≤ d) × (d ≤ 0xBF) → P) →
      P
  unfolding utf8_4
  in_4 d e f g h =
      by-either _ _ e
      (λ e. by-either _ _ e (λ e. let p = both _ _ e in f (within_of _ _ _ _ a b c p.0) (in_tail d p.1))
      (λ e. let p = both _ _ e in g (within_of _ _ _ _ a b c p.0) (in_tail d p.1)))
      (λ e. let p = both _ _ e in h (within_of _ _ _ _ a b c p.0) (in_tail d p.1))

pub of_1 : (a : ℕ) → a ≤ 0x7F → utf8_1 a ≡ true
of_1 a p = range_in 0x00 0x7F a zero-le p

pub of_2 : (a b : ℕ) → 0xC2 ≤ a → a ≤ 0xDF → 0x80 ≤ b → b ≤ 0xBF → utf8_2 a b ≡ true
unfolding utf8_2
of_2 a b p q r s = rw (range_in 0xC2 0xDF a p q, tail_in b r s)

module _ (a b c : ℕ) where
  pub of_3a : Within3 0xE0 0xE0 0xA0 0xBF a b c → utf8_3 a b c ≡ true
  unfolding utf8_3
  of_3a w = rw (of-within 0xE0 0xE0 0xA0 0xBF a b c w)

  pub of_3b : Within3 0xE1 0xEC 0x80 0xBF a b c → utf8_3 a b c ≡ true
  unfolding utf8_3
  of_3b w = simp (of-within 0xE1 0xEC 0x80 0xBF a b c w, or-true)

  pub of_3c : Within3 0xED 0xED 0x80 0x9F a b c → utf8_3 a b c ≡ true
  unfolding utf8_3
  of_3c w = simp (of-within 0xED 0xED 0x80 0x9F a b c w, or-true)

  pub of_3d : Within3 0xEE 0xEF 0x80 0xBF a b c → utf8_3 a b c ≡ true
  unfolding utf8_3
  of_3d w = simp (of-within 0xEE 0xEF 0x80 0xBF a b c w, or-true)

module _ (a b c d : ℕ) (t : utf8_tail d ≡ true) where
  pub of_4a : Within3 0xF0 0xF0 0x90 0xBF a b c → utf8_4 a b c d ≡ true
  unfolding utf8_4
  of_4a w = rw (of-within 0xF0 0xF0 0x90 0xBF a b c w, t)

  pub of_4b : Within3 0xF1 0xF3 0x80 0xBF a b c → utf8_4 a b c d ≡ true
  unfolding utf8_4
  of_4b w = simp (of-within 0xF1 0xF3 0x80 0xBF a b c w, t, or-true)

  pub of_4c : Within3 0xF4 0xF4 0x80 0x8F a b c → utf8_4 a b c d ≡ true
  unfolding utf8_4
  of_4c w = simp (of-within 0xF4 0xF4 0x80 0x8F a b c w, t, or-true)

-- the first octets, which tell the rules apart
pub first_3 : (a b c : ℕ) → utf8_3 a b c ≡ true → (0xE0 ≤ a) × (a ≤ 0xEF)
first_3 a b c e = in_3 a b c e (λ w. omega arith) (λ w. omega arith) (λ w. omega arith) (λ w. omega arith)

pub first_4 : (a b c d : ℕ) → utf8_4 a b c d ≡ true → (0xF0 ≤ a) × (a ≤ 0xF4)
first_4 a b c d e = in_4 a b c d e (λ w t. omega arith) (λ w t. omega arith) (λ w t. omega arith)

-- the octets after the first
pub tail_2 : (a b : ℕ) → utf8_2 a b ≡ true → utf8_tail b ≡ true
tail_2 a b e = let p = in_2 a b e in tail_in b p.2 p.3

two_tails : {al ah bl bh a b c : ℕ} → 0x80 ≤ bl → bh ≤ 0xBF → Within3 al ah bl bh a b c → (utf8_tail b ≡ true) × (utf8_tail c ≡ true)
two_tails {b = b} {c = c} p q w = (tail_in b (omega arith) (omega arith), tail_in c w.c_from w.c_to)

three_tails :
    {al ah bl bh a b c d : ℕ} → 0x80 ≤ bl → bh ≤ 0xBF → Within3 al ah bl bh a b c → (0x80 ≤ d) × (d ≤ 0xBF) →
    (utf8_tail b ≡ true) × (utf8_tail c ≡ true) × (utf8_tail d ≡ true)
three_tails {d = d} p q w t = let u = two_tails p q w in (u.0, u.1, tail_in d t.0 t.1)

pub tails_3 : (a b c : ℕ) → utf8_3 a b c ≡ true → (utf8_tail b ≡ true) × (utf8_tail c ≡ true)
tails_3 a b c e =
    in_3 a b c e (two_tails (lit≤ tt) (lit≤ tt)) (two_tails (lit≤ tt) (lit≤ tt)) (two_tails (lit≤ tt) (lit≤ tt)) (two_tails (lit≤ tt) (lit≤ tt))

pub tails_4 : (a b c d : ℕ) → utf8_4 a b c d ≡ true → (utf8_tail b ≡ true) × (utf8_tail c ≡ true) × (utf8_tail d ≡ true)
tails_4 a b c d e =
    in_4 a b c d e (three_tails (lit≤ tt) (lit≤ tt)) (three_tails (lit≤ tt) (lit≤ tt)) (three_tails (lit≤ tt) (lit≤ tt))

pub not_tail_low : (a : ℕ) → a ≤ 0x7F → utf8_tail a ≡ false
not_tail_low a p = refuted (utf8_tail a) (λ e. omega (arith, in_tail a e))

pub not_tail_high : (a : ℕ) → 0xC0 ≤ a → utf8_tail a ≡ false
not_tail_high a p = refuted (utf8_tail a) (λ e. omega (arith, in_tail a e))

pub not_1 : (a : ℕ) → 0x80 ≤ a → utf8_1 a ≡ false
not_1 a p = refuted (utf8_1 a) (λ e. omega (arith, in_1 a e))

pub not_2 : (a b : ℕ) → 0xE0 ≤ a → utf8_2 a b ≡ false
not_2 a b p = refuted (utf8_2 a b) (λ e. omega (arith, in_2 a b e))

pub not_3 : (a b c : ℕ) → 0xF0 ≤ a → utf8_3 a b c ≡ false
not_3 a b c p = refuted (utf8_3 a b c) (λ e. in_3 a b c e (λ w. omega arith) (λ w. omega arith) (λ w. omega arith) (λ w. omega arith))
