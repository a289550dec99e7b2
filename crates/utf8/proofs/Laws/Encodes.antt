-- A string is well formed exactly where it is the concatenation of the encodings of some scalar values: each UTF8-char is the encoding
-- of a scalar value, and the encoding of each scalar value is a UTF8-char. The bits are arithmetic, which `omega` does. Assumes nothing.
use Rattle.std.specs.Prelude.{ℕ, ◌+◌, ◌*◌, ◌-◌, ◌/◌, ◌%◌, ◌^◌, ◌≤◌, ◌≡◌, refl, true, ◌⊎◌}
use Rattle.std.proofs.Common.{zero-le, ◌∙◌, inl, inr, ⊎_elim, arith, lit≤}
use Rattle.std.proofs.Math.Bool.{or-true}
use mathlib.Core.List.{List, [], ◌∷◌, flat_map}
use Rattle.facts.specs.Tests.{both, by-either, by_order}
use Rattle.utf8.specs.Rfc3629.{range, Char, one, two, three, four, Octets, none, more, well_formed}
use Rattle.utf8.specs.Encoding.{scalar, row_1, row_2, row_3, row_4, encode, encodings, scalars, Encoded}
use Rattle.utf8.proofs.Laws.Tests.{Within3, in_range, range_in, range-out, tail_in, of_1, of_2, of_3a, of_3b, of_3c, of_3d, of_4a, of_4b, of_4c, in_1, in_2, in_3, in_4}
use Rattle.utf8.proofs.Laws.Decides.{octets_of, well-of}

-- ---- the row that each range of numbers has
module _ (n : ℕ) where
  encode_1 : n ≤ 0x7F → encode n ≡ row_1 n
  unfolding encode
  encode_1 p = rw (range_in 0x0000 0x007F n (omega arith) p)

  encode_2 : 0x80 ≤ n → n ≤ 0x7FF → encode n ≡ row_2 n
  unfolding encode
  encode_2 p q = rw (range-out 0x0000 0x007F n p, range_in 0x0080 0x07FF n p q)

  encode_3 : 0x800 ≤ n → n ≤ 0xFFFF → encode n ≡ row_3 n
  unfolding encode
  encode_3 p q = rw (range-out 0x0000 0x007F n (omega arith), range-out 0x0080 0x07FF n p, range_in 0x0800 0xFFFF n p q)

  encode_4 : 0x10000 ≤ n → n ≤ 0x10FFFF → encode n ≡ row_4 n
  unfolding encode
  encode_4 p q =
      rw (range-out 0x0000 0x007F n (omega arith), range-out 0x0080 0x07FF n (omega arith), range-out 0x0800 0xFFFF n p, range_in 0x10000 0x10FFFF n p q)

-- ---- the encoding of a scalar value is a UTF8-char
module _ (n : ℕ) where
  char_1 : n ≤ 0x7F → Char (row_1 n)
  char_1 p = one (of_1 n p)

  char_2 : 0x80 ≤ n → n ≤ 0x7FF → Char (row_2 n)
  char_2 p q = two (of_2 (0xC0 + n / 2 ^ 6) (0x80 + n % 2 ^ 6) (omega arith) (omega arith) (omega arith) (omega arith))

  char_3 : 0x800 ≤ n → n ≤ 0xFFFF → (n ≤ 0xD7FF) ⊎ (0xE000 ≤ n) → Char (row_3 n)
  char_3 p q s =
      let a = 0xE0 + n / 2 ^ 12 in
      let b = 0x80 + n / 2 ^ 6 % 2 ^ 6 in
      let c = 0x80 + n % 2 ^ 6 in
      three (⊎_elim
      (λ l. by_order n 0xFFF (λ m. of_3a a b c (omega arith)) (λ m. by_order n 0xCFFF (λ k. of_3b a b c (omega arith)) (λ k. of_3c a b c (omega arith))))
      (λ l. of_3d a b c (omega arith))
      s)

  char_4 : 0x10000 ≤ n → n ≤ 0x10FFFF → Char (row_4 n)
  char_4 p q =
      let a = 0xF0 + n / 2 ^ 18 in
      let b = 0x80 + n / 2 ^ 12 % 2 ^ 6 in
      let c = 0x80 + n / 2 ^ 6 % 2 ^ 6 in
      let d = 0x80 + n % 2 ^ 6 in
      let t = tail_in d (omega arith) (omega arith) in
      four (by_order n 0x3FFFF
      (λ m. of_4a a b c d t (omega arith))
      (λ m. by_order n 0xFFFFF (λ k. of_4b a b c d t (omega arith)) (λ k. of_4c a b c d t (omega arith))))

scalar_ranges : {P : Type 0} (n : ℕ) → scalar n ≡ true → (n ≤ 0xD7FF → P) → (0xE000 ≤ n → n ≤ 0x10FFFF → P) → P
unfolding scalar
scalar_ranges n e f g =
    by-either (range 0x0000 0xD7FF n) (range 0xE000 0x10FFFF n) e
    (λ h. f (in_range 0x0000 0xD7FF n h).1)
    (λ h. let p = in_range 0xE000 0x10FFFF n h in g p.0 p.1)

encode_char : (n : ℕ) → scalar n ≡ true → Char (encode n)
encode_char n e =
    by_order n 0x7F (λ a. rw (encode_1 n a) (char_1 n a))
    (λ a. by_order n 0x7FF (λ b. rw (encode_2 n a b) (char_2 n a b))
    (λ b. by_order n 0xFFFF (λ c. rw (encode_3 n b c) (char_3 n b c (scalar_ranges n e inl (λ p q. inr p))))
    (λ c. let d : n ≤ 0x10FFFF = scalar_ranges n e (λ p. omega arith) (λ p q. q) in rw (encode_4 n c d) (char_4 n c d))))

pub encodings_octets : (ns : List ℕ) → scalars ns ≡ true → Octets (encodings ns)
unfolding encodings scalars flat_map
encodings_octets [] e = none
encodings_octets (n ∷ ns) e = let p = both (scalar n) (scalars ns) e in more (encode_char n p.0) (encodings_octets ns p.1)

-- ---- a UTF8-char is the encoding of a scalar value
record Of (c : List ℕ) : Type 0 where
  value : ℕ
  is-scalar : scalar value ≡ true
  is-encoded : encode value ≡ c

low_scalar : (n : ℕ) → n ≤ 0xD7FF → scalar n ≡ true
unfolding scalar
low_scalar n p = rw (range_in 0x0000 0xD7FF n zero-le p)

high_scalar : (n : ℕ) → 0xE000 ≤ n → n ≤ 0x10FFFF → scalar n ≡ true
unfolding scalar
high_scalar n p q = simp (range_in 0xE000 0x10FFFF n p q, or-true)

value_2 : (a b : ℕ) → (0xC2 ≤ a) × (a ≤ 0xDF) × (0x80 ≤ b) × (b ≤ 0xBF) → Of (a ∷ b ∷ [])
value_2 a b w =
    let n = (a - 0xC0) * 2 ^ 6 + (b - 0x80) in
    let p : 0xC0 + n / 2 ^ 6 ≡ a = omega arith in
    let q : 0x80 + n % 2 ^ 6 ≡ b = omega arith in
    record { value = n; is-scalar = low_scalar n (omega arith); is-encoded = encode_2 n (omega arith) (omega arith) ∙ cc }

-- the numbers of three and of four octets
abbrev number_3 : ℕ → ℕ → ℕ → ℕ
number_3 a b c = (a - 0xE0) * 2 ^ 12 + (b - 0x80) * 2 ^ 6 + (c - 0x80)

abbrev number_4 : ℕ → ℕ → ℕ → ℕ → ℕ
number_4 a b c d = (a - 0xF0) * 2 ^ 18 + (b - 0x80) * 2 ^ 12 + (c - 0x80) * 2 ^ 6 + (d - 0x80)

value_3 :
    {al ah bl bh a b c : ℕ} → Within3 al ah bl bh a b c → 0xE0 ≤ al → ah ≤ 0xEF → 0x80 ≤ bl → bh ≤ 0xBF →
    0x800 ≤ number_3 a b c → scalar (number_3 a b c) ≡ true → Of (a ∷ b ∷ c ∷ [])
value_3 {a = a} {b = b} {c = c} w i j k l m e =
    let n = number_3 a b c in
    let p : 0xE0 + n / 2 ^ 12 ≡ a = omega arith in
    let q : 0x80 + n / 2 ^ 6 % 2 ^ 6 ≡ b = omega arith in
    let r : 0x80 + n % 2 ^ 6 ≡ c = omega arith in
    record { value = n; is-scalar = e; is-encoded = encode_3 n m (omega arith) ∙ cc }

value_4 :
    {al ah bl bh a b c d : ℕ} → Within3 al ah bl bh a b c → (0x80 ≤ d) × (d ≤ 0xBF) → 0xF0 ≤ al → ah ≤ 0xF4 → 0x80 ≤ bl → bh ≤ 0xBF →
    0x10000 ≤ number_4 a b c d → number_4 a b c d ≤ 0x10FFFF → Of (a ∷ b ∷ c ∷ d ∷ [])
value_4 {a = a} {b = b} {c = c} {d = d} w t i j k l m o =
    let n = number_4 a b c d in
    let p : 0xF0 + n / 2 ^ 18 ≡ a = omega arith in
    let q : 0x80 + n / 2 ^ 12 % 2 ^ 6 ≡ b = omega arith in
    let r : 0x80 + n / 2 ^ 6 % 2 ^ 6 ≡ c = omega arith in
    let u : 0x80 + n % 2 ^ 6 ≡ d = omega arith in
    record { value = n; is-scalar = high_scalar n (omega arith) o; is-encoded = encode_4 n m o ∙ cc }

char_value : {c : List ℕ} → Char c → Of c
char_value (one {a} h) =
    record { value = a; is-scalar = low_scalar a (omega (arith, in_1 a h)); is-encoded = encode_1 a (in_1 a h) }
char_value (two {a} {b} h) = value_2 a b (in_2 a b h)
char_value (three {a} {b} {c} h) =
    in_3 a b c h
    (λ w. value_3 w (lit≤ tt) (lit≤ tt) (lit≤ tt) (lit≤ tt) (omega arith) (low_scalar (number_3 a b c) (omega arith)))
    (λ w. value_3 w (lit≤ tt) (lit≤ tt) (lit≤ tt) (lit≤ tt) (omega arith) (low_scalar (number_3 a b c) (omega arith)))
    (λ w. value_3 w (lit≤ tt) (lit≤ tt) (lit≤ tt) (lit≤ tt) (omega arith) (low_scalar (number_3 a b c) (omega arith)))
    (λ w. value_3 w (lit≤ tt) (lit≤ tt) (lit≤ tt) (lit≤ tt) (omega arith) (high_scalar (number_3 a b c) (omega arith) (omega arith)))
char_value (four {a} {b} {c} {d} h) =
    in_4 a b c d h
    (λ w t. value_4 w t (lit≤ tt) (lit≤ tt) (lit≤ tt) (lit≤ tt) (omega arith) (omega arith))
    (λ w t. value_4 w t (lit≤ tt) (lit≤ tt) (lit≤ tt) (lit≤ tt) (omega arith) (omega arith))
    (λ w t. value_4 w t (lit≤ tt) (lit≤ tt) (lit≤ tt) (lit≤ tt) (omega arith) (omega arith))

octets_encoded : {s : List ℕ} → Octets s → Encoded s
unfolding encodings scalars flat_map
octets_encoded none = record { values = []; scalar-values = refl; encoded = refl }
octets_encoded (more {c} {s} k r) =
    let v = char_value k in
    let w = octets_encoded r in
    record { values = v.value ∷ w.values; scalar-values = rw v.is-scalar w.scalar-values; encoded = rw (v.is-encoded, w.encoded) }

pub encoded-well : {s : List ℕ} → Encoded s → well_formed s ≡ true
encoded-well e = rw e.encoded at (well-of (encodings_octets e.values e.scalar-values))

pub well-encoded : (s : List ℕ) → well_formed s ≡ true → Encoded s
well-encoded s e = octets_encoded (octets_of s e)
