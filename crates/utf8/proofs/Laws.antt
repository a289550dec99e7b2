-- The laws of well-formed strings. Each is proved here or in the file of Laws/ that it cites. Assumes nothing.
pub mod Tests
pub mod Decides
pub mod Encodes
pub mod Boundaries
use Rattle.std.specs.Prelude.{ℕ, ◌+◌, ◌-◌, ◌≤◌, ◌≡◌, true, false, List, [], ◌∷◌, ◌++◌, ◌↔◌, take, drop}
use Rattle.std.proofs.Common.{sym, ◌∙◌, ⊎_elim, arith, take-append-drop, drop-drop}
use Rattle.facts.specs.Tests.{both, refuted, same}
use Rattle.utf8.specs.Rfc3629.{utf8_1, one, Octets, none, more, well_formed}
use Rattle.utf8.specs.Encoding.{Encoded}
use Rattle.utf8.specs.Properties.{ascii, boundary}
pub use Rattle.utf8.proofs.Laws.Decides.{octets_of, well-of}
use Rattle.utf8.proofs.Laws.Decides.{octets_front}
use Rattle.utf8.proofs.Laws.Encodes.{well-encoded, encoded-well}
use Rattle.utf8.proofs.Laws.Boundaries.{cut, first, first-begins}

-- Section 4: the test is true exactly of the strings of the grammar.
pub decides : (s : List ℕ) → (well_formed s ≡ true) ↔ Octets s
decides s = (octets_of s, well-of)

-- Sections 3 and 4: a string is well formed exactly where it is the concatenation of the encodings of some scalar values.
pub encoded : (s : List ℕ) → (well_formed s ≡ true) ↔ Encoded s
encoded s = (well-encoded s, encoded-well)

pub empty : well_formed [] ≡ true
empty = well-of none

-- ---- concatenation
module _ (s t : List ℕ) where
  pub after : well_formed s ≡ true → well_formed (s ++ t) ≡ well_formed t
  after e = octets_front (octets_of s e) t

  pub append : well_formed s ≡ true → well_formed t ≡ true → well_formed (s ++ t) ≡ true
  append e f = after e ∙ f

  pub rest : well_formed s ≡ true → well_formed (s ++ t) ≡ true → well_formed t ≡ true
  rest e f = sym (after e) ∙ f

-- ---- section 1: "a plain ASCII string is also a valid UTF-8 string"
pub ascii_octets : (s : List ℕ) → ascii s ≡ true → Octets s
ascii_octets [] e = none
ascii_octets (a ∷ s) e = let p = both (utf8_1 a) (ascii s) e in more (one p.0) (ascii_octets s p.1)

pub ascii-well : (s : List ℕ) → ascii s ≡ true → well_formed s ≡ true
ascii-well s e = well-of (ascii_octets s e)

-- ---- strings put together of pieces: `well-of (p then q then r)`, where a piece of quoted text is `ascii_octets (text "..") refl`
-- and a name that is known to be well formed is `octets_of name e`
infixl 65 ◌then◌
pub ◌then◌ : {s t : List ℕ} → Octets s → Octets t → Octets (s ++ t)
◌then◌ {s} {t} o p = octets_of (s ++ t) (octets_front o t ∙ well-of p)

-- ---- section 1: character boundaries. They are where a well-formed string can be cut into two well-formed strings.
module _ (s : List ℕ) (well : well_formed s ≡ true) where
  front-well : (i : ℕ) → boundary s i ≡ true → well_formed (take i s) ≡ true
  front-well i b = well-of (cut (octets_of s well) i b)

  rest-well : (i : ℕ) → well_formed (take i s) ≡ true → well_formed (drop i s) ≡ true
  rest-well i f = rest (take i s) (drop i s) f (rw (take-append-drop i s) well)

  is-boundary : (i : ℕ) → well_formed (drop i s) ≡ true → boundary s i ≡ true
  unfolding boundary
  is-boundary i r = first-begins (drop i s) (first (octets_of (drop i s) r))

  -- the front is well formed exactly where it ends at a boundary
  pub boundary-front : (i : ℕ) → well_formed (take i s) ≡ boundary s i
  boundary-front i = same _ _ (λ f. is-boundary i (rest-well i f)) (front-well i)

  -- and the rest exactly where it begins at one
  pub boundary-rest : (i : ℕ) → well_formed (drop i s) ≡ boundary s i
  boundary-rest i = same _ _ (is-boundary i) (λ b. rest-well i (front-well i b))

-- a part of a well-formed string that begins and ends at boundaries is well formed
pub part :
    (s : List ℕ) (i j : ℕ) → well_formed s ≡ true → i ≤ j → boundary s i ≡ true → boundary s j ≡ true →
    well_formed (take (j - i) (drop i s)) ≡ true
unfolding boundary
part s i j well h bi bj =
    let k : i + (j - i) ≡ j = omega arith in
    boundary-front (drop i s) (boundary-rest s well i ∙ bi) (j - i)
    ∙ rw (drop-drop (j - i) i s, k) bj

-- ---- no string that begins with a tail, or with one of the octets that section 1 says never appear (C0, C1, F5 to FF), is well formed
module _ (a : ℕ) (s : List ℕ) where
  pub begins-none-low : 0x80 ≤ a → a ≤ 0xC1 → well_formed (a ∷ s) ≡ false
  begins-none-low p q = refuted (well_formed (a ∷ s)) (λ e. ⊎_elim (λ f. omega arith) (λ f. omega arith) (first (octets_of (a ∷ s) e)))

  pub begins-none-high : 0xF5 ≤ a → well_formed (a ∷ s) ≡ false
  begins-none-high p = refuted (well_formed (a ∷ s)) (λ e. ⊎_elim (λ f. omega arith) (λ f. omega arith) (first (octets_of (a ∷ s) e)))
