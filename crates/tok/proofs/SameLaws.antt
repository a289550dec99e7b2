-- Comparing byte strings of one length: from the end; many bytes at a time, by an or of exclusive ors, which is 0 exactly where no byte
-- differs; and part by part. Assumes nothing.
use Prim.Native.Nat.{ℕ, suc, ◌+◌, ◌-◌, ◌≤◌, ◌<◌}
use mathlib.Core.Path.{◌≡◌, refl, sym, ap, ◌∙◌}
use mathlib.Core.Bool.{Bool, true, false, ◌&&◌, and-true, and_assoc, and-eq-true_iff}
use mathlib.Core.List.{List}
use native.Mathlib.Numerals.{add-one}
use native.Mathlib.Omega.{arith}
use lib.Dec.{eqb, ltb}
use lib.Bits.{bit_or, bit_xor, or_add_and, xor_add_and, and_le_l, and_le_r, xor_self}
use lib.ListN.{length, get_or, take, drop, length-take, drop_of_length-le}
use lib.Seq.{drop-cons, get_or-take, get_or-drop, ext_get_or}
use borrow.Author.Tests.{eqb-true, eq-eqb, ltb-true, ltb-false}
use Rattle.tok.specs.Word.{name_length}
use Rattle.tok.specs.Text.{Texts, same_bytes, name_bytes}
use Rattle.tok.proofs.TextLaws.{same_bytes-true, same_bytes-false, eq_same_bytes, ne_same_bytes}

both_true : (p q : Bool) → (p ≡ true → q ≡ true) → (q ≡ true → p ≡ true) → p ≡ q
both_true true q f g = sym (f refl)
both_true false true f g = g refl
both_true false false f g = refl

differ-none : (d a b : ℕ) → bit_or d (bit_xor a b) ≡ 0 → (d ≡ 0) × (a ≡ b)
differ-none d a b e =
    let o = or_add_and d (bit_xor a b) in
    let ol = and_le_l d (bit_xor a b) in
    let or = and_le_r d (bit_xor a b) in
    let x = xor_add_and a b in
    let xl = and_le_l a b in
    let xr = and_le_r a b in
    (omega arith, omega arith)

none_differ : (d a b : ℕ) → d ≡ 0 → a ≡ b → bit_or d (bit_xor a b) ≡ 0
none_differ d a b e f = rw (e, f, xor_self b)

-- one more byte of each
differs : (d a b : ℕ) → (eqb d 0 && eqb a b) ≡ eqb (bit_or d (bit_xor a b)) 0
differs d a b =
    both_true (eqb d 0 && eqb a b) (eqb (bit_or d (bit_xor a b)) 0)
    (λ e.
    let h = (and-eq-true_iff (eqb d 0) (eqb a b)).0 e in
    eq-eqb (bit_or d (bit_xor a b)) 0 (none_differ d a b (eqb-true d 0 h.0) (eqb-true a b h.1)))
    (λ e.
    let h = differ-none d a b (eqb-true (bit_or d (bit_xor a b)) 0 e) in
    (and-eq-true_iff (eqb d 0) (eqb a b)).1 (eq-eqb d 0 h.0, eq-eqb a b h.1))

-- the bytes before i are told apart by `d`, and those from i on are left
module _ (a b : List ℕ) (i d : ℕ) (long : length a ≡ length b) (so_far : same_bytes a b ≡ (eqb d 0 && same_bytes (drop i a) (drop i b))) where
  next_both : i < length a → same_bytes (drop i a) (drop i b) ≡ (eqb (get_or a i 0) (get_or b i 0) && same_bytes (drop (suc i) a) (drop (suc i) b))
  unfolding same_bytes
  next_both h = rw (drop-cons a i 0 h, drop-cons b i 0 (omega arith))

  pub same_more : i < length a → same_bytes a b ≡ (eqb (bit_or d (bit_xor (get_or a i 0) (get_or b i 0))) 0 && same_bytes (drop (i + 1) a) (drop (i + 1) b))
  same_more h =
      so_far ∙ ap (λ r. eqb d 0 && r) (next_both h)
      ∙ sym (and_assoc (eqb d 0) (eqb (get_or a i 0) (get_or b i 0)) (same_bytes (drop (suc i) a) (drop (suc i) b)))
      ∙ ap (λ r. r && same_bytes (drop (suc i) a) (drop (suc i) b)) (differs d (get_or a i 0) (get_or b i 0))
      ∙ ap (λ j. eqb (bit_or d (bit_xor (get_or a i 0) (get_or b i 0))) 0 && same_bytes (drop j a) (drop j b)) (sym (add-one i))

  pub same_over : length a ≤ i → eqb d 0 ≡ same_bytes a b
  unfolding same_bytes
  same_over h =
      let k : length b ≤ i = omega arith in
      sym (so_far ∙ rw (drop_of_length-le a h, drop_of_length-le b k) (and-true (eqb d 0)))

-- ── Part by part ──

at_part : (l : List ℕ) (i m k : ℕ) → i ≤ k → k < i + m → get_or (take m (drop i l)) (k - i) 0 ≡ get_or l k 0
at_part l i m k h below =
    let e : i + (k - i) ≡ k = omega arith in
    get_or-take m (drop i l) (k - i) 0 (omega arith) ∙ get_or-drop i l (k - i) 0 ∙ ap (λ j. get_or l j 0) e

module _ (a b : List ℕ) (i m : ℕ) where
  part_equal : same_bytes (take m (drop i a)) (take m (drop i b)) ≡ true → (k : ℕ) → i ≤ k → k < i + m → get_or a k 0 ≡ get_or b k 0
  part_equal e k h below =
      sym (at_part a i m k h below) ∙ ap (λ s. get_or s (k - i) 0) (same_bytes-true (take m (drop i a)) (take m (drop i b)) e) ∙ at_part b i m k h below

  pub part-differs : {r : Bool} → r ≡ same_bytes (take m (drop i a)) (take m (drop i b)) → r ≡ false → false ≡ same_bytes a b
  part-differs e f =
      sym (ne_same_bytes a b (λ q. same_bytes-false (take m (drop i a)) (take m (drop i b)) (sym e ∙ f) (ap (λ s. take m (drop i s)) q)))

  -- the bytes before i are equal
  module _ (before : (k : ℕ) → k < i → get_or a k 0 ≡ get_or b k 0) where
    pub parts_more : {r : Bool} {n : ℕ} → m ≡ n → r ≡ same_bytes (take m (drop i a)) (take m (drop i b)) → r ≡ true → (k : ℕ) → k < i + n → get_or a k 0 ≡ get_or b k 0
    parts_more en e t k h = by (ltb k i) refl
      where
        by : (d : Bool) → ltb k i ≡ d → get_or a k 0 ≡ get_or b k 0
        by true y = before k (ltb-true k i y)
        by false y = part_equal (sym e ∙ t) k (ltb-false k i y) (omega arith)

-- the last part begins no later than where the bytes before it end
module _ (a b : List ℕ) (i : ℕ) (before : (k : ℕ) → k < i → get_or a k 0 ≡ get_or b k 0) (long : length a ≡ length b) where
  pub parts-over : {r : Bool} (last m : ℕ) → last ≤ i → length a ≡ last + m → r ≡ same_bytes (take m (drop last a)) (take m (drop last b)) → r ≡ true → true ≡ same_bytes a b
  parts-over last m h l e t = sym (eq_same_bytes a b (ext_get_or 0 a b long every))
    where
      every : (k : ℕ) → k < length a → get_or a k 0 ≡ get_or b k 0
      every k below = by (ltb k i) refl
        where
          by : (d : Bool) → ltb k i ≡ d → get_or a k 0 ≡ get_or b k 0
          by true y = before k (ltb-true k i y)
          by false y = part_equal a b last m (sym e ∙ t) k (omega (arith, ltb-false k i y)) (omega arith)

-- equal words stand for one name
pub same_word : (t : Texts) (a b : ℕ) → a ≡ b → true ≡ same_bytes (name_bytes t a) (name_bytes t b)
same_word t a b e = sym (eq_same_bytes (name_bytes t a) (name_bytes t b) (ap (name_bytes t) e))

-- a name that is too short
short-bytes : (n : ℕ) (l : List ℕ) → length (take n l) ≤ n
short-bytes n l = simp length-take (omega arith)

pub short-name : (t : Texts) (w : ℕ) (name : List ℕ) {n : ℕ} → n ≡ name_length w → n < length name → false ≡ same_bytes name (name_bytes t w)
unfolding name_bytes
short-name t w name e h =
    sym (ne_same_bytes _ _ (λ q. let z : length name ≤ name_length w = rw q (short-bytes (name_length w) _) in absurd (omega arith)))
