-- A turn of `is_ascii`: the or of octets is in the ASCII range exactly where each of them is, since it is no less than each, and has no
-- more digits than the longest. Assumes nothing.
use Prim.Native.Nat.{ℕ, suc, ◌+◌, ◌<◌}
use mathlib.Core.Path.{◌≡◌, sym, ap, ◌∙◌}
use mathlib.Core.Bool.{true, ◌&&◌, and_assoc}
use mathlib.Core.List.{List}
use native.Mathlib.Omega.{arith}
use native.Mathlib.Numerals.{add-one}
use lib.ListN.{length, get_or, drop}
use lib.Seq.{drop-cons}
use lib.Dec.{leb}
use lib.Bits.{bit_or, or_lt, or_add_and, and_le_l, and_le_r}
use borrow.Author.Tests.{le-leb, leb-true}
use Rattle.facts.specs.Tests.{both, same}
use Rattle.utf8.specs.Rfc3629.{utf8_1}
use Rattle.utf8.specs.Properties.{ascii}

in_1 : (a : ℕ) → utf8_1 a ≡ true → a < 128
in_1 a e = omega (arith, leb-true a 127 (both (leb 0 a) (leb a 127) e).1)

of_1 : (a : ℕ) → a < 128 → utf8_1 a ≡ true
of_1 a h = rw (le-leb 0 a (omega arith), le-leb a 127 (omega arith))

each_of : (a b : ℕ) → bit_or a b < 128 → (a < 128) × (b < 128)
each_of a b h =
    let s = or_add_and a b in
    let l = and_le_l a b in
    let r = and_le_r a b in
    (omega arith, omega arith)

pub or_ascii : (a b : ℕ) → (utf8_1 a && utf8_1 b) ≡ utf8_1 (bit_or a b)
or_ascii a b =
    same _ _ (λ e. of_1 (bit_or a b) (or_lt 7 a b (in_1 a (both (utf8_1 a) (utf8_1 b) e).0) (in_1 b (both (utf8_1 a) (utf8_1 b) e).1)))
    (λ e.
    let h = each_of a b (in_1 (bit_or a b) e) in
    rw (of_1 a h.0, of_1 b h.1))

-- the or of the octets before i, and the octets from i on
module _ (s : List ℕ) (i all : ℕ) (so_far : ascii s ≡ (utf8_1 all && ascii (drop i s))) where
  pub one_more : i < length s → ascii s ≡ (utf8_1 (bit_or all (get_or s i 0)) && ascii (drop (i + 1) s))
  one_more h =
      so_far ∙ ap (λ l. utf8_1 all && ascii l) (drop-cons s i 0 h)
      ∙ sym (and_assoc (utf8_1 all) (utf8_1 (get_or s i 0)) (ascii (drop (suc i) s)))
      ∙ ap (λ b. b && ascii (drop (suc i) s)) (or_ascii all (get_or s i 0))
      ∙ ap (λ j. utf8_1 (bit_or all (get_or s i 0)) && ascii (drop j s)) (sym (add-one i))
