-- Names that differ in their length or in a part: one law for each way out of `differs_in`. THE LAW, `differs-other`: such names differ. Assumes
-- nothing.
use Prim.Native.Nat.{ℕ, ◌+◌, ◌-◌, ◌≤◌, ◌<◌, min}
use mathlib.Core.Path.{◌≡◌, refl, sym, ap, ◌∙◌}
use mathlib.Core.Bool.{Bool, true, false, not, ◌&&◌, true≢false}
use mathlib.Core.List.{List}
use native.Mathlib.Omega.{arith}
use lib.Dec.{ltb, leb}
use lib.ListN.{length, take, drop}
use borrow.Author.Tests.{lt-ltb, le-ltb, le-leb, lt-leb, eq-eqb, ne_eqb}
use Rattle.tok.specs.Text.{Texts, name_bytes, same_bytes}
use Rattle.tok.specs.Part.{part_of, differs_in}
use Rattle.tok.proofs.TextLaws.{same_bytes-true, eq_same_bytes}

-- the part that the code finds, in two strings of one length
pub part-there : (a b : List ℕ) (part : ℕ) {i : ℕ} {r : Bool} → length a ≡ length b → i ≡ length a - 4 - min part (length a - 4)
    → r ≡ same_bytes (take (i + 4 - i) (drop i a)) (take (i + 4 - i) (drop i b)) → not r ≡ not (same_bytes (part_of part a) (part_of part b))
unfolding part_of
part-there a b part {i} long e h =
    let z : i + 4 - i ≡ 4 = omega arith in
    let same : same_bytes (take (i + 4 - i) (drop i a)) (take (i + 4 - i) (drop i b)) ≡ same_bytes (part_of part a) (part_of part b) = rw (z, e, long) in
    ap not (h ∙ same)

module _ (t : Texts) (name : List ℕ) (w part : ℕ) where
  pub no_part : 256 ≤ part → false ≡ differs_in t name w part
  unfolding differs_in
  no_part h = rw (le-ltb part 256 h)

  module _ (l : part < 256) where
    pub no_bytes : length name < 4 → false ≡ differs_in t name w part
    unfolding differs_in
    no_bytes h = rw (lt-ltb part 256 l, lt-leb 4 (length name) h)

    module _ (four : 4 ≤ length name) {own : List ℕ} (e : own ≡ name_bytes t w) where
      pub lengths_differ : (length name ≡ length own → ⊥) → true ≡ differs_in t name w part
      unfolding differs_in
      lengths_differ d = rw (lt-ltb part 256 l, le-leb 4 (length name) four, ← e, ne_eqb (length name) (length own) d)

      pub by_part : length name ≡ length own → {r : Bool} → r ≡ not (same_bytes (part_of part name) (part_of part own)) → r ≡ differs_in t name w part
      unfolding differs_in
      by_part long h = h ∙ rw (lt-ltb part 256 l, le-leb 4 (length name) four, ← e, eq-eqb (length name) (length own) long)

  nothing : (b : Bool) → (b && false) ≡ false
  nothing true = refl
  nothing false = refl

  same : name ≡ name_bytes t w → differs_in t name w part ≡ false
  unfolding differs_in
  same q = rw (← q, eq-eqb (length name) (length name) refl, eq_same_bytes (part_of part name) (part_of part name) refl) (nothing (ltb part 256 && leb 4 (length name)))

  -- THE LAW
  pub differs-other : differs_in t name w part ≡ true → same_bytes name (name_bytes t w) ≡ false
  differs-other h = by (same_bytes name (name_bytes t w)) refl
    where
      by : (b : Bool) → same_bytes name (name_bytes t w) ≡ b → b ≡ false
      by true e = absurd (true≢false (sym h ∙ same (same_bytes-true name (name_bytes t w) e)))
      by false e = refl
