-- Byte strings compared by std's order. Assumes nothing.
use Prim.Native.Nat.{ℕ, ◌<◌}
use mathlib.Core.Path.{◌≡◌, refl, sym, ap, ◌∙◌}
use mathlib.Core.Bool.{false}
use mathlib.Core.List.{List, ◌∷◌}
use Rattle.std.proofs.Common.{Ordering, Less, Equal, Greater}
use Rattle.std.specs.Ordering.{MatchOrdering, nat_cmp, is_lt}
use Rattle.std.specs.Cmp.Lexicographic.{slice_cmp}
use Rattle.std.proofs.lemmas.Cmp.{same_from_slice_cmp, ranked}
use borrow.Author.Tests.{eq-eqb, ne_eqb, lt-ltb, le-ltb}
use native.Mathlib.Omega.{arith}
use Rattle.tok.specs.Text.{Texts, name_bytes}
use Rattle.name_order.specs.Bytes.{bytes_before, before_self}

pub before-is : (a b : List ℕ) (r : Ordering) → r ≡ slice_cmp nat_cmp a b → is_lt r ≡ bytes_before a b
unfolding bytes_before
before-is = same_from_slice_cmp nat_cmp is_lt bytes_before refl (λ _ _. refl) (λ _ _. refl) (λ x y s t o h. heads x y s t o (ranked x y o h))
  where
    heads : (x y : ℕ) (s t : List ℕ) (o : Ordering) → MatchOrdering o (x < y) (x ≡ y) (y < x)
        → MatchOrdering o (bytes_before (x ∷ s) (y ∷ t) ≡ is_lt Less) (bytes_before (x ∷ s) (y ∷ t) ≡ bytes_before s t) (bytes_before (x ∷ s) (y ∷ t) ≡ is_lt Greater)
    heads x y s t Less l = rw (ne_eqb x y (λ e. omega arith), lt-ltb x y l) refl
    heads x y s t Equal e = rw (eq-eqb x y e) refl
    heads x y s t Greater l = rw (ne_eqb x y (λ e. omega arith), le-ltb x y (omega arith)) refl

pub none-before-same : (t : Texts) (a b : ℕ) → a ≡ b → false ≡ bytes_before (name_bytes t a) (name_bytes t b)
none-before-same t a b e = sym (ap (λ w. bytes_before (name_bytes t w) (name_bytes t b)) e ∙ before_self (name_bytes t b))
