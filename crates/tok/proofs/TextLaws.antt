-- Laws of byte strings and of parts of a text: `same_bytes` decides equality, and a part that lies in its text is neither cut
-- short nor changed when the text is lengthened. By induction on the lists. Assumes nothing.
use mathlib.Core.Path.{◌≡◌, refl, sym, ◌∙◌}
use mathlib.Core.List.{List, [], ◌∷◌, ◌++◌}
use mathlib.Core.Bool.{Bool, true, false, true≢false, and-eq-true_iff}
use Prim.Native.Nat.{ℕ, ◌+◌, ◌≤◌}
use native.Mathlib.Omega.{arith}
use lib.Dec.{eqb}
use lib.ListN.{length, drop, length-take, length-drop}
use lib.Seq.{take-append-le, drop-append-le}
use borrow.Author.Tests.{eqb-true, eq-eqb}
use Rattle.tok.specs.Word.{name_length, name_start}
use Rattle.tok.specs.Text.{same_bytes, bytes_in}

-- `same_bytes` answers true for equal byte strings, and for no others.
pub same_bytes-true : (s t : List ℕ) → same_bytes s t ≡ true → s ≡ t
unfolding same_bytes
same_bytes-true [] [] e = refl
same_bytes-true [] (b ∷ t) e = cc
same_bytes-true (a ∷ s) [] e = cc
same_bytes-true (a ∷ s) (b ∷ t) e =
    let h = (and-eq-true_iff (eqb a b) (same_bytes s t)).0 e in
    cc (eqb-true a b h.0, same_bytes-true s t h.1)

same_bytes-self : (s : List ℕ) → same_bytes s s ≡ true
unfolding same_bytes
same_bytes-self [] = refl
same_bytes-self (a ∷ s) = rw (eq-eqb a a refl) (same_bytes-self s)

pub eq_same_bytes : (s t : List ℕ) → s ≡ t → same_bytes s t ≡ true
eq_same_bytes s t e = rw e (same_bytes-self t)

pub same_bytes-false : (s t : List ℕ) → same_bytes s t ≡ false → s ≡ t → ⊥
same_bytes-false s t d e = true≢false (sym (eq_same_bytes s t e) ∙ d)

pub ne_same_bytes : (s t : List ℕ) → (s ≡ t → ⊥) → same_bytes s t ≡ false
ne_same_bytes s t d = go (same_bytes s t) refl
  where
    go : (b : Bool) → same_bytes s t ≡ b → b ≡ false
    go true e = absurd (d (same_bytes-true s t e))
    go false e = refl

-- A name or token that lies in its text
module _ (text : List ℕ) (w : ℕ) (lies : name_start w + name_length w ≤ length text) where
  -- is not cut short,
  pub length-bytes_in : length (bytes_in text w) ≡ name_length w
  length-bytes_in = simp (length-take, length-drop) (omega arith)

  -- and does not change when the text is lengthened at its end.
  pub bytes_in-longer : (more : List ℕ) → bytes_in (text ++ more) w ≡ bytes_in text w
  bytes_in-longer more =
      rw (drop-append-le (name_start w) text more (omega arith))
      (take-append-le (name_length w) (drop (name_start w) text) more (simp length-drop (omega arith)))
