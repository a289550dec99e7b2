-- What `Writer::put` copies, and its answer, by whether all of the piece has room. Assumes nothing.
use Prim.Native.Nat.{ℕ, ◌+◌, ◌-◌, ◌≤◌, ◌<◌, max}
use mathlib.Core.Path.{◌≡◌, refl, sym, ap, ◌∙◌}
use mathlib.Core.List.{List, [], ◌∷◌, ◌++◌, append-nil}
use native.Mathlib.Omega.{arith}
use lib.ListN.{length, take, drop, length-drop, drop_of_length-le}
use Rattle.std.specs.Prelude.{Ok, Err}
use Rattle.ptype.specs.Add.{overwrite, write}
use Rattle.display.specs.Writing.{written}
use Rattle.display.specs.WriteLaws.{write-past}
use Rattle.display.specs.WritingLaws.{written-room, written-full}

-- as much of a list as has room, over the front of another
over-all : (o s : List ℕ) → length s ≤ length o → s ++ drop (length s) o ≡ overwrite o s
unfolding overwrite
over-all [] [] h = refl
over-all (x ∷ o) [] h = refl
over-all [] (y ∷ s) h = absurd (omega arith)
over-all (x ∷ o) (y ∷ s) h = ap (λ l. y ∷ l) (over-all o s (omega arith))

over-front : (o s : List ℕ) → length o ≤ length s → take (length o) s ≡ overwrite o s
unfolding overwrite
over-front [] s h = refl
over-front (x ∷ o) [] h = absurd (omega arith)
over-front (x ∷ o) (y ∷ s) h = ap (λ l. y ∷ l) (over-front o s (omega arith))

module _ (o : List ℕ) (n : ℕ) (s : List ℕ) where
  pub copied_none : length o < n → (Err (record {}), (o, n)) ≡ written o n s
  copied_none h =
      let e : max n (length o) ≡ n = omega arith in
      sym (written-full o n s (omega arith) ∙ rw (write-past o n s (omega arith), e))

  module _ {l : List ℕ} (h : n ≤ length o) where
    pub copied_all : length s ≤ length o - n → l ≡ s → (Ok tt, (take n o ++ (l ++ drop (n + length s - n) (drop n o)), n + length s)) ≡ written o n s
    unfolding write
    copied_all k e =
        let d = length-drop n o in
        let m : n + length s - n ≡ length s = omega arith in
        rw (e, m, over-all (drop n o) s (omega arith)) (sym (written-room o n s (omega arith)))

    pub copied_full : length o - n < length s → l ≡ take (length o - n) s → (Err (record {}), (take n o ++ (l ++ drop (length o - n) (drop n o)), length o)) ≡ written o n s
    unfolding write
    copied_full k e =
        let d = length-drop n o in
        let m : max n (length o) ≡ length o = omega arith in
        sym (written-full o n s (omega arith) ∙ rw (m, e, ← length-drop n o, over-front (drop n o) s (omega arith), drop_of_length-le (drop n o) {i = length (drop n o)} (omega arith), append-nil))
