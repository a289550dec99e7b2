-- What stands in a buffer after a write: the words before it as they were, then the new ones. Assumes nothing.
use Rattle.std.specs.Prelude.{ℕ, ◌+◌, ◌≤◌, ◌<◌, ◌≡◌, refl, length, get_or, drop}
use Rattle.std.proofs.Common.{arith, sym, ◌∙◌, length-drop, get_or-take, get_or-append-add, length-take-le}
use Rattle.std.proofs.Math.Path.{ap}
use mathlib.Core.List.{List, [], ◌∷◌, ◌++◌}
use Rattle.std.proofs.Math.ListN.{take}
use Rattle.std.proofs.Math.Seq.{take-append-add, take-append_seam}
use Rattle.ptype.specs.Add.{Buffer, overwrite, write, append}
use Rattle.laws.specs.Writes.{front-write}
use Rattle.tworuns.specs.Means.{Grown}

overwrite-all : (l new : List ℕ) → length new ≤ length l → overwrite l new ≡ new ++ drop (length new) l
unfolding overwrite
overwrite-all [] [] h = refl
overwrite-all [] (y ∷ ys) h = absurd (omega arith)
overwrite-all (x ∷ xs) [] h = refl
overwrite-all (x ∷ xs) (y ∷ ys) h = ap (λ (t : List ℕ). y ∷ t) (overwrite-all xs ys (omega arith))

module _ (l : List ℕ) (at : ℕ) (new : List ℕ) where
  pub get_d_before : (j : ℕ) → j < at → get_or (write l at new) j 0 ≡ get_or l j 0
  get_d_before j h = sym (get_or-take at (write l at new) j 0 h) ∙ (ap (λ (x : List ℕ). get_or x j 0) (front-write l at at new (omega arith)) ∙ get_or-take at l j 0 h)

  module _ (fits : at + length new ≤ length l) where
    written : write l at new ≡ take at l ++ (new ++ drop (length new) (drop at l))
    unfolding write
    written = ap (λ (x : List ℕ). take at l ++ x) (overwrite-all (drop at l) new (rw (length-drop at l) (omega arith)))

    -- the used words, after the write
    pub take-written : take (at + length new) (write l at new) ≡ take at l ++ new
    take-written =
        let e : length (take at l) ≡ at = length-take-le at l (omega arith) in
        rw written (ap (λ (n : ℕ). take (n + length new) (take at l ++ (new ++ drop (length new) (drop at l)))) (sym e)
        ∙ (take-append-add (take at l) (new ++ drop (length new) (drop at l)) (length new) ∙ ap (λ (x : List ℕ). take at l ++ x) (take-append_seam new _)))

    -- the new words
    pub get_d_written : (i : ℕ) → i < length new → get_or (write l at new) (at + i) 0 ≡ get_or new i 0
    get_d_written i h =
        let e : length (take at l) ≡ at = length-take-le at l (omega arith) in
        sym (get_or-take (at + length new) (write l at new) (at + i) 0 (omega arith))
        ∙ (ap (λ (x : List ℕ). get_or x (at + i) 0) take-written
        ∙ (ap (λ (n : ℕ). get_or (take at l ++ new) (n + i) 0) (sym e) ∙ get_or-append-add (take at l) new i 0))

-- A types buffer grows by what is appended.
pub grown-append : (b : Buffer) (new : List ℕ) → Grown b (append b new)
unfolding append
grown-append b new = record { more = omega arith; front = λ j h. sym (get_d_before b.words b.used new j h) }
