-- The turns of gathering. Assumes nothing.
use Prim.Native.Nat.{ℕ, suc, ◌+◌, ◌-◌, ◌≤◌, ◌<◌}
use mathlib.Core.Path.{◌≡◌, refl, sym, ap, ◌∙◌}
use mathlib.Core.List.{List, [], ◌∷◌, ◌++◌, append_assoc}
use native.Mathlib.Omega.{arith}
use native.Mathlib.Numerals.{add-one}
use lib.ListN.{length, get_or, take, set}
use lib.Seq.{take-suc-set}
use Rattle.ast.specs.Node.{nodes_from, tree_of, slot_of}
use Rattle.rules.specs.Calls.{provided_of}
use Rattle.call_args.specs.Given.{given_from}
use Rattle.call_types.specs.Gather.{words_in}

append-nil : (l : List ℕ) → l ++ [] ≡ l
append-nil [] = refl
append-nil (x ∷ xs) = ap (λ l. x ∷ l) (append-nil xs)

module _ (slots image : List ℕ) (args count : ℕ) where
  -- i words are gathered, the others are owed
  pub record Gathered (provided : List ℕ) (i : ℕ) : Type 0 where
    pub within : i ≤ count
    pub so : words_in slots (given_from image args count) ≡ take i provided ++ words_in slots (given_from image (args + i) (count - i))

  pub none-gathered : (provided : List ℕ) → Gathered provided 0
  none-gathered provided =
      let a : args + 0 ≡ args = omega arith in
      let b : count - 0 ≡ count = omega arith in
      record { within = omega arith; so = rw (a, b) refl }

  module _ {provided : List ℕ} {i : ℕ} (g : Gathered provided i) where
    pub all-gathered : count ≤ i → take count provided ≡ words_in slots (given_from image args count)
    unfolding nodes_from provided_of
    all-gathered l =
        let z : count - i ≡ 0 = omega arith in
        let e : i ≡ count = omega (arith, g.within) in
        sym (g.so ∙ rw z (append-nil (take i provided)) ∙ ap (λ k. take k provided) e)

    pub more-gathered : i < count → count ≤ length provided → {number slot wide w : ℕ} → number ≡ get_or image (args + i) 0
        → slot ≡ slot_of (tree_of image number) → wide ≡ slot → w ≡ get_or slots wide 0 → Gathered (set provided i w) (i + 1)
    unfolding nodes_from provided_of
    more-gathered l room {w = w} en es ewide ew =
        let k : i < length provided = omega arith in
        let z : count - i ≡ suc (count - (i + 1)) = omega arith in
        let b : args + (i + 1) ≡ args + i + 1 = omega arith in
        let v : w ≡ get_or slots (slot_of (tree_of image (get_or image (args + i) 0))) 0 = ew ∙ ap (λ x. get_or slots x 0) (ewide ∙ es ∙ ap (λ x. slot_of (tree_of image x)) en) in
        record {
          within = omega arith;
          so =
              g.so
              ∙ rw (z, b, add-one i, take-suc-set provided i w k, ← v)
              (sym (append_assoc (take i provided) (w ∷ []) (words_in slots (given_from image (args + i + 1) (count - suc i)))));
        }
