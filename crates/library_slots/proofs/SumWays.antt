-- The counts of slots as the code fills them in and asks them, one law for each way out. Assumes nothing.
use Prim.Native.Nat.{ℕ, ◌+◌, ◌≤◌, ◌<◌, min}
use mathlib.Core.Path.{◌≡◌, refl, sym, ap, ◌∙◌}
use mathlib.Core.Bool.{Bool, true, false, cond}
use mathlib.Core.List.{List}
use native.Mathlib.Omega.{arith}
use native.Mathlib.Numerals.{add-one}
use lib.ListN.{get_or, set, replicate}
use Rattle.std.specs.Int.{from_bool}
use Rattle.library.specs.SlotSums.{slot_by, zeros, add_sum, sums_to, sums_small}

-- The loop: the counts up to index i are filled in.
pub record Summed (types sums : List ℕ) (end i : ℕ) : Type 0 where
  pub below : i ≤ end
  pub most : end ≤ 8192
  pub filled : sums ≡ sums_to types i

one-if : (b : Bool) → from_bool b ≡ cond b 1 0
one-if true = refl
one-if false = refl

at_most : (b : Bool) {x : ℕ} → x ≡ from_bool b → x ≤ 1
at_most b e = rw e (by b)
  where
    by : (v : Bool) → from_bool v ≤ 1
    by true = omega arith
    by false = omega arith

sums_to-next : (types : List ℕ) (i : ℕ) → sums_to types (i + 1) ≡ add_sum types i (sums_to types i)
unfolding sums_to
sums_to-next types i = rw (add-one i) refl

module _ {types : List ℕ} where
  pub summed_none : {end : ℕ} (n : ℕ) → end ≡ min n 8192 → Summed types (replicate 8193 0) end 0
  unfolding sums_to zeros
  summed_none n m = record { below = omega arith; most = omega arith; filled = refl }

  module _ {sums : List ℕ} {end i : ℕ} (h : Summed types sums end i) where
    -- one more count fits
    pub summed_small : (b : Bool) {x : ℕ} → x ≡ from_bool b → get_or sums i 0 + x ≤ 8193
    summed_small b e = rw h.filled (omega (arith, sums_small types i i, at_most b e, h.below, h.most))

    pub summed_more : {w x : ℕ} {r : Bool} → i < end → w ≡ get_or types i 0 → r ≡ slot_by (λ j. get_or sums j 0) types w → x ≡ from_bool r
        → Summed types (set sums (i + 1) (get_or sums i 0 + x)) end (i + 1)
    unfolding add_sum
    summed_more {r = r} l ew er ex = record {
      below = omega arith;
      most = h.most;
      filled =
          ap (λ v. set sums (i + 1) (get_or sums i 0 + v)) (ex ∙ one-if r ∙ ap (λ b. cond b 1 0) (er ∙ ap (slot_by (λ j. get_or sums j 0) types) ew))
          ∙ ap (add_sum types i) h.filled ∙ sym (sums_to-next types i);
    }

    pub summed_all : (n : ℕ) → end ≡ min n 8192 → end ≤ i → sums ≡ sums_to types (min n 8192)
    summed_all n e l =
        let s : i ≡ min n 8192 = omega (arith, h.below) in
        h.filled ∙ ap (sums_to types) s
