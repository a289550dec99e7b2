-- The places of a package's functions. Assumes nothing.
use Prim.Native.Nat.{ℕ, zero, suc, ◌+◌, ◌-◌, ◌*◌, ◌≤◌, ◌<◌, min}
use mathlib.Core.Path.{◌≡◌, refl, sym, ap, ◌∙◌}
use mathlib.Core.List.{List}
use native.Mathlib.Omega.{arith}
use native.Mathlib.Decide.{dec_lt, ℕ_discrete}
use native.Mathlib.Numerals.{add-one}
use lib.ListN.{length, get_or, set, take, length-set}
use lib.Seq.{get_or-set_same, get_or-set_other}
use Rattle.std.specs.Prelude.{Some, None}
use Rattle.std.specs.List.{slice_get}
use Rattle.std.proofs.lemmas.Option.{slice_get-get_or, slice_get_within, get_or_from_slice_get}
use Rattle.std.proofs.Common.{get_or-take, length-take-le}
use Rattle.library.specs.Package.{function_end, functions_end}
use Rattle.name_order.specs.Order.{place_in}
use Rattle.library_groups.specs.Kept.{FunctionsListed, ListedEnd}

-- the place of the next function
pub functions_end-suc : (words : List ℕ) (k at : ℕ) → functions_end words at (suc k) ≡ function_end words (functions_end words at k)
unfolding functions_end
functions_end-suc words zero at = refl
functions_end-suc words (suc k) at = functions_end-suc words k (function_end words at)

-- places rise
pub ends_rise : (words : List ℕ) (from k j : ℕ) → j < k → functions_end words from j < functions_end words from k
ends_rise words from zero j l = absurd (omega arith)
ends_rise words from (suc k) j l = elim (ℕ_discrete j k) [
  | yes e ↦ rw (functions_end-suc words k from, e) (omega arith)
  | no d ↦ rw (functions_end-suc words k from) (omega (arith, ends_rise words from k j (omega arith)))
]

pub ends-first : (words : List ℕ) (from k : ℕ) → from ≤ functions_end words from k
unfolding functions_end
ends-first words from zero = omega arith
ends-first words from (suc k) = omega (arith, ends-first words (function_end words from) k)

-- The loop: k functions are listed, and if the next lies in the words it stands at `at`.
pub record Placing (words : List ℕ) (from : ℕ) (before order : List ℕ) (at k : ℕ) : Type 0 where
  pub long : length order ≡ length before
  pub few : k ≤ length before
  pub next : at < length words → at ≡ functions_end words from k
  pub ranks : (j : ℕ) → j < k → place_in (get_or order j 0) ≡ functions_end words from j

pub placing_begin : {words : List ℕ} {from : ℕ} {order : List ℕ} → Placing words from order order from 0
unfolding functions_end
placing_begin = record { long = refl; few = omega arith; next = λ _. refl; ranks = λ j l. absurd (omega arith) }

module _ {words : List ℕ} {from : ℕ} {before order : List ℕ} {at k : ℕ} (h : Placing words from before order at k) where
  pub placing_more : {order' : List ℕ} {at' : ℕ} → at < length words → k < length before → order' ≡ set order k (2 * at)
      → at' ≡ min (function_end words at) (length words) → Placing words from before order' at' (k + 1)
  placing_more {order'} {at'} l m e f = record {
    long = ap length e ∙ length-set order k _ ∙ h.long;
    few = omega arith;
    next = λ o.
        let s : function_end words at ≡ at' = omega arith in
        sym s ∙ ap (function_end words) (h.next l) ∙ sym (functions_end-suc words k from) ∙ ap (functions_end words from) (sym (add-one k));
    ranks = λ j o. rank j o (ℕ_discrete j k);
  }
    where
      rank : (j : ℕ) → j < k + 1 → Dec (j ≡ k) → place_in (get_or order' j 0) ≡ functions_end words from j
      rank j o (yes q) =
          let s : get_or order' k 0 ≡ 2 * at = ap (λ x. get_or x k 0) e ∙ get_or-set_same order k (2 * at) 0 (omega (arith, h.long)) in
          let half : place_in (2 * at) ≡ at = omega arith in
          ap (λ x. place_in (get_or order' x 0)) q ∙ ap place_in s ∙ half ∙ h.next l ∙ ap (functions_end words from) (sym q)
      rank j o (no d) = ap place_in (ap (λ x. get_or x j 0) e ∙ get_or-set_other order k j (2 * at) 0 d) ∙ h.ranks j (omega arith)

  pub placing_done : FunctionsListed words from order k
  placing_done = record { ranks = h.ranks; few = omega (arith, h.few, h.long) }

-- the list cut to what is listed
pub listed_cut : {words : List ℕ} {from : ℕ} {order : List ℕ} {n : ℕ} → FunctionsListed words from order n
    → FunctionsListed words from (take n order) (length (take n order))
listed_cut {words} {from} {order} {n} h = record {
  ranks = λ k l. ap place_in (get_or-take n order k 0 (omega (arith, long))) ∙ h.ranks k (omega (arith, long));
  few = omega arith;
}
  where
    long : length (take n order) ≡ n
    long = length-take-le n order h.few

-- ── The end of those listed ──

pub end_none : (words : List ℕ) (from : ℕ) (order : List ℕ) → None ≡ slice_get order (length order - 1) → ListedEnd words from (length order) from
end_none words from order e = elim (dec_lt 0 (length order)) [
  | yes l ↦ cc (e, slice_get-get_or order (length order - 1) 0 (omega arith))
  | no l ↦ record { only = λ k m. absurd (omega (arith, ends-first words from k)) }
]

pub end-last : (words : List ℕ) (from : ℕ) (order : List ℕ) (last : ℕ) → Some last ≡ slice_get order (length order - 1)
    → FunctionsListed words from order (length order) → {p r : ℕ} → p ≡ place_in last → r ≡ min (function_end words p) (length words)
    → ListedEnd words from (length order) r
end-last words from order last e h {p} {r} ep er = record { only = λ k l. by k l (dec_lt k (length order)) }
  where
    some : length order - 1 < length order
    some = slice_get_within order (length order - 1) last (sym e)

    there : get_or order (length order - 1) 0 ≡ last
    there = get_or_from_slice_get order (length order - 1) last 0 (sym e)

    all : function_end words p ≡ functions_end words from (length order)
    all =
        let s : suc (length order - 1) ≡ length order = omega (arith, some) in
        ap (function_end words) (ep ∙ ap place_in (sym there) ∙ h.ranks (length order - 1) some) ∙ sym (functions_end-suc words (length order - 1) from) ∙ ap (functions_end words from) s

    by : (k : ℕ) → functions_end words from k < r → Dec (k < length order) → k < length order
    by k l (yes m) = m
    by k l (no m) = elim (ℕ_discrete (length order) k) [
      | yes q ↦ absurd (omega (arith, all, ap (functions_end words from) q))
      | no q ↦ absurd (omega (arith, all, ends_rise words from k (length order) (omega arith)))
    ]
