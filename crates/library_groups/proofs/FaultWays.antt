-- The lowest place at which the rule on groups fails, group by group. Assumes nothing.
use Prim.Native.Nat.{ℕ, ◌+◌, ◌-◌, ◌≤◌, ◌<◌, min}
use mathlib.Core.Path.{◌≡◌, sym, ap, subst, ◌∙◌}
use mathlib.Core.Logic.{◌⊎◌, inl, inr}
use mathlib.Core.Bool.{true}
use mathlib.Core.List.{List}
use native.Mathlib.Omega.{arith}
use native.Mathlib.Decide.{dec_lt, ℕ_discrete}
use lib.ListN.{length, get_or, drop}
use Rattle.std.proofs.Common.{get_or-take, get_or-drop, length-take-le, length-drop}
use Rattle.tok.specs.Text.{Texts}
use Rattle.name_order.specs.Order.{place_in, name_of, Grouped, GroupEnd}
use Rattle.name_order.specs.Groups.{GroupAt}
use Rattle.name_order.specs.OrderLaws.{Begins, begins-first, begins-next, group-is}
use Rattle.library_groups.specs.Kept.{slotted, Lowest, FaultAt, FaultsFrom, FirstFault}

-- ── A group ──

-- The loops over a group: the ranks before i are looked at.
module _ (order : List ℕ) (at i : ℕ) where
  pub low-more : (low p low' : ℕ) → Lowest order at i low → p ≡ place_in (get_or order i 0) → low' ≡ min low p → Lowest order at (i + 1) low'
  low-more low p low' h ep e = record { each = λ j l m. by j l m (ℕ_discrete j i) }
    where
      by : (j : ℕ) → at ≤ j → j < i + 1 → Dec (j ≡ i) → low' ≤ place_in (get_or order j 0)
      by j l m (yes q) = let s : place_in (get_or order j 0) ≡ place_in (get_or order i 0) = ap (λ x. place_in (get_or order x 0)) q in omega arith
      by j l m (no d) = omega (arith, h.each j l (omega arith))

pub low-none : (order : List ℕ) (at low : ℕ) → Lowest order at at low
low-none order at low = record { each = λ i l m. absurd (omega arith) }

pub low-done : (order : List ℕ) (at end i low : ℕ) → end ≤ i → Lowest order at i low → Lowest order at end low
low-done order at end i low l h = record { each = λ j m o. h.each j m (omega arith) }

module _ (words order : List ℕ) (at low most : ℕ) where
  pub faults-none : FaultsFrom words order at at low most most
  faults-none = record { limit = omega arith; found = λ i l m. absurd (omega arith) }

  pub faults-more : (i best p r : ℕ) → FaultsFrom words order at i low most best → p ≡ place_in (get_or order i 0) → FaultAt words low p best r
      → FaultsFrom words order at (i + 1) low most r
  faults-more i best p r h ep f = record { limit = omega (arith, f.limit, h.limit); found = λ j l m d s. by j l m d s (ℕ_discrete j i) }
    where
      by : (j : ℕ) → at ≤ j → j < i + 1 → (place_in (get_or order j 0) ≡ low → ⊥) → (slotted words low ≡ true) ⊎ (slotted words (place_in (get_or order j 0)) ≡ true)
          → Dec (j ≡ i) → r ≤ place_in (get_or order j 0)
      by j l m d s (yes q) =
          let e : place_in (get_or order j 0) ≡ p = ap (λ x. place_in (get_or order x 0)) q ∙ sym ep in
          let b = f.found (λ z. d (e ∙ z)) (subst (λ x. (slotted words low ≡ true) ⊎ (slotted words x ≡ true)) e s) in
          omega arith
      by j l m d s (no q) = omega (arith, f.limit, h.found j l (omega arith) d s)

  pub faults-done : (end i best : ℕ) → end ≤ i → FaultsFrom words order at i low most best → FaultsFrom words order at end low most best
  faults-done end i best l h = record { limit = h.limit; found = λ j m o. h.found j m (omega arith) }

-- The same, found in the group's own ranks.
module _ {order group : List ℕ} {at end : ℕ} (g : GroupAt order at group end) where
  long : length group ≡ end - at
  long = ap length g.entries ∙ length-take-le (end - at) (drop at order) (omega (arith, length-drop at order, g.ends.within))

  there : (i : ℕ) → at ≤ i → i < end → get_or group (i - at) 0 ≡ get_or order i 0
  there i m o =
      let back : at + (i - at) ≡ i = omega arith in
      ap (λ es. get_or es (i - at) 0) g.entries
      ∙ get_or-take (end - at) (drop at order) (i - at) 0 (omega arith) ∙ get_or-drop at order (i - at) 0 ∙ ap (λ j. get_or order j 0) back

  pub lowest_there : {low : ℕ} → Lowest group 0 (length group) low → Lowest order at end low
  lowest_there h = record { each = λ i m o. omega (arith, h.each (i - at) (omega arith) (omega (arith, long)), ap place_in (there i m o)) }

  pub faults_there : {words : List ℕ} {low most r : ℕ} → FaultsFrom words group 0 (length group) low most r → FaultsFrom words order at end low most r
  faults_there {words} {low} {most} {r} h = record {
    limit = h.limit;
    found = λ i m o. subst (λ e. (place_in e ≡ low → ⊥) → (slotted words low ≡ true) ⊎ (slotted words (place_in e) ≡ true) → r ≤ place_in e)
        (there i m o) (h.found (i - at) (omega arith) (omega (arith, long)));
  }

-- ── All groups ──

-- The loop over the groups: those before rank `at` are looked at, and a name begins there.
pub record FaultsTo (words order : List ℕ) (n most at best : ℕ) : Type 0 where
  pub limit : best ≤ most
  pub within : at ≤ n
  pub begins : Begins order n at
  pub found : (t : Texts) → Grouped t words order n → (i j : ℕ) → i < at → j < n → name_of t words order i ≡ name_of t words order j
      → place_in (get_or order i 0) < place_in (get_or order j 0) → (slotted words (place_in (get_or order i 0)) ≡ true) ⊎ (slotted words (place_in (get_or order j 0)) ≡ true)
      → best ≤ place_in (get_or order j 0)

module _ {words order : List ℕ} {n most : ℕ} where
  pub all-begin : FaultsTo words order n most 0 most
  all-begin = record { limit = omega arith; within = omega arith; begins = begins-first order n; found = λ t g i j l. absurd (omega arith) }

  module _ {at best : ℕ} (h : FaultsTo words order n most at best) where
    pub all_more : {end low r : ℕ} → GroupEnd order at n end → Lowest order at end low → FaultsFrom words order at end low best r → FaultsTo words order n most end r
    all_more {end} {low} {r} e lowest f = record {
      limit = omega (arith, f.limit, h.limit);
      within = e.within;
      begins = begins-next order n at end e;
      found = λ t g i j l m q o s. by t g i j l m q o s (dec_lt i at);
    }
      where
        by : (t : Texts) → Grouped t words order n → (i j : ℕ) → i < end → j < n → name_of t words order i ≡ name_of t words order j
            → place_in (get_or order i 0) < place_in (get_or order j 0) → (slotted words (place_in (get_or order i 0)) ≡ true) ⊎ (slotted words (place_in (get_or order j 0)) ≡ true)
            → Dec (i < at) → r ≤ place_in (get_or order j 0)
        by t g i j l m q o s (yes b) = omega (arith, f.limit, h.found t g i j b m q o s)
        by t g i j l m q o s (no b) =
            let inside = (group-is g at end h.begins e).others i j (omega arith) l m q in
            let low-i : low ≤ place_in (get_or order i 0) = lowest.each i (omega arith) l in
            later s inside.0 inside.1 low-i (ℕ_discrete (place_in (get_or order i 0)) low)
          where
            later : (slotted words (place_in (get_or order i 0)) ≡ true) ⊎ (slotted words (place_in (get_or order j 0)) ≡ true) → at ≤ j → j < end
                → low ≤ place_in (get_or order i 0) → Dec (place_in (get_or order i 0) ≡ low) → r ≤ place_in (get_or order j 0)
            later (inr y) lj mj low-i d = f.found j lj mj (λ z. omega arith) (inr y)
            later (inl y) lj mj low-i (yes z) = f.found j lj mj (λ z. omega arith) (inl (ap (slotted words) (sym z) ∙ y))
            later (inl y) lj mj low-i (no d) = let first = f.found i (omega arith) l d (inr y) in omega arith

    pub all_done : n ≤ at → (t : Texts) → Grouped t words order n → FirstFault t words order n most best
    all_done l t g = record { limit = h.limit; found = λ i j m. h.found t g i j (omega arith) }
