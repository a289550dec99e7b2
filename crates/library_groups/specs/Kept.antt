-- "A group of several in one package has flag 0": the functions of a package that are known to keep the rule. Definitions.
use Rattle.std.specs.Prelude.{ℕ, ◌≤◌, ◌<◌, ◌≡◌, ◌⊎◌, Bool, true, false, List, length, get_or}
use Rattle.tok.specs.Text.{Texts}
use Rattle.library.specs.Pool.{pool_in}
use Rattle.library.specs.Package.{function_at, functions_from, functions_end}
use Rattle.library.specs.PackagesRead.{GroupFine}
use Rattle.name_order.specs.Order.{place_in, name_of}

-- the functions from a word on that stand before place r, each beside those before it
pub record GroupsKept (t : Texts) (words : List ℕ) (from r : ℕ) : Type 0 where
  pub each : (types : List ℕ) (k : ℕ) → functions_end words from k < r
      → GroupFine (pool_in t types) (functions_from words from k) (function_at words (functions_end words from k))

-- the function at a place has slots
abbrev pub slotted : List ℕ → (place : ℕ) → Bool
slotted words place = (function_at words place).sig.with_slots

-- function k has rank k
pub record FunctionsListed (words : List ℕ) (from : ℕ) (order : List ℕ) (n : ℕ) : Type 0 where
  pub ranks : (k : ℕ) → k < n → place_in (get_or order k 0) ≡ functions_end words from k
  pub few : n ≤ length order

-- only the first n stand before a place
pub record ListedEnd (words : List ℕ) (from n end : ℕ) : Type 0 where
  pub only : (k : ℕ) → functions_end words from k < end → k < n

pub record NoneSlotted (words order : List ℕ) (n : ℕ) (r : Bool) : Type 0 where
  pub none : r ≡ true → (i : ℕ) → i < n → slotted words (place_in (get_or order i 0)) ≡ false

-- no place of the ranks from `at` up to `end` is lower
pub record Lowest (order : List ℕ) (at end low : ℕ) : Type 0 where
  pub each : (i : ℕ) → at ≤ i → i < end → low ≤ place_in (get_or order i 0)

-- the rule fails at a place p of the group whose lowest place is `low`: r is no higher
pub record FaultAt (words : List ℕ) (low p most r : ℕ) : Type 0 where
  pub limit : r ≤ most
  pub found : (p ≡ low → ⊥) → (slotted words low ≡ true) ⊎ (slotted words p ≡ true) → r ≤ p

-- or at some place of the group
pub record FaultsFrom (words order : List ℕ) (at end low most r : ℕ) : Type 0 where
  pub limit : r ≤ most
  pub found : (i : ℕ) → at ≤ i → i < end → (place_in (get_or order i 0) ≡ low → ⊥)
      → (slotted words low ≡ true) ⊎ (slotted words (place_in (get_or order i 0)) ≡ true) → r ≤ place_in (get_or order i 0)

-- or anywhere: of two functions of a name, one of them with slots, r is no higher than the later one
pub record FirstFault (t : Texts) (words order : List ℕ) (n most r : ℕ) : Type 0 where
  pub limit : r ≤ most
  pub found : (i j : ℕ) → i < n → j < n → name_of t words order i ≡ name_of t words order j → place_in (get_or order i 0) < place_in (get_or order j 0)
      → (slotted words (place_in (get_or order i 0)) ≡ true) ⊎ (slotted words (place_in (get_or order j 0)) ≡ true) → r ≤ place_in (get_or order j 0)
