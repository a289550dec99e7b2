-- Places in the order of the names that their words stand for. An entry is twice its place, and 1 more where a new name begins.
-- Definitions.
use Rattle.std.specs.Prelude.{ℕ, ◌-◌, ◌/◌, ◌%◌, ◌≤◌, ◌<◌, ◌≡◌, Bool, true, false, List, length, get_or, eqb}
use Rattle.tok.specs.Text.{Texts, name_bytes}

abbrev pub place_in : (entry : ℕ) → ℕ
place_in e = e / 2

abbrev pub new_in : (entry : ℕ) → Bool
new_in e = eqb (e % 2) 1

-- the name of rank i
abbrev pub name_of : Texts → (words order : List ℕ) → (i : ℕ) → List ℕ
name_of t words order i = name_bytes t (get_or words (place_in (get_or order i 0)) 0)

-- a place has one of the first n ranks
pub record Listed (order : List ℕ) (n place : ℕ) : Type 0 where
  pub rank : ℕ
  pub below : rank < n
  pub is : place_in (get_or order rank 0) ≡ place

-- the same places, in another order
pub record Rearranged (before after : List ℕ) (n : ℕ) : Type 0 where
  pub long : length after ≡ length before
  pub all : (place : ℕ) → Listed before n place → Listed after n place
  pub only : (place : ℕ) → Listed after n place → Listed before n place

-- equal names stand side by side, and each begins where its entry says so
pub record Grouped (t : Texts) (words order : List ℕ) (n : ℕ) : Type 0 where
  pub same : (m : ℕ) → 0 < m → m < n → new_in (get_or order m 0) ≡ false → name_of t words order (m - 1) ≡ name_of t words order m
  pub apart : (m : ℕ) → 0 < m → m < n → new_in (get_or order m 0) ≡ true
      → (i j : ℕ) → i < m → m ≤ j → j < n → name_of t words order i ≡ name_of t words order j → ⊥

-- entries told where names begin; `r` says that they were in order
pub record Split (t : Texts) (words before after : List ℕ) (n : ℕ) (r : Bool) : Type 0 where
  pub long : length after ≡ length before
  pub places : (i : ℕ) → place_in (get_or after i 0) ≡ place_in (get_or before i 0)
  pub grouped : r ≡ true → Grouped t words after n

-- entries sorted and told
pub record Grouping (t : Texts) (words before after : List ℕ) (n : ℕ) (r : Bool) : Type 0 where
  pub rearranged : Rearranged before after n
  pub grouped : r ≡ true → Grouped t words after n

-- the next rank at which a name begins, or the number of all
pub record GroupEnd (order : List ℕ) (at n end : ℕ) : Type 0 where
  pub after : at < end
  pub within : end ≤ n
  pub inner : (i : ℕ) → at < i → i < end → new_in (get_or order i 0) ≡ false
  pub next : end < n → new_in (get_or order end 0) ≡ true
