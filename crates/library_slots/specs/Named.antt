-- The slots of a library in the order of their names, and a return type asked by it: "a slot of the return type stands in some argument".
-- Definitions.
use Rattle.std.specs.Prelude.{ℕ, ◌-◌, ◌%◌, ◌≤◌, ◌<◌, ◌≡◌, Bool, true, false, ◌&&◌, ◌||◌, List, [], ◌∷◌, length, get_or, eqb, leb, ltb}
use Rattle.tok.specs.Word.{kind_of}
use Rattle.tok.specs.Text.{Texts}
use Rattle.library.specs.ReturnSlots.{reached_from, stands_by}
use Rattle.name_order.specs.Order.{place_in, name_of, Listed, Grouped}

-- "name and type for each argument": the word at p is a type of the pairs from `first` up to `end`
unfoldable pub of_pairs : (first end p : ℕ) → Bool
of_pairs first end p = ltb first p && (ltb p end && eqb ((p - first) % 2) 1)

-- it is a marked word of the pool
unfoldable pub in_pool : (size : ℕ) → (marks : List Bool) → (p : ℕ) → Bool
in_pool size marks p = leb 2 p && (ltb (p - 2) size && get_or marks (p - 2) false)

-- an argument reaches it; the return type does, which stands at `end`
unfoldable pub argued : (size : ℕ) → (args : List Bool) → (first end p : ℕ) → Bool
argued size args first end p = of_pairs first end p || in_pool size args p

unfoldable pub wanted : (size : ℕ) → (marks : List Bool) → (end p : ℕ) → Bool
wanted size marks end p = eqb p end || in_pool size marks p

-- a test holds at the place of a rank from `from` up to `to`
pub record Found (test : ℕ → Bool) (order : List ℕ) (from to : ℕ) : Type 0 where
  pub rank : ℕ
  pub low : from ≤ rank
  pub high : rank < to
  pub holds : test (place_in (get_or order rank 0)) ≡ true

-- `r` says whether it does
pub record Told (test : ℕ → Bool) (order : List ℕ) (from to : ℕ) (r : Bool) : Type 0 where
  pub yes : r ≡ true → Found test order from to
  pub no : r ≡ false → (i : ℕ) → from ≤ i → i < to → test (place_in (get_or order i 0)) ≡ false

-- the name of rank i is had
pub record Had (t : Texts) (words order : List ℕ) (n : ℕ) (have : ℕ → Bool) (i : ℕ) : Type 0 where
  pub rank : ℕ
  pub below : rank < n
  pub had : have (place_in (get_or order rank 0)) ≡ true
  pub name : name_of t words order i ≡ name_of t words order rank

-- a name is wanted that is not had
pub record Lacks (t : Texts) (words order : List ℕ) (n : ℕ) (have want : ℕ → Bool) : Type 0 where
  pub rank : ℕ
  pub below : rank < n
  pub wants : want (place_in (get_or order rank 0)) ≡ true
  pub none : (j : ℕ) → j < n → name_of t words order rank ≡ name_of t words order j → have (place_in (get_or order j 0)) ≡ false

-- `r` says whether each name that is wanted is had
pub record NamesStand (t : Texts) (words order : List ℕ) (n : ℕ) (have want : ℕ → Bool) (r : Bool) : Type 0 where
  pub yes : r ≡ true → (i : ℕ) → i < n → want (place_in (get_or order i 0)) ≡ true → Had t words order n have i
  pub no : r ≡ false → Lacks t words order n have want

-- the slots of a library have the first n ranks, and no other words
pub record SlotsListed (words order : List ℕ) (n : ℕ) : Type 0 where
  pub all : (p : ℕ) → 2 ≤ p → p < length words → p ≤ 8192 → kind_of (get_or words p 0) ≡ 10 → Listed order n p
  pub only : (p : ℕ) → Listed order n p → kind_of (get_or words p 0) ≡ 10
  pub few : n ≤ 8192

-- and stand in the order of their names
pub record SlotsNamed (t : Texts) (words order : List ℕ) (n : ℕ) : Type 0 where
  pub listed : SlotsListed words order n
  pub grouped : Grouped t words order n

-- "a slot of the return type stands in some argument": `r` says so, by the order of names, or by the names themselves where there is none
pub record ReturnAsked (t : Texts) (types args : List ℕ) (ret : ℕ) (order : List ℕ) (n first end : ℕ) (r : Bool) : Type 0 where
  pub named : (words : List ℕ) → 0 < n → Grouped t words order n
      → NamesStand t words order n (argued (length types) (reached_from types args) first end) (wanted (length types) (reached_from types (ret ∷ [])) end) r
  pub plain : n ≡ 0 → r ≡ stands_by t types args ret
