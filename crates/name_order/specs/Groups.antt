-- Going through the groups of entries. Definitions.
use Rattle.std.specs.Prelude.{ℕ, ◌-◌, ◌≤◌, ◌≡◌, List, length, take, drop, Option, MatchOption}
use Rattle.std.specs.Borrow.{Bor}
use Rattle.name_order.specs.Order.{GroupEnd}

-- the groups of entries from a rank on
pub record GroupsFrom : Type 0 where
  pub order : List ℕ
  pub at : ℕ

abbrev pub groups_from : (order : List ℕ) → (at : ℕ) → GroupsFrom
groups_from o i = record { order = o; at = i }

-- a group: the entries from one rank up to another
pub record GroupAt (order : List ℕ) (at : ℕ) (group : List ℕ) (end : ℕ) : Type 0 where
  pub ends : GroupEnd order at (length order) end
  pub entries : group ≡ take (end - at) (drop at order)

-- the next group was given and those after it are left, or none where none was left
abbrev pub GivesGroup : GroupsFrom → Option (Bor (List ℕ)) → GroupsFrom → Type 0
GivesGroup s r t = MatchOption r ((length s.order ≤ s.at) × (t ≡ s)) (λ group. GroupAt s.order s.at group.now t.at × (t.order ≡ s.order))
