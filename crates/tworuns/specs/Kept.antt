-- What the walk of new statements keeps: the types buffer grows, and slots that no new node owns stay. Instances of `Keeps`. Assumes nothing.
use Rattle.std.specs.Prelude.{ℕ, ◌≡◌, get_or}
use Rattle.rules.specs.World.{World}
use Rattle.tworuns.specs.Means.{Grown}

-- from s to u: the old slots as they were
pub record Goes (Old : ℕ → Type 0) (s u : World) : Type 0 where
  pub types : Grown s.types u.types
  pub slots : (a : ℕ) → Old a → get_or u.slots a 0 ≡ get_or s.slots a 0

module _ (Old : ℕ → Type 0) where
  abbrev pub New : ℕ → Type 0
  New slot = Old slot → ⊥
