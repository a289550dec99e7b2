-- "4,096 pairs are enough": how many slots one call of an accepted library can bind. Every argument has two words in the library, and so
-- has every field; a library has at most 8,192. By counting words. Assumes nothing.
use Prim.Native.Nat.{ℕ, ◌≤◌}
use Rattle.std.specs.Prelude.{length}
use mathlib.Core.List.{List}
use Rattle.tok.specs.Text.{Texts}
use Rattle.ptype.specs.Slots.{Binding}
use Rattle.library.specs.Package.{Signature}
use Rattle.rules.specs.Walk.{param_types}
use Rattle.library_laws.specs.Slots.{slots_in}
use Rattle.library_laws.specs.Bindings.{Held}

-- the pairs that scratch has room for
abbrev pub most_pairs : ℕ
most_pairs = 4096

-- However the arguments of a call are bound, there are no more bindings than that.
pub record RoomFor (t : Texts) (pool : List ℕ) (s : Signature) : Type 0 where
  pub most : (bs : List Binding) → Held (slots_in t pool (param_types s.params)) bs → length bs ≤ most_pairs
