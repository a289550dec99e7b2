-- The slots that a visited node may own. Definition only.
use Prim.Native.Nat.{ℕ, ◌<◌}
use mathlib.Core.List.{List}
use Rattle.ast.specs.Image.{slot_count}

module _ (image : List ℕ) where
  -- slots below V
  abbrev pub Low : ℕ → Type 0
  Low slot = slot < slot_count image
