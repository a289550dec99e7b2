-- Calls meet no stop: `bind_slots` is asked only for what contains no Slot, and then meets none; where no argument is poisoned, each has a type
-- when a candidate is selected; the target is an Ident or a Field. Assumes nothing.
use Prim.Native.Nat.{◌≤◌}
use Rattle.std.specs.Prelude.{◌≡◌, Bool}
use Rattle.std.proofs.Math.Bool.{false}
use mathlib.Core.List.{List}
use Rattle.rules.specs.World.{Ctx, World}
use Rattle.rules.specs.Calls.{Provided, argument, arguments}
use Rattle.tworuns.specs.Means as M
use Rattle.onerun.specs.Claim.{All, Recorded}
use Rattle.stops.specs.Past.{run}

module _ (c : Ctx) where
  -- What visiting a call's arguments leaves. "arg typed before overload selection": where no argument is poisoned, each has a type.
  pub record AllTyped (xs : List Provided) (u : World) (poisoned : Bool) : Type 0 where
    pub typed : poisoned ≡ false → All (λ a. Recorded (run c) u a.slot) xs
    pub low : All (λ a. a.slot ≤ c.void) xs
