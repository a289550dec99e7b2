-- The bench's rows are well formed by RFC 3629: each kind of row is put together of pieces that are. Assumes nothing.
use Prim.Native.Nat.{ℕ, ◌+◌, ◌*◌}
use Rattle.std.specs.Prelude.{◌≡◌, get_or, take, drop}
use Rattle.std.proofs.Math.Bool.{true}
use mathlib.Core.List.{List}
use Rattle.utf8.specs.Rfc3629.{well_formed}
use Rattle.onerun.specs.Claim as C
use Rattle.onerun.proofs.Walk as W

module _ (ds ms : List ℕ) where
  -- the message of the k-th
  abbrev pub Message : (k : ℕ) → Type 0
  Message k = well_formed (take (get_or ds (6 * k + 4) 0) (drop (get_or ds (6 * k + 3) 0) ms)) ≡ true
