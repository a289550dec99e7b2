-- Before the walk no slot has a type: what the roots' visits ask for of slots. Assumes nothing.
use Rattle.std.specs.Prelude.{ℕ, ◌<◌, ◌≡◌, List, get_or}
use Rattle.ast.specs.Image.{slot_count}
use Rattle.ast.specs.Node.{roots_of}
use Rattle.refusals.specs.Inputs.{Inputs, Buffers}
use Rattle.rules.specs.Visited.{visited_among, visited_in}
use Rattle.accepts.specs.Passed.{Passed}
use Rattle.accepts.proofs.Once.{slots-once}
use Rattle.accepts.proofs.LowSlots.{owned-low}
use Rattle.accepts.proofs.Fresh.{Fresh}

pub roots-fresh : (i : Inputs) (b : Buffers) → Passed i b → (slots : List ℕ) → ((a : ℕ) → a < slot_count i.image → get_or slots a 0 ≡ 0) → Fresh (visited_among (roots_of i.image)) slots
unfolding visited_in
roots-fresh i b p slots h = record {
  once = λ a. slots-once p.image p.claims a;
  none = λ a l. h a (owned-low p.image a l);
}
