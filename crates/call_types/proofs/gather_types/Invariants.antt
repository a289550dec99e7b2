-- `call_types::gather_types` meets its contract. The loop's invariant: i words are gathered, the others are owed. Assumes nothing.
use mathlib.Core.Path.{◌≡◌}
use lib.ListN.{length}
use Rattle.call_types.proofs.Turns.{Gathered}
use Rattle.call_types.proofs.gather_types.Given as goal

abbrev pub invariant-loop-i : goal.invariant-loop-i
invariant-loop-i l = Gathered l.slots l.image.words l.call.args l.call.count l.words l.i × (length l.words ≡ l.call.count)
