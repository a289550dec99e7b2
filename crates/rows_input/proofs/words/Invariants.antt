-- `rows_input::words` meets its contract. The loop's invariant: the first i words are written. Assumes nothing.
use Rattle.bench_rows.specs.Bench.{words_in}
use Rattle.ptype.specs.Add.{overwrite}
use lib.ListN.{length}
use Prim.Native.Nat.{◌-◌, ◌≤◌}
use mathlib.Core.Path.{◌≡◌}
use Rattle.rows_input.proofs.words.Given as goal

abbrev pub invariant-loop-i : goal.invariant-loop-i
invariant-loop-i l = (l.out ≡ overwrite l.initial.out (words_in l.bytes l.at l.i)) × (l.i ≤ l.k) × (length l.out ≡ length l.initial.out)
