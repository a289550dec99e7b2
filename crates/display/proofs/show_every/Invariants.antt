-- `display::show_every` meets its contract. The loop's invariant: `done` types are written, the others are owed. Assumes nothing.
use Prim.Native.Nat.{◌+◌, ◌*◌}
use Rattle.ptype.specs.Types.{type_at}
use Rattle.display.specs.WritingLaws.{Owes}
use Rattle.display.specs.Joined.{sig}
use Rattle.display.specs.Every.{every}
use Rattle.display.proofs.EveryLaws.{owed}
use Rattle.display.proofs.show_every.Given as goal

abbrev pub invariant-loop-done : goal.invariant-loop-done
invariant-loop-done l = let go = type_at l.types in
    Owes l.initial.out (sig (every go l.words l.first l.step l.count)) l.out (owed go l.words (l.first + l.step * l.done) l.step l.count l.done)
