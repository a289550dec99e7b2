-- `display::show_within` and `display::show_fields` meet their contracts. The depth falls from a type to the types inside it; a turn of the fields'
-- loop writes one field of those that are owed. Assumes nothing.
use Rattle.ptype.specs.Words.{fields_from}
use Rattle.ptype.specs.Types.{type_within}
use Rattle.ptype.specs.Show.{show_fields}
use Rattle.display.specs.Sink.{Owes}
use Prim.Native.Nat.{◌+◌, ◌*◌}
use Rattle.display.proofs.+show_fields_show_within.Given as goal

abbrev pub decreases-show_fields : goal.decreases-show_fields
decreases-show_fields g l = 2 * l.depth + 1

abbrev pub decreases-show_within : goal.decreases-show_within
decreases-show_within g l = 2 * l.depth

abbrev pub invariant-show_fields-loop-left : goal.invariant-show_fields-loop-left
invariant-show_fields-loop-left g l =
    let F = fields_from (type_within l.types l.depth) l.types.texts.now l.words in
    Owes g.S.Sink.Wrote l.initial.out (show_fields (F l.i l.n)) l.out (show_fields (F l.at l.left))
