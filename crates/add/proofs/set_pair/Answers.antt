-- `add::set_pair` meets its contract: the name is stored and then the type, or both lie past the end. Assumes nothing.
use mathlib.Core.Path.{sym, ◌∙◌}
use native.Mathlib.Numerals.{add-one}
use Rattle.add.specs.WriteLaws.{write_two, write-past}
use Rattle.add.proofs.set_pair.Goals as goal

pub returns-then-at-types : goal.returns-then-at-types
returns-then-at-types c = c.set_item.ensures ∙ rw add-one (sym (write_two _ _ _ _))

pub returns-else-at-types : goal.returns-else-at-types
returns-else-at-types c = sym (write-past _ _ _ c.if-at-types.false)
