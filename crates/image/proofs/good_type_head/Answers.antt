-- `image::good_type_head` meets its contract: the row of a word of the same kind (`TypeRows`), arm by arm. Assumes nothing.
use mathlib.Core.Path.{◌∙◌}
use Rattle.ast.specs.KindLaws.{expr-number}
use Rattle.ast.specs.TypeRecords.{type_kind, type_kinds}
use Rattle.image.proofs.TypeRows.{head-by, pairs-even, two-long, no-head}
use Rattle.image.proofs.good_type_head.Goals as goal

pub returns-in-Atom : goal.returns-in-Atom
unfolding type_kind type_kinds
returns-in-Atom c = head-by _ 0x0000_0000 _ c.payload-long.ensures (expr-number _ c.in-Atom.ensures)

pub returns-in-Foreign : goal.returns-in-Foreign
returns-in-Foreign c = two-long _ _ c.payload-long.ensures c.of.ensures c.in-Foreign.is

pub returns-in-Record : goal.returns-in-Record
unfolding type_kind type_kinds
returns-in-Record c = c.and_pairs.ensures ∙ pairs-even c.payload-long.result ∙ head-by _ 0x4000_0000 _ c.payload-long.ensures (expr-number _ c.in-Record.ensures)

pub returns-in-None : goal.returns-in-None
returns-in-None c = no-head _ (expr-number _ c.in-None.ensures)
