-- `type_expr::deep_part` meets its contract: by what the type expression is. Assumes nothing.
use Rattle.std.proofs.Common.{arith}
use Rattle.type_expr.proofs.Returns.{levels-atom, levels-foreign, levels_record}
use Rattle.type_expr.proofs.DeepReturns.{part-option, part-array, part_record}
use Rattle.type_expr.proofs.deep_part.Goals as goal

pub returns-in-Option : goal.returns-in-Option
returns-in-Option c = part-option _ c.requires.0 c.requires.1 c.in-Option.ensures

pub returns-in-Array : goal.returns-in-Array
returns-in-Array c = part-array _ c.requires.0 c.requires.1 c.in-Array.ensures

pub deep_field-requires : goal.deep_field-requires
deep_field-requires c = omega (arith, c.requires.0, levels_record c.in-Record.ensures)

pub returns-in-Record : goal.returns-in-Record
returns-in-Record c = part_record c.in-Record.ensures c.deep_field.ensures

pub returns-in-Atom : goal.returns-in-Atom
returns-in-Atom c = absurd (omega (arith, c.requires.0, levels-atom c.in-Atom.ensures))

pub returns-in-Foreign : goal.returns-in-Foreign
returns-in-Foreign c = absurd (omega (arith, c.requires.0, levels-foreign c.in-Foreign.ensures))
