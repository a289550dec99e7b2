-- `type_expr::type_word` meets its contract: by the kind of the record. Assumes nothing.
use Rattle.std.proofs.Common.{arith}
use Rattle.type_expr.proofs.Returns.{size_record, size-option, size-array, word-atom, word-foreign, word_record, word-option, word-array}
use Rattle.type_expr.proofs.type_word.Goals as goal

pub overflow_sub-end : goal.overflow_sub-end
overflow_sub-end c = omega (arith, c.requires.0, size_record _ c.in-Record.ensures, c.len.ensures.0)

pub overflow_sub-end-in-Option : goal.overflow_sub-end-in-Option
overflow_sub-end-in-Option c = omega (arith, c.requires.0, size-option c.in-Option.ensures)

pub overflow_sub-end-in-Array : goal.overflow_sub-end-in-Array
overflow_sub-end-in-Array c = omega (arith, c.requires.0, size-array c.in-Array.ensures)

pub returns-in-Atom : goal.returns-in-Atom
returns-in-Atom c = word-atom _ c.in-Atom.ensures c.word.ensures

pub returns-in-Foreign : goal.returns-in-Foreign
returns-in-Foreign c = word-foreign _ c.in-Foreign.ensures c.foreign_word.ensures

pub returns-in-Record : goal.returns-in-Record
returns-in-Record c = word_record _ _ c.in-Record.ensures c.len.ensures.0 c.word-in-Record.ensures

pub returns-in-Option : goal.returns-in-Option
returns-in-Option c = word-option _ c.in-Option.ensures c.word-in-Option.ensures

pub returns-in-Array : goal.returns-in-Array
returns-in-Array c = word-array _ c.in-Array.ensures c.word-in-Array.ensures
