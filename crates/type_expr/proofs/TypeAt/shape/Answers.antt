-- `TypeAt::shape` meets its contract: by the kind of the record. Assumes nothing.
use Rattle.std.proofs.Common.{arith, refl, sym}
use Rattle.ast.specs.KindLaws.{expr-number, expr-not}
use Rattle.type_expr.specs.TypesAt.{words-there, atom-low, kind-array, option-ready, array-ready, fields-ready, type-atom, type-foreign, type-option, type-array, type_record_lem}
use Rattle.type_expr.proofs.Reading.{fields_are, kind-is}
use Rattle.type_expr.proofs.TypeAt.shape.Goals as goal

pub invariant_of-result : goal.invariant_of-result
invariant_of-result c = (option-ready c.self.invariant c.type_place-at.ensures c.word_at-head.ensures refl (expr-number _ c.in-Option.ensures) c.word_after-first.ensures).ready

pub overflow_add-fields : goal.overflow_add-fields
overflow_add-fields c = omega (arith, words-there c.self.invariant c.type_place-at.ensures)

pub invariant_of-fields : goal.invariant_of-fields
invariant_of-fields c = fields-ready c.self.invariant c.type_place-at.ensures c.word_at-head.ensures refl c.fields_in.ensures.0 (expr-number _ c.in-Record.ensures)

pub invariant_of-result-in_default : goal.invariant_of-result-in_default
invariant_of-result-in_default c =
    let q = kind-array c.self.invariant c.type_place-at.ensures c.word_at-head.ensures refl (expr-not _ c.of.ensures c.in_default.not-Atom) (expr-not _ c.of.ensures c.in_default.not-Foreign)
    (expr-not _ c.of.ensures c.in_default.not-Record) (expr-not _ c.of.ensures c.in_default.not-Option) in
    (array-ready c.self.invariant c.type_place-at.ensures c.word_at-head.ensures refl q c.word_after-first.ensures).ready

pub returns-in-Atom : goal.returns-in-Atom
returns-in-Atom c =
    let k = expr-number _ c.in-Atom.ensures in
    let low = atom-low c.self.invariant c.type_place-at.ensures c.word_at-head.ensures refl k c.word_after.ensures in
    rw (← c.self.view_is, kind-is c.from.ensures low, c.word_after.ensures, c.word_after-first.ensures)
    (sym (type-atom c.self.invariant c.type_place-at.ensures c.word_at-head.ensures refl k))

pub returns-in-Foreign : goal.returns-in-Foreign
returns-in-Foreign c =
    rw (← c.self.view_is, c.word_after-first.ensures)
    (sym (type-foreign c.self.invariant c.type_place-at.ensures c.word_at-head.ensures refl (expr-number _ c.in-Foreign.ensures)))

pub returns-in-Option : goal.returns-in-Option
returns-in-Option c =
    rw (← c.self.view_is, c.word_after-first.ensures)
    (sym (type-option c.self.invariant c.type_place-at.ensures c.word_at-head.ensures refl (expr-number _ c.in-Option.ensures)))

pub returns-in-Record : goal.returns-in-Record
returns-in-Record c =
    rw (← c.self.view_is, c.word_after-first.ensures, fields_are _ _ _, c.fields_in.ensures.0)
    (sym (type_record_lem c.self.invariant c.type_place-at.ensures c.word_at-head.ensures refl refl (expr-number _ c.in-Record.ensures)))

pub returns-in_default : goal.returns-in_default
returns-in_default c =
    let q = kind-array c.self.invariant c.type_place-at.ensures c.word_at-head.ensures refl (expr-not _ c.of.ensures c.in_default.not-Atom) (expr-not _ c.of.ensures c.in_default.not-Foreign)
    (expr-not _ c.of.ensures c.in_default.not-Record) (expr-not _ c.of.ensures c.in_default.not-Option) in
    rw (← c.self.view_is, c.word_after-first.ensures) (sym (type-array c.self.invariant c.type_place-at.ensures c.word_at-head.ensures refl q))
