use Rattle.std.proofs.Common.{arith, sym}
use Rattle.type_expr.proofs.Returns.{size-atom, size-foreign, size-option, size-array, size_record, levels-option, levels-array, levels_record}
use Rattle.type_expr.proofs.FieldReturns.{sizes-first, sizes_none, most-first}
use Rattle.type_expr.proofs.+sizes_type_size.Goals as goal

pub sizes-type_size-sum-requires : goal.sizes-type_size-sum-requires
sizes-type_size-sum-requires t c =
    let v = c.loop-expr.invariant in
    (omega (arith, c.decreases, v.1, most-first c.in-Some.ensures.steps), omega (arith, c.requires, v.0, sizes-first c.in-Some.ensures.steps))

pub sizes-overflow_add-sum : goal.sizes-overflow_add-sum
sizes-overflow_add-sum t c = omega (arith, c.requires, c.loop-expr.invariant.0, c.type_size-sum.ensures, sizes-first c.in-Some.ensures.steps)

pub sizes-loop-expr-preserved : goal.sizes-loop-expr-preserved
sizes-loop-expr-preserved t c =
    let v = c.loop-expr.invariant in
    (omega (arith, v.0, c.type_size-sum.ensures, sizes-first c.in-Some.ensures.steps), omega (arith, v.1, most-first c.in-Some.ensures.steps))

pub sizes-returns : goal.sizes-returns
sizes-returns t c = omega (arith, c.loop-expr.invariant.0, sizes_none c.in-None.ensures.steps.0)

pub type_size-sizes-requires : goal.type_size-sizes-requires
type_size-sizes-requires t c = (omega (arith, c.decreases, levels_record c.in-Record.ensures), omega (arith, c.requires, size_record _ c.in-Record.ensures))

pub type_size-overflow_add-result-in-Record : goal.type_size-overflow_add-result-in-Record
type_size-overflow_add-result-in-Record t c = omega (arith, c.requires, c.sizes.ensures, c.len.ensures.0, size_record _ c.in-Record.ensures)

pub type_size-returns-in-Record : goal.type_size-returns-in-Record
type_size-returns-in-Record t c = omega (arith, c.sizes.ensures, c.len.ensures.0, size_record _ c.in-Record.ensures)

pub type_size-returns-in-Atom : goal.type_size-returns-in-Atom
type_size-returns-in-Atom t c = sym (size-atom c.in-Atom.ensures)

pub type_size-returns-in-Foreign : goal.type_size-returns-in-Foreign
type_size-returns-in-Foreign t c = sym (size-foreign c.in-Foreign.ensures)

pub type_size-type_size-requires : goal.type_size-type_size-requires
type_size-type_size-requires t c = (omega (arith, c.decreases, levels-option c.in-Option.ensures), omega (arith, c.requires, size-option c.in-Option.ensures))

pub type_size-overflow_add-result-in-Option : goal.type_size-overflow_add-result-in-Option
type_size-overflow_add-result-in-Option t c = omega (arith, c.requires, c.type_size.ensures, size-option c.in-Option.ensures)

pub type_size-returns-in-Option : goal.type_size-returns-in-Option
type_size-returns-in-Option t c = omega (arith, c.type_size.ensures, size-option c.in-Option.ensures)

pub type_size-type_size-requires-in-Array : goal.type_size-type_size-requires-in-Array
type_size-type_size-requires-in-Array t c = (omega (arith, c.decreases, levels-array c.in-Array.ensures), omega (arith, c.requires, size-array c.in-Array.ensures))

pub type_size-overflow_add-result-in-Array : goal.type_size-overflow_add-result-in-Array
type_size-overflow_add-result-in-Array t c = omega (arith, c.requires, c.type_size-in-Array.ensures, size-array c.in-Array.ensures)

pub type_size-returns-in-Array : goal.type_size-returns-in-Array
type_size-returns-in-Array t c = omega (arith, c.type_size-in-Array.ensures, size-array c.in-Array.ensures)
