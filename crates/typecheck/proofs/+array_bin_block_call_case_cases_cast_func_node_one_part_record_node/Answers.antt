-- The functions that visit meet their contracts, all in one proof, since they call each other: what each call asks for, from what came before it, and one
-- law for each return (operand_visits, branches, fields, members, calls, walk_laws). Assumes nothing.
use mathlib.Core.Path.{refl, sym, ap, ◌≡◌, ◌∙◌}
use native.Mathlib.Omega.{arith}
use Prim.Native.Nat.{ℕ, ◌+◌, ◌-◌}
use Rattle.state.specs.World.{no_more}
use Rattle.visiting.specs.Then.{passed_on}
use Rattle.operand_visits.specs.Bin as Bin
use Rattle.operand_visits.specs.Cast as Cast
use Rattle.operand_visits.specs.One as One
use Rattle.branches.specs.Case as Case
use Rattle.branches.specs.Cases as Cases
use Rattle.fields.specs.RecordVisits as Record
use Rattle.members.specs.ArrayVisits as Array
use Rattle.calls.specs.CallVisits as Call
use Rattle.walk_laws.specs.Lists as List
use Rattle.walk_laws.specs.Bodies as Body
use Rattle.ast.specs.KindLaws.{node-number}
use Rattle.walk_laws.specs.Dispatch.{to-leaf, to_rule, to_one, a-kind}
use Rattle.typecheck.proofs.+array_bin_block_call_case_cases_cast_func_node_one_part_record_node.Goals as goal

-- ── A node, by its kind ──

pub node-leaf-requires : goal.node-leaf-requires
node-leaf-requires t c = to-leaf c.node.ensures.place c.requires (rw c.node.ensures.same at c.kind.ensures) c.in-Atom.is

pub node-bin-requires : goal.node-bin-requires
node-bin-requires t c = (omega (arith, c.decreases), to_rule c.node.ensures.place c.requires (rw c.node.ensures.same at (node-number _ c.in-Bin.ensures)))

pub node-cast-requires : goal.node-cast-requires
node-cast-requires t c = (omega (arith, c.decreases), to_rule c.node.ensures.place c.requires (rw c.node.ensures.same at (node-number _ c.in-Cast.ensures)))

pub node-func-requires : goal.node-func-requires
node-func-requires t c = (omega (arith, c.decreases), to_rule c.node.ensures.place c.requires (rw c.node.ensures.same at (node-number _ c.in-Fn.ensures)))

pub node-cases-requires : goal.node-cases-requires
node-cases-requires t c = (omega (arith, c.decreases), to_rule c.node.ensures.place c.requires (rw c.node.ensures.same at (node-number _ c.in-Match.ensures)))

pub node-call-requires : goal.node-call-requires
node-call-requires t c = (omega (arith, c.decreases), to_rule c.node.ensures.place c.requires (rw c.node.ensures.same at (node-number _ c.in-Call.ensures)))

pub node-record_node-requires : goal.node-record_node-requires
node-record_node-requires t c = (omega (arith, c.decreases), to_rule c.node.ensures.place c.requires (rw c.node.ensures.same at (node-number _ c.in-Record.ensures)))

pub node-array-requires : goal.node-array-requires
node-array-requires t c = (omega (arith, c.decreases), to_rule c.node.ensures.place c.requires (rw c.node.ensures.same at (node-number _ c.in-Array.ensures)))

pub node-one-requires : goal.node-one-requires
node-one-requires t c = (omega (arith, c.decreases), to_one c.node.ensures.place c.requires (rw c.node.ensures.same at c.kind.ensures) c.in-Unary.is)

pub node-unreachable-requires : goal.node-unreachable-requires
node-unreachable-requires t c = a-kind c.node.ensures.place c.requires (rw c.node.ensures.same at c.kind.ensures) c.in-None.is

pub node-returns-in-Atom : goal.node-returns-in-Atom
node-returns-in-Atom t c = c.leaf.ensures _ no_more

-- ── Node::Bin ──

pub bin-part-requires : goal.bin-part-requires
bin-part-requires t c = (
  omega (arith, c.decreases, Bin.left-under c.requires c.node-node.ensures.place (rw c.node-node.ensures.same at c.word.ensures)),
  Bin.left-visit c.requires c.node-node.ensures.place
      (rw c.node-node.ensures.same at c.word.ensures),
)

pub bin-returns-in_err-l : goal.bin-returns-in_err-l
bin-returns-in_err-l t c = passed_on c.from_residual.ensures.1 (Bin.left-stops c.requires c.node-node.ensures.place (rw c.node-node.ensures.same at c.word.ensures) c.in_err-l.ensures)

pub bin-part-requires-2 : goal.bin-part-requires-2
bin-part-requires-2 t c = (
  omega (arith, c.decreases, Bin.right-under c.requires c.node-node.ensures.place (rw c.node-node.ensures.same at c.word-2.ensures)),
  Bin.right-visit c.requires c.node-node.ensures.place (rw c.node-node.ensures.same at c.word.ensures) c.in_ok-l.ensures (rw c.node-node.ensures.same at c.word-2.ensures),
)

pub bin-returns-in_err-r : goal.bin-returns-in_err-r
bin-returns-in_err-r t c =
    passed_on c.from_residual-in_err-r.ensures.1
    (Bin.right-stops c.requires c.node-node.ensures.place (rw c.node-node.ensures.same at c.word.ensures) c.in_ok-l.ensures (rw c.node-node.ensures.same at c.word-2.ensures) c.in_err-r.ensures)

pub bin-returns : goal.bin-returns
bin-returns t c =
    Bin.bin-ends c.requires c.node-node.ensures.place (rw c.node-node.ensures.same at c.word.ensures) c.in_ok-l.ensures (rw c.node-node.ensures.same at c.word-2.ensures) c.in_ok-r.ensures
    ((rw (c.node-node.ensures.same, c.node-node.ensures.number) at c.bin_end.ensures) _ _ _ _ _ no_more)

-- ── Node::Unary, Node::Let, Node::Field ──

pub one-part-requires : goal.one-part-requires
one-part-requires t c = (
  omega (arith, c.decreases, One.operand-under c.requires c.node-node.ensures.place (rw c.node-node.ensures.same at c.operand_of-value.ensures)),
  One.operand-visit c.requires c.node-node.ensures.place (rw c.node-node.ensures.same at c.operand_of-value.ensures),
)

pub one-returns-in_err-a : goal.one-returns-in_err-a
one-returns-in_err-a t c = passed_on c.from_residual.ensures.1 (One.operand-stops c.requires c.node-node.ensures.place (rw c.node-node.ensures.same at c.operand_of-value.ensures) c.in_err-a.ensures)

pub one-one_end-requires : goal.one-one_end-requires
one-one_end-requires t c = rw c.node-node.ensures.same (One.end-ready c.requires c.node-node.ensures.place (rw c.node-node.ensures.same at c.operand_of-value.ensures) c.in_ok-a.ensures)

pub one-returns : goal.one-returns
one-returns t c =
    One.one-ends c.requires c.node-node.ensures.place (rw c.node-node.ensures.same at c.operand_of-value.ensures) c.in_ok-a.ensures
    ((rw (c.node-node.ensures.same, c.node-node.ensures.number) at c.one_end.ensures) _ _ _ _ no_more)

-- ── Node::Cast ──

pub cast-cast_begin-requires : goal.cast-cast_begin-requires
cast-cast_begin-requires t c = rw c.node-node.ensures.same (Cast.cast-ready c.requires c.node-node.ensures.place)

pub cast-returns-in_err-to : goal.cast-returns-in_err-to
cast-returns-in_err-to t c =
    passed_on c.from_residual.ensures.1
    (Cast.type-stops c.requires c.node-node.ensures.place ((rw (c.node-node.ensures.same, c.node-node.ensures.number) at c.in_err-to.ensures) _ _ _ _ _ _ _ _ _ no_more))

pub cast-part-requires : goal.cast-part-requires
cast-part-requires t c = (
  omega (arith, c.decreases, Cast.operand-under c.requires c.node-node.ensures.place (rw c.node-node.ensures.same at c.word.ensures)),
  Cast.operand-visit c.requires c.node-node.ensures.place ((rw (c.node-node.ensures.same, c.node-node.ensures.number) at c.in_ok-to.ensures) _ _ _ _ _ _ _ _ _ no_more)
      (rw c.node-node.ensures.same at c.word.ensures),
)

pub cast-returns-in_err-a : goal.cast-returns-in_err-a
cast-returns-in_err-a t c =
    passed_on c.from_residual-in_err-a.ensures.1
    (Cast.operand-stops c.requires c.node-node.ensures.place ((rw (c.node-node.ensures.same, c.node-node.ensures.number) at c.in_ok-to.ensures) _ _ _ _ _ _ _ _ _ no_more)
    (rw c.node-node.ensures.same at c.word.ensures) c.in_err-a.ensures)

pub cast-returns : goal.cast-returns
cast-returns t c =
    Cast.cast_ends c.requires c.node-node.ensures.place ((rw (c.node-node.ensures.same, c.node-node.ensures.number) at c.in_ok-to.ensures) _ _ _ _ _ _ _ _ _ no_more)
    (rw c.node-node.ensures.same at c.word.ensures) c.in_ok-a.ensures ((rw (c.node-node.ensures.same, c.node-node.ensures.number) at c.cast_end.ensures) _ _ _ _ _ no_more)

-- ── Nodes one after the other ──

pub block-loop-place-init : goal.block-loop-place-init
block-loop-place-init t c = rw List.whole-left (List.turn-begin c.requires c.slot_count.ensures)

pub block-part-requires : goal.block-part-requires
block-part-requires t c = (
  omega (arith, c.decreases, List.part-under c.loop-place.invariant (omega arith) c.word_at.ensures),
  List.turn-visit c.loop-place.invariant (omega arith) c.word_at.ensures,
)

pub block-returns-in_err-a : goal.block-returns-in_err-a
block-returns-in_err-a t c = passed_on c.from_residual.ensures.1 (List.turn-stops c.loop-place.invariant (omega arith) c.word_at.ensures c.in_err-a.ensures)

pub block-loop-place-preserved : goal.block-loop-place-preserved
block-loop-place-preserved t c = rw List.one-less (List.turn-next c.loop-place.invariant (omega arith) c.word_at.ensures c.in_ok-a.ensures)

pub block-returns : goal.block-returns
block-returns t c = List.turn_end c.loop-place.invariant (omega arith)

-- ── Node::Fn ──

pub func-begin-requires : goal.func-begin-requires
func-begin-requires t c = rw c.node-node.ensures.same (Body.begin-ready c.requires c.node-node.ensures.place)

pub func-returns-in_err-begun : goal.func-returns-in_err-begun
func-returns-in_err-begun t c =
    passed_on c.from_residual.ensures.1 (Body.fn-refused c.requires c.node-node.ensures.place ((rw (c.node-node.ensures.same, c.node-node.ensures.number) at c.in_err-begun.ensures) _ _ _ no_more))

pub func-returns-in_default : goal.func-returns-in_default
func-returns-in_default t c = Body.fn-ends c.requires c.node-node.ensures.place ((rw (c.node-node.ensures.same, c.node-node.ensures.number) at c.in_ok-begun.ensures) _ _ _ no_more) c.in_default.is

pub func-overflow_sub-long : goal.func-overflow_sub-long
func-overflow_sub-long t c = Body.body-inside c.requires c.node-node.ensures.place (rw c.node-node.ensures.same at c.length-long.ensures) (rw c.node-node.ensures.same at c.word-count.ensures)

pub func-block-requires : goal.func-block-requires
func-block-requires t c = (
  omega (arith, c.decreases),
  Body.body-visit c.requires c.node-node.ensures.place ((rw (c.node-node.ensures.same, c.node-node.ensures.number) at c.in_ok-begun.ensures) _ _ _ no_more) c.in-Some.is
      (rw c.node-node.ensures.same at c.word-count.ensures) (rw c.node-node.ensures.same at c.length-long.ensures),
)

pub func-returns-in_err-computed : goal.func-returns-in_err-computed
func-returns-in_err-computed t c =
    passed_on c.from_residual-in_err-computed.ensures.1
    (Body.fn-stops c.requires c.node-node.ensures.place ((rw (c.node-node.ensures.same, c.node-node.ensures.number) at c.in_ok-begun.ensures) _ _ _ no_more) c.in-Some.is
    (rw c.node-node.ensures.same at c.word-count.ensures)
    (rw c.node-node.ensures.same at c.length-long.ensures) c.in_err-computed.ensures)

pub func-end-requires : goal.func-end-requires
func-end-requires t c = rw c.node-node.ensures.same (Body.end-ready c.requires c.node-node.ensures.place)

pub func-returns : goal.func-returns
func-returns t c =
    Body.fn-done c.requires c.node-node.ensures.place ((rw (c.node-node.ensures.same, c.node-node.ensures.number) at c.in_ok-begun.ensures) _ _ _ no_more) c.in-Some.is
    (rw c.node-node.ensures.same at c.word-count.ensures) (rw c.node-node.ensures.same at c.length-long.ensures)
    c.in_ok-computed.ensures ((rw (c.node-node.ensures.same, c.node-node.ensures.number) at c.end.ensures) _ _ _ _ _ no_more)

-- ── A case of a Match ──

pub case-part-requires : goal.case-part-requires
case-part-requires t c = (omega (arith, c.decreases, Case.test-under c.requires c.word_after.ensures), Case.test-visit c.requires c.word_after.ensures)

pub case-returns-in_err-a : goal.case-returns-in_err-a
case-returns-in_err-a t c = passed_on c.from_residual.ensures.1 (Case.test-stops c.requires c.word_after.ensures c.in_err-a.ensures)

pub case-returns-in_err-begun : goal.case-returns-in_err-begun
case-returns-in_err-begun t c = passed_on c.from_residual-in_err-begun.ensures.1 (Case.condition-stops c.requires c.word_after.ensures c.in_ok-a.ensures (c.in_err-begun.ensures _ _ _ _ _ no_more))

pub case-loop-place-init : goal.case-loop-place-init
case-loop-place-init t c =
    rw List.whole-left
    (List.turn-begin (Case.body-visit c.requires c.word_after.ensures c.in_ok-a.ensures (c.in_ok-begun.ensures _ _ _ _ _ no_more) c.word_after-left.ensures) c.slot_count.ensures)

pub case-part-requires-in-loop-place : goal.case-part-requires-in-loop-place
case-part-requires-in-loop-place t c = (
  omega (arith, c.decreases, List.part-under c.loop-place.invariant (omega arith) c.word_at.ensures),
  List.turn-visit c.loop-place.invariant (omega arith) c.word_at.ensures,
)

pub case-returns-in_err-a-2 : goal.case-returns-in_err-a-2
case-returns-in_err-a-2 t c =
    passed_on c.from_residual-in_err-a-2.ensures.1
    (Case.body-stops c.requires c.word_after.ensures c.in_ok-a.ensures (c.in_ok-begun.ensures _ _ _ _ _ no_more) c.word_after-left.ensures
    (List.turn-stops c.loop-place.invariant (omega arith) c.word_at.ensures c.in_err-a-2.ensures))

pub case-loop-place-preserved : goal.case-loop-place-preserved
case-loop-place-preserved t c = rw List.one-less (List.turn-next c.loop-place.invariant (omega arith) c.word_at.ensures c.in_ok-a-2.ensures)

pub case-returns : goal.case-returns
case-returns t c =
    Case.case-ends c.requires c.word_after.ensures c.in_ok-a.ensures (c.in_ok-begun.ensures _ _ _ _ _ no_more) c.word_after-left.ensures
    (List.turn_end c.loop-place.invariant (omega arith)) c.left.ensures

-- ── Node::Match ──

pub cases-loop-init : goal.cases-loop-init
cases-loop-init t c = Cases.turn-begin c.requires c.node-node.ensures.place (rw c.node-node.ensures.same at c.word-count.ensures)

pub cases-case-requires : goal.cases-case-requires
cases-case-requires t c = (omega (arith, c.decreases), Cases.turn-case c.loop.invariant (omega arith))

pub cases-returns-in_err-next : goal.cases-returns-in_err-next
cases-returns-in_err-next t c = passed_on c.from_residual.ensures.1 (Cases.turn-stops c.loop.invariant (omega arith) c.in_err-next.ensures)

pub cases-case_end-place-requires : goal.cases-case_end-place-requires
cases-case_end-place-requires t c = omega (arith, Cases.place_inside c.loop.invariant (omega arith))

pub cases-loop-preserved : goal.cases-loop-preserved
cases-loop-preserved t c = Cases.turn-next c.loop.invariant (omega arith) c.in_ok-next.ensures c.case_end-place.ensures

pub cases-overflow_add-next : goal.cases-overflow_add-next
cases-overflow_add-next t c = omega (arith, Cases.default_inside c.loop.invariant (omega arith), Cases.record_inside c.loop.invariant (omega arith))

pub cases-overflow_sub-left : goal.cases-overflow_sub-left
cases-overflow_sub-left t c = omega (arith, Cases.default_inside c.loop.invariant (omega arith), rw c.node-node.ensures.same at c.length.ensures)

pub cases-loop-i-init : goal.cases-loop-i-init
cases-loop-i-init t c =
    let left : ℕ = c.node-node.result.at + c.length.result - (c.loop.place + 1) in
    let e : c.loop.place + 1 + 0 ≡ c.loop.place + 1 = omega arith in
    let f : left - 0 ≡ left = omega arith in
    rw (e, f)
    (List.turn-begin
    (Cases.default_visit c.loop.invariant (omega arith) (ap (λ x. c.node-node.result.at + x - (c.loop.place + 1)) (rw c.node-node.ensures.same at c.length.ensures)))
    c.slot_count.ensures)

pub cases-part-requires : goal.cases-part-requires
cases-part-requires t c = (
  omega (arith, c.decreases, List.part-under c.loop-i.invariant (omega arith) c.word_after.ensures),
  List.turn-visit c.loop-i.invariant (omega arith) c.word_after.ensures,
)

pub cases-returns-in_err-a : goal.cases-returns-in_err-a
cases-returns-in_err-a t c =
    passed_on c.from_residual-in_err-a.ensures.1
    (Cases.default_stops c.loop.invariant (omega arith) (ap (λ x. c.node-node.result.at + x - (c.loop.place + 1)) (rw c.node-node.ensures.same at c.length.ensures))
    (List.turn-stops c.loop-i.invariant (omega arith) c.word_after.ensures c.in_err-a.ensures))

pub cases-loop-i-preserved : goal.cases-loop-i-preserved
cases-loop-i-preserved t c =
    let left : ℕ = c.node-node.result.at + c.length.result - (c.loop.place + 1) in
    let e : c.loop.place + 1 + (c.loop-i.i + 1) ≡ c.loop.place + 1 + c.loop-i.i + 1 = omega arith in
    let f : left - (c.loop-i.i + 1) ≡ left - c.loop-i.i - 1 = omega arith in
    rw (e, f) (List.turn-next c.loop-i.invariant (omega arith) c.word_after.ensures c.in_ok-a.ensures)

pub cases-end-requires : goal.cases-end-requires
cases-end-requires t c = rw (c.node-node.ensures.same, c.node-node.ensures.number) (Cases.end-cases c.loop.invariant (omega arith))

pub cases-returns : goal.cases-returns
cases-returns t c =
    Cases.match-ends c.loop.invariant (omega arith) (ap (λ x. c.node-node.result.at + x - (c.loop.place + 1)) (rw c.node-node.ensures.same at c.length.ensures))
    (List.turn_end c.loop-i.invariant (omega arith)) c.left.ensures ((rw (c.node-node.ensures.same, c.node-node.ensures.number) at c.end.ensures) _ _ _ _ _ no_more)

-- ── Node::Call ──

pub call-through_field-requires : goal.call-through_field-requires
call-through_field-requires t c = rw c.node-node.ensures.same (Call.call_at c.requires c.node-node.ensures.place)

pub call-report_field-requires : goal.call-report_field-requires
call-report_field-requires t c =
    rw c.node-node.ensures.same (Call.field-call c.requires c.node-node.ensures.place (rw c.node-node.ensures.same at (sym c.through_field.ensures ∙ c.if-through_field.true)))

pub call-returns-then-through_field : goal.call-returns-then-through_field
call-returns-then-through_field t c =
    Call.call-field c.requires c.node-node.ensures.place
    (λ ctx slot given visits. (rw (c.node-node.ensures.same, c.node-node.ensures.number) at c.report_field.ensures) ctx slot given visits _ _ _ _ _ no_more)

pub call-overflow_sub-count : goal.call-overflow_sub-count
call-overflow_sub-count t c = Call.call_length c.requires c.node-node.ensures.place (rw c.node-node.ensures.same at c.length-count.ensures)

pub call-part-requires : goal.call-part-requires
call-part-requires t c = (
  omega (arith, c.decreases, Call.argument-under c.requires c.node-node.ensures.place (rw c.node-node.ensures.same at c.length-count.ensures) (omega arith) c.word_after.ensures),
  Call.argument-visit
      (c.loop-i.invariant.on _ _ (Call.arguing_first c.requires c.node-node.ensures.place (rw c.node-node.ensures.same at c.length-count.ensures)
      (rw c.node-node.ensures.same at (sym c.through_field.ensures ∙ c.if-through_field.false))))
      (Call.some_left (omega arith)) c.word_after.ensures
      (Call.argument-below c.requires c.node-node.ensures.place (rw c.node-node.ensures.same at c.length-count.ensures) (omega arith) c.word_after.ensures),
)

pub call-returns-in_err-a : goal.call-returns-in_err-a
call-returns-in_err-a t c =
    passed_on c.from_residual.ensures.1
    (Call.argument-stopped
    (c.loop-i.invariant.on _ _ (Call.arguing_first c.requires c.node-node.ensures.place (rw c.node-node.ensures.same at c.length-count.ensures)
    (rw c.node-node.ensures.same at (sym c.through_field.ensures ∙ c.if-through_field.false))))
    (Call.some_left (omega arith)) c.word_after.ensures c.in_err-a.ensures)

pub call-loop-i-preserved : goal.call-loop-i-preserved
call-loop-i-preserved t c =
    Call.argued-next c.loop-i.invariant (omega arith) c.word_after.ensures
    (Call.argument-below c.requires c.node-node.ensures.place (rw c.node-node.ensures.same at c.length-count.ensures) (omega arith) c.word_after.ensures) c.in_ok-a.ensures c.or_poison-poisoned.ensures

pub call-resolve-requires : goal.call-resolve-requires
call-resolve-requires t c =
    rw (← c.node-node.ensures.place)
    (Call.resolvable c.requires c.node-node.ensures.place (rw c.node-node.ensures.same at c.length-count.ensures)
    (rw c.node-node.ensures.same at (sym c.through_field.ensures ∙ c.if-through_field.false))
    (Call.arguments-ready
    (c.loop-i.invariant.on _ _ (Call.arguing_first c.requires c.node-node.ensures.place (rw c.node-node.ensures.same at c.length-count.ensures)
    (rw c.node-node.ensures.same at (sym c.through_field.ensures ∙ c.if-through_field.false))))
    (Call.none_left_lem (omega arith))))

pub call-returns : goal.call-returns
call-returns t c =
    Call.arguments-done
    (c.loop-i.invariant.on _ _ (Call.arguing_first c.requires c.node-node.ensures.place (rw c.node-node.ensures.same at c.length-count.ensures)
    (rw c.node-node.ensures.same at (sym c.through_field.ensures ∙ c.if-through_field.false))))
    (Call.none_left_lem (omega arith)) ((rw (← c.node-node.ensures.place) at c.resolve.ensures) _ _)

-- ── Node::Record ──

pub record_node-overflow_sub-count : goal.record_node-overflow_sub-count
record_node-overflow_sub-count t c = Record.record_length_lem c.requires c.node-node.ensures.place (rw c.node-node.ensures.same at c.length.ensures)

pub record_node-loop-i-init : goal.record_node-loop-i-init
record_node-loop-i-init t c = Record.turn-begin c.requires c.node-node.ensures.place (rw c.node-node.ensures.same at c.length.ensures) refl

pub record_node-part-requires : goal.record_node-part-requires
record_node-part-requires t c = (
  omega (arith, c.decreases, Record.value-under c.loop-i.invariant (omega arith) c.word_after.ensures),
  Record.value-visit c.loop-i.invariant (omega arith) c.word_after.ensures,
)

pub record_node-returns-in_err-next : goal.record_node-returns-in_err-next
record_node-returns-in_err-next t c = passed_on c.from_residual.ensures.1 (Record.turn-stops c.loop-i.invariant (omega arith) c.word_after.ensures c.in_err-next.ensures)

pub record_node-loop-i-preserved : goal.record_node-loop-i-preserved
record_node-loop-i-preserved t c = Record.turn-next c.loop-i.invariant (omega arith) c.word_after.ensures c.in_ok-next.ensures

pub record_node-make-requires : goal.record_node-make-requires
record_node-make-requires t c = rw (c.node-node.ensures.same, c.node-node.ensures.number) c.loop-i.invariant.values

pub record_node-returns : goal.record_node-returns
record_node-returns t c =
    Record.record_made c.loop-i.invariant (omega arith) ((rw (c.node-node.ensures.same, c.node-node.ensures.number) at c.make.ensures) c.args.sources.now.texts.now _ _ _ _ _ no_more)

-- ── Node::Array ──

pub array-overflow_sub-count : goal.array-overflow_sub-count
array-overflow_sub-count t c = Array.array-length c.requires c.node-node.ensures.place (rw c.node-node.ensures.same at c.length-count.ensures)

pub array-returns-then-count-eq0 : goal.array-returns-then-count-eq0
array-returns-then-count-eq0 t c =
    Array.array-empty c.requires c.node-node.ensures.place (rw c.node-node.ensures.same at c.length-count.ensures) c.if-count-eq0.true
    ((rw (c.node-node.ensures.same, c.node-node.ensures.number) at c.empty.ensures) _ _ _ _ _ no_more)

pub array-part-requires : goal.array-part-requires
array-part-requires t c = (
  omega (
    arith,
    c.decreases,
    Array.first_under c.requires c.node-node.ensures.place (rw c.node-node.ensures.same at c.length-count.ensures) c.if-count-eq0.false
        (rw c.node-node.ensures.same at c.word.ensures),
  ),
  Array.first-visit c.requires c.node-node.ensures.place (rw c.node-node.ensures.same at c.length-count.ensures) c.if-count-eq0.false (rw c.node-node.ensures.same at c.word.ensures),
)

pub array-returns-in_err-first : goal.array-returns-in_err-first
array-returns-in_err-first t c =
    passed_on c.from_residual.ensures.1
    (Array.first-stopped c.requires c.node-node.ensures.place (rw c.node-node.ensures.same at c.length-count.ensures) c.if-count-eq0.false
    (rw c.node-node.ensures.same at c.word.ensures) c.in_err-first.ensures)

pub array-part-requires-in-loop-i : goal.array-part-requires-in-loop-i
array-part-requires-in-loop-i t c = (
  omega (arith, c.decreases, Array.member-under c.requires c.node-node.ensures.place (rw c.node-node.ensures.same at c.length-count.ensures) (omega arith) c.word_after-member.ensures),
  Array.member-visit
      (c.loop-i.invariant.on _ _ (Array.first-passed c.requires c.node-node.ensures.place (rw c.node-node.ensures.same at c.length-count.ensures) c.if-count-eq0.false
      (rw c.node-node.ensures.same at c.word.ensures) c.in_ok-first.ensures))
      (Array.some_left (omega arith)) c.word_after-member.ensures
      (Array.member_below c.requires c.node-node.ensures.place (rw c.node-node.ensures.same at c.length-count.ensures) (omega arith) c.word_after-member.ensures),
)

pub array-returns-in_err-a : goal.array-returns-in_err-a
array-returns-in_err-a t c =
    passed_on c.from_residual-in_err-a.ensures.1
    (Array.member-stopped
    (c.loop-i.invariant.on _ _ (Array.first-passed c.requires c.node-node.ensures.place (rw c.node-node.ensures.same at c.length-count.ensures) c.if-count-eq0.false
    (rw c.node-node.ensures.same at c.word.ensures) c.in_ok-first.ensures))
    (Array.some_left (omega arith)) c.word_after-member.ensures c.in_err-a.ensures)

pub array-member-requires : goal.array-member-requires
array-member-requires t c =
    rw c.node-node.ensures.same (Array.member-there c.requires c.node-node.ensures.place (rw c.node-node.ensures.same at c.length-count.ensures) (omega arith) c.word_after-member.ensures)

pub array-returns-in_err-turn : goal.array-returns-in_err-turn
array-returns-in_err-turn t c =
    passed_on c.from_residual-in_err-turn.ensures.1
    (Array.turn-stopped
    (c.loop-i.invariant.on _ _ (Array.first-passed c.requires c.node-node.ensures.place (rw c.node-node.ensures.same at c.length-count.ensures) c.if-count-eq0.false
    (rw c.node-node.ensures.same at c.word.ensures) c.in_ok-first.ensures))
    (Array.some_left (omega arith)) c.word_after-member.ensures
    (Array.member_below c.requires c.node-node.ensures.place (rw c.node-node.ensures.same at c.length-count.ensures) (omega arith) c.word_after-member.ensures) c.in_ok-a.ensures
    ((rw (c.node-node.ensures.same, c.node-node.ensures.number) at c.in_err-turn.ensures) _ _ _ _ _ no_more))

pub array-returns-in_default : goal.array-returns-in_default
array-returns-in_default t c =
    Array.member-differs
    (c.loop-i.invariant.on _ _ (Array.first-passed c.requires c.node-node.ensures.place (rw c.node-node.ensures.same at c.length-count.ensures) c.if-count-eq0.false
    (rw c.node-node.ensures.same at c.word.ensures) c.in_ok-first.ensures))
    (Array.some_left (omega arith)) c.word_after-member.ensures
    (Array.member_below c.requires c.node-node.ensures.place (rw c.node-node.ensures.same at c.length-count.ensures) (omega arith) c.word_after-member.ensures) c.in_ok-a.ensures
    ((rw (c.node-node.ensures.same, c.node-node.ensures.number) at c.in_ok-turn.ensures) _ _ _ _ _ no_more) c.in_default.is

pub array-loop-i-preserved : goal.array-loop-i-preserved
array-loop-i-preserved t c =
    Array.turned-next c.loop-i.invariant (omega arith) c.word_after-member.ensures
    (Array.member_below c.requires c.node-node.ensures.place (rw c.node-node.ensures.same at c.length-count.ensures) (omega arith) c.word_after-member.ensures) c.in_ok-a.ensures
    ((rw (c.node-node.ensures.same, c.node-node.ensures.number) at c.in_ok-turn.ensures) _ _ _ _ _ no_more) c.in-Some.is

pub array-returns : goal.array-returns
array-returns t c =
    Array.array-ended
    (c.loop-i.invariant.on _ _ (Array.first-passed c.requires c.node-node.ensures.place (rw c.node-node.ensures.same at c.length-count.ensures) c.if-count-eq0.false
    (rw c.node-node.ensures.same at c.word.ensures) c.in_ok-first.ensures))
    (Array.none_left_lem (omega arith)) ((rw (c.node-node.ensures.same, c.node-node.ensures.number) at c.end.ensures) c.args.sources.now.texts.now _ _ _ _ _ _ _ no_more)
