use Rattle.walking.specs.Measures as M
use Rattle.typecheck.proofs.+array_bin_block_call_case_cases_cast_func_node_one_part_record_node.Given as goal
use mathlib.Core.Path.{◌≡◌}
use Prim.Native.Nat.{◌+◌, ◌-◌}
use lib.ListN.{get_or}
use Rattle.tok.specs.Text.{texts_of}
use Rattle.state.specs.World.{no_more}
use Rattle.visit.specs.Whole.{lent}
use Rattle.walk_laws.specs.Lists.{Turn as ListsTurn}
use Rattle.fields.specs.RecordVisits.{Turn as RecordVisitsTurn}
use Rattle.members.specs.ArrayVisits.{Turned}
use Rattle.calls.specs.CallVisits.{Argued}
use Rattle.branches.specs.Cases.{Turn as CasesTurn}

abbrev pub decreases-array : goal.decreases-array
decreases-array l = M.μ-rule l.n

abbrev pub decreases-bin : goal.decreases-bin
decreases-bin l = M.μ-rule l.n

abbrev pub decreases-block : goal.decreases-block
decreases-block l = M.μ-block l.owner

abbrev pub decreases-call : goal.decreases-call
decreases-call l = M.μ-rule l.n

abbrev pub decreases-case : goal.decreases-case
decreases-case l = M.μ-case l.n

abbrev pub decreases-cases : goal.decreases-cases
decreases-cases l = M.μ-rule l.n

abbrev pub decreases-cast : goal.decreases-cast
decreases-cast l = M.μ-rule l.n

abbrev pub decreases-func : goal.decreases-func
decreases-func l = M.μ-rule l.n

abbrev pub decreases-node : goal.decreases-node
decreases-node l = M.μ-node l.n

abbrev pub decreases-one : goal.decreases-one
decreases-one l = M.μ-rule l.n

abbrev pub decreases-part : goal.decreases-part
decreases-part l = M.μ-part l.n

abbrev pub decreases-record_node : goal.decreases-record_node
decreases-record_node l = M.μ-rule l.n

-- A case of a Match: `typecheck::case` meets its contract, one law for each return (branches, `Case`). The loop over its body has the
-- invariant of nodes one after the other (walk_laws, `Lists`); the measure is how many are left. Assumes nothing.
abbrev pub invariant-case-loop-place : goal.invariant-case-loop-place
invariant-case-loop-place l = ListsTurn l.sources.texts.now l.sources.image.now.words l.sources.image.now.places l.sources.library.now l.n (l.at + 3) l.left l.begun
    (lent l.initial.slots l.initial.functions l.initial.types l.initial.diagnostics l.initial.messages l.initial.scratch no_more)
    l.place (l.at + 3 + l.left - l.place) l.answer l.here (lent l.slots l.functions l.types l.diagnostics l.messages l.scratch no_more)

-- Node::Record: `typecheck::record_node` meets its contract (fields, `RecordVisits`). The loop's invariant, `ListsTurn`: i values are done, as their
-- slots tell, and the others lead on to the whole rule; the measure is how many are left. Assumes nothing.
abbrev pub invariant-record_node-loop-i : goal.invariant-record_node-loop-i
invariant-record_node-loop-i l = RecordVisitsTurn l.sources.texts.now l.sources.image.now.words l.sources.image.now.places l.sources.library.now l.n l.node.at l.count l.initial.here
    (lent l.initial.slots l.initial.functions l.initial.types l.initial.diagnostics l.initial.messages l.initial.scratch no_more)
    l.here l.i (lent l.slots l.functions l.types l.diagnostics l.messages l.scratch no_more)

-- `typecheck::array` meets its contract: one law for each return. The loop's invariant: `Turned`, wherever the first member led to, the members so
-- far lead to here. Assumes nothing.
abbrev pub invariant-array-loop-i : goal.invariant-array-loop-i
invariant-array-loop-i l =
    Turned l.sources.texts.now l.sources.image.now.words l.sources.image.now.places l.sources.library.now l.n (get_or l.sources.image.now.words (l.node.at + 1) 0)
    (l.node.at + 3) l.count l.first 1 l.initial.poisoned l.initial.here
    (lent l.initial.slots l.initial.functions l.initial.types l.initial.diagnostics l.initial.messages l.initial.scratch no_more)
    l.i l.poisoned l.here (lent l.slots l.functions l.types l.diagnostics l.messages l.scratch no_more)

-- `typecheck::call` meets its contract: one law for each return. The loop's invariant: `Argued`, wherever the arguments before led to at its start,
-- those so far lead to here. Assumes nothing.
abbrev pub invariant-call-loop-i : goal.invariant-call-loop-i
invariant-call-loop-i l = Argued l.sources.texts.now l.sources.image.now.words l.sources.image.now.places l.sources.library.now l.n l.node.at l.count 0 l.initial.poisoned l.initial.here
    (lent l.initial.slots l.initial.functions l.initial.types l.initial.diagnostics l.initial.messages l.initial.scratch no_more)
    l.i l.poisoned l.here (lent l.slots l.functions l.types l.diagnostics l.messages l.scratch no_more)

-- `typecheck::block` meets its contract. The loop's invariant, `Turn`: the nodes that are left lead on to the whole list; the measure is how
-- many are left. Assumes nothing.
abbrev pub invariant-block-loop-place : goal.invariant-block-loop-place
invariant-block-loop-place l = ListsTurn l.sources.texts.now l.sources.image.now.words l.sources.image.now.places l.sources.library.now l.owner l.at l.k l.initial.here
    (lent l.initial.slots l.initial.functions l.initial.types l.initial.diagnostics l.initial.messages l.initial.scratch no_more)
    l.place (l.at + l.k - l.place) l.answer l.here (lent l.slots l.functions l.types l.diagnostics l.messages l.scratch no_more)

-- Node::Match: `typecheck::cases` meets its contract (branches, `Cases`). The first loop's invariant, `ListsTurn`: i cases are done, as their slots
-- tell, and the others lead on to the whole rule. The second loop, over the default's body, has that of nodes one after the other
-- (walk_laws, `Lists`). The measures are how many are left. Assumes nothing.
abbrev pub invariant-cases-loop : goal.invariant-cases-loop
invariant-cases-loop l = CasesTurn l.sources.texts.now l.sources.image.now.words l.sources.image.now.places l.sources.library.now l.n l.node.at l.count l.initial.here
    (lent l.initial.slots l.initial.functions l.initial.types l.initial.diagnostics l.initial.messages l.initial.scratch no_more)
    l.here l.place l.counter (lent l.slots l.functions l.types l.diagnostics l.messages l.scratch no_more)

abbrev pub invariant-cases-loop-i : goal.invariant-cases-loop-i
invariant-cases-loop-i l = ListsTurn l.sources.texts.now l.sources.image.now.words l.sources.image.now.places l.sources.library.now l.n l.next l.left l.initial.end
    (lent l.initial.slots l.initial.functions l.initial.types l.initial.diagnostics l.initial.messages l.initial.scratch no_more)
    (l.next + l.i) (l.left - l.i) l.default l.end (lent l.slots l.functions l.types l.diagnostics l.messages l.scratch no_more)
