-- `spans::span_of` and what it calls to cover lists meet their contracts: one law for each return and each turn of a loop. The number of
-- the node falls. Assumes nothing.
use Prim.Native.Nat.{◌+◌, ◌*◌, ◌-◌}
use Rattle.spans.proofs.Loops.{ValuesLeft}
use Rattle.spans.proofs.Loops.{NodesLeft}
use Rattle.spans.proofs.Loops.{CasesLeft}
use Rattle.spans.proofs.+cover_cases_cover_nodes_cover_values_list_span_match_span_span_of.Given as goal

abbrev pub decreases-cover_cases : goal.decreases-cover_cases
decreases-cover_cases l = l.node.now.n * 8 + 4

abbrev pub decreases-cover_nodes : goal.decreases-cover_nodes
decreases-cover_nodes l = l.node.now.n * 8 + 3

abbrev pub decreases-cover_values : goal.decreases-cover_values
decreases-cover_values l = l.node.now.n * 8 + 3

abbrev pub decreases-list_span : goal.decreases-list_span
decreases-list_span l = l.node.now.n * 8 + 6

abbrev pub decreases-match_span : goal.decreases-match_span
decreases-match_span l = l.node.now.n * 8 + 5

abbrev pub decreases-span_of : goal.decreases-span_of
decreases-span_of l = l.n * 8 + 7

-- `spans::cover_values` meets its contract. The loop's invariant, `ValuesLeft`: what is left to cover gives the whole. Assumes nothing.
abbrev pub invariant-cover_values-loop-i : goal.invariant-cover_values-loop-i
invariant-cover_values-loop-i l = ValuesLeft l.node.image.now.words l.node.image.now.places l.node.n l.initial.covered l.at l.k l.covered (l.at + 2 * l.i) (l.k - l.i)

-- `spans::cover_nodes` meets its contract. The loop's invariant, `NodesLeft`: what is left to cover gives the whole. Assumes nothing.
abbrev pub invariant-cover_nodes-loop-i : goal.invariant-cover_nodes-loop-i
invariant-cover_nodes-loop-i l = NodesLeft l.node.image.now.words l.node.image.now.places l.node.n l.initial.covered l.at l.k l.covered l.i (l.at + l.k - l.i)

-- `spans::cover_cases` meets its contract. The loop's invariant, `CasesLeft`: what is left to cover gives the whole. Assumes nothing.
abbrev pub invariant-cover_cases-loop : goal.invariant-cover_cases-loop
invariant-cover_cases-loop l = CasesLeft l.node.image.now.words l.node.image.now.places l.node.n l.initial.covered l.at l.k l.covered l.i (l.k - l.counter)
