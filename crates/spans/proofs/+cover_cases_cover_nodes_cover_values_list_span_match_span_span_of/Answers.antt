use native.Mathlib.Omega.{arith}
use Rattle.spans.specs.Ready.{values-part}
use native.Mathlib.Nat.{sub-zero}
use Rattle.spans.proofs.Loops.{some-left, none-left, one-less, whole-left, first-pair, next-pair}
use Rattle.spans.proofs.Loops.{values-all, values-less, values-done}
use Rattle.spans.proofs.ListsAt.{room}
use Rattle.places.specs.NodesAt.{part-ready, kind-small, words-bin, words-unary, words_let, words-field, words-cast}
use Rattle.spans.proofs.Returns.{leaf-kind, listed-left, array-left, span-leaf, span-bin, span-unary, span_let, span-cast, span-field}
use Rattle.spans.proofs.ListsAt.{room, fn-long, fn-ready, match-ready, call-target, call_long, call-ready, import_long, extern-ready, record_long, record_ready, array_long, array-ready}
use Rattle.spans.proofs.Returns.{span-fn, span_import, span_record, span-array, span-extern, span-call}
use Rattle.spans.specs.Ready.{nodes-part}
use Rattle.spans.proofs.Loops.{nodes-all, nodes-less, nodes-done}
use Rattle.spans.proofs.ListsAt.{match-room, match-long, cases-ready, default_end, default_ready}
use Rattle.spans.proofs.Returns.{span-match}
use mathlib.Core.Path.{refl}
use Rattle.spans.specs.Ready.{case-condition, case-room, case-body}
use Rattle.spans.proofs.Loops.{cases-all, cases-less, cases_done}
use Rattle.ast.specs.KindLaws.{node-number}
use Rattle.spans.proofs.+cover_cases_cover_nodes_cover_values_list_span_match_span_span_of.Goals as goal

pub cover_values-loop-i-init : goal.cover_values-loop-i-init
cover_values-loop-i-init t c = rw (sub-zero, first-pair) (values-all c.requires)

pub cover_values-span_of-requires : goal.cover_values-span_of-requires
cover_values-span_of-requires t c =
    let p = values-part (some-left (omega arith)) c.loop-i.invariant.ready c.word_after.ensures in (omega (arith, c.decreases, p.under), p.ready)

pub cover_values-loop-i-preserved : goal.cover_values-loop-i-preserved
cover_values-loop-i-preserved t c =
    rw (one-less, next-pair)
    (values-less c.loop-i.invariant (some-left (omega arith)) c.word_at.ensures c.token_span.ensures c.cover_spans-named.ensures c.word_after.ensures c.span_of.ensures
    c.cover_spans-covered.ensures)

pub cover_values-returns : goal.cover_values-returns
cover_values-returns t c = values-done c.loop-i.invariant (none-left (omega arith))

pub span_of-returns-in-Atom : goal.span_of-returns-in-Atom
span_of-returns-in-Atom t c =
    span-leaf c.requires c.node-node.ensures.place refl refl (rw c.node-node.ensures.same at c.word.ensures) c.token_span-first.ensures
    (leaf-kind _ (rw c.node-node.ensures.same at c.kind.ensures) c.in-Atom.is)

pub span_of-span_of-left-requires : goal.span_of-span_of-left-requires
span_of-span_of-left-requires t c =
    let w = words-bin c.requires c.node-node.ensures.place refl refl (rw c.node-node.ensures.same at (node-number _ c.in-Bin.ensures)) in
    let p = part-ready c.requires w.left (rw c.node-node.ensures.same at c.word-in-Bin.ensures) in
    (omega (arith, c.decreases, p.under), p.ready)

pub span_of-span_of-right-requires : goal.span_of-span_of-right-requires
span_of-span_of-right-requires t c =
    let w = words-bin c.requires c.node-node.ensures.place refl refl (rw c.node-node.ensures.same at (node-number _ c.in-Bin.ensures)) in
    let p = part-ready c.requires w.right (rw c.node-node.ensures.same at c.word-in-Bin-2.ensures) in
    (omega (arith, c.decreases, p.under), p.ready)

pub span_of-returns-in-Bin : goal.span_of-returns-in-Bin
span_of-returns-in-Bin t c =
    span-bin c.requires c.node-node.ensures.place refl refl (rw c.node-node.ensures.same at c.word.ensures) c.token_span-first.ensures (rw c.node-node.ensures.same at (node-number _ c.in-Bin.ensures))
    (rw c.node-node.ensures.same at c.word-in-Bin.ensures) c.span_of-left.ensures
    (rw c.node-node.ensures.same at c.word-in-Bin-2.ensures) c.span_of-right.ensures c.cover_spans.ensures c.cover_spans-in-Bin.ensures

pub span_of-span_of-requires : goal.span_of-span_of-requires
span_of-span_of-requires t c =
    let w = words-unary c.requires c.node-node.ensures.place refl refl (rw c.node-node.ensures.same at (node-number _ c.in-Unary.ensures)) in
    let p = part-ready c.requires w.right (rw c.node-node.ensures.same at c.word-in-Unary.ensures) in
    (omega (arith, c.decreases, p.under), p.ready)

pub span_of-returns-in-Unary : goal.span_of-returns-in-Unary
span_of-returns-in-Unary t c =
    span-unary c.requires c.node-node.ensures.place refl refl (rw c.node-node.ensures.same at c.word.ensures) c.token_span-first.ensures
    (rw c.node-node.ensures.same at (node-number _ c.in-Unary.ensures)) (rw c.node-node.ensures.same at c.word-in-Unary.ensures) c.span_of.ensures c.cover_spans-in-Unary.ensures

pub span_of-span_of-requires-in-Let : goal.span_of-span_of-requires-in-Let
span_of-span_of-requires-in-Let t c =
    let w = words_let c.requires c.node-node.ensures.place refl refl (rw c.node-node.ensures.same at (node-number _ c.in-Let.ensures)) in
    let p = part-ready c.requires w.right (rw c.node-node.ensures.same at c.word-in-Let.ensures) in
    (omega (arith, c.decreases, p.under), p.ready)

pub span_of-returns-in-Let : goal.span_of-returns-in-Let
span_of-returns-in-Let t c =
    span_let c.requires c.node-node.ensures.place refl refl (rw c.node-node.ensures.same at c.word.ensures) c.token_span-first.ensures (rw c.node-node.ensures.same at (node-number _ c.in-Let.ensures))
    (rw c.node-node.ensures.same at c.word-in-Let.ensures) c.span_of-in-Let.ensures c.cover_spans-in-Let.ensures

pub span_of-span_of-target-requires : goal.span_of-span_of-target-requires
span_of-span_of-target-requires t c =
    let w = words-field c.requires c.node-node.ensures.place refl refl (rw c.node-node.ensures.same at (node-number _ c.in-Field.ensures)) in
    let p = part-ready c.requires w.target (rw c.node-node.ensures.same at c.word-in-Field.ensures) in
    (omega (arith, c.decreases, p.under), p.ready)

pub span_of-returns-in-Field : goal.span_of-returns-in-Field
span_of-returns-in-Field t c =
    span-field c.requires c.node-node.ensures.place refl refl (rw c.node-node.ensures.same at (node-number _ c.in-Field.ensures)) (rw c.node-node.ensures.same at c.word-in-Field.ensures)
    c.span_of-target.ensures (rw c.node-node.ensures.same at c.word-in-Field-2.ensures) c.token_span.ensures c.cover_spans-in-Field.ensures

pub span_of-span_of-left-requires-in-Cast : goal.span_of-span_of-left-requires-in-Cast
span_of-span_of-left-requires-in-Cast t c =
    let w = words-cast c.requires c.node-node.ensures.place refl refl (rw c.node-node.ensures.same at (node-number _ c.in-Cast.ensures)) in
    let p = part-ready c.requires w.left (rw c.node-node.ensures.same at c.word-in-Cast.ensures) in
    (omega (arith, c.decreases, p.under), p.ready)

pub span_of-type_span-ty-requires : goal.span_of-type_span-ty-requires
span_of-type_span-ty-requires t c =
    record {
      readable = c.requires.readable;
      below =
          rw (rw c.node-node.ensures.same at c.word-in-Cast-2.ensures)
          (words-cast c.requires c.node-node.ensures.place refl refl (rw c.node-node.ensures.same at (node-number _ c.in-Cast.ensures))).type.under;
    }

pub span_of-returns-in-Cast : goal.span_of-returns-in-Cast
span_of-returns-in-Cast t c =
    span-cast c.requires c.node-node.ensures.place refl refl (rw c.node-node.ensures.same at c.word.ensures) c.token_span-first.ensures
    (rw c.node-node.ensures.same at (node-number _ c.in-Cast.ensures)) (rw c.node-node.ensures.same at c.word-in-Cast.ensures) c.span_of-left-in-Cast.ensures
    (rw c.node-node.ensures.same at c.word-in-Cast-2.ensures) c.type_span-ty.ensures
    c.cover_spans-in-Cast.ensures c.cover_spans-in-Cast-2.ensures

pub span_of-list_span-requires : goal.span_of-list_span-requires
span_of-list_span-requires t c =
    let small = kind-small c.requires c.node-node.ensures.place refl refl in
    let n = c.in_default in
    let listed = listed-left _ (rw c.node-node.ensures.same at c.kind.ensures) small n.not-Atom n.not-Ident n.not-Bin n.not-Unary n.not-Let n.not-Field n.not-Cast in (
      omega (arith, c.decreases, c.node-node.ensures.number),
      rw (c.node-node.ensures.same, c.node-node.ensures.number)
          (record { ready = c.requires; place = c.node-node.ensures.place; listed = listed }),
    )

pub list_span-overflow_mul-words : goal.list_span-overflow_mul-words
list_span-overflow_mul-words t c =
    let long = fn-long c.requires.ready c.requires.place refl refl c.length-long.ensures (node-number _ c.in-Fn.ensures) c.word-in-Fn.ensures in
    omega (arith, room c.requires.ready c.requires.place refl refl c.length-long.ensures, long)

pub list_span-overflow_add-words : goal.list_span-overflow_add-words
list_span-overflow_add-words t c =
    let long = fn-long c.requires.ready c.requires.place refl refl c.length-long.ensures (node-number _ c.in-Fn.ensures) c.word-in-Fn.ensures in
    omega (arith, room c.requires.ready c.requires.place refl refl c.length-long.ensures, long)

pub list_span-overflow_sub-long : goal.list_span-overflow_sub-long
list_span-overflow_sub-long t c =
    fn-long c.requires.ready c.requires.place refl refl c.length-long.ensures (node-number _ c.in-Fn.ensures) c.word-in-Fn.ensures

pub list_span-cover_nodes-requires : goal.list_span-cover_nodes-requires
list_span-cover_nodes-requires t c =
    (omega (arith, c.decreases), fn-ready c.requires.ready c.requires.place refl refl c.length-long.ensures (node-number _ c.in-Fn.ensures) c.word-in-Fn.ensures)

pub list_span-returns-in-Fn : goal.list_span-returns-in-Fn
list_span-returns-in-Fn t c =
    span-fn c.requires.ready c.requires.place refl refl c.word.ensures c.token_span-first.ensures c.length-long.ensures
    (node-number _ c.in-Fn.ensures) c.word-in-Fn.ensures c.cover_nodes.ensures

pub list_span-match_span-requires : goal.list_span-match_span-requires
list_span-match_span-requires t c = (omega (arith, c.decreases), match-ready c.requires.ready c.requires.place refl refl c.length-long.ensures (node-number _ c.in-Match.ensures))

pub list_span-span_of-target-requires : goal.list_span-span_of-target-requires
list_span-span_of-target-requires t c =
    let p = call-target c.requires.ready c.requires.place refl refl c.length-long.ensures (node-number _ c.in-Call.ensures) c.word-in-Call.ensures in
    (omega (arith, c.decreases, p.under), p.ready)

pub list_span-overflow_sub-long-in-Call : goal.list_span-overflow_sub-long-in-Call
list_span-overflow_sub-long-in-Call t c = call_long c.requires.ready c.requires.place refl refl c.length-long.ensures (node-number _ c.in-Call.ensures)

pub list_span-cover_nodes-requires-in-Call : goal.list_span-cover_nodes-requires-in-Call
list_span-cover_nodes-requires-in-Call t c =
    (omega (arith, c.decreases), call-ready c.requires.ready c.requires.place refl refl c.length-long.ensures (node-number _ c.in-Call.ensures))

pub list_span-returns-in-Call : goal.list_span-returns-in-Call
list_span-returns-in-Call t c =
    span-call c.requires.ready c.requires.place refl refl c.length-long.ensures (node-number _ c.in-Call.ensures) c.word-in-Call.ensures
    c.span_of-target.ensures c.cover_nodes-in-Call.ensures

pub list_span-overflow_sub-long-in-Import : goal.list_span-overflow_sub-long-in-Import
list_span-overflow_sub-long-in-Import t c = import_long c.requires.ready c.requires.place refl refl c.length-long.ensures (node-number _ c.in-Import.ensures)

pub list_span-cover_tokens-requires : goal.list_span-cover_tokens-requires
list_span-cover_tokens-requires t c =
    let long = import_long c.requires.ready c.requires.place refl refl c.length-long.ensures (node-number _ c.in-Import.ensures) in
    omega (arith, room c.requires.ready c.requires.place refl refl c.length-long.ensures, long)

pub list_span-returns-in-Import : goal.list_span-returns-in-Import
list_span-returns-in-Import t c =
    span_import c.requires.ready c.requires.place refl refl c.word.ensures c.token_span-first.ensures c.length-long.ensures
    (node-number _ c.in-Import.ensures) c.cover_tokens.ensures

pub list_span-cover_externs-requires : goal.list_span-cover_externs-requires
list_span-cover_externs-requires t c =
    extern-ready c.requires.ready c.requires.place refl refl c.length-long.ensures (node-number _ c.in-Extern.ensures) c.word-in-Extern-2.ensures

pub list_span-returns-in-Extern : goal.list_span-returns-in-Extern
list_span-returns-in-Extern t c =
    span-extern c.requires.ready c.requires.place refl refl c.word.ensures c.token_span-first.ensures (node-number _ c.in-Extern.ensures)
    c.word-in-Extern.ensures c.token_span.ensures c.cover_spans-named.ensures c.word-in-Extern-2.ensures c.cover_externs.ensures

pub list_span-overflow_sub-long-in-Record : goal.list_span-overflow_sub-long-in-Record
list_span-overflow_sub-long-in-Record t c = record_long c.requires.ready c.requires.place refl refl c.length-long.ensures (node-number _ c.in-Record.ensures)

pub list_span-cover_values-requires : goal.list_span-cover_values-requires
list_span-cover_values-requires t c =
    (omega (arith, c.decreases), record_ready c.requires.ready c.requires.place refl refl c.length-long.ensures (node-number _ c.in-Record.ensures))

pub list_span-returns-in-Record : goal.list_span-returns-in-Record
list_span-returns-in-Record t c =
    span_record c.requires.ready c.requires.place refl refl c.word.ensures c.token_span-first.ensures c.length-long.ensures
    (node-number _ c.in-Record.ensures) c.cover_values.ensures

pub list_span-overflow_sub-long-in_default : goal.list_span-overflow_sub-long-in_default
list_span-overflow_sub-long-in_default t c =
    let q = array-left _ c.kind.ensures c.requires.listed c.in_default.not-Fn c.in_default.not-Match c.in_default.not-Call c.in_default.not-Import c.in_default.not-Extern c.in_default.not-Record in
    array_long c.requires.ready c.requires.place refl refl c.length-long.ensures q

pub list_span-cover_nodes-requires-in_default : goal.list_span-cover_nodes-requires-in_default
list_span-cover_nodes-requires-in_default t c =
    let q = array-left _ c.kind.ensures c.requires.listed c.in_default.not-Fn c.in_default.not-Match c.in_default.not-Call c.in_default.not-Import c.in_default.not-Extern c.in_default.not-Record in
    (omega (arith, c.decreases), array-ready c.requires.ready c.requires.place refl refl c.length-long.ensures q)

pub list_span-returns-in_default : goal.list_span-returns-in_default
list_span-returns-in_default t c =
    let q = array-left _ c.kind.ensures c.requires.listed c.in_default.not-Fn c.in_default.not-Match c.in_default.not-Call c.in_default.not-Import c.in_default.not-Extern c.in_default.not-Record in
    span-array c.requires.ready c.requires.place refl refl c.word.ensures c.token_span-first.ensures c.length-long.ensures q
    c.cover_nodes-in_default.ensures

pub cover_nodes-loop-i-init : goal.cover_nodes-loop-i-init
cover_nodes-loop-i-init t c = rw whole-left (nodes-all c.requires)

pub cover_nodes-span_of-requires : goal.cover_nodes-span_of-requires
cover_nodes-span_of-requires t c =
    let p = nodes-part (some-left (omega arith)) c.loop-i.invariant.ready c.word_at.ensures in (omega (arith, c.decreases, p.under), p.ready)

pub cover_nodes-loop-i-preserved : goal.cover_nodes-loop-i-preserved
cover_nodes-loop-i-preserved t c =
    rw one-less (nodes-less c.loop-i.invariant (some-left (omega arith)) c.word_at.ensures c.span_of.ensures c.cover_spans-covered.ensures)

pub cover_nodes-returns : goal.cover_nodes-returns
cover_nodes-returns t c = nodes-done c.loop-i.invariant (none-left (omega arith))

-- `spans::match_span` meets its contract. Assumes nothing.
pub match_span-overflow_add-begin : goal.match_span-overflow_add-begin
match_span-overflow_add-begin t c = omega (arith, match-long c.requires)

pub match_span-cases_end-default-requires : goal.match_span-cases_end-default-requires
match_span-cases_end-default-requires t c = cases-ready c.requires c.word-count.ensures

pub match_span-cover_cases-cases-requires : goal.match_span-cover_cases-cases-requires
match_span-cover_cases-cases-requires t c = (omega (arith, c.decreases), cases-ready c.requires c.word-count.ensures)

pub match_span-overflow_add-body : goal.match_span-overflow_add-body
match_span-overflow_add-body t c =
    let end = default_end c.requires c.word-count.ensures c.cases_end-default.ensures refl in
    omega (arith, end, match-room c.requires c.word-count.ensures c.cases_end-default.ensures refl)

pub match_span-overflow_add-end : goal.match_span-overflow_add-end
match_span-overflow_add-end t c = omega (arith, match-room c.requires c.word-count.ensures c.cases_end-default.ensures c.length.ensures)

pub match_span-overflow_sub-end : goal.match_span-overflow_sub-end
match_span-overflow_sub-end t c = default_end c.requires c.word-count.ensures c.cases_end-default.ensures c.length.ensures

pub match_span-cover_nodes-requires : goal.match_span-cover_nodes-requires
match_span-cover_nodes-requires t c = (omega (arith, c.decreases), default_ready c.requires c.word-count.ensures c.cases_end-default.ensures c.length.ensures)

pub match_span-returns : goal.match_span-returns
match_span-returns t c =
    span-match c.requires c.word-count.ensures c.cases_end-default.ensures c.word_at.ensures c.token_span-first.ensures c.cover_cases-cases.ensures
    c.length.ensures c.cover_nodes.ensures

pub cover_cases-loop-init : goal.cover_cases-loop-init
cover_cases-loop-init t c = rw sub-zero (cases-all c.requires)

pub cover_cases-span_of-requires : goal.cover_cases-span_of-requires
cover_cases-span_of-requires t c =
    let p = case-condition (some-left c.loop-test.true) c.loop.invariant.ready c.word_after.ensures in (omega (arith, c.decreases, p.under), p.ready)

pub cover_cases-cover_nodes-covered-requires : goal.cover_cases-cover_nodes-covered-requires
cover_cases-cover_nodes-covered-requires t c =
    (omega (arith, c.decreases), case-body (some-left c.loop-test.true) c.loop.invariant.ready c.word_after-count.ensures)

pub cover_cases-overflow_add-body : goal.cover_cases-overflow_add-body
cover_cases-overflow_add-body t c = omega (arith, case-room (some-left c.loop-test.true) c.loop.invariant.ready refl)

pub cover_cases-overflow_add-i : goal.cover_cases-overflow_add-i
cover_cases-overflow_add-i t c = omega (arith, case-room (some-left c.loop-test.true) c.loop.invariant.ready c.word_after-count.ensures)

pub cover_cases-loop-preserved : goal.cover_cases-loop-preserved
cover_cases-loop-preserved t c =
    let left = some-left c.loop-test.true in
    let tested = c.cover_spans-tested.ensures in
    let body = c.cover_nodes-covered.ensures in
    rw one-less
    (cases-less c.loop.invariant left c.word_after-count.ensures c.word_at.ensures c.token_span.ensures c.cover_spans-begun.ensures c.word_after.ensures c.span_of.ensures tested body)

pub cover_cases-returns : goal.cover_cases-returns
cover_cases-returns t c = cases_done c.loop.invariant (none-left c.loop-test.false)
