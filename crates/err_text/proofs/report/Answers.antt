-- `err_text::report` meets its contract: a text that had no room, no room for the record, and the record. Assumes nothing.
use mathlib.Core.Path.{ap, sym, ◌∙◌}
use mathlib.Core.Bool.{not}
use Prim.Native.Nat.{◌+◌, ◌*◌}
use native.Mathlib.Omega.{arith}
use borrow.Author.Tests.{not-false}
use Rattle.err.proofs.ReportLaws.{fits-facts}
use Rattle.err_text.proofs.RecordLaws.{copied, no-text, not-placed, is-placed}
use Rattle.err_text.proofs.report.Goals as goal

pub returns-then-is_err : goal.returns-then-is_err
returns-then-is_err c =
    let stopped = sym c.is_err.ensures.value ∙ c.if-is_err.true in
    let h = no-text c.args.diagnostics.now c.args.counts c.args.code c.args.span c.args.message c.args.end c.args.texts stopped in
    record { six_words = h.0; answer = h.1 }

pub returns-then-not-has_room : goal.returns-then-not-has_room
returns-then-not-has_room c =
    let there = sym c.is_err.ensures.value ∙ c.if-is_err.false in
    let h = not-placed c.args.diagnostics.now c.args.counts c.args.code c.args.span c.args.message c.args.end c.args.texts there c.has_room.ensures (ap not c.if-not-has_room.true) in
    record { six_words = h.0; answer = h.1 }

pub returns : goal.returns
returns c =
    let there = sym c.is_err.ensures.value ∙ c.if-is_err.false in
    let free = sym c.has_room.ensures ∙ not-false _ (ap not c.if-not-has_room.false) in
    let f = fits-facts c.args.diagnostics.now c.args.counts (c.args.counts.bytes + c.args.message) (c.args.counts.bytes + c.args.end) free in
    let w = copied c.args.diagnostics.now (6 * c.args.counts.diagnostics) c.copy_from_slice.ensures.after (omega arith) in
    let h =
    is-placed c.args.diagnostics.now c.args.counts c.args.code c.args.span c.args.message c.args.end c.args.texts there
    c.has_room.ensures (ap not c.if-not-has_room.false) c.as_word.ensures c.as_word-2.ensures w in
    record { six_words = h.0; answer = h.1 }
