-- `library_read::Pool::function_record` meets its contract: five rules, one after another; a fault before the fifth ends it. Assumes nothing.
use Rattle.std.proofs.Common.{refl, ap}
use Rattle.std.proofs.lemmas.Result.{err_from_is_err_and}
use Rattle.library_read.proofs.RecordWays.{others-kept, own-kept, group_stops, flag_stops, count_stops, arguments_stop, function-by}
use Rattle.library_read.proofs.Pool.function_record.Goals as goal

pub returns-in_err-at : goal.returns-in_err-at
returns-in_err-at c =
    let p = err_from_is_err_and c.from_residual.result c.from_residual.ensures.1 in
    rw (p.1, p.2, ← c.self.view_is)
    (λ o h. group_stops _ _ _ _ _ c.next_word-group.ensures (c.good_group-good.ensures _ _ (others-kept _ _ c.args.from h _ c.next_word-group.ensures)) _ c.in_err-at.ensures)

pub returns-in_err-at-2 : goal.returns-in_err-at-2
returns-in_err-at-2 c =
    let p = err_from_is_err_and c.from_residual-in_err-at-2.result c.from_residual-in_err-at-2.ensures.1 in
    rw (p.1, p.2, ← c.self.view_is)
    (λ o h. flag_stops _ _ _ _ _ c.next_word-group.ensures (c.good_group-good.ensures _ _ (others-kept _ _ c.args.from h _ c.next_word-group.ensures))
    _ c.in_ok-at.ensures _ _ c.next_word-flag.ensures
    (c.good_flag-good.ensures _ _ (own-kept _ _ c.args.from h _ c.next_word-group.ensures _ _ _ c.in_ok-at.ensures c.next_word-flag.ensures)) _ c.in_err-at-2.ensures)

pub returns-in_err-args : goal.returns-in_err-args
returns-in_err-args c =
    let p = err_from_is_err_and c.from_residual-in_err-args.result c.from_residual-in_err-args.ensures.1 in
    rw (p.1, p.2, ← c.self.view_is)
    (λ o h. count_stops _ _ _ _ _ c.next_word-group.ensures (c.good_group-good.ensures _ _ (others-kept _ _ c.args.from h _ c.next_word-group.ensures))
    _ c.in_ok-at.ensures _ _ c.next_word-flag.ensures
    (c.good_flag-good.ensures _ _ (own-kept _ _ c.args.from h _ c.next_word-group.ensures _ _ _ c.in_ok-at.ensures c.next_word-flag.ensures))
    _ c.in_ok-at-2.ensures _ _ c.next_word-count.ensures refl _ c.in_err-args.ensures)

pub returns-in_err-end : goal.returns-in_err-end
returns-in_err-end c =
    let p = err_from_is_err_and c.from_residual-in_err-end.result c.from_residual-in_err-end.ensures.1 in
    rw (p.1, p.2, ← c.self.view_is)
    (λ o h. arguments_stop _ _ _ _ _ c.next_word-group.ensures (c.good_group-good.ensures _ _ (others-kept _ _ c.args.from h _ c.next_word-group.ensures))
    _ c.in_ok-at.ensures _ _ c.next_word-flag.ensures
    (c.good_flag-good.ensures _ _ (own-kept _ _ c.args.from h _ c.next_word-group.ensures _ _ _ c.in_ok-at.ensures c.next_word-flag.ensures))
    _ c.in_ok-at-2.ensures _ _ c.next_word-count.ensures refl _ c.in_ok-args.ensures _ (rw (← c.self.view_is) at (c.in_err-end.ensures _ refl)))

pub returns : goal.returns
returns c =
    let first = ap (λ r. r.at) c.args-2.view_is in
    let words = ap (λ r. r.words) c.args-2.view_is in
    let last = ap (λ r. r.at) c.end.view_is in
    rw (← c.self.view_is)
    (λ o h. function-by _ _ _ _ _ c.next_word-group.ensures (c.good_group-good.ensures _ _ (others-kept _ _ c.args.from h _ c.next_word-group.ensures))
    _ c.in_ok-at.ensures _ _ c.next_word-flag.ensures
    (c.good_flag-good.ensures _ _ (own-kept _ _ c.args.from h _ c.next_word-group.ensures _ _ _ c.in_ok-at.ensures c.next_word-flag.ensures))
    _ c.in_ok-at-2.ensures _ _ c.next_word-count.ensures refl _ c.in_ok-args.ensures
    _ (rw (← c.self.view_is) at (c.in_ok-end.ensures _ refl)) _ _ _ _ c.next_word-w.ensures (rw (first, words) at c.words_at-pairs.ensures)
    (λ f q. (rw (first, last, ← c.self.view_is) at (c.good_return-good.ensures _ c.args.from.words refl)) o f q) c.word-3.ensures)
