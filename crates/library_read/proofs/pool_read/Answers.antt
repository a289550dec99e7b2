-- `library_read::pool_read` meets its contract: a fault of the text, the counts or the pool ends all. Assumes nothing.
use Rattle.std.proofs.Common.{refl, sym}
use Rattle.std.proofs.lemmas.Result.{err_from_is_err_and}
use Rattle.library_read.proofs.LibraryWays.{text_stops, size_stops, package_count_stops, pool_stops, pool-came}
use Rattle.library_read.proofs.pool_read.Goals as goal

pub returns-in_err-at : goal.returns-in_err-at
returns-in_err-at c =
    let p = err_from_is_err_and c.from_residual.result c.from_residual.ensures.1 in
    rw (p.1, p.2, ← c.texts.view_is) (text_stops _ _ _ (sym c.in_err-at.ensures))

pub returns-in_err-at-2 : goal.returns-in_err-at-2
returns-in_err-at-2 c =
    let p = err_from_is_err_and c.from_residual-in_err-at-2.result c.from_residual-in_err-at-2.ensures.1 in
    rw (p.1, p.2, ← c.texts.view_is) (size_stops _ _ _ (sym c.in_ok-at.ensures) _ _ c.next_word-size.ensures refl _ c.in_err-at-2.ensures)

pub returns-in_err-at-3 : goal.returns-in_err-at-3
returns-in_err-at-3 c =
    let p = err_from_is_err_and c.from_residual-in_err-at-3.result c.from_residual-in_err-at-3.ensures.1 in
    rw (p.1, p.2, ← c.texts.view_is)
    (package_count_stops _ _ _ (sym c.in_ok-at.ensures) _ _ c.next_word-size.ensures refl _ c.in_ok-at-2.ensures
    _ _ c.next_word-count.ensures refl _ c.in_err-at-3.ensures)

pub returns-in_err-at-4 : goal.returns-in_err-at-4
returns-in_err-at-4 c =
    let p = err_from_is_err_and c.from_residual-in_err-at-4.result c.from_residual-in_err-at-4.ensures.1 in
    rw (p.1, p.2, ← c.texts.view_is)
    (pool_stops _ _ _ (sym c.in_ok-at.ensures) _ _ c.next_word-size.ensures refl _ c.in_ok-at-2.ensures
    _ _ c.next_word-count.ensures refl _ c.in_ok-at-3.ensures _ c.pool.ensures _ (c.in_err-at-4.ensures c.texts.inside.script.now))

pub returns : goal.returns
returns c =
    rw (← c.texts.view_is)
    (pool-came _ _ _ (sym c.in_ok-at.ensures) _ _ c.next_word-size.ensures refl _ c.in_ok-at-2.ensures
    _ _ c.next_word-count.ensures refl _ c.in_ok-at-3.ensures _ c.pool.ensures _ (c.in_ok-at-4.ensures c.texts.inside.script.now))
