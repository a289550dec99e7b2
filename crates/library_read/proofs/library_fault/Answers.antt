-- `library_read::library_fault` meets its contract: a fault of the counts or the pool ends all; else the pool is ready, and the packages are read.
-- Assumes nothing.
use native.Mathlib.Omega.{arith}
use Rattle.std.proofs.lemmas.Result.{err_from_is_err_and}
use Rattle.library_read.proofs.LibraryWays.{sums_long, slots_found, slots_few, pool-ready, slots-ordered, packages_stop, library-is}
use Rattle.library_read.proofs.library_fault.Goals as goal

pub invariant_of-pool : goal.invariant_of-pool
invariant_of-pool c = pool-ready c.in_ok-count.ensures _ c.pool-pool.ensures _ c.slot_sums.ensures

pub returns-in_err-end : goal.returns-in_err-end
returns-in_err-end c =
    let p = err_from_is_err_and c.from_residual-in_err-end.result c.from_residual-in_err-end.ensures.1 in
    let h = c.in_ok-count.ensures in
    let named = slots_found _ (c.named_slots.ensures (omega arith)) c.unwrap_or-n.ensures in
    let few = slots_few named in
    let order = slots-ordered h _ c.pool-pool.ensures named (omega (arith, few, c.named_slots.auto.order)) in
    rw (p.1, p.2) (packages_stop h _ c.pool-pool.ensures _ _ (c.in_err-end.ensures order))

pub returns-in_err-ends : goal.returns-in_err-ends
returns-in_err-ends c =
    let p = err_from_is_err_and c.from_residual-in_err-ends.result c.from_residual-in_err-ends.ensures.1 in
    let h = c.in_ok-count.ensures in
    let named = slots_found _ (c.named_slots.ensures (omega arith)) c.unwrap_or-n.ensures in
    let few = slots_few named in
    let order = slots-ordered h _ c.pool-pool.ensures named (omega (arith, few, c.named_slots.auto.order)) in
    rw (p.1, p.2) (library-is h _ c.pool-pool.ensures _ _ (c.in_ok-end.ensures order) _ c.in_err-ends.ensures)

pub returns : goal.returns
returns c =
    let h = c.in_ok-count.ensures in
    let named = slots_found _ (c.named_slots.ensures (omega arith)) c.unwrap_or-n.ensures in
    let few = slots_few named in
    let order = slots-ordered h _ c.pool-pool.ensures named (omega (arith, few, c.named_slots.auto.order)) in
    library-is h _ c.pool-pool.ensures _ _ (c.in_ok-end.ensures order) _ c.in_ok-ends.ensures

pub slice_bounds-named_slots-end : goal.slice_bounds-named_slots-end
slice_bounds-named_slots-end c = sums_long _ _ c.slot_sums.ensures

pub slice_bounds-pool-end : goal.slice_bounds-pool-end
slice_bounds-pool-end c =
    let named = slots_found _ (c.named_slots.ensures (omega arith)) c.unwrap_or-n.ensures in
    let few = slots_few named in
    omega (arith, few, c.named_slots.auto.order)
