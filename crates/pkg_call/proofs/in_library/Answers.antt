-- `pkg_call::in_library` meets its contract: one function with slots, whose bindings stand in the lent tail of scratch, or a group.
-- Assumes nothing.
use mathlib.Core.Path.{refl, sym, ap, ◌∙◌}
use native.Mathlib.Omega.{arith}
use Rattle.pkg_call.proofs.Ready.{group-ready, slotted-ready}
use Rattle.pkg_call.proofs.Returns.{front-stays, library-calls, slotted-calls}
use Rattle.pkg_group.specs.GroupSize.{group_size}
use Rattle.pkg_call.proofs.in_library.Goals as goal

pub in_group-requires : goal.in_group-requires
in_group-requires c =
    group-ready c.requires.ready refl c.find_candidates-found.ensures c.in_default.not-Slotted

pub returns-in_default : goal.returns-in_default
returns-in_default c = library-calls _ _ _ (rw c.candidates_at-group.ensures at c.in_group.ensures)

pub check_slotted-requires : goal.check_slotted-requires
check_slotted-requires c =
    slotted-ready c.requires _ (sym (ap group_size c.candidates_at-group.ensures) ∙ c.find_candidates-found.ensures) c.in-Slotted.is c.signature.ensures

pub returns : goal.returns
returns c =
    let l = front-stays _ _ (omega (arith, c.requires.ready.long)) in
    let named = c.callee.ensures in
    slotted-calls _ _ (sym (ap group_size c.candidates_at-group.ensures) ∙ c.find_candidates-found.ensures) c.in-Slotted.is c.signature.ensures
    (rw (named.token, named.name) at c.check_slotted.ensures) l
