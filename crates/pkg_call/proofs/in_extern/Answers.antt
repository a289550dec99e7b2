-- `pkg_call::in_extern` meets its contract: an Extern's functions have no slots. Assumes nothing.
use mathlib.Core.Path.{refl, sym, ap, ◌∙◌}
use Rattle.pkg_call.proofs.Ready.{extern-plain, group-ready}
use Rattle.pkg_call.proofs.Returns.{extern-calls}
use Rattle.pkg_group.specs.GroupSize.{group_size}
use Rattle.pkg_call.proofs.in_extern.Goals as goal

pub in_group-requires : goal.in_group-requires
in_group-requires c =
    group-ready c.requires refl c.find_candidates-found.ensures
    (extern-plain _ _ _ _ (sym (ap group_size c.candidates_at-group.ensures) ∙ c.find_candidates-found.ensures))

pub returns : goal.returns
returns c = extern-calls _ _ (rw c.candidates_at-group.ensures at c.in_group.ensures)
