-- `pkg_group::in_group` meets its contract: no candidate (16), one, or several. Assumes nothing.
use Rattle.err.specs.Message.{call_name}
use Rattle.pkg_group.proofs.Returns.{group-none, group-plain, group_several}
use Rattle.pkg_group.proofs.in_group.Goals as goal

pub returns-in-Nothing : goal.returns-in-Nothing
returns-in-Nothing c =
    group-none c.requires c.in-Nothing.is c.undefined_in_package-r.ensures.reports c.told.ensures

pub returns-in-Plain : goal.returns-in-Plain
returns-in-Plain c =
    let named = c.callee.ensures in
    group-plain c.requires c.in-Plain.is c.signature.ensures (rw (named.token, named.name) at c.check_plain.ensures)

pub unreachable-requires : goal.unreachable-requires
unreachable-requires c = c.requires.other _ c.in-Slotted.is

pub returns-in-Several : goal.returns-in-Several
unfolding call_name
returns-in-Several c =
    let named = c.callee-in-Several.ensures in
    group_several c.requires c.in-Several.is (rw (named.token, named.name) at c.select.ensures)
