-- `library_groups::kept_up_to` meets its contract: a law for each way out. Assumes nothing.
use Rattle.library_groups.proofs.PlaceWays.{listed_cut}
use Rattle.library_groups.proofs.KeptWays.{kept_unslotted, kept-grouped, kept-none}
use Rattle.library_groups.proofs.kept_up_to.Goals as goal

pub returns-then-none_slotted : goal.returns-then-none_slotted
returns-then-none_slotted c =
    let listed = listed_cut c.function_places-n.ensures in
    kept_unslotted _ _ _ _ _ _ listed (c.listed_end-end.ensures listed) c.none_slotted.ensures c.if-none_slotted.true

pub returns-then-group_names : goal.returns-then-group_names
returns-then-group_names c =
    let listed = listed_cut c.function_places-n.ensures in
    let sorted = c.group_names.ensures in
    let fault = rw sorted.rearranged.long at c.first_fault.ensures c.args.texts.now in
    kept-grouped _ _ _ _ _ _ listed (c.listed_end-end.ensures listed) sorted (fault (sorted.grouped c.if-group_names.true))

pub returns : goal.returns
returns c = kept-none _ _ _
