-- `library_groups::listed_end` meets its contract. Assumes nothing.
use Rattle.library_groups.proofs.PlaceWays.{end_none, end-last}
use Rattle.library_groups.proofs.listed_end.Goals as goal

pub returns-in_default : goal.returns-in_default
returns-in_default c = λ h. end_none _ _ _ c.in_default.ensures.value

pub returns : goal.returns
returns c = λ h. end-last _ _ _ _ c.in-Some.ensures.value h c.place_of.ensures c.end.ensures
