-- `claims::claims` meets its contract: the marks are that many zeros. Assumes nothing.
use Rattle.image_laws.specs.OutlineAt.{outlines_in}
use Rattle.claims.specs.Marks.{claims_of, claims_in}
use Rattle.claims.proofs.claims.Goals as goal

pub returns : goal.returns
unfolding claims_in claims_of outlines_in
returns c = c.claims_by.ensures
