-- `record_contains` meets its contract: no marks at first. Assumes nothing.
use Rattle.ptype.proofs.MarkLaws.{none_free}
use Rattle.ptype.proofs.record_contains.Goals as goal

pub stands_among-requires-else-is_small : goal.stands_among-requires-else-is_small
stands_among-requires-else-is_small g c = none_free (g.S.Sought.Is c.args.sought.now) c.args.types.now 8192
