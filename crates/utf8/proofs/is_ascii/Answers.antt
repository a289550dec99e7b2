use Rattle.utf8.proofs.Ascii.{one_more}
use Rattle.utf8.proofs.is_ascii.Goals as goal

pub loop-octet-preserved : goal.loop-octet-preserved
loop-octet-preserved c = one_more _ c.loop-octet.octet-index c.loop-octet.all c.loop-octet.invariant c.loop-octet-test.true
