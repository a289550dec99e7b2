-- `checker::check_accepted` meets its contract: the walk, and what is left in the buffers. Assumes nothing.
use Rattle.std.proofs.Common.{rules}
use Rattle.ending.proofs.Ends.{accepted-ends}
use Rattle.ending.proofs.Within.{made-ends}
use Rattle.checker.proofs.check_accepted.Goals as goal

pub finish-requires : goal.finish-requires
finish-requires c = (made-ends (λ e x h. search rules) c.walk.result c.map_err-visit.ensures.cases c.walk.ensures).well

pub returns : goal.returns
returns c =
    let kept = c.walk.auto in
    let w = made-ends (λ e x h. search rules) c.walk.result c.map_err-visit.ensures.cases c.walk.ensures in
    accepted-ends w c.requires kept.slots kept.functions kept.types kept.diagnostics kept.messages kept.scratch (c.finish.ensures _)
