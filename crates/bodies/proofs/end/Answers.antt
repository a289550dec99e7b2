-- `bodies::end` meets its contract: the plain step, in the state with the names of before. Assumes nothing.
use Rattle.bodies.specs.BodyLaws.{ends-visit}
use Rattle.bodies.proofs.end.Goals as goal

pub returns : goal.returns
returns c ls v words f e o =
    ends-visit _ _ _ _ _ _ c.args.inside c.args.before c.word.ensures c.word-2.ensures c.word-3.ensures c.left.ensures c.answered.ensures (c.fn_end-step.ensures ls v) words f e o
