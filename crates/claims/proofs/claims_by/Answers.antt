use mathlib.Core.Path.{ap, ◌∙◌}
use mathlib.Core.Option.{some}
use Rattle.std.proofs.lemmas.Result.{err_from_is_err_and}
use Rattle.reader.specs.declared.Fault.{Fault}
use Rattle.reader.specs.Reading.{offending}
use Rattle.claims.proofs.ClaimWays.{to_claim, claim_stop, claim_more, whole, none-twice, one-twice, roots-last}
use Rattle.claims.proofs.claims_by.Goals as goal

pub loop-i-init : goal.loop-i-init
loop-i-init c = to_claim _ _ _ _ _ _ c.root_count-roots.ensures

pub returns-in_err-or : goal.returns-in_err-or
returns-in_err-or c =
    let p = err_from_is_err_and c.from_residual.result c.from_residual.ensures.1 in
    let t = one-twice _ _ _ c.in_err-or.ensures in
    rw (p.1, p.2) (ap (λ (f : Fault). some f.0) t.1 ∙ whole _ _ _ c.node_count-n.ensures c.root_count-roots.ensures (claim_stop c.loop-i.invariant c.loop-i-test.true c.mark_node.ensures t.0))

pub loop-i-preserved : goal.loop-i-preserved
loop-i-preserved c = claim_more c.loop-i.invariant c.loop-i-test.true c.mark_node.ensures (none-twice _ _ c.in_ok-or.ensures) c.after-at.ensures

pub returns : goal.returns
returns c = ap offending c.or-2.ensures ∙ whole _ _ _ c.node_count-n.ensures c.root_count-roots.ensures (roots-last c.loop-i.invariant c.loop-i-test.false _ c.mark_words.ensures)
