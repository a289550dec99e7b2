use mathlib.Core.Path.{sym, ap, ◌∙◌}
use mathlib.Core.Bool.{true≢false}
use native.Mathlib.Omega.{arith}
use Rattle.name_order.specs.Order.{place_in}
use Rattle.name_order.proofs.SplitWays.{telling_more, split-true}
use Rattle.name_order.proofs.NamedWords.split.Goals as goal
use Rattle.name_order.proofs.NamedWords.split.Goals.{else-not-new-via-then-not-new+else-not-same_name, else-not-new-via-else-not-new}

pub loop-i-preserved : goal.loop-i-preserved
loop-i-preserved c =
    telling_more c.loop-i.invariant (omega arith) (omega arith) _ _ _ _ _ c.word_of-a.ensures c.word_of-b.ensures
    c.name_before-new.ensures (c.told-entry.ensures.0 ∙ ap place_in c.item_at.ensures) c.told-entry.ensures.1 c.set_item.ensures
    (λ z. elim c.else-not-new.branch [
      | else-not-new-via-then-not-new+else-not-same_name w ↦ sym w.same_name.ensures ∙ w.if-not-same_name.false
      | else-not-new-via-else-not-new w ↦ absurd (true≢false (sym w.if-not-new.false ∙ z))
    ])

pub returns : goal.returns
returns c = split-true c.loop-i.invariant _ (omega arith)
