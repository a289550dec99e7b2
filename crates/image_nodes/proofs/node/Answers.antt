-- `image_nodes::node` meets its contract: head, slot and rest; the answer is the outline that stands there (image_laws: `any_node`). Assumes nothing.
use Prim.Native.Nat.{◌-◌}
use mathlib.Core.Path.{ap, ◌∙◌}
use Rattle.tok.specs.Word.{payload_of}
use Rattle.std.specs.Prelude.{Ok}
use Rattle.reader.specs.Reading.{gave}
use Rattle.reader.specs.Laws.{owed}
use Rattle.ast.specs.Nodes.{node, good_node_head}
use Rattle.image_laws.proofs.NodeLaws.{any_node}
use Rattle.image_words.specs.Leads.{unanswered}
use Rattle.image_words.specs.LeadLaws.{leads_there, same_on}
use Rattle.image_nodes.specs.Site.{counts_of}
use Rattle.image_nodes.proofs.node.Goals as goal

pub returns : goal.returns
unfolding node gave unanswered
returns c = λ before kept.
    let head = owed good_node_head (λ w. payload_of w - 3) c.args.from (Ok c.in_ok-at.at) c.next_word-head.result c.saturating_sub.result c.good_head.result
    c.next_word-head.ensures c.good_head.ensures (c.saturating_sub.ensures ∙ ap (λ n. n - 3) c.payload-long.ensures) c.in_ok-at.ensures.0 in
    let left = c.saturating_sub-2.ensures ∙ ap (λ n. n - 2) c.payload-long.ensures in
    let rest = c.rest.ensures before kept in (
      leads_there _ _ _ _ _ (any_node (counts_of c.args.counts) before c.args.from.words c.args.number c.args.from.at c.args.from.least)
          (rw (head, c.in_ok-at-2.ensures.0, ← c.next_word-slot.ensures) (rw left at rest.0)),
      same_on c.args.from c.in_ok-at-2.at _ (c.in_ok-at-2.ensures.1 ∙ c.in_ok-at.ensures.1) rest.1,
    )
