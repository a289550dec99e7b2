-- `image::type_expression` meets its contract: head and rest. Assumes nothing.
use Prim.Native.Nat.{◌-◌}
use mathlib.Core.Path.{ap, ◌∙◌}
use Rattle.tok.specs.Word.{payload_of}
use Rattle.std.specs.Prelude.{Ok}
use Rattle.reader.specs.Reading.{gave}
use Rattle.reader.specs.Laws.{owed}
use Rattle.ast.specs.TypeRecords.{type_expression, good_type_head}
use Rattle.image_words.specs.Leads.{unanswered}
use Rattle.image_words.specs.LeadLaws.{same_on}
use Rattle.image.proofs.type_expression.Goals as goal

pub returns : goal.returns
unfolding type_expression gave unanswered
returns c =
    let head = owed good_type_head (λ w. payload_of w - 2) c.args.from (Ok c.in_ok-at.at) c.next_word-head.result c.saturating_sub.result c.good_type_head.result
    c.next_word-head.ensures c.good_type_head.ensures (c.saturating_sub.ensures ∙ ap (λ n. n - 2) c.payload-long.ensures) c.in_ok-at.ensures.0 in
    let left = c.saturating_sub-2.ensures ∙ ap (λ n. n - 1) c.payload-long.ensures in
    let rest = c.type_rest.ensures in
    (λ n t v. rw head (rw left at (rest.0 n t v)), same_on c.args.from c.in_ok-at.at _ c.in_ok-at.ensures.1 rest.1)
