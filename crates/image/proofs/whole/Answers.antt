-- `image::whole` meets its contract: its words and records one after the other; the count of nodes was read, so that it is within its limit.
-- Assumes nothing.
use Prim.Native.Nat.{◌*◌}
use mathlib.Core.Path.{◌∙◌}
use borrow.Author.Tests.{leb-true}
use Rattle.reader.specs.Reading.{gave}
use Rattle.ast.specs.ImageFault.{image}
use Rattle.image_words.specs.Leads.{unanswered}
use Rattle.image_words.specs.LeadLaws.{leads_word, leads_then, leads_last}
use Rattle.image.proofs.Limits.{within, up_to}
use Rattle.image.proofs.whole.Goals as goal

pub nodes_by-requires : goal.nodes_by-requires
nodes_by-requires c = leb-true _ 2048 (within _ _ _ _ _ c.in_ok-at.ensures.0)

pub returns : goal.returns
unfolding image gave unanswered
returns c = λ library.
    let n = up_to 2048 (λ k. 3 * k) c.args.from c.in_ok-at.at _ c.next_word-n.ensures c.in_ok-at.ensures.0 in
    let t = up_to 512 (λ k. 2 * k) c.in_ok-at.at c.in_ok-at-2.at _ c.next_word-t.ensures c.in_ok-at-2.ensures.0 in
    let r = up_to 512 (λ k. k) c.in_ok-at-2.at c.in_ok-at-3.at _ c.next_word-r.ensures c.in_ok-at-3.ensures.0 in
    let v = up_to 4096 (λ _. 0) c.in_ok-at-3.at c.in_ok-at-4.at _ c.next_word-v.ensures c.in_ok-at-4.ensures.0 in
    rw (n, t, r, v) (leads_then _ _ c.in_ok-at-5.at _ c.in_ok-at-5.ensures.0
    λ roots. leads_then _ _ c.in_ok-at-6.at _ c.in_ok-at-6.ensures.0
    λ found. leads_then _ _ c.in_ok-at-7.at _ (c.in_ok-at-7.ensures.0 _ _ _)
    λ _. leads_last _ _ ∙ leads_word tt _ _ c.ends.ensures.0)
