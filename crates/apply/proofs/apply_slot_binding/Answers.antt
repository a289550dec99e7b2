-- `apply::apply_slot_binding` meets its contract. Assumes nothing.
use Rattle.apply.proofs.Returns.{start-given}
use borrow.Author.Rules.{rules}
use Rattle.apply.proofs.apply_slot_binding.Goals as goal

pub returns : goal.returns
returns c = start-given _ _ _ c.min-base.ensures c.new-arena.ensures.as_used c.apply_within-word.ensures c.answer.ensures (search rules)
