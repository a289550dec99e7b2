-- `arguments::plain_argument` meets its contract: an argument that is not checked, or a comparison. Assumes nothing.
use Rattle.arguments.proofs.Returns.{plain-unchecked, plain-compared}
use Rattle.arguments.proofs.plain_argument.Goals as goal

pub returns-then-is_unchecked : goal.returns-then-is_unchecked
returns-then-is_unchecked c = plain-unchecked _ _ _ _ _ _ c.word_at-w.ensures c.is_unchecked.ensures c.if-is_unchecked.true

pub returns : goal.returns
returns c = plain-compared _ _ _ _ _ _ c.word_at-w.ensures c.is_unchecked.ensures c.if-is_unchecked.false c.compared.ensures
