-- `display::behind` meets its contract. Assumes nothing.
use borrow.Author.Tests.{lt-ltb, le-ltb}
use Rattle.display.specs.Behind.{behind_of}
use Rattle.display.proofs.behind.Goals as goal

pub returns-then-i-words : goal.returns-then-i-words
unfolding behind_of
returns-then-i-words c = rw (lt-ltb _ _ c.if-i-words.true)

pub returns-else-i-words : goal.returns-else-i-words
unfolding behind_of
returns-else-i-words c = rw (le-ltb _ _ c.if-i-words.false)
