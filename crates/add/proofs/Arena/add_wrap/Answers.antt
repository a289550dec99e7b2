-- `Arena::add_wrap` meets its contract: one law for each return. Assumes nothing.
use mathlib.Core.Path.{refl}
use Rattle.add.proofs.Returns.{wrap-full, wrap-put, wrap-deep}
use Rattle.add.proofs.Arena.add_wrap.Goals as goal

pub returns-then-at-room : goal.returns-then-at-room
returns-then-at-room c = wrap-full _ _ _ c.room.ensures refl refl refl c.if-at-room.true

pub returns-then-not-is_shallow : goal.returns-then-not-is_shallow
returns-then-not-is_shallow c = wrap-deep _ _ _ c.room.ensures c.if-at-room.false c.word-word.ensures c.is_shallow.ensures refl c.if-not-is_shallow.true refl refl

pub returns : goal.returns
returns c = wrap-put _ _ _ c.room.ensures c.if-at-room.false c.word-word.ensures c.is_shallow.ensures refl c.if-not-is_shallow.false refl refl
