-- `Arena::open_record` meets its contract: one law for each return. Assumes nothing.
use mathlib.Core.Path.{refl}
use Rattle.add.proofs.Returns.{open_full, open_put}
use Rattle.add.proofs.Arena.open_record.Goals as goal

pub returns-then-record_fits : goal.returns-then-record_fits
returns-then-record_fits c = open_put _ _ c.room.ensures c.record_fits.ensures refl c.if-record_fits.true c.word-word.ensures refl refl

pub returns-else-record_fits : goal.returns-else-record_fits
returns-else-record_fits c = open_full _ _ c.room.ensures c.record_fits.ensures refl refl refl c.if-record_fits.false
