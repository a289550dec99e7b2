-- `tok::differs_in` meets its contract: one law for each return. Assumes nothing.
use Rattle.std.proofs.Common.{ne_eqb}
use Rattle.tok.proofs.PartLaws.{no_part, no_bytes, lengths_differ, by_part}
use Rattle.tok.proofs.differs_in.Goals as goal
use Rattle.tok.proofs.differs_in.Goals.{then-part-ge-NO_PART-via-then-part-ge-NO_PART, then-part-ge-NO_PART-via-else-part-ge-NO_PART+then-name-lt4}

pub returns-then-part-ge-NO_PART : goal.returns-then-part-ge-NO_PART
returns-then-part-ge-NO_PART c =
    elim c.then-part-ge-NO_PART.branch [
      | then-part-ge-NO_PART-via-then-part-ge-NO_PART w ↦ no_part _ _ _ _ w.if-part-ge-NO_PART.true
      | then-part-ge-NO_PART-via-else-part-ge-NO_PART+then-name-lt4 w ↦ no_bytes _ _ _ _ w.if-part-ge-NO_PART.false w.if-name-lt4.true
    ]

pub returns-then-name-bytes : goal.returns-then-name-bytes
returns-then-name-bytes c =
    rw (ne_eqb _ _ c.if-name-bytes.true) (lengths_differ _ _ _ _ c.if-part-ge-NO_PART.false c.if-name-lt4.false c.name_bytes-bytes.ensures c.if-name-bytes.true)

pub returns-else-name-bytes : goal.returns-else-name-bytes
returns-else-name-bytes c = by_part _ _ _ _ c.if-part-ge-NO_PART.false c.if-name-lt4.false c.name_bytes-bytes.ensures c.if-name-bytes.false c.part_differs.ensures
