-- `tok::little_endian` meets its contract, by the four bytes that the rest begins with. Assumes nothing.
use mathlib.Core.Path.{◌∙◌}
use Rattle.tok.proofs.LittleEndianLaws.{rest_from, word-of-rest}
use Rattle.tok.proofs.little_endian.Goals as goal

pub returns : goal.returns
returns c =
    let a = c.args in
    c.from_le_bytes.ensures ∙ word-of-rest a.bytes.now a.at (rest_from a.bytes.now a.at c.min.ensures) c.item_at.ensures
    c.item_at-2.ensures c.item_at-3.ensures c.item_at-4.ensures
