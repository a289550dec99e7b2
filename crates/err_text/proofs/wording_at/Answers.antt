-- `err_text::wording_at` meets its contract. Assumes nothing.
use Rattle.err_text.proofs.PieceLaws.{behind}
use Rattle.err_text.proofs.wording_at.Goals as goal

pub returns : goal.returns
returns c = behind c.args.all.now c.args.i _ c.item_at.ensures
