-- `pkg_call::candidates_at` meets its contract. Assumes nothing.
use Rattle.pkg_call.proofs.Ready.{candidates-are}
use Rattle.pkg_call.proofs.candidates_at.Goals as goal

pub returns : goal.returns
returns c = rw (c.name_bytes.ensures, c.min.ensures, c.function_count.ensures) (candidates-are _ _ _ _ c.args.flagged)
