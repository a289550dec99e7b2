-- `err_calls::undefined_in_package` meets its contract: its pieces say its message. Assumes nothing.
use Rattle.tok.specs.Text.{text}
use Rattle.err.specs.Message.{undefined_in_package, call_name}
use Rattle.err_text.specs.Pieces.{text_of, said_after, said}
use Rattle.err_calls.proofs.undefined_in_package.Goals as goal

pub returns : goal.returns
unfolding undefined_in_package call_name text said said_after text_of
returns c = record { reports = c.tell_at.ensures.reports; front = c.tell_at.ensures.front }
