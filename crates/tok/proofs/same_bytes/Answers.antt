-- `tok::same_bytes` meets its contract: strings of two lengths differ. Assumes nothing.
use Rattle.std.proofs.Common.{sym, ap, length}
use Rattle.tok.proofs.TextLaws.{ne_same_bytes}
use Rattle.tok.proofs.same_bytes.Goals as goal

pub returns-then-a-b : goal.returns-then-a-b
returns-then-a-b c = sym (ne_same_bytes _ _ (λ e. c.if-a-b.true (ap length e)))
