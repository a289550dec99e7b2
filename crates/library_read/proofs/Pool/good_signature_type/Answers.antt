-- `library_read::Pool::good_signature_type` meets its contract: the counts tell of slots. Assumes nothing.
use Rattle.std.proofs.Common.{ap, sym, ◌∙◌, not, length}
use Rattle.library_read.proofs.SignatureWays.{type-plain}
use Rattle.library_read.proofs.Pool.good_signature_type.Goals as goal

pub returns-else-slotted : goal.returns-else-slotted
returns-else-slotted c =
    rw (← c.self.view_is)
    (λ flag s. type-plain _ _ _ c.self.invariant flag _
    (rw c.texts.view_is at (c.good_type.ensures c.texts.inside.script.now (length c.self.inside.words.now))) (ap not c.if-good_type.true) (sym s ∙ c.if-slotted.false) c.has_slot.ensures)
