-- `library_read::Pool::good_return` meets its contract: a law for each way out; the counts tell whether there are slots, the marks which. Assumes nothing.
use Rattle.std.proofs.Common.{ap, not, ◌∙◌}
use Rattle.library_read.proofs.SignatureWays.{return-none, return-asked}
use Rattle.library_read.proofs.Pool.good_return.Goals as goal

pub returns-then-not-has_slot : goal.returns-then-not-has_slot
returns-then-not-has_slot c =
    rw (← c.self.view_is)
    (λ flag ws s o f q. ap not c.if-not-has_slot.true
    ∙ return-none _ _ _ c.self.invariant flag _ _
    (rw (← c.self.view_is) at (c.good_signature_type.ensures flag s)) (ap not c.if-good_signature_type.true) c.has_slot.ensures f (ap not c.if-not-has_slot.true))

pub returns-else-not-has_slot : goal.returns-else-not-has_slot
returns-else-not-has_slot c =
    rw (← c.self.view_is)
    (λ flag ws s o f q. return-asked _ _ _ c.self.invariant flag _ _
    (rw (← c.self.view_is) at (c.good_signature_type.ensures flag s)) (ap not c.if-good_signature_type.true) c.has_slot.ensures f ws _ _ _ _ o q c.return_stands.ensures)
