use Rattle.std.proofs.Common.{◌-◌, sym, ap, get_or, ext_get_or, arith}
use Rattle.tok.proofs.TextLaws.{eq_same_bytes, ne_same_bytes}
use Rattle.tok.proofs.same_short.Goals as goal

pub returns-then-a-i : goal.returns-then-a-i
returns-then-a-i c = sym (ne_same_bytes _ _ (λ e. c.if-a-i.true (ap (λ s. get_or s (c.loop-i.i - 1) 0) e)))

pub returns : goal.returns
returns c = sym (eq_same_bytes _ _ (ext_get_or 0 _ _ c.requires (λ k h. c.loop-i.invariant k (omega arith) h)))
