-- `spans::cover_tokens` meets its contract. The loop's invariant, `TokensLeft`: what is left to cover gives the whole. Assumes nothing.
use Prim.Native.Nat.{◌+◌, ◌-◌}
use Rattle.spans.proofs.Loops.{TokensLeft}
use Rattle.spans.proofs.cover_tokens.Given as goal

abbrev pub invariant-loop-i : goal.invariant-loop-i
invariant-loop-i l = TokensLeft l.image.words l.initial.covered l.at l.k l.covered l.i (l.at + l.k - l.i)
