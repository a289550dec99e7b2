-- A block is its nodes one after the other, in a frame of their own. Assumes nothing.
use Rattle.std.specs.Prelude.{ℕ, ◌≡◌, refl, List}
use Rattle.std.proofs.Common.{◌∙◌}
use Rattle.ast.specs.Node.{Nodes, done, then}
use Rattle.rules.specs.declared.Answer.{Answer}
use Rattle.rules.specs.declared.Answer.TheVariants.{Known}
use Rattle.rules.specs.World.{Ctx, World}
use Rattle.rules.specs.Steps.{framed}
use Rattle.rules.specs.Rules.{block, last}
use Rattle.visit.specs.declared.State.{State}
use Rattle.visit.specs.Whole.{Lent, Visit, whole}
use Rattle.visit.specs.Within.{Visits}
use Rattle.visiting.specs.Blocks.{leave_of, framed-visits}

pub block_last : (c : Ctx) (xs : Nodes) (s : World) → block c xs s ≡ framed (last c (Known c.void) xs) s
unfolding block last framed
block_last c done s = refl
block_last c (then x xs) s = refl

-- the names in scope of before are there again at its end
pub block-visits : (c : Ctx) (xs : Nodes) {r w : ℕ} {words : List ℕ} {st : State} {b b' : Lent} {v : Visit Answer} → Visits (last c (Known c.void) xs) r w words st b b' v
    → Visits (block c xs) r w words st b b' (leave_of v st)
block-visits c xs {words = words} {st = st} {b = b} x =
    let y = framed-visits x in
    record { step = block_last c xs (whole words st b) ∙ y.step; keeps = y.keeps }
