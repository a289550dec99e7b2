-- `zero::zero_first` meets its contract: zeros are filled in over the front, and the rest stays. Assumes nothing.
use Rattle.std.proofs.Common.{ℕ, zero, suc, ◌≡◌, ◌≤◌, List, [], ◌∷◌, ◌++◌, length, take, drop, replicate, refl, ap, ◌∙◌, arith}
use Rattle.std.proofs.lemmas.List.{length-take-le}
use Rattle.ptype.specs.Add.{overwrite, write}
use Rattle.zero.specs.Zero.{zero_first, zero-least}
use Rattle.zero.proofs.zero_first.Goals as goal

over-front : (l : List ℕ) (m : ℕ) → m ≤ length l → replicate m 0 ++ drop m l ≡ overwrite l (replicate m 0)
unfolding overwrite
over-front [] zero h = refl
over-front [] (suc m) h = absurd (omega arith)
over-front (x ∷ l) zero h = refl
over-front (x ∷ l) (suc m) h = ap (λ r. 0 ∷ r) (over-front l m (omega arith))

filled : (l : List ℕ) (m : ℕ) {s : List ℕ} → s ≡ replicate (length (take m l)) 0 → m ≤ length l → s ++ drop m l ≡ zero_first m l
unfolding zero_first write
filled l m e h = rw (e, length-take-le m l h) (over-front l m h)

pub returns : goal.returns
returns c =
    filled c.args.words.now c.min-end.result (c.fill.ensures.after (λ y e. omega (arith, e))) (omega (arith, c.min-end.ensures))
    ∙ zero-least c.args.words.now c.args.n c.min-end.ensures
