-- What looking a field up answers; and parts of rules that are functions of the code. Definitions.
use Rattle.std.specs.Prelude.{ℕ, ◌≡◌, refl, List, ◌∷◌, Some, None, Option as Found}
use Rattle.std.proofs.Math.Option.{Option, none, some}
use Rattle.tok.specs.Step.{◌>>=◌, ◌>>◌, when}
use Rattle.ptype.specs.Ty.{same_ty}
use Rattle.err.specs.Message.{match_cases}
use Rattle.rules.specs.declared.Answer.{Answer}
use Rattle.rules.specs.declared.Answer.TheVariants.{Known}
use Rattle.rules.specs.World.{Ctx, Walk}
use Rattle.rules.specs.Steps.{Done, skip, known, if_known, ty, ty_tree, set_known, report}
use Rattle.rules.specs.Rules.{Branch, compare_branches, matched}

-- a field's type, by its word, or none
unfoldable pub found_of : Found ℕ → Option ℕ
found_of (Some w) = some w
found_of None = none

-- Typechecker::alias: a slot takes another's type
unfoldable pub alias : (slot from : ℕ) → Walk Answer
alias slot from = do
  w ← ty from
  set_known slot w

pub matched-known : (c : Ctx) (n slot : ℕ) (bs : List Branch) (d : ℕ) → matched c n slot bs (Known d) ≡ (compare_branches c n d bs >> alias slot d)
unfolding matched known alias
matched-known c n slot bs d = refl

-- one case of a match against the default: a turn of `compare_branches`
unfoldable pub compare_branch : Ctx → (n default token : ℕ) → Answer → Walk Done
compare_branch c n default token answer =
    if_known answer (λ slot. do
      t ← ty_tree c slot
      d ← ty_tree c default
      when (same_ty t d) skip (report n (match_cases token d t)))

pub compare-turn : (c : Ctx) (n default : ℕ) (b : Branch) (bs : List Branch) → compare_branches c n default (b ∷ bs) ≡ (compare_branch c n default b.token b.answer >> compare_branches c n default bs)
unfolding compare_branches compare_branch
compare-turn c n default b bs = refl
