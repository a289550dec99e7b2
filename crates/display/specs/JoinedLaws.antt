-- Laws of separators: what a loop that writes joined pieces writes in one turn. Assumes nothing.
use Rattle.std.specs.Prelude.{ℕ, zero, suc, ◌+◌, ◌≡◌, refl, List, [], ◌∷◌, ◌++◌}
use Rattle.std.proofs.Common.{add-one}
use Rattle.display.specs.Joined.{each_after, joined, separated}

pub separated-none : (sep : List ℕ) {n : ℕ} → n ≡ 0 → separated n sep ≡ []
unfolding separated
separated-none sep e = rw e

pub separated-some : (sep : List ℕ) (n : ℕ) → (n ≡ 0 → ⊥) → separated n sep ≡ sep
unfolding separated
separated-some sep zero h = absurd (h refl)
separated-some sep (suc n) h = refl

pub ruleset separating = (separated-none, separated-some)

-- what is left of joined pieces once `count` of them are written
unfoldable pub joined_after : (count : ℕ) → (separator : List ℕ) → List (List ℕ) → List ℕ
joined_after zero sep ps = joined sep ps
joined_after (suc n) sep ps = each_after sep ps

pub joined-start : (sep : List ℕ) (ps : List (List ℕ)) → joined_after 0 sep ps ≡ joined sep ps
unfolding joined_after
joined-start sep ps = refl

-- one turn writes the separator, but not before the first piece, and the next piece
pub joined-turn : (n : ℕ) (sep p : List ℕ) (ps : List (List ℕ)) → joined_after n sep (p ∷ ps) ≡ separated n sep ++ p ++ joined_after (n + 1) sep ps
unfolding separated joined_after joined each_after
joined-turn zero sep p ps = refl
joined-turn (suc n) sep p ps = rw (add-one)

pub joined_end : (n : ℕ) (sep : List ℕ) → joined_after n sep [] ≡ []
unfolding joined_after joined each_after
joined_end zero sep = refl
joined_end (suc n) sep = refl
