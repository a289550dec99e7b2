-- Refusal 4: "a node claimed twice as part or root, or a slot owned twice"; the place is the "second claimant, nodes
-- rising, then N for roots". Definitions.
use Rattle.std.specs.Prelude.{ℕ, zero, suc, ◌+◌, Bool, true, false, ◌||◌, List, [], ◌∷◌, ◌++◌, eqb}
use Rattle.std.proofs.Math.Option.{Option, none, some}
use Rattle.ast.specs.Outline.{Outline}

unfoldable pub among : ℕ → List ℕ → Bool
among x [] = false
among x (y ∷ ys) = eqb x y || among x ys

-- one of the numbers is taken already, or stands among them twice
unfoldable pub twice : (taken : List ℕ) → List ℕ → Bool
twice taken [] = false
twice taken (x ∷ xs) = among x taken || twice (x ∷ taken) xs

-- n numbers from the first on
unfoldable pub count_from : (first n : ℕ) → List ℕ
count_from first zero = []
count_from first (suc n) = first ∷ count_from (first + 1) n

-- "An Fn owns its slot and one after it per argument."
unfoldable pub slots_owned : Outline → List ℕ
slots_owned o = count_from o.slot (o.arguments + 1)

unfoldable pub claims_twice : (claimed owned : List ℕ) → Outline → Bool
claims_twice claimed owned o = twice claimed o.parts || twice owned (slots_owned o)

-- the nodes from number i on, then the roots; when the nodes are through, i is N
unfoldable pub claims_from : (claimed owned : List ℕ) (i : ℕ) (roots : List ℕ) → List Outline → Option ℕ
claims_from claimed owned i roots [] = elim (twice claimed roots) [ true ↦ some i | false ↦ none ]
claims_from claimed owned i roots (o ∷ os) =
    elim (claims_twice claimed owned o) [
      | true ↦ some i
      | false ↦ claims_from (o.parts ++ claimed) (slots_owned o ++ owned) (i + 1) roots os
    ]

unfoldable pub claims_fault : (roots : List ℕ) → List Outline → Option ℕ
claims_fault roots os = claims_from [] [] 0 roots os
