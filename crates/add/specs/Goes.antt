-- Steps that give the pairs of fields, one field after the other: those of all fields go on with those of the fields that are left. Assumes
-- nothing.
use Rattle.std.specs.Prelude.{◌≡◌, List, ◌∷◌, ℕ}
use Rattle.std.proofs.Common.{refl, ◌∙◌}
use Rattle.tok.specs.Step.{Result, ok, refused, Step, Refusal, next, return}
use Rattle.ptype.specs.Add.{Buffer}

-- `whole` gives what `rest` gives, with pairs put before them
pub record Goes (whole rest : Result Buffer Refusal (List ℕ)) : Type 0 where
  pub before : List ℕ → List ℕ
  pub is : whole ≡ next rest (λ others. return (before others))

pub goes_all : (r : Result Buffer Refusal (List ℕ)) → Goes r r
goes_all (ok pairs b) = record { before = λ others. others; is = refl }
goes_all (refused e) = record { before = λ others. others; is = refl }

-- once the first field's word is given
pub goes_next : {whole here : Result Buffer Refusal (List ℕ)} (rest : Step Buffer Refusal (List ℕ)) (name w : ℕ) (b : Buffer) → Goes whole here
    → here ≡ next (rest b) (λ others. return (name ∷ w ∷ others)) → Goes whole (rest b)
goes_next {whole} rest name w b h e = by (rest b) refl
  where
    by : (r : Result Buffer Refusal (List ℕ)) → rest b ≡ r → Goes whole (rest b)
    by (ok others b') q = record { before = λ more. h.before (name ∷ w ∷ more); is = h.is ∙ rw (e, q) }
    by (refused y) q = record { before = λ more. more; is = h.is ∙ rw (e, q) }
