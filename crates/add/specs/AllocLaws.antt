-- Laws of steps on an arena: one after another, and those that add nothing. Assumes nothing.
use Rattle.std.specs.Prelude.{◌≡◌, ℕ, List, Result as Answered, Ok, Err}
use Rattle.std.proofs.Common.{refl, ◌∙◌}
use Rattle.tok.specs.Text.{Texts}
use Rattle.tok.specs.Step.{ok, Step, Refusal, next}
use Rattle.ptype.specs.Add.{Buffer, buffer}
use Rattle.add.specs.declared.AddError.{AddError}
use Rattle.add.specs.declared.Arena.{Arena}
use Rattle.add.specs.Answer.{Added, buffer_of, answer_of, result_of, Allocates}

-- of given texts
pub allocates_of : (t : Texts) {steps : Texts → ℕ → Step Buffer Refusal ℕ} {a a' : Arena} {r : Answered ℕ AddError} → Allocates steps a r a' → Allocates (λ _ n. steps t n) a r a'
allocates_of t g = record { lent = g.lent; keeps = g.keeps; result = λ _ n. g.result t n }

-- none
pub allocates_none : {steps : Texts → ℕ → Step Buffer Refusal ℕ} {a : Arena} {w : ℕ}
    → ((t : Texts) (n : ℕ) → steps t n (buffer_of a) ≡ ok w (buffer_of a)) → Allocates steps a (Ok w) a
allocates_none e = record { lent = refl; keeps = refl; result = e }

-- some, and what goes on with their word
module _ {steps first : Texts → ℕ → Step Buffer Refusal ℕ} (more : Texts → ℕ → ℕ → Step Buffer Refusal ℕ) {a a₁ : Arena}
    (e : (t : Texts) (n : ℕ) → steps t n (buffer_of a) ≡ next (first t n (buffer_of a)) (more t n)) where
  pub allocates_stop : {x : AddError} → Allocates first a (Err x) a₁ → Allocates steps a (Err x) a₁
  allocates_stop g = record { lent = g.lent; keeps = g.keeps; result = λ t n. e t n ∙ rw (g.result t n) }

  pub allocates_then : {w : ℕ} {r : Answered ℕ AddError} {a₂ : Arena} → Allocates first a (Ok w) a₁ → Allocates (λ t n. more t n w) a₁ r a₂ → Allocates steps a r a₂
  allocates_then g h = record { lent = h.lent ∙ g.lent; keeps = h.keeps ∙ g.keeps; result = λ t n. e t n ∙ rw (g.result t n) (h.result t n) }

-- on an arena that was made of words: what they are then
pub allocates_made : {steps : Texts → ℕ → Step Buffer Refusal ℕ} {old new : List ℕ} {used : ℕ} {a a' : Arena} {r : Answered ℕ AddError} {x : Added}
    → (a.words.now ≡ old) × (a.used ≡ used) → Allocates steps a r a' → x ≡ answer_of r a'.used → new ≡ a'.words.now
    → (t : Texts) (n : ℕ) → steps t n (buffer old used) ≡ result_of n x new
allocates_made m g ex e t n = rw (← m.0, ← m.1, ex, e) (g.result t n)
