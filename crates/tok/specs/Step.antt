-- Steps that change a state or are refused, and how they follow each other. Definitions.
use Rattle.std.specs.Prelude.{ℕ, Bool, true, false, List, [], ◌∷◌}

-- What a step ends in: an answer and the state after it, or a refusal, which says why in a value of E.
pub data Result (S E A : Type 0) : Type 0 where
  ok : A → S → Result S E A
  refused : E → Result S E A

abbrev pub Step : Type 0 → Type 0 → Type 0 → Type 0
Step S E A = S → Result S E A

abbrev pub next : {S E A B : Type 0} → Result S E A → (A → Step S E B) → Result S E B
next (ok a s) f = f a s
next (refused e) f = refused e

-- `a ← m` and then the rest: a refusal ends all
abbrev pub ◌>>=◌ : {S E A B : Type 0} → Step S E A → (A → Step S E B) → Step S E B
◌>>=◌ m f = λ s. next (m s) f

infixr 20 ◌>>◌
abbrev pub ◌>>◌ : {S E A B : Type 0} → Step S E A → Step S E B → Step S E B
◌>>◌ m f = λ s. next (m s) (λ _. f)

abbrev pub return : {S E A : Type 0} → A → Step S E A
return a = λ s. ok a s

-- the state as it is
abbrev pub look : {S E : Type 0} → Step S E S
look = λ s. ok s s

-- an answer, and the state from here on
abbrev pub give : {S E A : Type 0} → A → S → Step S E A
give a s = λ _. ok a s

abbrev pub refuse : {S E A : Type 0} → E → Step S E A
refuse e = λ _. refused e

-- if .. then .. else, of steps
unfoldable pub when : {S E A : Type 0} → Bool → Step S E A → Step S E A → Step S E A
when true a b = a
when false a b = b

-- a step for each of a list, the answers in order
unfoldable pub for_each : {S E A B : Type 0} → (A → Step S E B) → List A → Step S E (List B)
for_each f [] = return []
for_each f (x ∷ xs) = do
  b ← f x
  bs ← for_each f xs
  return (b ∷ bs)

-- Document 01, "Answers that end the check": why no answer is given
pub record Refusal : Type 0 where
  pub number : ℕ
  pub place : ℕ

abbrev pub refusal : (number place : ℕ) → Refusal
refusal k p = record { number = k; place = p }
