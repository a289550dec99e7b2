-- What holds of each of a list. Definition.
use Rattle.std.specs.Prelude.{List, [], ◌∷◌}

unfoldable pub Each : {A : Type 0} → (P : A → Type 0) → List A → Type 0
Each P [] = Unit {0}
Each P (x ∷ xs) = P x × Each P xs
