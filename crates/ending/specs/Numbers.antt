-- The check's answer as six numbers (document 01, "An answer", "Answers that end the check"): number, place, and how many function words, type words,
-- diagnostics and message bytes are used. Definitions.
use Rattle.std.specs.Prelude.{ℕ, List, [], ◌∷◌, Ok, Err}
use Rattle.rules.specs.Check.{Ended}
use Rattle.ending.specs.Ended.{Checked}

abbrev pub told : Ended → List ℕ
told e = e.number ∷ e.place ∷ e.function_words ∷ e.type_words ∷ e.diagnostics ∷ e.message_bytes ∷ []

unfoldable pub numbers_of : Checked → List ℕ
numbers_of (Ok c) = 0 ∷ 0 ∷ c.function_words ∷ c.type_words ∷ c.diagnostics ∷ c.message_bytes ∷ []
numbers_of (Err r) = r.number ∷ r.place ∷ 0 ∷ 0 ∷ 0 ∷ 0 ∷ []
