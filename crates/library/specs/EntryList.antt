-- Entries one after the other, as the rules' words hold them. Definitions.
use Rattle.std.specs.Prelude.{ℕ, Bool, List}

-- so many entries from a word on: with `flagged`, each has a word between its name and its argument count that says whether it has slots
pub record Entries : Type 0 where
  pub words : List ℕ
  pub flagged : Bool
  pub from : ℕ
  pub count : ℕ

abbrev pub entries : (words : List ℕ) → (flagged : Bool) → (from count : ℕ) → Entries
entries w f i k = record { words = w; flagged = f; from = i; count = k }
