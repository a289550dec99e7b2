-- An image with the places of its records. Definitions.
use Rattle.std.specs.Prelude.{ℕ, List}

-- an image's words, and where its records stand
pub record Image : Type 0 where
  pub words : List ℕ
  pub places : List ℕ

abbrev pub image_of : (words places : List ℕ) → Image
image_of w p = record { words = w; places = p }
