-- What the functions that read type expressions ask for. Definitions.
use Rattle.std.specs.Prelude.{ℕ, ◌+◌, ◌*◌, ◌≤◌, ◌<◌, List}
use Rattle.ast.specs.Image.{type_count}
use Rattle.image_laws.specs.Many.{Each}
use Rattle.image_laws.specs.RecordWords.{Pair}
use Rattle.places.specs.Readable.{Readable}

-- a type of an accepted image, with the places of its records
pub record TypeReady (image places : List ℕ) (t : ℕ) : Type 0 where
  pub readable : Readable image places
  pub below : t < type_count image

-- a part of type t
pub record PartReady (image places : List ℕ) (t part : ℕ) : Type 0 where
  pub ready : TypeReady image places part
  pub under : part < t

-- `left` pairs from word `at` on, whose types are numbered below their owner
pub record FieldsReady (image places : List ℕ) (owner at left : ℕ) : Type 0 where
  pub readable : Readable image places
  pub below : owner < type_count image
  pub pairs : Each (Pair readable.text owner image) 2 at left
  pub room : at + 2 * left ≤ 8192
