-- What the check is given: four parts to read and six buffers to write (document 01, "Words", "The walk"). Definitions.
use Rattle.std.specs.Prelude.{ℕ, List}
use Rattle.tok.specs.Text.{Texts, texts_of}

pub record Inputs : Type 0 where
  pub script : List ℕ
  pub image : List ℕ
  pub library_text : List ℕ
  pub library : List ℕ

abbrev pub texts_in : Inputs → Texts
texts_in i = texts_of i.script i.library_text

-- the six lent buffers: five outputs, and scratch
pub record Buffers : Type 0 where
  pub slots : List ℕ
  pub functions : List ℕ
  pub types : List ℕ
  pub diagnostics : List ℕ
  pub messages : List ℕ
  pub scratch : List ℕ
