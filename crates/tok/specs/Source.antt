-- The text that holds a name, by bit 24 of its word (document 01, "Words"). Definitions.
use Rattle.std.specs.Prelude.{ℕ}
use Rattle.tok.specs.declared.Source.{Source}
use Rattle.tok.specs.declared.Source.TheVariants as source
use Rattle.tok.specs.Name.{in_script, in_library}

-- "Bit 24 is clear throughout an image and set throughout a library."
abbrev pub bit_of : Source → ℕ
bit_of source.Script = in_script
bit_of source.Library = in_library
