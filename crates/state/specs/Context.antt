-- What stays during the walk, from the two texts. Definitions.
use Rattle.std.specs.Prelude.{ℕ, List}
use Rattle.tok.specs.Text.{Texts}
use Rattle.library.specs.Package.{Package}
use Rattle.rules.specs.World.{Ctx}

-- A step that looks up no package and ends no block holds for any library and any slot of Void.
abbrev pub ctx : Texts → (library : List Package) → (void : ℕ) → Ctx
ctx texts library void = record { texts = texts; library = library; void = void }
