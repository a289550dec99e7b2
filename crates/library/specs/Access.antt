-- What the answers of the code's access to packages stand for. Definitions.
use Rattle.std.specs.Prelude.{ℕ, ◌+◌, ◌*◌, get_or, List, Option as Found, Some, None}
use Rattle.std.proofs.Math.Option.{Option, none, some}
use Rattle.library.specs.Package.{Param, Package, params_from}
use Rattle.library.specs.PackagesRead.{package_at}

-- the package that was found at a word
abbrev pub found_in : List ℕ → Found ℕ → Option Package
found_in library (Some at) = some (package_at library at)
found_in library None = none

-- The parts of the signature whose argument count stands at a word: "argument count, name and type for each argument, return type"
abbrev pub params_at : List ℕ → (at : ℕ) → List Param
params_at words at = params_from words (at + 1) (get_or words at 0)

abbrev pub return_at : List ℕ → (at : ℕ) → ℕ
return_at words at = get_or words (at + 1 + 2 * get_or words at 0) 0
