-- The candidates of a call in a package. Definitions.
use Rattle.std.specs.Prelude.{ℕ, ◌+◌, Bool, List, get_or}
use Rattle.tok.specs.Text.{Texts}
use Rattle.library.specs.Package.{Signature}
use Rattle.library.specs.EntryList.{entries}
use Rattle.signatures.specs.Groups.{group}

-- those of a name among the functions of the package at a word, which stand after its own name and their count
abbrev pub candidates_at : Texts → (name words : List ℕ) → (flagged : Bool) → (at : ℕ) → List Signature
candidates_at texts name words flagged at = group texts name (entries words flagged (at + 2) (get_or words (at + 1) 0))
