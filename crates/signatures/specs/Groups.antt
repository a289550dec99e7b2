-- The signatures of a name among some entries, and a signature whose flag is known. Definitions.
use Rattle.std.specs.Prelude.{ℕ, true, false, List}
use Rattle.tok.specs.Text.{Texts}
use Rattle.library.specs.Package.{Signature, signature, group_of}
use Rattle.library.specs.EntryList.{Entries}
use Rattle.library.specs.Entries.{functions_in}

-- in the order of the entries
abbrev pub group : Texts → (name : List ℕ) → Entries → List Signature
group texts name es = group_of texts name (functions_in es)

-- the same arguments and return type, of a function without slots and of one with them
abbrev pub as_plain : Signature → Signature
as_plain f = signature f.params f.ret false

abbrev pub as_slotted : Signature → Signature
as_slotted f = signature f.params f.ret true
