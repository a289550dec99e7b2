-- What the answers of finding stand for. Definitions.
use Rattle.std.specs.Prelude.{ℕ, false, List, Some, None, Option as Found}
use Rattle.std.proofs.Math.Option.{Option, none, some}
use Rattle.library.specs.Package.{Signature, Package}
use Rattle.library.specs.PackagesRead.{package_at}
use Rattle.state.specs.Signatures.{signature_at}
use Rattle.state.specs.Store.{extern_at}
use Rattle.scope.specs.declared.Binding.{Binding}
use Rattle.scope.specs.declared.Binding.TheVariants as B
use Rattle.scope.specs.declared.Held.{Held}
use Rattle.scope.specs.declared.Held.TheVariants as H

-- what a binding gives: a type's word, or none where it is poisoned
abbrev pub bound_of : Binding → Option ℕ
bound_of (B.Bound w) = some w
bound_of B.Poisoned = none

-- a name's binding, or none where it has none
abbrev pub binding_of : Found Binding → Option (Option ℕ)
binding_of (Some b) = some (bound_of b)
binding_of None = none

-- the own functions: so many entries of the functions buffer
pub record Owned : Type 0 where
  pub words : List ℕ
  pub count : ℕ

abbrev pub owned : List ℕ → ℕ → Owned
owned words count = record { words = words; count = count }

-- the signature of an own function
abbrev pub own_of : (functions : List ℕ) → Found ℕ → Option Signature
own_of functions (Some at) = some (signature_at functions at false)
own_of functions None = none

-- a package held
abbrev pub package_of : (library scratch : List ℕ) → Held → Package
package_of library scratch (H.Library at) = package_at library at
package_of library scratch (H.Extern at) = extern_at scratch at

-- and what was found of a name
abbrev pub held_of : (library scratch : List ℕ) → Found Held → Option Package
held_of library scratch (Some h) = some (package_of library scratch h)
held_of library scratch None = none
