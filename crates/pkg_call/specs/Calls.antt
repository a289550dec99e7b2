-- The contracts of a call into the packages held. Definitions.
use Rattle.std.specs.Prelude.{ℕ, ◌≡◌, Bool, List, take}
use Rattle.tok.specs.Text.{Texts, name_bytes}
use Rattle.library.specs.Package.{Package, group_of}
use Rattle.rules.specs.declared.Answer.{Answer}
use Rattle.rules.specs.Calls.{Provided, resolve_pkg_call}
use Rattle.state.specs.declared.Used.{Used}
use Rattle.state.specs.Context.{ctx}
use Rattle.state.specs.Store.{held_from}
use Rattle.state.specs.World.{Rest, world, Step, stepped}
use Rattle.pkg_group.specs.Groups.{InGroup}

-- Scratch is as it was below word 8,192: what the walk keeps there stays. From there on stand the bindings of a call with slots.
pub record Low (e e' : List ℕ) : Type 0 where
  pub same : take 8192 e' ≡ take 8192 e

-- `in_group`, of a package of the library
pub record LibraryCalls (texts : Texts) (n slot pkg name : ℕ) (given : List Provided) (poisoned : Bool) (p : Package)
    (e s t d m : List ℕ) (u : Used) (e' s' t' d' m' : List ℕ) (r : Step Answer) : Type 0 where
  pub call : InGroup texts n slot pkg name given poisoned (group_of texts (name_bytes texts name) p.functions) s t d m u s' t' d' m' r
  pub low : Low e e'

-- `resolve_pkg_call`, in a world whose packages are those held from a word of scratch on
pub record HeldCalls (texts : Texts) (n slot pkg name : ℕ) (given : List Provided) (poisoned : Bool) (words : List ℕ) (held packages : ℕ)
    (e s t d m : List ℕ) (u : Used) (e' s' t' d' m' : List ℕ) (r : Step Answer) : Type 0 where
  pub step : (library : List Package) (void : ℕ) (rest : Rest) → rest.packages ≡ held_from words e held packages
      → resolve_pkg_call (ctx texts library void) n slot pkg name given poisoned (world rest s t d m u) ≡ stepped rest s' t' d' m' r
  pub low : Low e e'
