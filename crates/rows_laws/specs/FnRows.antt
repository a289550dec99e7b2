-- The rows of a functions buffer that holds entries of functions, in the order in which they were met: well formed where the functions'
-- names and types are. By induction on the entries. Assumes nothing.
use Prim.Native.Nat.{ℕ}
use Rattle.std.specs.Prelude.{◌≡◌, true, List}
use Rattle.utf8.specs.Rfc3629.{well_formed}
use Rattle.tok.specs.Text.{Texts, name_bytes}
use Rattle.ptype.specs.Words.{ty_of}
use Rattle.display.specs.NamesWellFormed.{names_well_formed}
use Rattle.library.specs.Package.{Param, Function}
use Rattle.onerun.specs.Claim.{All}

module _ (t : Texts) (types : List ℕ) where
  abbrev pub NameWell : (word : ℕ) → Type 0
  NameWell w = well_formed (name_bytes t w) ≡ true

  abbrev pub TypeWell : (word : ℕ) → Type 0
  TypeWell w = names_well_formed (ty_of t types w) ≡ true

  pub record ParamWell (p : Param) : Type 0 where
    pub name : NameWell p.name
    pub type : TypeWell p.type

  pub record FunctionWell (f : Function) : Type 0 where
    pub name : NameWell f.name
    pub params : All ParamWell f.sig.params
    pub ret : TypeWell f.sig.ret
