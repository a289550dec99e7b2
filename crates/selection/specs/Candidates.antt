-- The rules of selection as functions of the types buffer: they only read. Definitions.
use Rattle.std.specs.Prelude.{ℕ, ◌≡◌, Bool, List, ◌∷◌, map, Option}
use Rattle.std.specs.List.{find, list_all}
use Rattle.tok.specs.Text.{Texts}
use Rattle.ptype.specs.Ty.{Ty, same_ty}
use Rattle.library.specs.Package.{Param, Signature, Package}
use Rattle.rules.specs.declared.Answer.{Answer}
use Rattle.rules.specs.Calls.{overload_matches, common_return}
use Rattle.state.specs.declared.Used.{Used}
use Rattle.state.specs.Context.{ctx}
use Rattle.state.specs.World.{Step, Steps}

-- the types of arguments, where `U` says what a word means
abbrev pub param_types : (U : ℕ → Ty) → List Param → List Ty
param_types U ps = map (λ p. U p.type) ps

-- `position`: "the first candidate whose every argument type is equal, counts alike"
abbrev pub position_of : (U : ℕ → Ty) → (provided : List Ty) → List Signature → Option Signature
position_of U provided fs = find (λ f. overload_matches (param_types U f.params) provided) fs

-- `all_return`: candidates.iter().all(|c| c.ret == first)
abbrev pub all_return_of : (U : ℕ → Ty) → Ty → List Signature → Bool
all_return_of U t fs = list_all (λ f. same_ty (U f.ret) t) fs

-- `common_return` of a group that is not empty
pub record CommonReturn (texts : Texts) (slot : ℕ) (fs : List Signature) (s t : List ℕ) (u : Used) (s' : List ℕ) (r : Step Answer) : Type 0 where
  pub of : (f : Signature) (others : List Signature) → fs ≡ f ∷ others → (library : List Package) (void : ℕ) (d m : List ℕ)
      → Steps (common_return (ctx texts library void) slot f others) s t d m u s' t d m r
