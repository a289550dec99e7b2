-- The contracts of a call of a group. Definitions.
use Rattle.std.specs.Prelude.{ℕ, ◌≡◌, Bool, List, ◌∷◌, map, get_or}
use Rattle.tok.specs.Text.{Texts}
use Rattle.tok.specs.Step.{◌>>◌}
use Rattle.ptype.specs.Ty.{Ty}
use Rattle.ptype.specs.Words.{ty_of}
use Rattle.err.specs.Message.{no_specialisation}
use Rattle.library.specs.Package.{Signature, Package}
use Rattle.rules.specs.declared.Answer.{Answer}
use Rattle.rules.specs.Steps.{report}
use Rattle.rules.specs.Calls.{Provided, common_return, select}
use Rattle.state.specs.declared.Used.{Used}
use Rattle.state.specs.Context.{ctx}
use Rattle.state.specs.World.{Step, Steps}
use Rattle.selection.specs.Candidates.{param_types}

-- candidates.iter().map(|c| c.args types), where `U` says what a word means
abbrev pub candidate_types : (U : ℕ → Ty) → List Signature → List (List Ty)
candidate_types U fs = map (λ f. param_types U f.params) fs

-- 18 is reported, then what the group's candidates return.
pub record NoneFits (texts : Texts) (n slot token : ℕ) (call_name : List ℕ) (provided : List Ty) (fs : List Signature)
    (s t d m : List ℕ) (u : Used) (s' d' m' : List ℕ) (r : Step Answer) : Type 0 where
  pub of : (f : Signature) (others : List Signature) → fs ≡ f ∷ others → (library : List Package) (void : ℕ)
      → Steps (report n (no_specialisation token call_name provided (candidate_types (ty_of texts t) fs)) >> common_return (ctx texts library void) slot f others)
      s t d m u s' t d' m' r

-- `select` of a group that is not empty, where `provided` are the words of the types in the arguments' slots
pub record Selects (texts : Texts) (n slot token : ℕ) (call_name provided : List ℕ) (poisoned : Bool) (fs : List Signature)
    (s t d m : List ℕ) (u : Used) (s' d' m' : List ℕ) (r : Step Answer) : Type 0 where
  pub of : (f : Signature) (others : List Signature) → fs ≡ f ∷ others → (given : List Provided) → map (λ a. get_or s a.slot 0) given ≡ provided
      → (library : List Package) (void : ℕ)
      → Steps (select (ctx texts library void) n slot token call_name f others given poisoned) s t d m u s' t d' m' r
