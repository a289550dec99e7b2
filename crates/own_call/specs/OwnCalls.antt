-- A call of an own function: what who calls it with the functions buffer takes for granted, and its contract. Definitions.
use Rattle.std.specs.Prelude.{ℕ, ◌≤◌, ◌≡◌, List, length}
use Rattle.tok.specs.Text.{Texts}
use Rattle.library.specs.Package.{Package}
use Rattle.rules.specs.declared.Answer.{Answer}
use Rattle.rules.specs.Calls.{Provided, resolve_call}
use Rattle.state.specs.declared.Used.{Used}
use Rattle.state.specs.Context.{ctx}
use Rattle.state.specs.Signatures.{entries_end, own_in}
use Rattle.state.specs.World.{Rest, world, Step, stepped}
use Rattle.spans.specs.Ready.{NodesReady}

-- k entries stand in the functions buffer, and the arguments are nodes of an accepted image.
pub record OwnReady (functions : List ℕ) (k : ℕ) (image places : List ℕ) (n args count : ℕ) : Type 0 where
  pub entries : entries_end functions 0 0 k ≤ length functions
  pub nodes : NodesReady image places n args count

-- `resolve_call`, in a world whose own functions are the k entries of the functions buffer
pub record OwnCalls (texts : Texts) (n slot name : ℕ) (given : List Provided) (functions : List ℕ) (k : ℕ) (s t d m : List ℕ) (u : Used) (s' d' m' : List ℕ) (r : Step Answer) : Type 0 where
  pub step : (library : List Package) (void : ℕ) (rest : Rest) → rest.own ≡ own_in functions k
      → resolve_call (ctx texts library void) n slot name given (world rest s t d m u) ≡ stepped rest s' t d' m' r
