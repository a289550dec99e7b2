-- The contracts of the steps of one argument. Definitions.
use Rattle.std.specs.Prelude.{ℕ, Bool, ◌||◌, List, eqb}
use Rattle.tok.specs.Text.{Texts}
use Rattle.tok.specs.declared.Span.{Span}
use Rattle.ptype.specs.Ty.{Ty, contains_unknown}
use Rattle.ptype.specs.Words.{ty_of}
use Rattle.ptype.specs.Slots.{Binding}
use Rattle.library.specs.Package.{Package, param}
use Rattle.rules.specs.World.{Ctx, Walk}
use Rattle.rules.specs.Steps.{Done}
use Rattle.rules.specs.Calls.{Provided, compared}
use Rattle.state.specs.declared.Used.{Used}
use Rattle.state.specs.Context.{ctx}
use Rattle.state.specs.World.{Step, with_answer, Steps}

-- an argument that a call provides
abbrev pub given : (slot : ℕ) → Span → Provided
given slot span = record { slot = slot; span = span }

-- let Some(provided_type) = map.get(..).filter(|ty| !ty.contains_unknown()) else { continue; }
abbrev pub unchecked : Texts → (types : List ℕ) → (word : ℕ) → Bool
unchecked texts types w = eqb w 0 || contains_unknown (ty_of texts types w)

-- ── Without slots ──

-- `compared`, for any context of the texts; neither the argument's slot nor the parameter's own type plays a part.
pub record Compares (texts : Texts) (n : ℕ) (call_name : List ℕ) (name : ℕ) (span : Span) (expected provided : Ty) (t d m : List ℕ) (u : Used) (d' m' : List ℕ) (r : Step Done) : Type 0 where
  pub goes : (library : List Package) (void : ℕ) (s : List ℕ) (type slot : ℕ)
      → Steps (compared (ctx texts library void) n call_name (param name type) (given slot span) expected provided) s t d m u s t d' m' r

-- An argument, or several, of a function without slots: the bindings stay as they are.
pub record Leaves (texts : Texts) (rule : Ctx → List Binding → Walk (List Binding)) (s t d m : List ℕ) (u : Used) (d' m' : List ℕ) (r : Step Done) : Type 0 where
  pub step : (library : List Package) (void : ℕ) (bs : List Binding) → Steps (rule (ctx texts library void) bs) s t d m u s t d' m' (with_answer (λ _. bs) r)
