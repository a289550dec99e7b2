-- The contracts of the steps of one argument of a function with slots. Definitions.
use Rattle.std.specs.Prelude.{ℕ, ◌≡◌, List, length, ⊤}
use Rattle.std.proofs.Math.Option.{some}
use Rattle.tok.specs.Text.{Texts}
use Rattle.tok.specs.declared.Span.{Span}
use Rattle.ptype.specs.Words.{ty_of}
use Rattle.ptype.specs.Slots.{Binding, Bound}
use Rattle.slots.specs.declared.Bindings.{Bindings}
use Rattle.slots.specs.Bindings.{Bind, bindings_of, bound_of}
use Rattle.library.specs.Package.{Package, param}
use Rattle.rules.specs.World.{Ctx, Walk}
use Rattle.rules.specs.Calls.{after_binding}
use Rattle.state.specs.declared.Used.{Used}
use Rattle.state.specs.Context.{ctx}
use Rattle.state.specs.World.{Step, with_answer, Steps}
use Rattle.arguments.specs.Argument.{given}

-- What follows a binding whose answer is b and which left the bindings bs.
pub record AfterBinding (texts : Texts) (n : ℕ) (call_name : List ℕ) (name type : ℕ) (span : Span) (provided : ℕ) (t d m : List ℕ) (u : Used)
    (bs : List Binding) (b : Bind) (t' d' m' : List ℕ) (r : Step ⊤) : Type 0 where
  pub step : (x : Bound) → bound_of texts b bs ≡ some x → (library : List Package) (void slot : ℕ) (s : List ℕ)
      → Steps (after_binding (ctx texts library void) n call_name (param name type) (given slot span) (ty_of texts t type) (ty_of texts t provided) x)
      s t d m u s t' d' m' (with_answer (λ _. bs) r)

-- An argument, or several, of a function with slots: the bindings were b and are b', in the same lent part.
pub record Argues (texts : Texts) (rule : Ctx → List Binding → Walk (List Binding)) (s t d m : List ℕ) (u : Used) (b : Bindings) (t' d' m' : List ℕ) (b' : Bindings)
    (r : Step ⊤) : Type 0 where
  pub lent : b'.pairs.ghost_name ≡ b.pairs.ghost_name
  pub keeps : length b'.pairs.now ≡ length b.pairs.now
  pub step : (library : List Package) (void : ℕ) → Steps (rule (ctx texts library void) (bindings_of texts b)) s t d m u s t' d' m' (with_answer (λ _. bindings_of texts b') r)
