-- A call of an own function, one law for each way out of the code. Assumes nothing.
use Rattle.std.specs.Prelude.{Some, None, Option as Found}
use Prim.Native.Nat.{ℕ}
use mathlib.Core.Path.{◌≡◌, sym, ap, ◌∙◌}
use mathlib.Core.Bool.{false}
use mathlib.Core.List.{List}
use Rattle.tok.specs.Text.{Texts, name_bytes}
use Rattle.err.specs.declared.CallName.TheVariants.{Own}
use Rattle.err.specs.Message.{undefined_own, call_name}
use Rattle.err.specs.Report.{Reports}
use Rattle.library.specs.Package.{Package, find_function}
use Rattle.rules.specs.Steps.{on_option}
use Rattle.rules.specs.declared.Answer.{Answer}
use Rattle.rules.specs.declared.Answer.TheVariants.{Poison}
use Rattle.rules.specs.Calls.{Provided, check_call_args, resolve_call}
use Rattle.state.specs.declared.Used.{Used}
use Rattle.state.specs.Context.{ctx}
use Rattle.state.specs.Reporting.{told_of, poisons-step}
use Rattle.state.specs.Signatures.{signature_at, own_in}
use Rattle.state.specs.World.{Step, Steps}
use Rattle.scope.specs.Found.{own_of}
use Rattle.own_call.specs.OwnCalls.{OwnCalls}
use Rattle.err.specs.declared.Counts.{Counts}

module _ {texts : Texts} {n slot name : ℕ} {given : List Provided} {functions : List ℕ} {k : ℕ} {s t d m : List ℕ} {u : Used} {found : Found ℕ}
    (e : own_of functions found ≡ find_function texts (name_bytes texts name) (own_in functions k)) where
  pub not_found : {d' m' : List ℕ} {x : Found Counts} {r : Step Answer} → found ≡ None → Reports (undefined_own name (name_bytes texts name)) d m u.told d' m' x → r ≡ told_of n u x Poison
      → OwnCalls texts n slot name given functions k s t d m u s d' m' r
  unfolding resolve_call on_option
  not_found o p w = record {
    step = λ library void rest own. rw (ap (find_function texts (name_bytes texts name)) own ∙ sym e ∙ ap (own_of functions) o, w) ((poisons-step n {s = s} {t = t} {u = u} p).step rest);
  }

  pub found_at : {at : ℕ} {s' d' m' : List ℕ} {r : Step Answer} → found ≡ Some at
      → ((library : List Package) (void : ℕ)
      → Steps (check_call_args (ctx texts library void) n slot name (call_name texts (Own name)) (signature_at functions at false) given) s t d m u s' t d' m' r)
      → OwnCalls texts n slot name given functions k s t d m u s' d' m' r
  unfolding resolve_call on_option call_name
  found_at o c = record { step = λ library void rest own. rw (ap (find_function texts (name_bytes texts name)) own ∙ sym e ∙ ap (own_of functions) o) ((c library void).step rest) }
