-- Each return of the functions, from what the callees answered. By rewriting. Assumes nothing.
use Rattle.std.specs.Prelude.{Option}
use Prim.Native.Nat.{ℕ, ◌≤◌}
use native.Mathlib.Omega.{arith}
use mathlib.Core.Path.{◌≡◌, refl, sym, ◌∙◌}
use mathlib.Core.Bool.{Bool, true, true≢false}
use mathlib.Core.List.{List}
use Rattle.tok.specs.Text.{Texts}
use Rattle.library.specs.Package.{Package}
use Rattle.err.specs.Message.{call_through_field}
use Rattle.err.specs.Report.{Reports}
use Rattle.places.specs.NodesAt.{record_room}
use Rattle.rules.specs.declared.Answer.{Answer}
use Rattle.rules.specs.declared.Answer.TheVariants.{Poison}
use Rattle.rules.specs.World.{Ctx, World, Walk}
use Rattle.rules.specs.Steps.{poison}
use Rattle.rules.specs.Calls.{Callee, through_field, Provided, resolve_call, call}
use Rattle.state.specs.Context.{ctx}
use Rattle.state.specs.Reporting.{told_of, poisons-step}
use Rattle.state.specs.World.{More, Rest, Step, stepped, Steps, more_of}
use Rattle.own_call.specs.OwnCalls.{OwnCalls}
use Rattle.visit.specs.declared.State.{State}
use Rattle.visit.specs.Whole.{Visit, lent, rest_of}
use Rattle.visit.specs.Within.{Visits}
use Rattle.visit.specs.Plain.{visit_of, steps-visits}
use Rattle.calls.specs.declared.Target.{Target}
use Rattle.calls.specs.declared.Target.TheVariants.{Own, OfPackage, Field}
use Rattle.calls.specs.Callees.{callee_at, target_callee, is_through_field, CallAt}
use Rattle.err.specs.declared.Counts.{Counts}

-- ── The target ──

pub is-field : {f : Callee} {name : ℕ} → f ≡ through_field name → is_through_field f ≡ true
unfolding is_through_field
is-field e = rw e refl

-- one that is a Field is no other
pub other_than_field : (x : Target) → is_through_field (target_callee x) ≡ true → ((name : ℕ) → x ≡ Field name → ⊥) → ⊥
unfolding is_through_field
other_than_field (Own name) e d = true≢false (sym e)
other_than_field (OfPackage pkg name) e d = true≢false (sym e)
other_than_field (Field name) e d = d name refl

-- ── A call through a field ──

pub field_told : (image : List ℕ) (at : ℕ) {name : ℕ} (n : ℕ) (st : State) → callee_at image at ≡ through_field name
    → {d m d' m' : List ℕ} {x : Option Counts} {r : Step Answer} {v : Visit Answer}
    → Reports (call_through_field name) d m st.used.told d' m' x → r ≡ told_of n st.used x Poison → v ≡ visit_of st r
    → (c : Ctx) (slot : ℕ) (given : List Provided) (visits : Walk Bool) (words s f t e : List ℕ) (o : More)
    → Visits (call c n slot (callee_at image at) given visits) 0 0 words st (lent s f t d m e o) (lent s f t d' m' e o) v
unfolding call
field_told image at n st is {d} {m} {d'} {m'} {x} p er ev c slot given visits words s f t e o =
    rw (is, ev, er) (steps-visits {rule = poison n (call_through_field _)} (poisons-step n {s = s} {t = t} {u = st.used} p) words f e o)

-- ── A call of an own function ──

-- what a world has beside slots, types, diagnostics and messages
abbrev rest_in : World → Rest
rest_in w = record { functions = w.functions; env = w.env; packages = w.packages; own = w.own; more = more_of w.log }

pub own-visits : (T : Texts) (n slot name : ℕ) (given : List Provided) (st : State) {s f t d m s' d' m' : List ℕ} {r : Step Answer} {v : Visit Answer}
    → OwnCalls T n slot name given f st.functions s t d m st.used s' d' m' r → v ≡ visit_of st r
    → (ls : List Package) (v₀ : ℕ) (words e : List ℕ) (o : More)
    → Visits (resolve_call (ctx T ls v₀) n slot name given) 0 0 words st (lent s f t d m e o) (lent s' f t d' m' e o) v
own-visits T n slot name given st {s} {f} {t} {d} {m} {s'} {d'} {m'} {r} p ev ls v₀ words e o =
    let z : Steps (λ w. stepped (rest_in w) s' t d' m' r) s t d m st.used s' t d' m' r = record { step = λ rest. refl } in
    let y = steps-visits z words f e o in
    rw ev (record { step = p.step ls v₀ (rest_of words st (lent s f t d m e o)) refl ∙ y.step; keeps = y.keeps })
