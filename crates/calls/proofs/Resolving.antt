-- The call once its arguments are visited: what its callees ask for, and its returns. Assumes nothing.
use Prim.Native.Nat.{ℕ, ◌+◌, ◌≤◌}
use native.Mathlib.Omega.{arith}
use mathlib.Core.Path.{◌≡◌, refl}
use mathlib.Core.Bool.{Bool}
use mathlib.Core.List.{List}
use lib.ListN.{get_or}
use Rattle.tok.specs.Text.{Texts}
use Rattle.library.specs.Package.{Function, Package}
use Rattle.rules.specs.declared.Answer.{Answer}
use Rattle.rules.specs.Promises.{Every}
use Rattle.rules.specs.Calls.{own_function, package_function, resolve_call, resolve_pkg_call}
use Rattle.tworuns.specs.Walk.{every_map}
use Rattle.places.specs.NodesAt.{words-call}
use Rattle.spans.specs.Ready.{NodesReady}
use Rattle.state.specs.Context.{ctx}
use Rattle.state.specs.Store.{held_from}
use Rattle.own_call.specs.OwnCalls.{OwnReady}
use Rattle.call_args.specs.Given.{given_from}
use Rattle.pkg_call.specs.Ready.{MayBind, PackagesBind, PkgReady}
use Rattle.visit.specs.declared.State.{State}
use Rattle.visit.specs.Whole.{Lent, Visit}
use Rattle.visit.specs.Within.{Visits}
use Rattle.visiting.specs.Then.{visits-most}
use Rattle.ready.specs.Asked.{call-nodes, own-ready}
use Rattle.ready.specs.Meant.{SignatureMeant, package_meant, arguments-meant}
use Rattle.calls.specs.Callees.{callee_at, call_end}
use Rattle.calls.specs.CallVisits.{Resolvable}

-- ── What the callees ask for ──

-- what is known of a signature is what a call of it asks for
may_bind : {T : Texts} {types : List ℕ} {used : ℕ} (f : Function) → SignatureMeant T types used f.sig → MayBind T types used f.sig
may_bind f m e = record { params = m.params; ret = m.ret; room = m.room e }

packages-bind : (T : Texts) (types : List ℕ) (used : ℕ) (ps : List Package)
    → Every (λ (p : Package). Every (λ (f : Function). SignatureMeant T types used f.sig) p.functions) ps → PackagesBind T types used ps
packages-bind T types used ps h =
    every_map (λ (p : Package). Every (λ (f : Function). SignatureMeant T types used f.sig) p.functions) (λ (p : Package). Every (λ (f : Function). MayBind T types used f.sig) p.functions)
    (λ p q. every_map (λ (f : Function). SignatureMeant T types used f.sig) (λ (f : Function). MayBind T types used f.sig) (λ f m. may_bind f m) p.functions q) ps h

module _ {T : Texts} {image places words : List ℕ} {n at count : ℕ} {st : State} {b : Lent} (z : Resolvable T image places words n at count st b) where
  nodes : NodesReady image places n (at + 3) count
  nodes = rw z.node at (call-nodes z.call.ready z.call.place (words-call z.call.ready z.call.place refl refl z.call.kind) z.counted)

  pub inside : at + 3 + count ≤ 8192
  inside = nodes.room

  pub own-asked : OwnReady b.functions st.functions image places n (at + 3) count
  own-asked = own-ready z.ready nodes

  pub package_asked : PkgReady T image places words st b.scratch n (at + 3) count b.slots b.types
  package_asked = record {
    given = record { nodes = nodes; meant = arguments-meant z.ready nodes };
    bind = packages-bind T b.types st.used.types (held_from words b.scratch st.held st.packages) (package_meant z.ready);
    free = z.ready.free;
    long = z.ready.long;
  }

  -- ── The returns ──

  module _ {slot : ℕ} (es : slot ≡ get_or image (at + 1) 0) (poisoned : Bool) {b' : Lent} {v : Visit Answer} where
    pub own-resolved : {name : ℕ} → callee_at image at ≡ own_function name
        → ((ls : List Package) (v₀ : ℕ) → Visits (resolve_call (ctx T ls v₀) n slot name (given_from image (at + 3) count)) 0 0 words st b b' v)
        → (ls : List Package) (v₀ : ℕ) → Visits (call_end (ctx T ls v₀) n (get_or image (at + 1) 0) (callee_at image at) (given_from image (at + 3) count) poisoned) count 0 words st b b' v
    unfolding call_end
    own-resolved e x ls v₀ = rw (← es, e) (visits-most {r = 0} {w = 0} (omega arith) (omega arith) (x ls v₀))

    pub package_resolved : {pkg name : ℕ} → callee_at image at ≡ package_function pkg name
        → ((ls : List Package) (v₀ : ℕ) → Visits (resolve_pkg_call (ctx T ls v₀) n slot pkg name (given_from image (at + 3) count) poisoned) count 0 words st b b' v)
        → (ls : List Package) (v₀ : ℕ) → Visits (call_end (ctx T ls v₀) n (get_or image (at + 1) 0) (callee_at image at) (given_from image (at + 3) count) poisoned) count 0 words st b b' v
    unfolding call_end
    package_resolved e x ls v₀ = rw (← es, e) (x ls v₀)
