-- A call of a group as the code has it, one law for each way out. Assumes nothing.
use Rattle.std.specs.Prelude.{Some, None, Option as Found}
use Prim.Native.Nat.{ℕ}
use mathlib.Core.Path.{◌≡◌, sym, ap, ◌∙◌}
use mathlib.Core.Bool.{Bool, true, false}
use mathlib.Core.List.{List, ◌∷◌, map, map-map}
use lib.ListN.{get_or}
use Rattle.tok.specs.Text.{Texts}
use Rattle.tok.specs.Step.{ok, when}
use Rattle.ptype.specs.Words.{ty_of}
use Rattle.library.specs.Package.{Signature, Package}
use Rattle.rules.specs.declared.Answer.{Answer}
use Rattle.rules.specs.Steps.{set_known, on_option}
use Rattle.rules.specs.World.{World}
use Rattle.rules.specs.Calls.{Provided, provided_trees, position, select}
use Rattle.state.specs.declared.Used.{Used}
use Rattle.state.specs.Context.{ctx}
use Rattle.state.specs.World.{Rest, world, Step, Steps}
use Rattle.selection.specs.Candidates.{position_of, CommonReturn}
use Rattle.selection.proofs.Read.{answered, provided-are, candidates-are, position-is}
use Rattle.group_select.specs.Selects.{NoneFits, Selects}

-- ── Selecting ──

provided-is : (texts : Texts) (s t provided : List ℕ) (given : List Provided) → map (λ a. get_or s a.slot 0) given ≡ provided
    → map (λ a. ty_of texts t (get_or s a.slot 0)) given ≡ map (ty_of texts t) provided
provided-is texts s t provided given e = sym (map-map (ty_of texts t) (λ a. get_or s a.slot 0) given) ∙ ap (map (ty_of texts t)) e

-- the rule reads the same types
module _ (texts : Texts) (provided s t d m : List ℕ) (u : Used) (given : List Provided) (e : map (λ a. get_or s a.slot 0) given ≡ provided)
    (library : List Package) (void : ℕ) (w : Rest) where
  provided-taken : provided_trees (ctx texts library void) given (world w s t d m u) ≡ ok (map (ty_of texts t) provided) (world w s t d m u)
  provided-taken =
      let here : World = world w s t d m u in
      provided-are (ctx texts library void) here given ∙ ap (λ ts. ok ts here) (provided-is texts s t provided given e)

module _ (texts : Texts) (n slot token : ℕ) (call_name provided : List ℕ) {poisoned : Bool} {fs : List Signature} (s t d m : List ℕ) (u : Used) where
  pub select-poisoned : {s' : List ℕ} {r : Step Answer} → poisoned ≡ true → CommonReturn texts slot fs s t u s' r
      → Selects texts n slot token call_name provided poisoned fs s t d m u s' d m r
  unfolding select when
  select-poisoned y c = record { of = λ f others q given e library void. record { step = λ w. rw y ((c.of f others q library void d m).step w) } }

  module _ (no : poisoned ≡ false) {taken : Found Signature} (p : taken ≡ position_of (ty_of texts t) (map (ty_of texts t) provided) fs) where
    -- the rule looks among the same candidates
    position-taken : (f : Signature) (others : List Signature) → fs ≡ f ∷ others → (library : List Package) (void : ℕ) (w : Rest)
        → position (ctx texts library void) (map (ty_of texts t) provided) (f ∷ others) (world w s t d m u) ≡ ok (answered taken) (world w s t d m u)
    position-taken f others q library void w =
        let U = ty_of texts t in
        let here : World = world w s t d m u in
        position-is (ctx texts library void) here (map U provided) (f ∷ others)
        ∙ ap (λ gs. ok (answered (position_of U (map U provided) gs)) here) (sym q)
        ∙ ap (λ r. ok (answered r) here) (sym p)

    pub select-taken : {x : Signature} {ret : ℕ} {s' : List ℕ} {r : Step Answer} → taken ≡ Some x → ret ≡ x.ret
        → ((t d m : List ℕ) → Steps (set_known slot ret) s t d m u s' t d m r) → Selects texts n slot token call_name provided poisoned fs s t d m u s' d m r
    unfolding select when on_option
    select-taken {x} o er k = record {
      of = λ f others q given e library void. record {
        step = λ w.
            rw (no, provided-taken texts provided s t d m u given e library void w, position-taken f others q library void w, o, ← er)
            ((k t d m).step w);
      };
    }

    pub select-none : {s' d' m' : List ℕ} {r : Step Answer} → taken ≡ None → NoneFits texts n slot token call_name (map (ty_of texts t) provided) fs s t d m u s' d' m' r
        → Selects texts n slot token call_name provided poisoned fs s t d m u s' d' m' r
    unfolding select when on_option
    select-none o k = record {
      of = λ f others q given e library void. record {
        step = λ w.
            rw (no, provided-taken texts provided s t d m u given e library void w, position-taken f others q library void w, o, ← q, candidates-are (ctx texts library void) (world w s t d m u) fs)
            ((k.of f others q library void).step w);
      };
    }
