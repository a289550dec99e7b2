-- The words of the arguments' types are written between the names in scope and the packages held, bindings from word 8,192 on: those stay
-- as they were. Assumes nothing.
use Rattle.std.specs.Prelude.{Ok, Err}
use Prim.Native.Nat.{ℕ, ◌+◌, ◌-◌, ◌≤◌, ◌<◌}
use mathlib.Core.Path.{◌≡◌, refl, sym, ap, ◌∙◌}
use mathlib.Core.Bool.{Bool}
use mathlib.Core.List.{List, ◌++◌}
use native.Mathlib.Omega.{arith}
use lib.ListN.{length, get_or, take, drop, length-append, length-drop}
use lib.Seq.{length-take-le, take_all, take_at, take-take, drop_at, drop-drop}
use Rattle.tok.specs.Text.{Texts}
use Rattle.library.specs.Package.{Package}
use Rattle.rules.specs.declared.Answer.{Answer}
use Rattle.rules.specs.Calls.{Provided, resolve_pkg_call}
use Rattle.state.specs.declared.Used.{Used}
use Rattle.state.specs.Context.{ctx}
use Rattle.state.specs.Store.{env_up, held_from}
use Rattle.state.specs.World.{More, Step, stepped}
use Rattle.call_args.specs.Given.{given_from}
use Rattle.call_types.specs.Gather.{words_in, Gatherable}
use Rattle.visit.specs.declared.State.{State}
use Rattle.visit.specs.Whole.{Visit, lent, rest_of, visited}
use Rattle.visit.specs.Within.{top, Within, Keeps, goes, stops, Visits}
use Rattle.visit.specs.Reach.{held_reach}
use Rattle.visit.specs.Free.{Free, held_low, free-top}
use Rattle.visit.specs.StoreLaws.{get_d_front, AlikeFrom, past-alike, env-front, held-past, held_below, reach-past, reach-below}
use Rattle.visit.specs.Plain.{with_used, visit_of}
use Rattle.pkg_call.specs.Ready.{HeldReady, PkgReady}
use Rattle.pkg_call.specs.Calls.{Low, HeldCalls}

-- ── A part of scratch that was lent and came back ──

module _ (e ys : List ℕ) (at count : ℕ) {end : ℕ} (ee : end ≡ at + count) (room : at + count ≤ length e) (long : length ys ≡ length (take (end - at) (drop at e))) where
  abbrev back : List ℕ
  back = take at e ++ (ys ++ drop (end - at) (drop at e))

  as_long : length ys ≡ count
  as_long = long ∙ length-take-le (end - at) (drop at e) (rw length-drop (omega arith)) ∙ omega arith

  pub front_same : take at back ≡ take at e
  front_same = take_at (take at e) (ys ++ drop (end - at) (drop at e)) at (length-take-le at e (omega arith))

  middle : drop at back ≡ ys ++ drop (end - at) (drop at e)
  middle = drop_at (take at e) (ys ++ drop (end - at) (drop at e)) at (length-take-le at e (omega arith))

  pub part-is : take count (drop at back) ≡ take count ys
  part-is = rw middle (take_at ys (drop (end - at) (drop at e)) count as_long ∙ sym (take_all count ys (omega (arith, as_long))))

  pub past_same : AlikeFrom (at + count) e back
  past_same =
      let z : at + (end - at) ≡ at + count = omega arith in
      past-alike e back (sym (drop-drop count at back) ∙ ap (drop count) middle ∙ drop_at ys (drop (end - at) (drop at e)) count as_long ∙ drop-drop (end - at) at e ∙ ap (λ i. drop i e) z)

  pub back-length : length back ≡ length e
  back-length =
      let tail = drop (end - at) (drop at e) in
      rw (length-append (take at e) (ys ++ tail), length-append ys tail, length-take-le at e (omega arith), as_long, length-drop (end - at) (drop at e), length-drop at e)
      (omega arith)

-- ── The walk's world, where scratch has changed between the two and from word 8,192 on ──

module _ {count : ℕ} {st : State} {e e₁ e' : List ℕ} (free : Free count st e) (front₁ : take (top st) e₁ ≡ take (top st) e)
    (past : AlikeFrom (top st + count) e e₁) (long₁ : length e₁ ≡ length e) (low : Low e₁ e') (long₂ : length e' ≡ length e₁) where
  ends₁ : held_reach e₁ st.held st.packages ≡ held_reach e st.held st.packages
  ends₁ = reach-past e e₁ past st.held st.packages free.between

  -- below word 8,192 nothing more has changed
  below : (j : ℕ) → j < 8192 → get_or e' j 0 ≡ get_or e₁ j 0
  below = get_d_front 8192 e₁ e' low.same

  inside : held_reach e₁ st.held st.packages ≤ 8192
  inside = omega (arith, ends₁, free.ends)

  held₁ : (words : List ℕ) → held_from words e₁ st.held st.packages ≡ held_from words e st.held st.packages
  held₁ words = held-past e e₁ past words st.held st.packages free.between

  held_same : (words : List ℕ) → held_from words e' st.held st.packages ≡ held_from words e st.held st.packages
  held_same words = held_below e₁ e' below words st.held st.packages inside ∙ held₁ words

  ends_same : held_reach e' st.held st.packages ≡ held_reach e st.held st.packages
  ends_same = reach-below e₁ e' below st.held st.packages inside ∙ ends₁

  front : take (top st) e' ≡ take (top st) e
  front =
      let l : top st ≤ 8192 = omega (arith, free-top free) in
      sym (take-take (top st) 8192 e' l) ∙ ap (take (top st)) low.same ∙ take-take (top st) 8192 e₁ l ∙ front₁

  env-same : env_up e' st.names.base st.names.depth ≡ env_up e st.names.base st.names.depth
  env-same = env-front (top st) e e' front st.names.base st.names.depth (omega arith)

  module _ (s t d m s' t' d' m' f : List ℕ) (o : More) where
    rest-same : (words : List ℕ) → rest_of words st (lent s f t d m e o) ≡ rest_of words st (lent s' f t' d' m' e' o)
    rest-same words = rw (held_same words, env-same) refl

    within : (u : Used) → Within count 0 st (lent s f t d m e o) (with_used st u) (lent s' f t' d' m' e' o)
    within u = record {
      base = refl;
      deeper = omega arith;
      taken = omega arith;
      written = omega arith;
      names = front;
      held = ends_same;
      packages = omega arith;
      scratch = long₂ ∙ long₁;
      functions = refl;
    }

    keeps : (r : Step Answer) → Keeps count 0 st (lent s f t d m e o) (lent s' f t' d' m' e' o) (visit_of st r)
    unfolding visit_of
    keeps (Ok (a, u)) = goes (within u)
    keeps (Err x) = stops

    visited-is : (words : List ℕ) (r : Step Answer) → stepped (rest_of words st (lent s' f t' d' m' e' o)) s' t' d' m' r ≡ visited words (lent s' f t' d' m' e' o) (visit_of st r)
    unfolding visit_of stepped visited
    visited-is words (Ok (a, u)) = refl
    visited-is words (Err x) = refl

  pub calls-visit : (texts : Texts) (n slot pkg name : ℕ) (given : List Provided) (poisoned : Bool) (words s t d m : List ℕ) {s' t' d' m' : List ℕ} {r : Step Answer} {v : Visit Answer}
      → HeldCalls texts n slot pkg name given poisoned words st.held st.packages e₁ s t d m st.used e' s' t' d' m' r → v ≡ visit_of st r
      → (library : List Package) (void : ℕ) (f : List ℕ) (o : More)
      → Visits (resolve_pkg_call (ctx texts library void) n slot pkg name given poisoned) count 0 words st (lent s f t d m e o) (lent s' f t' d' m' e' o) v
  calls-visit texts n slot pkg name given poisoned words s t d m {s'} {t'} {d'} {m'} {r} {v} h q library void f o = rw q (record {
    step = h.step library void (rest_of words st (lent s f t d m e o)) (sym (held₁ words)) ∙ ap (λ x. stepped x s' t' d' m' r) (rest-same s t d m s' t' d' m' f o words)
        ∙ visited-is s t d m s' t' d' m' f o words r;
    keeps = keeps s t d m s' t' d' m' f o r;
  })

-- ── The code's steps ──

module _ {texts : Texts} {image places words : List ℕ} {st : State} {e : List ℕ} {n args count : ℕ} {slots types : List ℕ}
    (p : PkgReady texts image places words st e n args count slots types) {end : ℕ} (ee : end ≡ top st + count) where
  fits : top st + count ≤ length e
  fits = omega (arith, p.free.between, held_low p.free, p.free.long)

  pub gather_ready : Gatherable image places args count (take (end - top st) (drop (top st) e))
  gather_ready = record {
    owner = n;
    nodes = p.given.nodes;
    room = rw (length-take-le (end - top st) (drop (top st) e) (rw length-drop (omega (arith, fits)))) (omega arith);
  }

  module _ (ys : List ℕ) (long : length ys ≡ length (take (end - top st) (drop (top st) e))) where
    pub held-ready : take count ys ≡ words_in slots (given_from image args count)
        → HeldReady texts image places words (take (top st) e ++ (ys ++ drop (end - top st) (drop (top st) e))) st.held st.packages (top st) n args count slots types st.used.types
    held-ready g = record {
      ready = record {
        given = p.given;
        room = rw (back-length e ys (top st) count ee fits long) fits;
        gathered = sym g ∙ sym (part-is e ys (top st) count ee fits long);
        long = rw (back-length e ys (top st) count ee fits long) p.long;
      };
      bind = rw (held-past e (back e ys (top st) count ee fits long) (past_same e ys (top st) count ee fits long) words st.held st.packages p.free.between) p.bind;
      ends = rw (reach-past e (back e ys (top st) count ee fits long) (past_same e ys (top st) count ee fits long) st.held st.packages p.free.between) p.free.ends;
    }

    pub pkg-visits : (slot pkg name : ℕ) (poisoned : Bool) (d m : List ℕ) {e' s' t' d' m' : List ℕ} {r : Step Answer} {v : Visit Answer}
        → HeldCalls texts n slot pkg name (given_from image args count) poisoned words st.held st.packages
        (take (top st) e ++ (ys ++ drop (end - top st) (drop (top st) e))) slots types d m st.used e' s' t' d' m' r
        → length e' ≡ length (take (top st) e ++ (ys ++ drop (end - top st) (drop (top st) e)))
        → v ≡ visit_of st r → (library : List Package) (void : ℕ) (f : List ℕ) (o : More)
        → Visits (resolve_pkg_call (ctx texts library void) n slot pkg name (given_from image args count) poisoned) count 0 words st (lent slots f types d m e o) (lent s' f t' d' m' e' o) v
    pkg-visits slot pkg name poisoned d m h z q =
        calls-visit p.free (front_same e ys (top st) count ee fits long) (past_same e ys (top st) count ee fits long) (back-length e ys (top st) count ee fits long) h.low z
        texts n slot pkg name (given_from image args count) poisoned words slots types d m h q
