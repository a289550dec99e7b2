-- Each return of the functions, from what the callees answered. By rewriting. Assumes nothing.
use Rattle.std.specs.Prelude.{Ok, Err}
use Rattle.std.specs.Result.{IsErrAnd}
use Prim.Native.Nat.{ℕ, ◌+◌, ◌*◌, ◌-◌, ◌≤◌, ◌<◌}
use mathlib.Core.Path.{◌≡◌, refl, sym, ap, ◌∙◌}
use mathlib.Core.List.{List, [], ◌∷◌, ◌++◌}
use native.Mathlib.Omega.{arith}
use native.Mathlib.Nat.{add-zero}
use lib.ListN.{get_or, set, length}
use Rattle.tok.specs.Text.{Texts}
use Rattle.tok.specs.Step.{ok, refused, Refusal}
use Rattle.ptype.specs.Add.{buffer, write}
use Rattle.library.specs.Package.{Package, Param, params_from}
use Rattle.add.specs.Answer.{Added, result_of}
use Rattle.ast.specs.TypeExpr.{Arg, type_of, args_from}
use Rattle.ast.specs.TypeFrom.{type_from}
use Rattle.rules.specs.World.{Ctx, World}
use Rattle.rules.specs.Steps.{Done, set_known, env_insert, type_from_expr}
use Rattle.rules.specs.Rules.{fn_arguments}
use Rattle.tworuns.specs.Written.{get_d_written}
use Rattle.state.specs.declared.Used.{Used}
use Rattle.state.specs.declared.Refusal.{Refusal as Refused}
use Rattle.state.specs.Refused.{refusal_of}
use Rattle.state.specs.Reporting.{passed}
use Rattle.state.specs.Adding.{added_of}
use Rattle.state.specs.Context.{ctx}
use Rattle.state.specs.World.{More, no_more, Step, stepped, Steps, with_answer}
use Rattle.visit.specs.declared.State.{State}
use Rattle.visit.specs.Whole.{Lent, Visit, lent, rest_of, whole, visited}
use Rattle.visit.specs.Within.{top, Within, within-then, within-most, Keeps, goes, stops}
use Rattle.visit.specs.Free.{free-less, free-then}
use Rattle.visit.specs.Plain.{within-plain}
use Rattle.visit.specs.StoreLaws.{env-bound, get_d_front, params_same}
use Rattle.names.specs.Bound.{one_more, fits, packages-kept, within-bound}
use Rattle.parameters.specs.Typing.{type-steps}
use Rattle.parameters.specs.Arguments as P
use Rattle.parameters.specs.Arguments.{ArgumentReady, ArgumentsReady, argument-type, argument-kind, Deeper, Argues, length-args, args-split, params-split, others, args-append}

-- ── One argument ──

module _ {image places e : List ℕ} {st : State} (n slot at : ℕ) (h : ArgumentReady image places st e at) {name t : ℕ} (en : name ≡ get_or image at 0) (et : t ≡ get_or image (at + 1) 0)
    (a : Added) {types types' : List ℕ} (p : (T : Texts) (n : ℕ) → type_from T n (type_of image t) (buffer types st.used.types) ≡ result_of n a types') {r : Step ℕ}
    (er : r ≡ added_of n st.used a) where
  typed : (T : Texts) (ls : List Package) (v : ℕ) (s d m : List ℕ) → Steps (type_from_expr (ctx T ls v) n (type_of image (get_or image (at + 1) 0))) s types d m st.used s types' d m r
  typed T ls v s d m = rw (er, ← et) (type-steps _ a p T ls v n s d m)

  pub one-refused : {s s' e' : List ℕ} {x : Refused} {q : Visit Done} → r ≡ Err x → IsErrAnd q (λ y. y ≡ x) → (T : Texts) (ls : List Package) (v : ℕ) (words f d m : List ℕ) (o : More)
      → Argues (fn_arguments (ctx T ls v) n slot (args_from image at 1)) 1 words st (lent s f types d m e o) (lent s' f types' d m e' o) q
  unfolding fn_arguments args_from with_answer visited stepped
  one-refused {s} {q = q} ex k T ls v words f d m o =
      rw (passed q k) (record {
        visits = record { step = rw ((typed T ls v s d m).step (rest_of words st (lent s f types d m e o)), ex) refl; keeps = stops };
        names = P.stops;
      })

  pub one-bound : {s s' e' : List ℕ} {w : ℕ} {u : Used} {st' : State} → r ≡ Ok (w, u) → s' ≡ set s slot w → e' ≡ write e (2 * (st.names.base + st.names.depth)) (name ∷ w ∷ []) → st' ≡ one_more st u
      → (T : Texts) (ls : List Package) (v : ℕ) (words f d m : List ℕ) (o : More)
      → Argues (fn_arguments (ctx T ls v) n slot (args_from image at 1)) 1 words st (lent s f types d m e o) (lent s' f types' d m e' o) (Ok (tt, st'))
  unfolding fn_arguments args_from with_answer visited stepped set_known env_insert params_from
  one-bound {s} {s'} {w = w} {u} ea es ee eu T ls v words f d m o =
      let x : ℕ = get_or image at 0 in
      let e₁ : List ℕ = write e (2 * (st.names.base + st.names.depth)) (x ∷ w ∷ []) in
      let one : get_or e₁ (2 * (st.names.base + st.names.depth)) 0 ≡ x =
      ap (λ i. get_or e₁ i 0) (sym (add-zero (2 * (st.names.base + st.names.depth)))) ∙ get_d_written e (2 * (st.names.base + st.names.depth)) (x ∷ w ∷ []) (fits h.free) 0 (omega arith) in
      let two : get_or e₁ (2 * (st.names.base + st.names.depth) + 1) 0 ≡ w = get_d_written e (2 * (st.names.base + st.names.depth)) (x ∷ w ∷ []) (fits h.free) 1 (omega arith) in
      record {
        visits = record {
          step = rw (
            (typed T ls v s d m).step (rest_of words st (lent s f types d m e o)),
            ea,
            eu,
            ee,
            es,
            en,
            packages-kept h.free x w words,
            env-bound e st.names.base st.names.depth x w h.kind (fits h.free),
            one,
            two,
          ) refl;
          keeps = rw (eu, ee) (goes (within-bound h.free name w u s f types d m s' types' d m o));
        };
        names = rw eu (P.deeper refl);
      }

-- ── All arguments ──

went : {A : Type 0} {a : A} {r w : ℕ} {st st' : State} {b b' : Lent} → Keeps r w st b b' (Ok (a, st')) → Within r w st b st' b'
went (goes x) = x

depth-of : {k : ℕ} {d : Done} {st st' : State} → Deeper k st (Ok (d, st')) → st'.names.depth ≡ st.names.depth + k
depth-of (P.deeper e) = e

append-ok : (c : Ctx) (n slot : ℕ) (xs ys : List Arg) (w : World) {ps : List Param} {w₁ : World} → fn_arguments c n slot xs w ≡ ok ps w₁
    → fn_arguments c n slot (xs ++ ys) w ≡ others c n (slot + length xs) ys ps w₁
append-ok c n slot xs ys w e = args-append c n ys xs slot w ∙ rw e refl

append-stop : (c : Ctx) (n slot : ℕ) (xs ys : List Arg) (w : World) {x : Refusal} → fn_arguments c n slot xs w ≡ refused x → fn_arguments c n slot (xs ++ ys) w ≡ refused x
append-stop c n slot xs ys w e = args-append c n ys xs slot w ∙ rw e refl

-- k arguments are bound
pub record Arguing (image : List ℕ) (n slot at k : ℕ) (st₀ : State) (s₀ t₀ e₀ : List ℕ) (st : State) (s t e : List ℕ) : Type 0 where
  pub argues : (T : Texts) (ls : List Package) (v : ℕ) (words f d m : List ℕ) (o : More)
      → Argues (fn_arguments (ctx T ls v) n slot (args_from image at k)) k words st₀ (lent s₀ f t₀ d m e₀ o) (lent s f t d m e o) (Ok (tt, st))
  pub within : Within (2 * k) 0 st₀ (lent s₀ [] t₀ [] [] e₀ no_more) st (lent s [] t [] [] e no_more)

pub arguing_begin : (image : List ℕ) (n slot at : ℕ) (st : State) (s t e : List ℕ) → Arguing image n slot at 0 st s t e st s t e
unfolding fn_arguments args_from with_answer visited params_from
arguing_begin image n slot at st s t e = record {
  argues = λ T ls v words f d m o. record {
    visits = record { step = refl; keeps = goes (within-most (within-plain st st.used s t d m s t d m f e o) (omega arith) (omega arith)) };
    names = P.deeper {st' = st} (omega arith);
  };
  within = within-most (within-plain st st.used s t [] [] s t [] [] [] e no_more) (omega arith) (omega arith);
}

module _ {image places : List ℕ} {n slot at count k : ℕ} {st₀ : State} {s₀ t₀ e₀ : List ℕ} (h : ArgumentsReady image places st₀ e₀ slot at count)
    {st : State} {s t e : List ℕ} (i : Arguing image n slot at k st₀ s₀ t₀ e₀ st s t e) where
  pub argument-ready : k < count → ArgumentReady image places st e (at + 2 * k)
  argument-ready l = record {
    type = argument-type h.arguments k l;
    kind = argument-kind h.arguments k l;
    free = free-less (free-then {r₁ = 2 * k} {r₂ = 2 * (count - k)} (free-less h.free (omega arith)) i.within) (omega arith);
    low = omega (arith, h.arguments.room);
  }

  pub arguments-over : k ≤ count → count ≤ k → (T : Texts) (ls : List Package) (v : ℕ) (words f d m : List ℕ) (o : More)
      → Argues (fn_arguments (ctx T ls v) n slot (args_from image at count)) count words st₀ (lent s₀ f t₀ d m e₀ o) (lent s f t d m e o) (Ok (tt, st))
  arguments-over l m₁ T ls v words f d m o =
      let z : count ≡ k = omega arith in
      rw z (i.argues T ls v words f d m o)

  module _ {s' t' e' : List ℕ} {r : Visit Done} (p : (T : Texts) (ls : List Package) (v : ℕ) (words f d m : List ℕ) (o : More)
      → Argues (fn_arguments (ctx T ls v) n (slot + k) (args_from image (at + 2 * k) 1)) 1 words st (lent s f t d m e o) (lent s' f t' d m e' o) r) where
    pub arguments-stop : {x : Refused} {q : Visit Done} → k < count → r ≡ Err x → IsErrAnd q (λ y. y ≡ x) → (T : Texts) (ls : List Package) (v : ℕ) (words f d m : List ℕ) (o : More)
        → Argues (fn_arguments (ctx T ls v) n slot (args_from image at count)) count words st₀ (lent s₀ f t₀ d m e₀ o) (lent s' f t' d m e' o) q
    unfolding with_answer visited others
    arguments-stop {x} {q} l er k' T ls v words f d m o =
        let j : count ≡ k + (1 + (count - (k + 1))) = omega arith in
        let c : Ctx = ctx T ls v in
        let w₀ : World = whole words st₀ (lent s₀ f t₀ d m e₀ o) in
        let w₁ : World = whole words st (lent s f t d m e o) in
        let one : fn_arguments c n (slot + k) (args_from image (at + 2 * k) 1) w₁ ≡ refused (refusal_of x) = (p T ls v words f d m o).visits.step ∙ rw er refl in
        let two : fn_arguments c n (slot + k) (args_from image (at + 2 * k) (1 + (count - (k + 1)))) w₁ ≡ refused (refusal_of x) =
        rw (args-split image (at + 2 * k) 1 (count - (k + 1))) (append-stop c n (slot + k) (args_from image (at + 2 * k) 1) _ w₁ one) in
        rw (passed q k') (record {
          visits = record {
            step =
                ap (λ y. fn_arguments c n slot (args_from image at y) w₀) j
                ∙ ap (λ y. fn_arguments c n slot y w₀) (args-split image at k (1 + (count - (k + 1))))
                ∙ append-ok c n slot (args_from image at k) _ w₀ (i.argues T ls v words f d m o).visits.step
                ∙ rw (length-args image at k, two) refl;
            keeps = stops;
          };
          names = P.stops;
        })

    pub arguing_more : {d₀ : Done} {st' : State} → r ≡ Ok (d₀, st') → Arguing image n slot at (k + 1) st₀ s₀ t₀ e₀ st' s' t' e'
    unfolding with_answer visited others
    arguing_more {d₀} {st'} er = record {
      argues = λ T ls v words f d m o.
          let c : Ctx = ctx T ls v in
          let w₀ : World = whole words st₀ (lent s₀ f t₀ d m e₀ o) in
          let w₁ : World = whole words st (lent s f t d m e o) in
          let q = i.argues T ls v words f d m o in
          let x : Argues (fn_arguments c n (slot + k) (args_from image (at + 2 * k) 1)) 1 words st (lent s f t d m e o) (lent s' f t' d m e' o) (Ok (d₀, st')) = rw er at (p T ls v words f d m o) in
          let y = went q.visits.keeps in
          let z = went x.visits.keeps in
          let u : top st ≡ top st₀ + 2 * k = omega (arith, y.base, depth-of q.names) in
          let g : params_from e (top st₀) k ≡ params_from e' (top st₀) k = sym (params_same e e' (top st₀) k (λ j b o. get_d_front (top st) e e' z.names j (omega arith))) in
          record {
            visits = record {
              step =
                  ap (λ y. fn_arguments c n slot y w₀) (args-split image at k 1)
                  ∙ append-ok c n slot (args_from image at k) _ w₀ q.visits.step
                  ∙ rw (length-args image at k, x.visits.step)
                  (ap (λ ps. ok ps (whole words st' (lent s' f t' d m e' o)))
                  (ap (λ b. params_from e (top st₀) k ++ params_from e' b 1) u ∙ ap (λ ps. ps ++ params_from e' (top st₀ + 2 * k) 1) g ∙ sym (params-split e' (top st₀) k 1)));
              keeps = goes (within-most (within-then y z) (omega arith) (omega arith));
            };
            names = P.deeper {st' = st'} (omega (arith, depth-of q.names, depth-of x.names));
          };
      within = within-most (within-then i.within (went (rw er at (p (record { script = []; library = [] }) [] 0 [] [] [] [] no_more).visits.keeps))) (omega arith) (omega arith);
    }
