-- Each return of the functions, from what the callees answered. By rewriting. Assumes nothing.
use Rattle.std.specs.Prelude.{Ok, Err}
use Rattle.std.specs.Result.{IsErrAnd}
use Prim.Native.Nat.{ℕ, suc, ◌+◌, ◌*◌, ◌-◌, ◌≤◌, ◌<◌}
use mathlib.Core.Path.{◌≡◌, refl, sym, ap, ◌∙◌}
use mathlib.Core.List.{List, [], ◌∷◌, ◌++◌}
use native.Mathlib.Omega.{arith}
use native.Mathlib.Nat.{add-zero}
use lib.ListN.{get_or, set, length}
use lib.Seq.{get_or-set_same}
use Rattle.tok.specs.Text.{Texts}
use Rattle.tok.specs.Step.{ok, refused, for_each}
use Rattle.ptype.specs.Add.{buffer, write}
use Rattle.library.specs.Package.{Package, param, params_from}
use Rattle.add.specs.Answer.{Added, result_of}
use Rattle.ast.specs.TypeExpr.{type_of, args_from}
use Rattle.ast.specs.TypeFrom.{type_from}
use Rattle.type_expr.specs.Ready.{TypeReady}
use Rattle.rules.specs.Steps.{Done, type_from_expr}
use Rattle.rules.specs.Rules.{extern_fn}
use Rattle.tworuns.specs.Written.{get_d_written}
use Rattle.state.specs.declared.Used.{Used}
use Rattle.state.specs.declared.Refusal.{Refusal}
use Rattle.state.specs.Refused.{refusal_of}
use Rattle.state.specs.Reporting.{passed}
use Rattle.state.specs.Adding.{added_of}
use Rattle.state.specs.Context.{ctx}
use Rattle.state.specs.Signatures.{signature_at, entry_at}
use Rattle.state.specs.World.{Step, Steps, stepped, with_answer, world}
use Rattle.visit.specs.StoreLaws.{get_d_front, params_same}
use Rattle.parameters.specs.Typing.{type-steps}
use Rattle.parameters.specs.Arguments.{argument-type, args-split, params-split}
use Rattle.externs.specs.Framed.{Framed, framed-same, framed-write, framed-set, framed_then, framed_wide, each-ok, each-stops, one_ok, one-stops}
use Rattle.externs.specs.Entries.{ArgumentsRoom, FunctionRoom, extern_arg, ArguesExtern, EntersExtern}

-- ── Arguments ──

-- k arguments are written
pub record Writing (image : List ℕ) (n from at k : ℕ) (t₀ : List ℕ) (u₀ : Used) (e₀ t : List ℕ) (u : Used) (e : List ℕ) : Type 0 where
  pub steps : (T : Texts) (ls : List Package) (v : ℕ) (s d m : List ℕ)
      → Steps (for_each (λ a. extern_arg (ctx T ls v) n a) (args_from image from k)) s t₀ d m u₀ s t d m (Ok (params_from e at k, u))
  pub frame : Framed at (at + 2 * k) e₀ e

pub writing_begin : (image : List ℕ) (n from at : ℕ) (t : List ℕ) (u : Used) (e : List ℕ) → Writing image n from at 0 t u e t u e
unfolding for_each args_from params_from stepped
writing_begin image n from at t u e = record { steps = λ T ls v s d m. record { step = λ rest. refl }; frame = framed-same at (at + 2 * 0) e }

module _ {image places : List ℕ} {n from at count k : ℕ} {t₀ : List ℕ} {u₀ : Used} {e₀ t : List ℕ} {u : Used} {e : List ℕ} (h : ArgumentsRoom image places e₀ from at count)
    (i : Writing image n from at k t₀ u₀ e₀ t u e) where
  pub writing_over : k ≤ count → count ≤ k → ArguesExtern image n from at count t₀ u₀ e₀ t e (Ok (tt, u))
  unfolding with_answer
  writing_over l m =
      let z : count ≡ k = omega arith in
      rw z (record { steps = i.steps; frame = i.frame })

  module _ (l : k < count) {x : ℕ} (ex : x ≡ get_or image (from + 2 * k + 1) 0) where
    pub type-ready : TypeReady image places x
    type-ready = rw ex (argument-type h.arguments k l)

    module _ (added : Added) {t' : List ℕ} (p : (T : Texts) (n : ℕ) → type_from T n (type_of image x) (buffer t u.types) ≡ result_of n added t') {r : Step ℕ} (er : r ≡ added_of n u added) where
      typed : (T : Texts) (ls : List Package) (v : ℕ) (s d m : List ℕ) → Steps (type_from_expr (ctx T ls v) n (type_of image (get_or image (from + 2 * k + 1) 0))) s t d m u s t' d m r
      typed T ls v s d m = rw (er, ← ex) (type-steps _ added p T ls v n s d m)

      pub writing_stops : {x : Refusal} {q : Step Done} → r ≡ Err x → IsErrAnd q (λ y. y ≡ x) → ArguesExtern image n from at count t₀ u₀ e₀ t' e q
      unfolding with_answer stepped args_from extern_arg
      writing_stops {x} {q} ea h = rw (passed q h) (record {
        steps = λ T ls v s d m. record {
          step = λ rest.
              let y : count ≡ k + suc (count - (k + 1)) = omega arith in
              let b : type_from_expr (ctx T ls v) n (type_of image (get_or image (from + 2 * k + 1) 0)) (world rest s t d m u) ≡ refused (refusal_of x) =
              (typed T ls v s d m).step rest ∙ rw ea refl in
              ap (λ c. for_each (λ a. extern_arg (ctx T ls v) n a) (args_from image from c) (world rest s t₀ d m u₀)) y
              ∙ ap (λ xs. for_each (λ a. extern_arg (ctx T ls v) n a) xs (world rest s t₀ d m u₀)) (args-split image from k (suc (count - (k + 1))))
              ∙ each-stops (λ a. extern_arg (ctx T ls v) n a) _ (args_from image from k) (world rest s t₀ d m u₀)
              ((i.steps T ls v s d m).step rest) (one-stops (λ a. extern_arg (ctx T ls v) n a) _ _ (rw b refl));
        };
        frame = framed_wide (omega arith) i.frame;
      })

      pub writing_more : {w name : ℕ} {u' : Used} {e' : List ℕ} → r ≡ Ok (w, u') → name ≡ get_or image (from + 2 * k) 0 → e' ≡ write e (at + 2 * k) (name ∷ w ∷ [])
          → Writing image n from at (k + 1) t₀ u₀ e₀ t' u' e'
      unfolding stepped args_from extern_arg params_from
      writing_more {w} {name} {u'} {e'} ea en ee =
          let q : Framed (at + 2 * k) (at + 2 * (k + 1)) e e' = rw ee (framed-write e (at + 2 * k) (at + 2 * (k + 1)) (name ∷ w ∷ []) (omega arith)) in
          let fits : at + 2 * k + 2 ≤ length e = omega (arith, i.frame.long, h.long, h.room) in
          let one : get_or e' (at + 2 * k) 0 ≡ name =
          rw ee (ap (λ j. get_or (write e (at + 2 * k) (name ∷ w ∷ [])) j 0) (sym (add-zero (at + 2 * k))) ∙ get_d_written e (at + 2 * k) (name ∷ w ∷ []) fits 0 (omega arith)) in
          let two : get_or e' (at + 2 * k + 1) 0 ≡ w = rw ee (get_d_written e (at + 2 * k) (name ∷ w ∷ []) fits 1 (omega arith)) in
          let old : params_from e' at k ≡ params_from e at k = params_same e e' at k (λ j a b. get_d_front (at + 2 * k) e e' q.front j b) in
          let all : params_from e' at (k + 1) ≡ params_from e at k ++ (param name w ∷ []) = params-split e' at k 1 ∙ rw (old, one, two) refl in
          record {
            steps = λ T ls v s d m. record {
              step = λ rest.
                  let b : type_from_expr (ctx T ls v) n (type_of image (get_or image (from + 2 * k + 1) 0)) (world rest s t d m u) ≡ ok w (world rest s t' d m u') =
                  (typed T ls v s d m).step rest ∙ rw ea refl in
                  ap (λ xs. for_each (λ a. extern_arg (ctx T ls v) n a) xs (world rest s t₀ d m u₀)) (args-split image from k 1)
                  ∙ each-ok (λ a. extern_arg (ctx T ls v) n a) _ (args_from image from k) (world rest s t₀ d m u₀)
                  ((i.steps T ls v s d m).step rest) (one_ok (λ a. extern_arg (ctx T ls v) n a) _ [] (rw (b, ← en) refl))
                  ∙ ap (λ ps. ok ps (world rest s t' d m u')) (sym all);
            };
            frame = framed_then (omega arith) (omega arith) i.frame q;
          }

-- ── A function ──

module _ {image places : List ℕ} {from at : ℕ} {e : List ℕ} (h : FunctionRoom image places e from at)
    {name count : ℕ} (en : name ≡ get_or image from 0) (ec : count ≡ get_or image (from + 2) 0) {e₁ : List ℕ} (e1 : e₁ ≡ write e at (name ∷ count ∷ [])) where
  head : Framed at (at + 2) e e₁
  head = rw e1 (framed-write e at (at + 2) (name ∷ count ∷ []) (omega arith))

  fits : at + 2 ≤ length e
  fits = omega (arith, h.long, h.room)

  name-there : get_or e₁ at 0 ≡ name
  name-there = rw e1 (ap (λ j. get_or (write e at (name ∷ count ∷ [])) j 0) (sym (add-zero at)) ∙ get_d_written e at (name ∷ count ∷ []) fits 0 (omega arith))

  count-there : get_or e₁ (at + 1) 0 ≡ count
  count-there = rw e1 (get_d_written e at (name ∷ count ∷ []) fits 1 (omega arith))

  pub arguments-room : ArgumentsRoom image places e₁ (from + 3) (at + 2) count
  arguments-room = rw ec (record { arguments = h.arguments; room = omega (arith, h.room); long = omega (arith, h.long, head.long) })

  module _ {n : ℕ} {t : List ℕ} {u : Used} {t₂ e₂ : List ℕ} (args : Step Done) (p : ArguesExtern image n (from + 3) (at + 2) count t u e₁ t₂ e₂ args) where
    p' : ArguesExtern image n (from + 3) (at + 2) (get_or image (from + 2) 0) t u e₁ t₂ e₂ args
    p' = rw (← ec) p

    both : Framed at (at + 3 + 2 * get_or image (from + 2) 0) e e₂
    both = framed_then (omega arith) (omega arith) head (framed_wide (omega arith) p'.frame)

    count_kept : get_or e₂ (at + 1) 0 ≡ get_or image (from + 2) 0
    count_kept = get_d_front (at + 2) e₁ e₂ p'.frame.front (at + 1) (omega arith) ∙ count-there ∙ ec

    name-kept : get_or e₂ at 0 ≡ get_or image from 0
    name-kept = get_d_front (at + 2) e₁ e₂ p'.frame.front at (omega arith) ∙ name-there ∙ en

    pub function-stops : {x : Refusal} {q : Step Done} → args ≡ Err x → IsErrAnd q (λ y. y ≡ x) → EntersExtern image n from at t u e t₂ e₂ q
    unfolding extern_fn extern_arg with_answer stepped
    function-stops {q = q} ea h = rw (passed q h) (record { steps = λ T ls v s d m. record { step = λ rest. rw ((p'.steps T ls v s d m).step rest, ea) refl }; frame = both; count = count_kept })

    module _ {d₂ : Done} {u₂ : Used} (ea : args ≡ Ok (d₂, u₂)) {x : ℕ} (ex : x ≡ get_or image (from + 1) 0) where
      module _ (added : Added) {t₃ : List ℕ} (y : (T : Texts) (n : ℕ) → type_from T n (type_of image x) (buffer t₂ u₂.types) ≡ result_of n added t₃) {r : Step ℕ} (er : r ≡ added_of n u₂ added) where
        typed-ret : (T : Texts) (ls : List Package) (v : ℕ) (s d m : List ℕ) → Steps (type_from_expr (ctx T ls v) n (type_of image (get_or image (from + 1) 0))) s t₂ d m u₂ s t₃ d m r
        typed-ret T ls v s d m = rw (er, ← ex) (type-steps _ added y T ls v n s d m)

        pub function-refused : {x : Refusal} {q : Step Done} → r ≡ Err x → IsErrAnd q (λ y. y ≡ x) → EntersExtern image n from at t u e t₃ e₂ q
        unfolding extern_fn extern_arg with_answer stepped
        function-refused {q = q} ed h = rw (passed q h) (record {
          steps = λ T ls v s d m. record { step = λ rest. rw ((p'.steps T ls v s d m).step rest, ea, (typed-ret T ls v s d m).step rest, ed) refl };
          frame = both;
          count = count_kept;
        })

        pub function-done : {w : ℕ} {u₃ : Used} {e₃ : List ℕ} → r ≡ Ok (w, u₃) → e₃ ≡ set e₂ (at + 2 + 2 * count) w → EntersExtern image n from at t u e t₃ e₃ (Ok (tt, u₃))
        unfolding extern_fn extern_arg with_answer stepped entry_at signature_at
        function-done {w} {e₃ = e₃} ed es =
            let c₀ : ℕ = get_or image (from + 2) 0 in
            let set_there : e₃ ≡ set e₂ (at + 2 + 2 * c₀) w = es ∙ ap (λ j. set e₂ (at + 2 + 2 * j) w) ec in
            let last : Framed (at + 2 + 2 * c₀) (at + 3 + 2 * c₀) e₂ e₃ = rw set_there (framed-set e₂ (at + 2 + 2 * c₀) (at + 3 + 2 * c₀) w (omega arith)) in
            let keep : (j : ℕ) → j < at + 2 + 2 * c₀ → get_or e₃ j 0 ≡ get_or e₂ j 0 = λ j b. get_d_front (at + 2 + 2 * c₀) e₂ e₃ last.front j b in
            let one : get_or e₃ at 0 ≡ get_or image from 0 = keep at (omega arith) ∙ name-kept in
            let two : get_or e₃ (at + 1) 0 ≡ c₀ = keep (at + 1) (omega arith) ∙ count_kept in
            let pairs : params_from e₃ (at + 2) c₀ ≡ params_from e₂ (at + 2) c₀ = params_same e₂ e₃ (at + 2) c₀ (λ j a b. keep j (omega arith)) in
            let last-word : get_or e₃ (at + 2 + 2 * c₀) 0 ≡ w = rw set_there (get_or-set_same e₂ (at + 2 + 2 * c₀) w 0 (omega (arith, both.long, h.long, h.room))) in
            let z : at + 1 + 0 ≡ at + 1 = omega arith in
            let z' : at + 1 + 1 ≡ at + 2 = omega arith in
            record {
              steps = λ T ls v s d m. record {
                step = λ rest. rw ((p'.steps T ls v s d m).step rest, ea, (typed-ret T ls v s d m).step rest, ed, z, z', one, two, pairs, last-word) refl;
              };
              frame = framed_then (omega arith) (omega arith) both last;
              count = two;
            }
