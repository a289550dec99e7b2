-- A call of a function without slots, one law for each way out of the code. Assumes nothing.
use Rattle.std.specs.Prelude.{ℕ, zero, suc, ◌+◌, ◌-◌, ◌≤◌, ◌<◌, ◌≡◌, Bool, false, List, [], ◌∷◌, Ok, Err, length, get_or, drop}
use Rattle.std.specs.Result.{IsErrAnd}
use Rattle.std.proofs.Math.Path.{refl}
use Rattle.std.proofs.Common.{ap, ◌∙◌, arith}
use native.Mathlib.Numerals.{add-one}
use lib.Seq.{drop-cons}
use borrow.Author.Tests.{eq-eqb, ne_eqb}
use Rattle.tok.specs.Text.{Texts}
use Rattle.tok.specs.Step.{ok, next, when}
use Rattle.ptype.specs.Slots.{Binding}
use Rattle.ast.specs.Node.{nodes_from, tree_of, slot_of}
use Rattle.ast.specs.Span.{span_of}
use Rattle.err.specs.Message.{argument_count}
use Rattle.library.specs.Package.{Param, param, Signature, Package}
use Rattle.rules.specs.declared.Answer.{Answer}
use Rattle.rules.specs.World.{Ctx, World}
use Rattle.rules.specs.Steps.{Done, report, set_known}
use Rattle.rules.specs.Calls.{provided_of, argument, arguments, returned, check_call_args}
use Rattle.state.specs.declared.Used.{Used}
use Rattle.state.specs.declared.Refusal.{Refusal}
use Rattle.state.specs.Context.{ctx}
use Rattle.state.specs.World.{Rest, world, Step, stepped, with_answer, Steps}
use Rattle.state.specs.Reporting.{passed, on-ok, on-err}
use Rattle.arguments.specs.Argument.{given, Leaves}
use Rattle.arguments.specs.declared.Argument.{Argument}
use Rattle.signatures.specs.Groups.{as_plain}
use Rattle.call_args.specs.Given.{given_from, argument_in}

-- ── Each argument ──

pub arguments-none : (c : Ctx) (n : ℕ) (call_name : List ℕ) (f : Bool) (ps : List Param) (bs : List Binding) (w : World) → arguments c n call_name f ps [] bs w ≡ ok bs w
unfolding arguments
arguments-none c n call_name f [] bs w = refl
arguments-none c n call_name f (p ∷ ps) bs w = refl

module _ (texts : Texts) (n : ℕ) (call_name : List ℕ) (ps : List Param) (image : List ℕ) (args count : ℕ) (s t d m : List ℕ) (u : Used) where
  -- i arguments are done
  pub record SoFar (i : ℕ) (d' m' : List ℕ) (u' : Used) : Type 0 where
    pub within : i ≤ count
    pub so : (library : List Package) (void : ℕ) (bs : List Binding) (rest : Rest)
        → arguments (ctx texts library void) n call_name false ps (given_from image args count) bs (world rest s t d m u)
        ≡ arguments (ctx texts library void) n call_name false (drop i ps) (given_from image (args + i) (count - i)) bs (world rest s t d' m' u')

  pub none_done : SoFar 0 d m u
  none_done =
      let a : args + 0 ≡ args = omega arith in
      let b : count - 0 ≡ count = omega arith in
      record { within = omega arith; so = λ library void bs rest. rw (a, b) refl }

  module _ {i : ℕ} {d' m' : List ℕ} {u' : Used} (h : SoFar i d' m' u') where
    pub all_done : count ≤ i → Leaves texts (λ c. arguments c n call_name false ps (given_from image args count)) s t d m u d' m' (Ok (tt, u'))
    unfolding nodes_from provided_of stepped with_answer
    all_done l =
        let z : count - i ≡ 0 = omega arith in
        record {
          step = λ library void bs.
              record { step = λ rest. h.so library void bs rest ∙ rw z (arguments-none (ctx texts library void) n call_name false (drop i ps) bs (world rest s t d' m' u')) };
        }

    module _ (long : count ≡ length ps) (l : i < count) {arg : Argument} (e : arg ≡ argument_in image args ps i) {d'' m'' : List ℕ} {r : Step Done}
        (a : Leaves texts (λ c. argument c n call_name false (param arg.name arg.expected) (given arg.slot arg.span)) s t d' m' u' d'' m'' r) where
      one : (library : List Package) (void : ℕ) (bs : List Binding)
          → Steps (argument (ctx texts library void) n call_name false (get_or ps i (param 0 0))
          (given (slot_of (tree_of image (get_or image (args + i) 0))) (span_of (tree_of image (get_or image (args + i) 0)))) bs)
          s t d' m' u' s t d'' m'' (with_answer (λ _. bs) r)
      one library void bs = rw e at (a.step library void bs)

      split : (library : List Package) (void : ℕ) (bs : List Binding) (rest : Rest)
          → arguments (ctx texts library void) n call_name false ps (given_from image args count) bs (world rest s t d m u)
          ≡ next (stepped rest s t d'' m'' (with_answer (λ _. bs) r))
          (λ more. arguments (ctx texts library void) n call_name false (drop (suc i) ps) (given_from image (args + i + 1) (count - suc i)) more)
      unfolding arguments nodes_from provided_of
      split library void bs rest =
          let k : i < length ps = omega (arith, long) in
          let z : count - i ≡ suc (count - suc i) = omega arith in
          h.so library void bs rest ∙ rw (drop-cons ps i (param 0 0) k, z, (one library void bs).step rest) refl

      pub more-done : {v : Used} → r ≡ Ok (tt, v) → SoFar (i + 1) d'' m'' v
      unfolding stepped with_answer
      more-done o =
          let b : args + (i + 1) ≡ args + i + 1 = omega arith in
          record { within = omega arith; so = λ library void bs rest. split library void bs rest ∙ rw (o, b, add-one i) refl }

      pub done-stops : {e : Refusal} {q : Step Done} → r ≡ Err e → IsErrAnd q (λ y. y ≡ e) → Leaves texts (λ c. arguments c n call_name false ps (given_from image args count)) s t d m u d'' m'' q
      unfolding stepped with_answer
      done-stops {e} {q} o k = record { step = λ library void bs. record { step = λ rest. split library void bs rest ∙ rw (o, passed q k) refl } }

-- ── The call ──

pub length-given : (image : List ℕ) (k at : ℕ) → length (given_from image at k) ≡ k
unfolding nodes_from provided_of
length-given image zero at = refl
length-given image (suc k) at = ap suc (length-given image k (at + 1))

module _ (texts : Texts) (n slot token : ℕ) (call_name : List ℕ) (fun : Signature) (image : List ℕ) (args count : ℕ) (s t d m : List ℕ) (u : Used) where
  -- the check of the call
  abbrev Checked : (s' d' m' : List ℕ) → Step Answer → Type 0
  Checked s' d' m' q = (library : List Package) (void : ℕ)
      → Steps (check_call_args (ctx texts library void) n slot token call_name (as_plain fun) (given_from image args count)) s t d m u s' t d' m' q

  module _ {required ret : ℕ} (en : required ≡ length fun.params) (er : ret ≡ fun.ret) {d' m' : List ℕ} {r : Step Done} where
    -- another number of arguments
    module _ (differ : count ≡ required → ⊥) (p : Steps (report n (argument_count token call_name required count)) s t d m u s t d' m' r) where
      pub miscounted : {v : Used} {s' : List ℕ} {q : Step Answer} → r ≡ Ok (tt, v) → ((t d m : List ℕ) → Steps (set_known slot ret) s t d m v s' t d m q) → Checked s' d' m' q
      unfolding check_call_args when
      miscounted {v} o k = λ library void. rw (length-given image count args, ← en, ne_eqb count required differ, ← er) (on-ok (λ _. set_known slot ret) p o (k t d' m'))

      pub miscounted-full : {e : Refusal} {q : Step Answer} → r ≡ Err e → IsErrAnd q (λ y. y ≡ e) → Checked s d' m' q
      unfolding check_call_args when
      miscounted-full o k = λ library void. rw (length-given image count args, ← en, ne_eqb count required differ, ← er) (on-err (λ _. set_known slot ret) p o k)

    -- each argument, and then the return type
    module _ (same : count ≡ required) (a : Leaves texts (λ c. arguments c n call_name false fun.params (given_from image args count)) s t d m u d' m' r) where
      pub counted : {v : Used} {s' : List ℕ} {q : Step Answer} → r ≡ Ok (tt, v) → ((t d m : List ℕ) → Steps (set_known slot ret) s t d m v s' t d m q) → Checked s' d' m' q
      unfolding check_call_args returned when with_answer
      counted {v} o k = λ library void.
          rw (length-given image count args, ← en, eq-eqb count required same, ← er) (on-ok _ (a.step library void []) {a = []} {u₁ = v} (rw o refl) (k t d' m'))

      pub counted-stops : {e : Refusal} {q : Step Answer} → r ≡ Err e → IsErrAnd q (λ y. y ≡ e) → Checked s d' m' q
      unfolding check_call_args when with_answer
      counted-stops {e} o k = λ library void. rw (length-given image count args, ← en, eq-eqb count required same) (on-err _ (a.step library void []) {e = e} (rw o refl) k)
