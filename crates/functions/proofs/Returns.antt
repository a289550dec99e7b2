-- Each return of the functions, from what the callees answered. By rewriting. Assumes nothing.
use Rattle.std.specs.Prelude.{Some, None, Option as Found, Ok, Err}
use Rattle.std.specs.Result.{IsErrAnd}
use Prim.Native.Nat.{ℕ, ◌+◌, ◌*◌, ◌^◌, ◌≤◌, ◌<◌}
use mathlib.Core.Path.{◌≡◌, refl, sym, ap, ◌∙◌}
use mathlib.Core.Bool.{Bool, true, false}
use mathlib.Core.Option.{Option, none}
use mathlib.Core.List.{List, []}
use native.Mathlib.Omega.{arith}
use lib.ListN.{length}
use Rattle.tok.specs.Text.{Texts, name_bytes}
use Rattle.tok.specs.Step.{return, ◌>>◌}
use Rattle.ptype.specs.Add.{buffer, write, append}
use Rattle.err.specs.declared.Counts.{Counts}
use Rattle.err.specs.Message.{defined_already}
use Rattle.err.specs.Report.{Reports}
use Rattle.library.specs.Package.{Package, Signature, Param, find_function, params_from}
use Rattle.add.specs.Answer.{Added, result_of}
use Rattle.add.specs.WriteLaws.{length-write}
use Rattle.ast.specs.TypeExpr.{TypeExpr, type_of, type_token, args_from}
use Rattle.ast.specs.TypeFrom.{type_from}
use Rattle.rules.specs.declared.Answer.{Answer}
use Rattle.rules.specs.Steps.{Done, on_option, report, set_known, pairs_of, entry_of, enter, type_from_expr}
use Rattle.rules.specs.Rules.{fn_arguments, check_return}
use Rattle.state.specs.declared.Used.{Used}
use Rattle.state.specs.declared.Refusal.{Refusal}
use Rattle.state.specs.Adding.{added_of}
use Rattle.state.specs.Context.{ctx}
use Rattle.state.specs.Reporting.{told_of, reports, passed, on-ok, on-err}
use Rattle.state.specs.Signatures.{entries_end, own_in}
use Rattle.state.specs.World.{More, no_more, Step, stepped, with_answer, Steps}
use Rattle.scope.specs.Found.{own_of}
use Rattle.visit.specs.declared.State.{State}
use Rattle.visit.specs.Whole.{Lent, Visit, lent, rest_of, whole, visited}
use Rattle.visit.specs.Within.{Within, Keeps, goes, stops, Visits}
use Rattle.visit.specs.Free.{free-top}
use Rattle.visit.specs.Plain.{visit_of, within-plain, steps-visits}
use Rattle.visit.specs.StoreLaws.{length-entry, own-more, ends_more}
use Rattle.parameters.specs.Typing.{type-steps}
use Rattle.parameters.specs.Arguments.{Argues}
use Rattle.functions.specs.Defined.{is_new, fn_begin, fn_end}
use Rattle.functions.specs.Entering.{CopyRoom, EntryRoom, FnReady, entered_with, ends-many, length-params}

-- ── A name that was met ──

module _ (T : Texts) (n name : ℕ) (st : State) (f : List ℕ) (own : Found ℕ) (eo : own_of f own ≡ find_function T (name_bytes T name) (own_in f st.functions)) where
  chosen : (q : Option Signature) → own_of f own ≡ q → (ls : List Package) (v : ℕ) (words s t d m e : List ℕ) (o : More)
      → is_new (ctx T ls v) n name (whole words st (lent s f t d m e o)) ≡ on_option q (return true) (λ _. report n (defined_already name (name_bytes T name)) >> return false)
      (whole words st (lent s f t d m e o))
  unfolding is_new
  chosen q eq ls v words s t d m e o =
      ap (λ x. on_option x (return true) (λ _. report n (defined_already name (name_bytes T name)) >> return false) (whole words st (lent s f t d m e o))) (sym eo ∙ eq)

  pub name_new : own ≡ None → (ls : List Package) (v : ℕ) (words s t d m e : List ℕ) (o : More)
      → Visits (is_new (ctx T ls v) n name) 0 0 words st (lent s f t d m e o) (lent s f t d m e o) (visit_of st (Ok (true, st.used)))
  unfolding on_option visit_of visited
  name_new eq ls v words s t d m e o = record { step = chosen none (ap (λ x. own_of f x) eq) ls v words s t d m e o; keeps = goes (within-plain st st.used s t d m s t d m f e o) }

  pub name-met : {at : ℕ} {d m d' m' : List ℕ} {q : Found Counts} {r : Step Bool} → own ≡ Some at → Reports (defined_already name (name_bytes T name)) d m st.used.told d' m' q
      → r ≡ told_of n st.used q false
      → (ls : List Package) (v : ℕ) (words s t e : List ℕ) (o : More) → Visits (is_new (ctx T ls v) n name) 0 0 words st (lent s f t d m e o) (lent s f t d' m' e o) (visit_of st r)
  unfolding on_option
  name-met {d = d} {m} eq p er ls v words s t e o =
      let y = steps-visits {st = st} (reports n {s = s} {t = t} p false) words f e o in
      rw er (record { step = chosen _ (ap (λ x. own_of f x) eq) ls v words s t d m e o ∙ y.step; keeps = y.keeps })

-- ── Pairs copied ──

pub copied : (f l : List ℕ) (at from : ℕ) {f' : List ℕ} {k count : ℕ} → k ≤ count → count ≤ k → f' ≡ write f at (pairs_of (params_from l from k))
    → f' ≡ write f at (pairs_of (params_from l from count))
copied f l at from {k = k} {count} h m e =
    let z : count ≡ k = omega arith in
    rw z e

pub pairs-room : (more : List ℕ) {f f' : List ℕ} {entries from count at : ℕ} → EntryRoom f entries from count → at ≡ entries_end f 0 0 entries → f' ≡ write f at more → CopyRoom f' (at + 2) from count
pairs-room more {f} {at = at} h ea ef = record { room = rw ef (omega (arith, length-write f at more, h.room)); low = h.low }

-- ── Before the body ──

went : {A : Type 0} {a : A} {r w : ℕ} {st st' : State} {b b' : Lent} → Keeps r w st b b' (Ok (a, st')) → Within r w st b st' b'
went (goes x) = x

module _ {image places f e : List ℕ} {st : State} (n slot name ret at count : ℕ) (h : FnReady image places st f e slot ret at count)
    {s t s₁ t₁ e₁ : List ℕ} (bound : Visit Done)
    (p : (T : Texts) (ls : List Package) (v : ℕ) (words f d m : List ℕ) (o : More)
    → Argues (fn_arguments (ctx T ls v) n slot (args_from image at count)) count words st (lent s f t d m e o) (lent s₁ f t₁ d m e₁ o) bound) where
  pub begin-stops : {x : Refusal} {q : Visit ℕ} → bound ≡ Err x → IsErrAnd q (λ y. y ≡ x) → (T : Texts) (ls : List Package) (v : ℕ) (words d m : List ℕ) (o : More)
      → Visits (fn_begin (ctx T ls v) n slot name (type_of image ret) (args_from image at count)) (2 * count) (3 + 2 * count) words st (lent s f t d m e o) (lent s₁ f t₁ d m e₁ o) q
  unfolding fn_begin with_answer visited
  begin-stops {q = q} eb k T ls v words d m o = rw (passed q k) (record { step = rw ((p T ls v words f d m o).visits.step, eb) refl; keeps = stops })

  module _ {done : Done} {inner : State} (eb : bound ≡ Ok (done, inner)) where
    -- what the arguments left
    left : Within (2 * count) 0 st (lent s f t [] [] e no_more) inner (lent s₁ f t₁ [] [] e₁ no_more)
    unfolding with_answer
    left = went (rw eb at (p (record { script = []; library = [] }) [] 0 [] f [] [] no_more).visits.keeps)

    pub entry-room : EntryRoom f inner.functions (2 * (st.names.base + st.names.depth)) count
    entry-room = record {
      room = omega (arith, h.rows.after, left.written);
      low = omega (arith, free-top h.arguments.free);
    }

    pub few-functions : length f * 4 < 9223372036854775808 → inner.functions < 2 ^ 62
    few-functions lt = omega (arith, ends-many f inner.functions 0, entry-room.room)

    module _ (added : Added) {t₂ : List ℕ} (y : (T : Texts) (n : ℕ) → type_from T n (type_of image ret) (buffer t₁ inner.used.types) ≡ result_of n added t₂) {r : Step ℕ}
        (er : r ≡ added_of n inner.used added) where
      typed : (T : Texts) (ls : List Package) (v : ℕ) (s d m : List ℕ) → Steps (type_from_expr (ctx T ls v) n (type_of image ret)) s t₁ d m inner.used s t₂ d m r
      typed T ls v s d m = rw er (type-steps _ added y T ls v n s d m)

      pub begin-refused : {x : Refusal} {q : Visit ℕ} → r ≡ Err x → IsErrAnd q (λ y. y ≡ x) → (T : Texts) (ls : List Package) (v : ℕ) (words d m : List ℕ) (o : More)
          → Visits (fn_begin (ctx T ls v) n slot name (type_of image ret) (args_from image at count)) (2 * count) (3 + 2 * count) words st (lent s f t d m e o) (lent s₁ f t₂ d m e₁ o) q
      unfolding fn_begin with_answer visited stepped
      begin-refused {q = q} ea k T ls v words d m o = rw (passed q k) (record {
        step = rw ((p T ls v words f d m o).visits.step, eb, (typed T ls v s₁ d m).step (rest_of words inner (lent s₁ f t₁ d m e₁ o)), ea) refl;
        keeps = stops;
      })

      pub begin-done : {w : ℕ} {u : Used} {f₂ : List ℕ} → r ≡ Ok (w, u)
          → f₂ ≡ write f (entries_end f 0 0 inner.functions) (entry_of name (params_from e₁ (2 * (st.names.base + st.names.depth)) count) w)
          → (T : Texts) (ls : List Package) (v : ℕ) (words d m : List ℕ) (o : More)
          → Visits (fn_begin (ctx T ls v) n slot name (type_of image ret) (args_from image at count)) (2 * count) (3 + 2 * count) words st (lent s f t d m e o) (lent s₁ f₂ t₂ d m e₁ o)
          (Ok (w, entered_with inner u))
      unfolding fn_begin with_answer visited stepped enter append
      begin-done {w} {u} {f₂} ea ef T ls v words d m o =
          let ps : List Param = params_from e₁ (2 * (st.names.base + st.names.depth)) count in
          let k : ℕ = inner.functions in
          let z : length ps ≡ count = length-params e₁ (2 * (st.names.base + st.names.depth)) count in
          let room : entries_end f 0 0 k + (3 + 2 * length ps) ≤ length f = rw z entry-room.room in
          let x : Within (2 * count) 0 st (lent s f t d m e o) inner (lent s₁ f t₁ d m e₁ o) = went (rw eb at (p T ls v words f d m o).visits.keeps) in
          record {
            step = rw (
              (p T ls v words f d m o).visits.step,
              eb,
              (typed T ls v s₁ d m).step (rest_of words inner (lent s₁ f t₁ d m e₁ o)),
              ea,
              ef,
              own-more f k name ps w room,
              ends_more f k name ps w room,
            ) refl;
            keeps = rw ef (goes {st' = entered_with inner u} (record {
              base = x.base;
              deeper = x.deeper;
              taken = x.taken;
              written = omega (arith, x.written, ends_more f k name ps w room, length-entry name ps w, z);
              names = x.names;
              held = x.held;
              packages = x.packages;
              scratch = x.scratch;
              functions = length-write f (entries_end f 0 0 k) (entry_of name ps w);
            }));
          }

-- ── After the body ──

module _ (T : Texts) {s t d m d₁ m₁ : List ℕ} {used : Used} (n slot name ret : ℕ) (x : TypeExpr) (computed : Answer) {token : ℕ} (et : token ≡ type_token x) {went : Step Done}
    (p : (ls : List Package) (v : ℕ) (e : TypeExpr) → type_token e ≡ token → Steps (check_return (ctx T ls v) n name e ret computed) s t d m used s t d₁ m₁ went) where
  pub end_refused : {y : Refusal} {r : Step Answer} → went ≡ Err y → IsErrAnd r (λ z. z ≡ y) → (ls : List Package) (v : ℕ)
      → Steps (fn_end (ctx T ls v) n slot name x ret computed) s t d m used s t d₁ m₁ r
  unfolding fn_end
  end_refused ew k ls v = on-err (λ _. set_known slot ret) (p ls v x (sym et)) ew k

  pub end-done : {done : Done} {after : Used} {s' : List ℕ} {r : Step Answer} → went ≡ Ok (done, after) → ((t d m : List ℕ) → Steps (set_known slot ret) s t d m after s' t d m r)
      → (ls : List Package) (v : ℕ) → Steps (fn_end (ctx T ls v) n slot name x ret computed) s t d m used s' t d₁ m₁ r
  unfolding fn_end
  end-done ew q ls v = on-ok (λ _. set_known slot ret) (p ls v x (sym et)) ew (q t d₁ m₁)
