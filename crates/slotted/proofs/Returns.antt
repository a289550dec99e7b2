-- The steps of one argument of a function with slots, one law for each way out of the code. Assumes nothing.
use Rattle.std.specs.Prelude.{ℕ, ◌≤◌, ◌≡◌, Bool, true, false, List, Option as Found, Ok, Err, length, get_or, ⊤}
use Rattle.std.specs.Result.{IsErrAnd}
use Rattle.std.proofs.Math.Path.{refl}
use Rattle.std.proofs.Math.Option.{none, some}
use Rattle.std.proofs.Common.{sym, ap, ◌∙◌}
use borrow.Author.Tests.{le-leb}
use Rattle.tok.specs.Text.{Texts, name_bytes}
use Rattle.tok.specs.Step.{when}
use Rattle.tok.specs.declared.Span.{Span}
use Rattle.ptype.specs.Ty.{contains_slot}
use Rattle.ptype.specs.Words.{ty_of}
use Rattle.ptype.specs.Add.{buffer}
use Rattle.ptype.specs.Slots.{Binding, Bound, bind_slots, apply_slot_binding}
use Rattle.ptype.proofs.GrowLaws.{ty_of_grow}
use Rattle.add.specs.Answer.{Added, result_of}
use Rattle.slots.specs.declared.BindError.{BindError}
use Rattle.slots.specs.declared.BindError.TheVariants.{Conflict, Void, NoRoom}
use Rattle.slots.specs.declared.Bindings.{Bindings}
use Rattle.slots.specs.Bindings.{Bind, pair_room, bindings_of, bindings_after, fitted, bound_of, Binds}
use Rattle.apply.specs.Apply.{apply_word}
use Rattle.apply.specs.TreeLaws.{apply-tree, apply_grows}
use Rattle.err.specs.declared.Counts.{Counts}
use Rattle.err.specs.Message.{slot_conflict, slot_void}
use Rattle.err.specs.Report.{Reports}
use Rattle.library.specs.Package.{param}
use Rattle.rules.specs.Steps.{Done, ty, tree, on_types}
use Rattle.rules.specs.Calls.{after_binding, slotted_argument, argument}
use Rattle.state.specs.declared.Used.{Used}
use Rattle.state.specs.declared.Refusal.{Refusal}
use Rattle.state.specs.World.{Step, stepped, with_answer, Steps}
use Rattle.state.specs.Reporting.{told_of, told_with, reports, answers-steps, on-ok, on-err-with}
use Rattle.state.specs.Adding.{added_of, added-step, added-back}
use Rattle.arguments.specs.Argument.{given, unchecked, Compares}
use Rattle.slotted.specs.Argues.{AfterBinding, Argues}
use Rattle.slotted.specs.Meant.{Meant, ArgumentMeant}

some_is : {A : Type 0} {a b : A} → some a ≡ some b → a ≡ b
some_is e = cc

-- ── The slots applied ──

-- the rules' step, by the tree
pub applying : (texts : Texts) (n w : ℕ) (bs : List Binding) (s t d m : List ℕ) (u : Used) → Meant texts t u.types w → (added : Added) {t' : List ℕ}
    → ((k : ℕ) → apply_word texts k bs w (buffer t u.types) ≡ result_of k added t') → {r : Step ℕ} → r ≡ added_of n u added
    → Steps (on_types (apply_slot_binding texts n bs (ty_of texts t w) w)) s t d m u s t' d m r
applying texts n w bs s t d m u mw added e er =
    let tree = sym (apply-tree texts n bs mw.means) ∙ e n in
    rw er (added-step n (apply_slot_binding texts n bs (ty_of texts t w) w) added tree)

module _ {texts : Texts} {n : ℕ} {call_name : List ℕ} {name expected : ℕ} {span : Span} {provided : ℕ} {t d m : List ℕ} {u : Used} {bs : List Binding}
    (me : Meant texts t u.types expected) (mp : Meant texts t u.types provided) (added : Added) (t' : List ℕ)
    (e : (k : ℕ) → apply_word texts k bs expected (buffer t u.types) ≡ result_of k added t') {r : Step ℕ} (er : r ≡ added_of n u added) where
  -- the type is not added
  pub applied_refused : {f : Refusal} {x : Step ⊤} → r ≡ Err f → IsErrAnd x (λ y. y ≡ f) → AfterBinding texts n call_name name expected span provided t d m u bs (Ok tt) t' d m x
  unfolding after_binding bindings_after
  applied_refused {f} {x} p k = record { step = λ b eb library void slot s. rw (← some_is eb) (on-err-with _ (applying texts n expected bs s t d m u me added e er) (λ _. bs) x p k) }

  module _ {w : ℕ} {v : Used} (p : r ≡ Ok (w, v)) {d' m' : List ℕ} {c : Step Done} (q : Compares texts n call_name name span (ty_of texts t' w) (ty_of texts t' provided) t' d m v d' m' c) where
    pub applied_compared : AfterBinding texts n call_name name expected span provided t d m u bs (Ok tt) t' d' m' c
    unfolding after_binding tree bindings_after with_answer
    applied_compared =
        let is = e n ∙ ap (λ a. result_of n a t') (added-back n u added (sym er ∙ p)) in
        let grew = apply_grows texts n bs expected (buffer t u.types) is in
        -- the provided type is what it was
        let stays : ty_of texts t provided ≡ ty_of texts t' provided = ty_of_grow grew.front texts (mp.means.within 33) in
        record {
          step = λ b eb library void slot s.
              let compares = answers-steps bs (q.goes library void s expected slot) in
              rw (← some_is eb) (on-ok _ (applying texts n expected bs s t d m u me added e er) p (record { step = λ rest. rw stays (compares.step rest) }));
        }

-- ── What a binding leads to ──

module _ {texts : Texts} {n : ℕ} {call_name : List ℕ} {name expected : ℕ} {span : Span} {provided : ℕ} {t d m : List ℕ} {u : Used} {bs : List Binding} {b : Bind} {e : BindError}
    (p : b ≡ Err e) where
  pub after-conflict : {slot existing new : ℕ} {d' m' : List ℕ} {reported : Found Counts} {r : Step ⊤} → e ≡ Conflict slot existing new
      → Reports (slot_conflict span call_name (name_bytes texts slot) (ty_of texts t existing) (ty_of texts t new)) d m u.told d' m' reported → r ≡ told_of n u reported tt
      → AfterBinding texts n call_name name expected span provided t d m u bs b t d' m' r
  unfolding after_binding tree bindings_after
  after-conflict {reported = reported} h q w = record {
    step = λ x ex library void arg s.
        rw (← some_is (sym (ap (λ a. bound_of texts a bs) (p ∙ ap Err h)) ∙ ex), w, told_with n u reported (λ _. bs) (tt {0}))
        (record { step = (reports n {s = s} {t = t} {u = u} q bs).step });
  }

  pub after-void : {slot : ℕ} {d' m' : List ℕ} {reported : Found Counts} {r : Step ⊤} → e ≡ Void slot
      → Reports (slot_void span call_name (name_bytes texts slot)) d m u.told d' m' reported → r ≡ told_of n u reported tt
      → AfterBinding texts n call_name name expected span provided t d m u bs b t d' m' r
  unfolding after_binding bindings_after
  after-void {reported = reported} h q w = record {
    step = λ x ex library void arg s.
        rw (← some_is (sym (ap (λ a. bound_of texts a bs) (p ∙ ap Err h)) ∙ ex), w, told_with n u reported (λ _. bs) (tt {0}))
        (reports n {s = s} {t = t} {u = u} q bs);
  }

  -- no binding that has room answers so
  pub after_none : {d' m' : List ℕ} {r : Step ⊤} → e ≡ NoRoom → AfterBinding texts n call_name name expected span provided t d m u bs b t d' m' r
  after_none h = record { step = λ x ex library void arg s. absurd (none-some (sym (ap (λ a. bound_of texts a bs) (p ∙ ap Err h)) ∙ ex)) }
    where
      none-some : {x : Bound} → none ≡ some x → ⊥
      none-some q = cc

-- the bindings have room
fits : (room : ℕ) (b : Bound) → length (bindings_after b) ≤ room → fitted room b ≡ some b
unfolding fitted
fits room b h = rw (le-leb (length (bindings_after b)) room h) refl

-- ── An argument with slots ──

module _ (texts : Texts) (n : ℕ) (call_name : List ℕ) (name expected slot : ℕ) (span : Span) (s t d m : List ℕ) (u : Used) (b : Bindings)
    {w : ℕ} (ew : w ≡ get_or s slot 0) {q : Bool} (eq : (t' : Texts) → q ≡ unchecked t' t w) where
  pub slotted-unchecked : q ≡ true → Argues texts (λ c. argument c n call_name true (param name expected) (given slot span)) s t d m u b t d m b (Ok (tt, u))
  unfolding argument ty tree when stepped with_answer
  slotted-unchecked y = record { lent = refl; keeps = refl; step = λ library void. record { step = λ rest. rw (← ew, sym (eq texts) ∙ y) refl } }

  module _ (f : q ≡ false) {z : Bool} (ez : (t' : Texts) → z ≡ contains_slot (ty_of t' t w)) where
    pub slotted-slot : z ≡ true → Argues texts (λ c. argument c n call_name true (param name expected) (given slot span)) s t d m u b t d m b (Ok (tt, u))
    unfolding argument slotted_argument ty tree when stepped with_answer
    slotted-slot y = record { lent = refl; keeps = refl; step = λ library void. record { step = λ rest. rw (← ew, sym (eq texts) ∙ f, sym (ez texts) ∙ y) refl } }

    module _ {x : Bind} {b' : Bindings} (h : ArgumentMeant texts s t u.types expected slot b) (binds : Binds texts (bind_slots texts t (ty_of texts t expected) w) b x b') where
      abbrev bound : Bound
      bound = bind_slots texts t (ty_of texts t expected) w (bindings_of texts b)

      is : bound_of texts x (bindings_of texts b') ≡ some bound
      is =
          let room = rw (← ew) at h.room in
          sym binds.is ∙ fits (pair_room b.pairs.now) bound room

      pub slotted-bound : {t' d' m' : List ℕ} {r : Step ⊤} → z ≡ false → AfterBinding texts n call_name name expected span w t d m u (bindings_of texts b') x t' d' m' r
          → Argues texts (λ c. argument c n call_name true (param name expected) (given slot span)) s t d m u b t' d' m' b' r
      unfolding argument slotted_argument ty tree when
      slotted-bound g after = record {
        lent = binds.lent;
        keeps = binds.keeps;
        step = λ library void.
            let steps = after.step bound is library void slot s in
            record { step = λ rest. rw (← ew, sym (eq texts) ∙ f, sym (ez texts) ∙ g) (steps.step rest) };
      }
