-- Each return of the functions, from what the callees answered. By rewriting. Assumes nothing.
use Rattle.std.specs.Prelude.{ℕ, ◌+◌, ◌*◌, ◌^◌, ◌≡◌, List, [], ◌∷◌, Option as Found, Some, None, Ok, Err}
use Rattle.std.proofs.Common.{refl, sym, ap, ◌∙◌, arith}
use Rattle.std.specs.Result.{IsErrAnd}
use Rattle.tok.specs.Text.{Texts, name_bytes}
use Rattle.ptype.specs.Words.{void_word}
use Rattle.ptype.specs.Add.{write}
use Rattle.err.specs.declared.Counts.{Counts}
use Rattle.err.specs.Message.{no_binding}
use Rattle.err.specs.Report.{Reports}
use Rattle.library.specs.Package.{Package}
use Rattle.rules.specs.declared.Answer.{Answer}
use Rattle.rules.specs.declared.Answer.TheVariants as A
use Rattle.rules.specs.Steps.{on_option, set_known, env_get, env_insert}
use Rattle.rules.specs.Rules.{ident, let_binding}
use Rattle.state.specs.declared.Refusal.{Refusal}
use Rattle.state.specs.declared.Used.{Used}
use Rattle.state.specs.Context.{ctx}
use Rattle.state.specs.Reporting.{told_of, poisons-step, passed}
use Rattle.state.specs.Store.{env_up}
use Rattle.state.specs.World.{More, Step, with_answer, Steps}
use Rattle.scope.specs.declared.Binding.{Binding}
use Rattle.scope.specs.declared.Binding.TheVariants as B
use Rattle.scope.specs.Found.{bound_of, binding_of}
use Rattle.visit.specs.declared.State.{State}
use Rattle.visit.specs.Whole.{Visit, lent, visited}
use Rattle.visit.specs.Within.{top, Within, within_same, within-from, goes, Visits}
use Rattle.visit.specs.StoreLaws.{env-bound, env-unbound}
use Rattle.visit.specs.Plain.{with_used, visit_of, steps-visits}
use Rattle.visiting.specs.Then.{visits-stop, visits-then}
use Rattle.names.specs.Bound.{local_words, one_more, Bindable, let_end, fits, packages-kept, within-bound}

-- ── Node::Ident ──

module _ (T : Texts) (n slot name : ℕ) (found : Found Binding) {st : State} {e : List ℕ} (is : binding_of found ≡ env_get T (name_bytes T name) (env_up e st.names.base st.names.depth)) where
  pub ident-bound : {w : ℕ} {s s' : List ℕ} {r : Step Answer} {x : Visit Answer} → found ≡ Some (B.Bound w)
      → ((t d m : List ℕ) → Steps (set_known slot w) s t d m st.used s' t d m r) → x ≡ visit_of st r
      → (ls : List Package) (v : ℕ) (words f t d m : List ℕ) (o : More) → Visits (ident (ctx T ls v) n slot name) 0 0 words st (lent s f t d m e o) (lent s' f t d m e o) x
  unfolding ident on_option
  ident-bound eb p ex ls v words f t d m o =
      let known = steps-visits (p t d m) words f e o in
      rw ex (record { step = rw (sym is ∙ ap (λ b. binding_of b) eb) known.step; keeps = known.keeps })

  pub ident-poisoned : found ≡ Some B.Poisoned
      → (ls : List Package) (v : ℕ) (words s f t d m : List ℕ) (o : More) → Visits (ident (ctx T ls v) n slot name) 0 0 words st (lent s f t d m e o) (lent s f t d m e o) (Ok (A.Poison, st))
  unfolding ident on_option visited
  ident-poisoned eb ls v words s f t d m o = record { step = rw (sym is ∙ ap (λ b. binding_of b) eb) refl; keeps = goes (within_same st (lent s f t d m e o)) }

  pub ident-none : {d m d' m' : List ℕ} {q : Found Counts} {r : Step Answer} {x : Visit Answer} → found ≡ None → Reports (no_binding name (name_bytes T name)) d m st.used.told d' m' q
      → r ≡ told_of n st.used q A.Poison → x ≡ visit_of st r
      → (ls : List Package) (v : ℕ) (words s f t : List ℕ) (o : More) → Visits (ident (ctx T ls v) n slot name) 0 0 words st (lent s f t d m e o) (lent s f t d' m' e o) x
  unfolding ident on_option
  ident-none eb p er ex ls v words s f t o =
      let told = steps-visits (poisons-step n p) words f e o in
      rw (ex, er) (record { step = rw (sym is ∙ ap (λ b. binding_of b) eb) told.step; keeps = told.keeps })

-- ── The end of Node::Let ──

-- a name is bound
module _ {st : State} {e : List ℕ} {name : ℕ} (h : Bindable st e name) (u : Used) (words s f t d m : List ℕ) (o : More) where
  within : (x w : ℕ) → Within 2 0 (with_used st u) (lent s f t d m e o) (one_more st u) (lent s f t d m (write e (top st) (x ∷ w ∷ [])) o)
  within x w = within-from (within-bound h.free x w u s f t d m s t d m o) (omega arith) (omega arith)

  binds : (bound : Binding) → Visits (env_insert name (bound_of bound)) 2 0 words (with_used st u) (lent s f t d m e o) (lent s f t d m (write e (top st) (local_words name bound)) o)
      (Ok (tt, one_more st u))
  unfolding env_insert local_words visited
  binds (B.Bound w) = record { step = rw (packages-kept h.free name w words, env-bound e st.names.base st.names.depth name w h.kind (fits h.free)) refl; keeps = goes (within name w) }
  binds B.Poisoned = record {
    step = rw (packages-kept h.free (name + 2 ^ 28) 0 words, env-unbound e st.names.base st.names.depth name 0 h.kind (fits h.free)) refl;
    keeps = goes (within (name + 2 ^ 28) 0);
  }

module _ (n slot name : ℕ) (answer : Answer) {st : State} {e : List ℕ} {s d m d' m' : List ℕ} {r : Step Binding}
    (p : (t : List ℕ) → Steps (let_binding n name answer) s t d m st.used s t d' m' (with_answer (λ b. bound_of b) r)) where
  pub let_refused : {x : Refusal} {q : Visit Answer} → r ≡ Err x → IsErrAnd q (λ y. y ≡ x)
      → (words f t : List ℕ) (o : More) → Visits (let_end n slot name answer) 2 0 words st (lent s f t d m e o) (lent s f t d' m' e o) q
  unfolding let_end with_answer visit_of
  let_refused {q = q} er eq words f t o = rw (passed q eq) (visits-stop _ (steps-visits (rw er at (p t)) words f e o) 2 0)

  pub let_bound : {bound : Binding} {u : Used} {e' s' : List ℕ} {st' : State} {w : Step Answer} {q : Visit Answer} → Bindable st e name → r ≡ Ok (bound, u)
      → e' ≡ write e (2 * (st.names.base + st.names.depth)) (local_words name bound) → st' ≡ one_more st u
      → ((t d m : List ℕ) → Steps (set_known slot void_word) s t d m st'.used s' t d m w) → q ≡ visit_of st' w
      → (words f t : List ℕ) (o : More) → Visits (let_end n slot name answer) 2 0 words st (lent s f t d m e o) (lent s' f t d' m' e' o) q
  unfolding let_end with_answer visit_of
  let_bound {bound} {u} {e'} h er ee et known eq words f t o =
      let from = steps-visits (rw er at (p t)) words f e o in
      let bind = binds h u words s f t d' m' o bound in
      let void = steps-visits {st = one_more st u} (rw et at (known t d' m')) words f e' o in
      rw (eq, et, ee) (visits-then _ from (visits-then _ bind (rw ee at void)))
