-- "a block has its own frame", "a function body sees only its arguments": the names in scope are taken back at its end. Definitions and
-- laws. Assumes nothing.
use Rattle.std.specs.Prelude.{ℕ, ◌+◌, ◌*◌, ◌≤◌, ◌≡◌, List, take, Ok, Err}
use Rattle.std.proofs.Math.Path.{refl, ap}
use Rattle.std.proofs.Common.{sym, ◌∙◌, arith}
use Rattle.tok.specs.Step.{ok, next}
use Rattle.rules.specs.declared.Answer.{Answer}
use Rattle.rules.specs.World.{Walk, with_env}
use Rattle.rules.specs.Steps.{framed, apart}
use Rattle.state.specs.Store.{env_up}
use Rattle.visit.specs.declared.State.{State}
use Rattle.visit.specs.Whole.{Lent, Visit, whole, visited}
use Rattle.visit.specs.Within.{top, Within, Keeps, goes, stops, Visits}
use Rattle.visit.specs.StoreLaws.{env-front}

-- the state with the names in scope of one before
abbrev pub left_of : (st before : State) → State
left_of st before = record { used = st.used; names = before.names; held = st.held; packages = st.packages; functions = st.functions }

unfoldable pub leave_of : {A : Type 0} → Visit A → (before : State) → Visit A
leave_of (Ok (a, st)) before = Ok (a, left_of st before)
leave_of (Err e) before = Err e

-- the names outside are hidden: a new first name, and none yet
abbrev pub inner_of : State → State
inner_of st = record { used = st.used; names = record { base = st.names.base + st.names.depth; depth = 0 }; held = st.held; packages = st.packages; functions = st.functions }

-- The old names are there again.
module _ {r w : ℕ} {st st' : State} {b b' : Lent} where
  back-names : (library : List ℕ) → Within r w st b st' b' → with_env (whole library st' b') (env_up b.scratch st.names.base st.names.depth) ≡ whole library (left_of st' st) b'
  back-names library p =
      let e : 2 * (st.names.base + st.names.depth) ≤ top st = omega arith in
      ap (λ l. with_env (whole library st' b') l) (sym (env-front (top st) b.scratch b'.scratch p.names st.names.base st.names.depth e))

  back-within : Within r w st b st' b' → Within r w st b (left_of st' st) b'
  back-within p = record {
    base = refl;
    deeper = omega arith;
    taken = omega (arith, p.taken, p.base, p.deeper);
    written = p.written;
    names = p.names;
    held = p.held;
    packages = p.packages;
    scratch = p.scratch;
    functions = p.functions;
  }

module _ (library : List ℕ) {r w : ℕ} {st : State} {b b' : Lent} where
  back_step : {A : Type 0} {v : Visit A} → Keeps r w st b b' v
      → next (visited library b' v) (λ a t. ok a (with_env t (env_up b.scratch st.names.base st.names.depth))) ≡ visited library b' (leave_of v st)
  unfolding visited leave_of
  back_step (goes {a = a} p) = ap (ok a) (back-names library p)
  back_step stops = refl

back-keeps : {A : Type 0} {r w : ℕ} {st : State} {b b' : Lent} {v : Visit A} → Keeps r w st b b' v → Keeps r w st b b' (leave_of v st)
unfolding leave_of
back-keeps (goes p) = goes (back-within p)
back-keeps stops = stops

-- A block's frame.
pub framed-visits : {m : Walk Answer} {r w : ℕ} {library : List ℕ} {st : State} {b b' : Lent} {v : Visit Answer} → Visits m r w library st b b' v
    → Visits (framed m) r w library st b b' (leave_of v st)
unfolding framed
framed-visits {library = library} {st = st} {b = b} x = record {
  step = ap (λ z. next z (λ a t. ok a (with_env t (env_up b.scratch st.names.base st.names.depth)))) x.step ∙ back_step library x.keeps;
  keeps = back-keeps x.keeps;
}

-- A function's body, from the state without the names outside.
module _ (st : State) {r w : ℕ} {st' : State} {b b' : Lent} (p : Within r w (inner_of st) b st' b') where
  names-kept : take (top st) b'.scratch ≡ take (top st) b.scratch
  names-kept =
      let e : 2 * (st.names.base + st.names.depth + 0) ≡ top st = omega arith in
      rw e at p.names

  pub outer_within : Within r w st b (left_of st' st) b'
  outer_within = record {
    base = refl;
    deeper = omega arith;
    taken = omega (arith, p.taken, p.base);
    written = p.written;
    names = names-kept;
    held = p.held;
    packages = p.packages;
    scratch = p.scratch;
    functions = p.functions;
  }

  pub outer_names : (library : List ℕ) → with_env (whole library st' b') (env_up b.scratch st.names.base st.names.depth) ≡ whole library (left_of st' st) b'
  outer_names library =
      let e : 2 * (st.names.base + st.names.depth) ≤ top st = omega arith in
      ap (λ l. with_env (whole library st' b') l) (sym (env-front (top st) b.scratch b'.scratch names-kept st.names.base st.names.depth e))

outer_step : {A : Type 0} (library : List ℕ) (st : State) {r w : ℕ} {b b' : Lent} {v : Visit A} → Keeps r w (inner_of st) b b' v
    → next (visited library b' v) (λ a t. ok a (with_env t (env_up b.scratch st.names.base st.names.depth))) ≡ visited library b' (leave_of v st)
unfolding visited leave_of
outer_step library st (goes {a = a} p) = ap (ok a) (outer_names st p library)
outer_step library st stops = refl

outer_keeps : {A : Type 0} (st : State) {r w : ℕ} {b b' : Lent} {v : Visit A} → Keeps r w (inner_of st) b b' v → Keeps r w st b b' (leave_of v st)
unfolding leave_of
outer_keeps st (goes p) = goes (outer_within st p)
outer_keeps st stops = stops

pub apart-visits : (st : State) {m : Walk Answer} {r w : ℕ} {library : List ℕ} {b b' : Lent} {v : Visit Answer} → Visits m r w library (inner_of st) b b' v
    → Visits (apart m) r w library st b b' (leave_of v st)
unfolding apart framed env_up
apart-visits st {library = library} {b = b} x = record {
  step = ap (λ z. next z (λ a t. ok a (with_env t (env_up b.scratch st.names.base st.names.depth)))) x.step ∙ outer_step library st x.keeps;
  keeps = outer_keeps st x.keeps;
}
