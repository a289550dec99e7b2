-- A judged tree runs clean: no run of it is stuck, and every value fits its node's slot type. By induction on the tree, and on how deep calls
-- are nested. Assumes nothing.
use Prim.Native.Nat.{ℕ, zero, suc, ◌+◌}
use Rattle.std.specs.Prelude.{◌≡◌, Bool}
use Rattle.std.proofs.Math.Path.{refl}
use Rattle.std.proofs.Common.{sym, ap, ◌∙◌, true≢false, eq-eqb}
use Rattle.std.proofs.Math.Option.{Option, some}
use mathlib.Core.List.{List, []}
use Rattle.std.proofs.Math.ListN.{length, length-map}
use Rattle.tok.specs.Text.{Texts, name_bytes}
use Rattle.tok.specs.Step.{Result, ok, next}
use Rattle.ptype.specs.Ty.{Ty, rec, void_ty, bool_ty}
use Rattle.slots.specs.Substitute.{substitute}
use Rattle.ast.specs.Node.{Node, Nodes, Cases, Values, slot_of}
use Rattle.ast.specs.Node.{Atom, Ident, Bin, Unary, Let, Fn, Match, Call, Field, Cast, Import, Extern, Record, Array, Absent, done, then, no_case, case, no_value, value}
use Rattle.runs.specs.Value.{Value, Members, Named, Fits, is_void, is_bool, is_array, is_object, MembersFit, no_member, one_member, FieldsFit, no_field', one_field, Fit, none_left, one_more, count}
use Rattle.rules.specs.Functions.{type_meant}
use Rattle.runs.specs.Declared.{Sig, external, Chosen, target_at, given_types}
use Rattle.runs.specs.Machine.{Open, State, Stopped, Run, Done, unboundName, missingField, question, counted, truth, field_in, or_halted, with_call}
use Rattle.runs.specs.Running.{cast_kind, call_own, apply, eval, block, rest, branch, eval_all, eval_values, body_within, root, roots, run_of}
use Rattle.runs.specs.Stands.{Place, statement, operand, LetMay, FnMay}
use Rattle.runs.specs.Stands as P
use Rattle.rules.specs.Promises.{Every}
use Rattle.runs.specs.Promise.{ValuesFit, NotStuck, Answers, halts, answers, HonestAt}
use Rattle.runs_laws.specs.Judged.{Known, CallOk, of_own, of_package, args_known, record_ty, after, Judged, JudgedBody, JudgedAll, JudgedCases, JudgedValues, JudgedRoots, Bodies}
use Rattle.runs_laws.specs.Judged as J
use Rattle.runs_laws.specs.Values.{EnvFits, none_yet, value_found, field_found, arguments-fit, fit_count}
use Rattle.runs_laws.specs.Logic.{Runs, went, out, r_next, r_map, r_when, Val, r_enter, r_gives, r_bind, r_found, r_scoped, r_within, r_literal, r_operate, r_unary, r_cast}

-- how many nodes a list has
unfoldable pub length_of : Nodes → ℕ
length_of done = 0
length_of (then x xs) = length_of xs + 1

fits_as : {v : Value} {x y : Ty} → x ≡ y → Fits v x → Fits v y
fits_as e f = rw e at f

-- members of one type, from values of types that are all that one
members-fit : (t : Texts) (type : ℕ → Ty) (table : List Chosen) {e : Ty} (ms : Nodes) {vs : Members} → Fit vs (given_types type ms) → J.Members t type table e ms → MembersFit vs e
unfolding given_types J.Members
members-fit t type table done none_left h = no_member
members-fit t type table (then x xs) (one_more f fs) h = one_member (fits_as h.0 f) (members-fit t type table xs fs h.1)

-- package functions are honest at every call of a table
abbrev pub Answering : List Chosen → Open → Type 0
Answering table o =
    (k slot origin position : ℕ) (sig : Sig) (given : List Ty) → target_at slot table ≡ some (external origin position sig given) → HonestAt sig given (o.answer k slot)

module _ (t : Texts) (type : ℕ → Ty) (table : List Chosen) where
  -- an operand leaves the names in scope
  pub operand_same : (x : Node) {ks : List Known} → Judged t type table x operand ks → after t type table x ks ≡ ks
  unfolding after Judged LetMay
  operand_same (Let n slot name r) h = absurd h.0
  operand_same (Atom n slot token k) h = refl
  operand_same (Ident n slot name) h = refl
  operand_same (Bin n slot token op l r) h = refl
  operand_same (Unary n slot token op r) h = refl
  operand_same (Fn n slot name ret args body) h = refl
  operand_same (Match n slot cs token d) h = refl
  operand_same (Call n slot target args) h = refl
  operand_same (Field n slot target name) h = refl
  operand_same (Cast n slot token l e) h = refl
  operand_same (Import n slot token paths) h = refl
  operand_same (Extern n slot token name fs) h = refl
  operand_same (Record n slot token fs) h = refl
  operand_same (Array n slot token ms) h = refl
  operand_same (Absent n) h = refl

  as_operand : (x : Node) {ks : List Known} {y : Ty} {r : Result State Stopped Value} → Judged t type table x operand ks
      → Runs type (Val type y (after t type table x ks)) r → Runs type (Val type y ks) r
  as_operand x h g = rw (operand_same x h) at g

  -- values in a row, and names in scope
  record Vals (ts : List Ty) (ks : List Known) (u : State) (vs : Members) : Type 0 where
    fit : Fit vs ts
    env : EnvFits u.env ks

  record Pairs (vs : Values) (ks : List Known) (u : State) (fs : Named) : Type 0 where
    fit : FieldsFit fs (record_ty t type table vs)
    env : EnvFits u.env ks

  r_truth : {ks : List Known} {s : State} {v : Value} → ValuesFit type s → EnvFits s.env ks → Fits v bool_ty → Runs type (λ u (b : Bool). EnvFits u.env ks) (truth v s)
  unfolding truth
  r_truth l e is_bool = went l e

  r_field : {ks : List Known} {s : State} {v : Value} {a x : Ty} (name : List ℕ) → ValuesFit type s → EnvFits s.env ks → Fits v a → J.FieldOk name a x
      → Runs type (Val type x ks) (field_in name v s)
  unfolding field_in
  r_field {ks} {s} {v} {a} {x} name l e f h = by (rw h.record' at f)
    where
      by : {v : Value} → Fits v (rec h.fields) → Runs type (Val type x ks) (field_in name v s)
      by (is_object fs) = r_map type (λ u w p. record { fits = p.0; env = p.1 }) (r_found type l e missingField (field_found name fs h.has))

  module _ (o : Open) (honest : Answering table o) (bodies : Bodies t type table) (body : Nodes → Run Value)
      (runs : (b : Nodes) (ks : List Known) (x : Ty) → JudgedBody t type table b ks void_ty x → (s : State) → ValuesFit type s → EnvFits s.env ks
      → Runs type (λ u v. Fits v x) (body b s)) where
    r_halted : {ks : List Known} {s : State} {x : Ty} {a : Option Value} → ValuesFit type s → EnvFits s.env ks → Answers x a → Runs type (Val type x ks) (or_halted a s)
    unfolding or_halted NotStuck
    r_halted l e halts = out tt l
    r_halted l e (answers f) = went l (record { fits = f; env = e })

    r_apply : {ks : List Known} {s : State} (n slot : ℕ) {vs : Members} {ts : List Ty} → ValuesFit type s → EnvFits s.env ks → Fit vs ts → CallOk t type table n slot ts
        → Runs type (Val type (type slot) ks) (apply o body slot vs (target_at slot table) s)
    unfolding apply call_own counted question HonestAt
    r_apply {ks} {s} n slot {vs} {ts} l e h (of_own {f = f} q g r) =
        let a = arguments-fit t type table f.args none_yet (rw g at h) in
        rw (q, a.is, r) (r_within type {s = with_call s}
        (record { fit = l.fit }) e a.item (body f.body) (runs f.body (args_known t type table [] f.args) (type_meant t f.ret) (bodies.each slot f q) _
        (record { fit = l.fit }) a.has))
    r_apply {ks} {s} n slot {vs} {ts} l e h (of_package {origin = og} {position = k} {sig = sig} q f g r) =
        rw (q, r) (r_when type _ _ (λ _. r_halted (record { fit = l.fit }) e (honest s.asked slot og k sig ts q f g vs h))
        (λ i. absurd (true≢false (sym (eq-eqb (count vs) (length sig.params) (fit_count h ∙ (ap length (sym g) ∙ length-map sig.params (substitute f)))) ∙ i))))

    mutual
      unfolding eval Judged slot_of after given_types record_ty LetMay FnMay

      pub r_eval : (x : Node) (p : Place) (ks : List Known) → (FnMay p → ⊥) → Judged t type table x p ks → {s : State} → ValuesFit type s → EnvFits s.env ks
          → Runs type (Val type (type (slot_of x)) (after t type table x ks)) (eval t o table body x s)
      r_eval (Atom n slot token k) p ks np h l e =
          r_next type _ (r_enter type l e n) (λ _ u l₁ e₁. r_next type _ (r_literal type l₁ e₁ o k (name_bytes t token) h.low h.high)
          (λ v w l₂ q. r_gives type l₂ q.env n slot (fits_as (sym h.is) q.fits)))
      r_eval (Ident n slot name) p ks np h l e =
          r_next type _ (r_enter type l e n) (λ _ u l₁ e₁. r_next type _ (r_found type l₁ e₁ unboundName (value_found t (name_bytes t name) e₁ h))
          (λ v w l₂ q. r_gives type l₂ q.1 n slot q.0))
      r_eval (Bin n slot token op a b) p ks np h l e =
          r_next type _ (r_enter type l e n) (λ _ u l₁ e₁.
          r_next type _ (as_operand a h.0 (r_eval a operand ks (λ z. z) h.0 l₁ e₁)) (λ v u₂ l₂ q.
          r_next type _ (as_operand b h.1 (r_eval b operand ks (λ z. z) h.1 l₂ q.env)) (λ w u₃ l₃ q₁.
          r_next type _ (r_operate type l₃ q₁.env o op q.fits q₁.fits h.2) (λ z u₄ l₄ q₂. r_gives type l₄ q₂.env n slot q₂.fits))))
      r_eval (Unary n slot token op a) p ks np h l e =
          r_next type _ (r_enter type l e n) (λ _ u l₁ e₁. r_next type _ (as_operand a h.0 (r_eval a operand ks (λ z. z) h.0 l₁ e₁)) (λ v u₂ l₂ q.
          r_next type _ (r_unary type l₂ q.env o op q.fits h.1) (λ z u₄ l₄ q₂. r_gives type l₄ q₂.env n slot q₂.fits)))
      r_eval (Let n slot name a) p ks np h l e =
          r_next type _ (r_enter type l e n) (λ _ u l₁ e₁. r_next type _ (as_operand a h.1 (r_eval a operand ks (λ z. z) h.1 l₁ e₁)) (λ v u₂ l₂ q.
          r_next type _ (r_bind type l₂ q.env name q.fits) (λ _ u₃ l₃ e₃. r_gives type l₃ e₃ n slot (rw h.2 is_void))))
      r_eval (Fn n slot name ret args b) p ks np h l e = absurd (np h.0)
      r_eval (Match n slot cs token d) p ks np h l e =
          r_next type _ (r_enter type l e n) (λ _ u l₁ e₁. r_next type _
          (r_branch cs ks (type slot) h.0 (block t o table body d) (λ s₂ l₂ e₂. r_block d ks (type slot) h.1 l₂ e₂) l₁ e₁)
          (λ v u₂ l₂ q. r_gives type l₂ q.env n slot q.fits))
      r_eval (Call n slot target args) p ks np h l e =
          r_next type _ (r_enter type l e n) (λ _ u l₁ e₁. r_next type _ (r_all args ks h.0 l₁ e₁) (λ vs u₂ l₂ q.
          r_next type _ (r_apply n slot l₂ q.env q.fit h.1) (λ v u₃ l₃ q₁. r_gives type l₃ q₁.env n slot q₁.fits)))
      r_eval (Field n slot a name) p ks np h l e =
          r_next type _ (r_enter type l e n) (λ _ u l₁ e₁. r_next type _ (as_operand a h.0 (r_eval a operand ks (λ z. z) h.0 l₁ e₁)) (λ v u₂ l₂ q.
          r_next type _ (r_field (name_bytes t name) l₂ q.env q.fits h.1) (λ z u₄ l₄ q₂. r_gives type l₄ q₂.env n slot q₂.fits)))
      r_eval (Cast n slot token a x) p ks np h l e =
          r_next type _ (r_enter type l e n) (λ _ u l₁ e₁. r_next type _ (as_operand a h.0 (r_eval a operand ks (λ z. z) h.0 l₁ e₁)) (λ v u₂ l₂ q.
          r_next type _ (r_cast type l₂ q.env o (cast_kind x) q.fits h.1) (λ z u₄ l₄ q₂. r_gives type l₄ q₂.env n slot q₂.fits)))
      r_eval (Import n slot token paths) p ks np h l e = r_next type _ (r_enter type l e n) (λ _ u l₁ e₁. r_gives type l₁ e₁ n slot (rw h is_void))
      r_eval (Extern n slot token name fs) p ks np h l e = r_next type _ (r_enter type l e n) (λ _ u l₁ e₁. r_gives type l₁ e₁ n slot (rw h is_void))
      r_eval (Record n slot token fs) p ks np h l e =
          r_next type _ (r_enter type l e n) (λ _ u l₁ e₁. r_next type _ (r_values fs ks h.0 l₁ e₁) (λ vs u₂ l₂ q. r_gives type l₂ q.env n slot (rw h.1 (is_object q.fit))))
      r_eval (Array n slot token ms) p ks np h l e =
          r_next type _ (r_enter type l e n) (λ _ u l₁ e₁. r_next type _ (r_all ms ks h.0 l₁ e₁) (λ vs u₂ l₂ q.
          r_gives type l₂ q.env n slot (rw h.1.is (is_array (members-fit t type table ms q.fit h.1.members)))))
      r_eval (Absent n) p ks np h l e = absurd h

      pub r_block : (xs : Nodes) (ks : List Known) (x : Ty) → JudgedBody t type table xs ks void_ty x → {s : State} → ValuesFit type s → EnvFits s.env ks
          → Runs type (Val type x ks) (block t o table body xs s)
      r_block done ks x h l e = went l (record { fits = fits_as h is_void; env = e })
      r_block (then y ys) ks x h l e =
          r_scoped type l e _ (r_next type _ (r_eval y statement ks (λ z. z) h.0 l e) (λ v u l₁ q. r_rest ys (after t type table y ks) (type (slot_of y)) x h.1 l₁ q.env q.fits))

      r_rest : (xs : Nodes) (ks : List Known) (last x : Ty) → JudgedBody t type table xs ks last x → {s : State} {v : Value} → ValuesFit type s → EnvFits s.env ks → Fits v last
          → Runs type (λ u v. Fits v x) (rest t o table body v xs s)
      r_rest done ks last x h l e f = went l (fits_as h f)
      r_rest (then y ys) ks last x h l e f = r_next type _ (r_eval y statement ks (λ z. z) h.0 l e)
          (λ v u l₁ q. r_rest ys (after t type table y ks) (type (slot_of y)) x h.1 l₁ q.env q.fits)

      r_branch : (cs : Cases) (ks : List Known) (x : Ty) → JudgedCases t type table cs ks x → (d : Run Value)
          → ((s : State) → ValuesFit type s → EnvFits s.env ks → Runs type (Val type x ks) (d s))
          → {s : State} → ValuesFit type s → EnvFits s.env ks → Runs type (Val type x ks) (branch t o table body cs d s)
      r_branch no_case ks x h d g l e = g _ l e
      r_branch (case token y b cs) ks x h d g l e =
          r_next type _ (as_operand y h.0 (r_eval y operand ks (λ z. z) h.0 l e)) (λ v u l₁ q.
          r_next type _ (r_truth l₁ q.env (fits_as h.1 q.fits)) (λ c u₂ l₂ e₂.
          r_when type _ _ (λ _. r_block b ks x h.2 l₂ e₂) (λ _. r_branch cs ks x h.3 d g l₂ e₂)))

      r_all : (xs : Nodes) (ks : List Known) → JudgedAll t type table xs ks → {s : State} → ValuesFit type s → EnvFits s.env ks
          → Runs type (Vals (given_types type xs) ks) (eval_all t o table body xs s)
      r_all done ks h l e = went l (record { fit = none_left; env = e })
      r_all (then x xs) ks h l e =
          r_next type _ (as_operand x h.0 (r_eval x operand ks (λ z. z) h.0 l e)) (λ v u l₁ q. r_next type _ (r_all xs ks h.1 l₁ q.env) (λ vs u₂ l₂ q₁.
          went l₂ (record { fit = one_more q.fits q₁.fit; env = q₁.env })))

      r_values : (vs : Values) (ks : List Known) → JudgedValues t type table vs ks → {s : State} → ValuesFit type s → EnvFits s.env ks
          → Runs type (Pairs vs ks) (eval_values t o table body vs s)
      r_values no_value ks h l e = went l (record { fit = no_field'; env = e })
      r_values (value name x vs) ks h l e =
          r_next type _ (as_operand x h.0 (r_eval x operand ks (λ z. z) h.0 l e)) (λ v u l₁ q. r_next type _ (r_values vs ks h.1 l₁ q.env) (λ fs u₂ l₂ q₁.
          went l₂ (record { fit = one_field q.fits q₁.fit; env = q₁.env })))

  module _ (o : Open) (honest : Answering table o) (bodies : Bodies t type table) where
    -- bodies, however deep calls are nested
    pub r_body : (deep : ℕ) (b : Nodes) (ks : List Known) (x : Ty) → JudgedBody t type table b ks void_ty x → (s : State) → ValuesFit type s → EnvFits s.env ks
        → Runs type (λ u v. Fits v x) (body_within t o table deep b s)
    unfolding body_within NotStuck
    r_body zero b ks x h s l e = out tt l
    r_body (suc d) b ks x h s l e = r_map type (λ u v q. q.fits) (r_block o honest bodies (body_within t o table d) (r_body d) b ks x h l e)

    module _ (deep : ℕ) where
      -- what is no Fn is run as a statement is
      r_value : (x : Node) (ks : List Known) → Judged t type table x statement ks → {s : State} → ValuesFit type s → EnvFits s.env ks
          → Runs type (λ u (_ : Done). EnvFits u.env (after t type table x ks)) (next (eval t o table (body_within t o table deep) x s) (λ _ u. ok tt u))
      unfolding FnMay
      r_value x ks h l e = r_next type _ (r_eval o honest bodies (body_within t o table deep) (r_body deep) x statement ks (λ z. z) h l e) (λ v u l₁ q. went l₁ q.env)

      r_root : (x : Node) (ks : List Known) → Judged t type table x P.root ks → {s : State} → ValuesFit type s → EnvFits s.env ks
          → Runs type (λ u (_ : Done). EnvFits u.env (after t type table x ks)) (root t o table deep x s)
      unfolding root Judged after LetMay
      r_root (Fn n slot name ret args b) ks h l e = r_enter type l e n
      r_root (Atom n slot token k) ks h l e = r_value (Atom n slot token k) ks h l e
      r_root (Ident n slot name) ks h l e = r_value (Ident n slot name) ks h l e
      r_root (Bin n slot token op a b) ks h l e = r_value (Bin n slot token op a b) ks h l e
      r_root (Unary n slot token op a) ks h l e = r_value (Unary n slot token op a) ks h l e
      r_root (Let n slot name a) ks h l e = r_value (Let n slot name a) ks (tt, h.1, h.2) l e
      r_root (Match n slot cs token d) ks h l e = r_value (Match n slot cs token d) ks h l e
      r_root (Call n slot target args) ks h l e = r_value (Call n slot target args) ks h l e
      r_root (Field n slot a name) ks h l e = r_value (Field n slot a name) ks h l e
      r_root (Cast n slot token a x) ks h l e = r_value (Cast n slot token a x) ks h l e
      r_root (Import n slot token paths) ks h l e = r_value (Import n slot token paths) ks h l e
      r_root (Extern n slot token name fs) ks h l e = r_value (Extern n slot token name fs) ks h l e
      r_root (Record n slot token fs) ks h l e = r_value (Record n slot token fs) ks h l e
      r_root (Array n slot token ms) ks h l e = r_value (Array n slot token ms) ks h l e
      r_root (Absent n) ks h l e = absurd h

      pub r_roots : (xs : Nodes) (ks : List Known) → JudgedRoots t type table xs ks → {s : State} → ValuesFit type s → EnvFits s.env ks
          → Runs type (λ u k. k ≡ length_of xs) (roots t o table deep xs s)
      unfolding roots JudgedRoots length_of
      r_roots done ks h l e = went l refl
      r_roots (then x xs) ks h l e =
          r_next type _ (r_root x ks h.0 l e) (λ _ u l₁ e₁. r_next type _ (r_roots xs (after t type table x ks) h.1 l₁ e₁) (λ k u₂ l₂ q. went l₂ (ap (λ (n : ℕ). n + 1) q)))

    -- THE THEOREM, of judged trees: no run is stuck, every value fits; a run that ends has run all of them
    pub runs-clean : (xs : Nodes) → JudgedRoots t type table xs [] → (budget : ℕ) → Runs type (λ u k. k ≡ length_of xs) (run_of t o table xs budget)
    unfolding run_of Every
    runs-clean xs h budget = r_roots budget xs [] h (record { fit = tt }) none_yet
