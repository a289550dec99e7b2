-- Each stop is passed: where a slot has a type, a test holds, a frame is there; and the Fn rule, of the body that it is given.
-- What is claimed of the world is `Holds` of one run, diagnostics or not. Assumes nothing.
use Rattle.std.specs.Prelude.{ℕ, ◌+◌, ◌≤◌, ◌≡◌, Bool, ◌&&◌, get_or, leb}
use Rattle.std.proofs.Math.Path.{refl}
use Rattle.std.proofs.Math.Bool.{true, false}
use Rattle.std.proofs.Math.Option.{Option, none, some}
use mathlib.Core.List.{List, [], ◌∷◌}
use Rattle.std.proofs.Common.{le-leb, ne_eqb}
use Rattle.tok.specs.Step.{Result, ok, Refusal, next, ◌>>◌, return, when}
use Rattle.ast.specs.TypeExpr.{TypeExpr, TypeFields, Arg, AtomType, ForeignType, OptionType, ArrayType, RecordType, no_type, type_field}
use Rattle.ast.specs.Node.{Node, ExternFn}
use Rattle.rules.specs.declared.Answer.{Answer}
use Rattle.rules.specs.World.{Ctx, World, Walk, with_env}
use Rattle.rules.specs.Steps.{known, if_known, on_option, poison, framed, apart}
use Rattle.rules.specs.declared.Member.{Member}
use Rattle.rules.specs.declared.Member.TheVariants.{Alike as alike, Silent as silent, Differs as differs}
use Rattle.rules.specs.Rules.{go_on, Branch, fn, unless_defined}
use Rattle.laws.specs.SlotsOf.{ArgSlots}
use Rattle.laws.specs.Keeps.{Keeps, kept}
use Rattle.laws.specs.RulesKeep as K
use Rattle.onerun.specs.Claim.{Run, All, end, and, NameAt, Recorded, Holds, AnswerOk}
use Rattle.onerun.specs.Claim as C
use Rattle.onerun.specs.Logic.{Silent, After, Gives, gives, stopped}
use Rattle.onerun.proofs.Scope.{alone, g_enter}
use Rattle.onerun.proofs.Arguments.{params_grow}
use Rattle.onerun.proofs.Rules.{BranchOk}
use Rattle.onerun.proofs.Functions.{Below, BlockOk, signature-ok, g_fn_arguments, g_type_from}
use Rattle.onerun.specs.Proper.{ProperType, ProperTypes, ProperArgs, ProperExterns}
use Rattle.stops.specs.Guards.{unless, expect, expect_of, expect_branches, unless_checked, lex_types, field_lex_types, arg_lex_types, extern_lex_types}
use Rattle.stops.specs.Guarded.{answered}
use Rattle.stops.specs.Ready.{Ready, ready-then, Leaves, Free, Any, leaves_kept, leaves_enters}

-- ── Tests ──

both : {a b : Bool} → a ≡ true → b ≡ true → (a && b) ≡ true
both {a} {b} p q = rw (p, q) refl

pub atom-test : (k : ℕ) → 2 ≤ k → k ≤ 5 → (leb 2 k && leb k 5) ≡ true
atom-test k l m = both (le-leb 2 k l) (le-leb k 5 m)

module _ (P N : ℕ → Type 0) where
  mutual
    unfolding ProperType lex_types

    pub lex_type : (t : TypeExpr) → ProperType P N t → lex_types t ≡ true
    lex_type (AtomType token k) h = both (le-leb 1 k h.low) (le-leb k 5 h.high)
    lex_type (ForeignType token) h = refl
    lex_type (OptionType t) h = lex_type t h
    lex_type (ArrayType t) h = lex_type t h
    lex_type (RecordType token fs) h = lex_types_lem fs h

    lex_types_lem : (fs : TypeFields) → ProperTypes P N fs → field_lex_types fs ≡ true
    lex_types_lem no_type h = refl
    lex_types_lem (type_field name t fs) h = both (lex_type t h.1) (lex_types_lem fs h.2)

  lex_args : (xs : List Arg) → ProperArgs P N xs → arg_lex_types xs ≡ true
  unfolding ProperArgs arg_lex_types
  lex_args [] h = refl
  lex_args (a ∷ xs) h = both (lex_type a.type h.1) (lex_args xs h.2)

  pub lex_fn : (xs : List Arg) (t : TypeExpr) → ProperArgs P N xs → ProperType P N t → (arg_lex_types xs && lex_types t) ≡ true
  lex_fn xs t h k = both (lex_args xs h) (lex_type t k)

  pub lex_externs : (fs : List ExternFn) → ProperExterns P N fs → extern_lex_types fs ≡ true
  unfolding ProperExterns extern_lex_types
  lex_externs [] h = refl
  lex_externs (f ∷ fs) h = both (lex_args f.args h.1) (both (lex_type f.ret h.2) (lex_externs fs h.3))

-- a test that holds
pub past-unless : {A : Type 0} {t : Bool} (file line : ℕ) → t ≡ true → (m : Walk A) {s : World} {y : Result World Refusal A} → m s ≡ y → ◌>>◌ (unless t file line) m s ≡ y
unfolding unless when
past-unless file line e m h = rw e h

-- a node whose slot has no type is not found checked
pub past-checked : (slot : ℕ) (m : Walk Answer) {s : World} {y : Result World Refusal Answer} → get_or s.slots slot 0 ≡ 0 → m s ≡ y → unless_checked slot m s ≡ y
unfolding unless_checked when
past-checked slot m e h = rw e h

module _ (c : Ctx) where
  -- one run, of which nothing is claimed but what holds with diagnostics too
  abbrev pub run : Run
  run = record { ctx = c; clean = ⊥; sig = λ f xs. Unit {0}; plain = λ ps ret xs. tt }

  pub quiet : {s : World} → Silent run s
  quiet = record { none = λ q. absurd q }

  -- ── One step and the rest ──

  pub next-same : {A B : Type 0} (f : A → Walk B) {x y : Result World Refusal A} → x ≡ y → next x f ≡ next y f
  next-same f e = rw e refl

  pub then_same : {A B : Type 0} {P : World → A → Type 0} {s : World} {x y : Result World Refusal A} (f g : A → Walk B) → x ≡ y → Gives run P s y
      → ((a : A) (u : World) → After run P s u a → f a u ≡ g a u) → next x f ≡ next y g
  then_same f g e (gives {a = a} {u = u} t k) h = rw e (h a u (k quiet))
  then_same f g e stopped h = rw e refl

  module _ (ys : List Node) where
    was-left : {A : Type 0} {s u : World} {a : A} → Keeps (Leaves ys) Any s (ok a u) → Leaves ys s u
    was-left (kept h) = h

    -- where the slots of ys are left
    pub then-left : {A B : Type 0} {P : World → A → Type 0} {s : World} {x y : Result World Refusal A} (f g : A → Walk B) → x ≡ y → Gives run P s y → Keeps (Leaves ys) Any s y
        → ((a : A) (u : World) → After run P s u a → Leaves ys s u → f a u ≡ g a u) → next x f ≡ next y g
    then-left f g e (gives {a = a} {u = u} t k) l h = rw e (h a u (k quiet) (was-left l))
    then-left f g e stopped l h = rw e refl

  pub known_same : {a : Answer} (f g : ℕ → Walk Answer) {s : World} → AnswerOk run s a → ((x : ℕ) → Recorded run s x → f x s ≡ g x s) → known a f s ≡ known a g s
  unfolding known
  known_same f g (C.known {a = x} e) h = h x e
  known_same f g (C.poison l) h = refl

  pub option-same : {A B : Type 0} (o : Option A) (m k : Walk B) (f g : A → Walk B) {s : World} → m s ≡ k s → ((a : A) → f a s ≡ g a s) → on_option o m f s ≡ on_option o k g s
  unfolding on_option
  option-same none m k f g e h = e
  option-same (some a) m k f g e h = h a

  pub when-same : {A : Type 0} (t : Bool) (m k m' k' : Walk A) {s : World} → (t ≡ true → m s ≡ m' s) → (t ≡ false → k s ≡ k' s) → when t m k s ≡ when t m' k' s
  unfolding when
  when-same true m k m' k' e h = e refl
  when-same false m k m' k' e h = h refl

  pub go_on-same : (m : Member) (b : Bool) (f g : Bool → Walk Answer) {s : World} → ((q : Bool) → f q s ≡ g q s) → go_on m b f s ≡ go_on m b g s
  unfolding go_on
  go_on-same alike b f g h = h b
  go_on-same silent b f g h = h true
  go_on-same differs b f g h = refl

  pub framed-same : {A : Type 0} (m k : Walk A) {s : World} → m s ≡ k s → framed m s ≡ framed k s
  unfolding framed
  framed-same m k e = rw e refl

  -- ── "known ids always have a type" ──

  pub past-expect : {A : Type 0} (line : ℕ) {slot : ℕ} {s : World} → Recorded run s slot → (m : Walk A) {y : Result World Refusal A} → m s ≡ y → ◌>>◌ (expect line slot) m s ≡ y
  unfolding expect when
  past-expect line {slot} {s} h m e = rw (ne_eqb (get_or s.slots slot 0) 0 h.other) e

  pub past-answer : {A : Type 0} (line : ℕ) {a : Answer} {s : World} → AnswerOk run s a → (m : Walk A) {y : Result World Refusal A} → m s ≡ y → ◌>>◌ (expect_of line a) m s ≡ y
  unfolding expect_of if_known
  past-answer line (C.known e) m h = past-expect line e m h
  past-answer line (C.poison l) m h = h

  all-branches : (line : ℕ) (bs : List Branch) {s : World} → All (BranchOk run s) bs → expect_branches line bs s ≡ ok tt s
  unfolding expect_branches
  all-branches line [] end = refl
  all-branches line (b ∷ bs) (and h hs) = past-answer line h.answer (expect_branches line bs) (all-branches line bs hs)

  pub past-branches : {A : Type 0} (line : ℕ) (bs : List Branch) {s : World} → All (BranchOk run s) bs → (m : Walk A) {y : Result World Refusal A} → m s ≡ y → ◌>>◌ (expect_branches line bs) m s ≡ y
  past-branches line bs h m e = rw (all-branches line bs h) e

  -- ── Fn ──

  module _ (ys : List Node) (body : Walk Answer) (guarded : Walk Answer) (same : (u : World) → Ready u ys → Holds run u → guarded u ≡ body u) where
    pub fn_same : (n slot name : ℕ) (e : TypeExpr) (args : List Arg) → ProperType (Below run) (NameAt run) e → ProperArgs (Below run) (NameAt run) args → ArgSlots (Below run) (slot + 1) args
        → ArgSlots (Free ys) (slot + 1) args → {s : World} → Ready s ys → Holds run s
        → unless_defined c n name (fn c n slot name e args guarded) s ≡ unless_defined c n name (fn c n slot name e args body) s
    unfolding unless_defined fn apart framed
    fn_same n slot name e args p pa low free {s} d h =
        option-same _ _ _ _ _
        (next-same _ (next-same _
        (then-left ys _ _ refl (g_fn_arguments run n (slot + 1) args pa low (alone run (λ _. h))) (K.in_fn_arguments (leaves_kept ys) c n (slot + 1) args free (with_env s [])) (λ ps u₁ x₁ l₁.
        then-left ys _ _ refl (g_type_from run n e p (λ _. x₁.holds)) (K.in_type_from (leaves_kept ys) c n e u₁) (λ ret u₂ x₂ l₂.
        then-left ys _ _ refl
        (g_enter run name ps ret (λ _. x₂.holds) (λ _. record { sig = signature-ok run (params_grow run x₂.grown x₁.value.params) x₂.value }))
        (K.in_enter (leaves_kept ys) (leaves_enters ys) name ps ret u₂) (λ _ u₃ x₃ l₃.
        let r₁ : Ready u₁ ys = ready-then [] ys (record { once = d.once; unset = d.unset; fit = d.fit }) l₁ in
        next-same _ (same u₃ (ready-then [] ys (ready-then [] ys r₁ l₂) l₃) x₃.holds))))))) (λ _. refl)

  -- a block's answer has a type
  pub answered-same : (line : ℕ) {zs : List Node} (m : Walk Answer) {s : World} {y : Result World Refusal Answer} → m s ≡ y → Gives run (BlockOk run zs) s y → answered line m s ≡ y
  unfolding answered
  answered-same line m e (gives {a = a} {u = u} t k) = rw e (past-answer line (k quiet).value.answer (return a) refl)
  answered-same line m e stopped = rw e refl
