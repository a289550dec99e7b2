-- Import, Extern and an Fn's signature: what they declare is what the static pass declares. One lemma for each function of the rules. Assumes
-- nothing.
use Rattle.std.specs.Prelude.{ℕ, ◌+◌, ◌≤◌, ◌<◌, ◌≡◌, false, set, length}
use Rattle.std.proofs.Common.{arith, sym, subst, ◌∙◌, get_or-set_other}
use Rattle.std.proofs.Math.Path.{refl, ap}
use Rattle.std.proofs.Math.Option.{Option, none, some}
use mathlib.Core.List.{List, [], ◌∷◌, map}
use Rattle.std.proofs.Math.ListN.{get_or}
use Rattle.tok.specs.Step.{ok, for_each, ◌>>=◌, return}
use Rattle.tok.specs.Text.{name_bytes}
use Rattle.ptype.specs.Ty.{Ty}
use Rattle.ptype.specs.Add.{Buffer, append}
use Rattle.ptype.proofs.SameLaws.{same_ty-true}
use Rattle.ast.specs.TypeExpr.{TypeExpr, Arg}
use Rattle.ast.specs.Node.{ExternFn}
use Rattle.library.specs.Package.{Param, param, signature, function, Package, find_package}
use Rattle.rules.specs.declared.Answer.{Answer}
use Rattle.rules.specs.declared.Answer.TheVariants.{Known}
use Rattle.rules.specs.World.{Ctx, Local, World, Walk, with_slots, with_env, with_packages, with_functions}
use Rattle.rules.specs.Steps.{Done, if_known, ty, tree, ty_tree, set_known, hold, enter, entry_of, type_from_expr}
use Rattle.rules.specs.Rules.{import_one, import_all, extern_fn, fn_arguments, check_return}
use Rattle.laws.specs.SlotsOf.{ArgSlots}
use Rattle.tworuns.specs.Means.{Grown, grown-trans}
use Rattle.onerun.specs.Claim.{All, end, and, Both, Is, Good, bound, NameAt, ParamOk, FunctionOk, Recorded, Holds, AnswerOk}
use Rattle.onerun.specs.Claim as C
use Rattle.onerun.specs.Grows.{both-map, is_grow, param_grow}
use Rattle.onerun.specs.Logic.{Claimed, Silent, before, After, Gives, gives, g_next, g_return, g_when, g_option, g_set}
use Rattle.onerun.specs.Find.{package_found}
use Rattle.onerun.specs.Trees.{free-slots}
use Rattle.onerun.proofs.Scope.{g_hold, g_enter}
use Rattle.onerun.specs.Proper.{ProperType, ProperArgs, ProperExterns}
use Rattle.onerun.proofs.Functions.{Below}
use Rattle.rules.specs.Functions.{type_meant}
use Rattle.runs.specs.Declared.{Held, Scope, Chosen, extern_member, find_held, import_found, unless_held, imported}
use Rattle.runs_laws.specs.Judged.{knows, args_known}
use Rattle.runs_laws.specs.Judged as J
use Rattle.runs_judged.specs.Claim.{silent, same-trans, same-world, Keep, keep_same, keep-trans, OwnAnswer, is_known, is_poison}
use Rattle.runs_judged.specs.Claim.{no-poison, has-known, Fixed, h_report, Built, EnvRel, one_local, env_grow}
use Rattle.runs_judged.specs.Rules.{h_type_from, h_insert}
use Rattle.runs_judged.specs.InForce.{expr_sig, Finds, neither, each, SigRel, MemberRel, member_grow, HeldRel, held_found, Decl}
use Rattle.runs_judged.specs.Exprs.{no-slot}
use Rattle.runs_judged.specs.Arguments.{tree_in}

module _ (c : Ctx) where
  -- a step whose world is known
  pub h_exact : {A : Type 0} {P Q : World → A → Type 0} {s u : World} {a : A} → Gives (silent c) P s (ok a u) → (Silent (silent c) u → Q u a) → Gives (silent c) Q s (ok a u)
  h_exact (gives t p) q = gives t (λ z. let x = p z in record { grown = x.grown; recorded = x.recorded; holds = x.holds; value = q z })

  -- if let Some(slot) = answer.known(): where all is silent it is known
  pub h_if_known : {Q : World → Done → Type 0} {i : ℕ} {a : Answer} (f : ℕ → Walk Done) {s : World} → Claimed (silent c) s → OwnAnswer i a
      → (Silent (silent c) s → AnswerOk (silent c) s a)
      → ((Silent (silent c) s → Recorded (silent c) s i) → Gives (silent c) Q s (f i s)) → Gives (silent c) Q s (if_known a f s)
  unfolding if_known
  h_if_known f h is_known k g = g (λ z. has-known (k z))
  h_if_known f h is_poison k g = g_return (silent c) h (λ z. absurd (no-poison (k z)))

  -- ── Signatures ──

  module _ (type : ℕ → Ty) {A B D : Type 0} (P : A → Type 0) (R : Buffer → B → D → Type 0) (grow : (b d : Buffer) → Grown b d → (x : B) (y : D) → R b x y → R d x y)
      (f : A → Walk B) (g : A → D)
      (step : (a : A) → P a → (s : World) → Claimed (silent c) s → Gives (silent c) (Built c type (λ d x. R d x (g a)) s) s (f a s)) where
    h_each : {xs : List A} → All P xs → {s : World} → Claimed (silent c) s → Gives (silent c) (Built c type (λ d ys. Both (R d) ys (map g xs)) s) s (for_each f xs s)
    unfolding for_each
    h_each end h = g_return (silent c) h (λ z. record { is = C.end; slots = refl; same = same-world refl })
    h_each (and {a = a} p ps) {s} h =
        g_next (silent c) _ (step a p s h) (λ x u t k. g_next (silent c) _ (h_each ps (λ z. (k z).holds)) (λ ys v t₁ k₁. g_return (silent c) (λ z. (k₁ z).holds) (λ z.
        let i = (k (before (silent c) t₁ z)).value in
        let j = (k₁ z).value in
        record { is = C.and (grow u.types v.types (k₁ z).grown x (g a) i.is) j.is; slots = j.slots ∙ i.slots; same = same-trans i.same j.same })))

  module _ (type : ℕ → Ty) where
    args-all : (xs : List Arg) → ProperArgs (Below (silent c)) (NameAt (silent c)) xs → All (λ (a : Arg). ProperType (Below (silent c)) (NameAt (silent c)) a.type) xs
    unfolding ProperArgs
    args-all [] p = end
    args-all (a ∷ xs) p = and p.1 (args-all xs p.2)

    h_arg : (n : ℕ) (a : Arg) → ProperType (Below (silent c)) (NameAt (silent c)) a.type → (s : World) → Claimed (silent c) s
        → Gives (silent c) (Built c type (λ d p. ParamOk (silent c) d p (type_meant c.texts a.type)) s) s (◌>>=◌ (type_from_expr c n a.type) (λ w. return (param a.name w)) s)
    h_arg n a p s h = g_next (silent c) _ (h_type_from c type n a.type p h)
        (λ w u t x. g_return (silent c) (λ z. (x z).holds) (λ z.
        record { is = record { name = λ l. absurd (l tt); type = (x z).value.is }; slots = (x z).value.slots; same = (x z).value.same }))

    -- a signature made of type expressions has no slot
    pub expr-sig : {b : Buffer} {ps : List Param} {w : ℕ} (args : List Arg) (ret : TypeExpr)
        → Both (ParamOk (silent c) b) ps (map (λ (a : Arg). type_meant c.texts a.type) args) → Is (silent c) b w (type_meant c.texts ret)
        → SigRel c b (signature ps w false) (expr_sig c.texts args ret)
    expr-sig args ret h i = record { params = h; returns = i; stands = λ p e. free-slots p (type_meant c.texts ret) (no-slot c.texts ret) }

    record ExternProper (f : ExternFn) : Type 0 where
      args : ProperArgs (Below (silent c)) (NameAt (silent c)) f.args
      ret : ProperType (Below (silent c)) (NameAt (silent c)) f.ret

    externs_all : (fs : List ExternFn) → ProperExterns (Below (silent c)) (NameAt (silent c)) fs → All ExternProper fs
    unfolding ProperExterns
    externs_all [] p = end
    externs_all (f ∷ fs) p = and (record { args = p.1; ret = p.2 }) (externs_all fs p.3)

    h_extern : (n : ℕ) (f : ExternFn) → ExternProper f → (s : World) → Claimed (silent c) s
        → Gives (silent c) (Built c type (λ d g. MemberRel c d g (extern_member c.texts f)) s) s (extern_fn c n f s)
    unfolding extern_fn extern_member
    h_extern n f p s h =
        g_next (silent c) _ (h_each type (λ (a : Arg). ProperType (Below (silent c)) (NameAt (silent c)) a.type) (λ b p x. ParamOk (silent c) b p x)
        (λ b d g x y i. param_grow (silent c) g x y i) _ (λ (a : Arg). type_meant c.texts a.type) (λ a i s k. h_arg n a i s k) (args-all f.args p.args) h) (λ ps u t x.
        g_next (silent c) _ (h_type_from c type n f.ret p.ret (λ z. (x z).holds)) (λ ret v t₁ y. g_return (silent c) (λ z. (y z).holds) (λ z.
        let i = (x (before (silent c) t₁ z)).value in
        let j = (y z).value in
        record {
          is = record { name = refl; sig = expr-sig f.args f.ret (both-map (param_grow (silent c) (y z).grown) i.is) j.is };
          slots = j.slots
              ∙ i.slots;
          same = same-trans i.same j.same;
        })))

    pub h_externs : (n : ℕ) (fs : List ExternFn) → ProperExterns (Below (silent c)) (NameAt (silent c)) fs → {s : World} → Claimed (silent c) s
        → Gives (silent c) (Built c type (λ d gs. Both (MemberRel c d) gs (map (extern_member c.texts) fs)) s) s (for_each (λ f. extern_fn c n f) fs s)
    h_externs n fs p h = h_each type ExternProper (MemberRel c) (λ b d g x y i. member_grow c g x y i) _ (extern_member c.texts) (λ f i s k. h_extern n f i s k) (externs_all fs p) h

    pub h_hold : (p : Package) {s : World} → Claimed (silent c) s → (Silent (silent c) s → C.PackageOk (silent c) s.types p)
        → Gives (silent c) (λ u (_ : Done). u ≡ with_packages s (p ∷ s.packages)) s (hold p s)
    unfolding hold
    h_hold p h k = h_exact (g_hold (silent c) p h k) (λ z. refl)

    -- ── An Fn's signature ──

    pub h_enter : (name : ℕ) (ps : List Param) (ret : ℕ) {s : World} → Claimed (silent c) s
        → (Silent (silent c) s → FunctionOk (silent c) s.types (function name (signature ps ret false)))
        → Gives (silent c) (λ u (_ : Done). u ≡ with_functions s (append s.functions (entry_of name ps ret)) (function name (signature ps ret false) ∷ s.own)) s (enter name ps ret s)
    unfolding enter
    h_enter name ps ret h k = h_exact (g_enter (silent c) name ps ret h k) (λ z. refl)

    h_write : (slot : ℕ) {w : ℕ} {s : World} → slot < c.void → Claimed (silent c) s → (Silent (silent c) s → Good (silent c) s.types w)
        → Gives (silent c) (λ u (_ : Answer). u ≡ with_slots s (set s.slots slot w)) s (set_known slot w s)
    unfolding set_known
    h_write slot l h k = h_exact (g_set (silent c) slot l h k) (λ z. refl)

    pub record ArgsIn (table : List Chosen) (s : World) (args : List Arg) (u : World) (ps : List Param) : Type 0 where
      pub keep : Keep s u
      pub packages : u.packages ≡ s.packages
      pub own : u.own ≡ s.own
      pub params : Both (ParamOk (silent c) u.types) ps (map (λ (a : Arg). type_meant c.texts a.type) args)
      pub env : (ks : List J.Known) → EnvRel c type s.types s.env ks → EnvRel c type u.types u.env (args_known c.texts type table ks args)

    pub h_fn_arguments : (table : List Chosen) (n slot : ℕ) (args : List Arg) → ProperArgs (Below (silent c)) (NameAt (silent c)) args → ArgSlots (Below (silent c)) slot args → {s : World}
        → ((q : ℕ) → slot ≤ q → q < slot + length args → Silent (silent c) s → get_or s.slots q 0 ≡ 0) → Claimed (silent c) s
        → Gives (silent c) (ArgsIn table s args) s (fn_arguments c n slot args s)
    unfolding fn_arguments ProperArgs ArgSlots args_known
    h_fn_arguments table n slot [] p o {s} e h = g_return (silent c) h (λ z. record { keep = keep_same s; packages = refl; own = refl; params = C.end; env = λ ks x. x })
    h_fn_arguments table n slot (a ∷ rest) p o {s} e h =
        g_next (silent c) _ (h_type_from c type n a.type p.1 h) (λ w u t x.
        g_next (silent c) _ (h_write slot o.0 (λ z. (x z).holds) (λ z. good z x)) (λ _ u₁ t₁ x₁.
        g_next (silent c) _ (h_insert c type a.name (λ z. (x₁ z).holds)
        (λ z. bound (subst (λ (v : World). Good (silent c) v.types w) (sym (x₁ z).value) (good (before (silent c) t₁ z) x)))) (λ _ u₂ t₂ x₂.
        g_next (silent c) _ (h_fn_arguments table n (slot + 1) rest p.2 o.1 (λ q l m z.
        let z₁ = before (silent c) t₂ z in
        let z₀ = before (silent c) t₁ z₁ in
        word q (x₂ z).value ∙ (word' u q w (x₁ z₁).value (λ i. omega arith)
        ∙ (ap (λ (l : List ℕ). get_or l q 0) (x z₀).value.slots ∙ e q (omega arith) (omega arith) (before (silent c) t z₀)))) (λ z. (x₂ z).holds)) (λ ps u₃ t₃ x₃.
        g_return (silent c) (λ z. (x₃ z).holds) (λ z.
        let z₂ = before (silent c) t₃ z in
        let z₁ = before (silent c) t₂ z₂ in
        let z₀ = before (silent c) t₁ z₁ in
        let i = (x z₀).value in
        let e₁ = (x₁ z₁).value in
        let e₂ = (x₂ z₂).value in
        let y = (x₃ z).value in
        let g : Grown u.types u₃.types = grown-trans (x₁ z₁).grown (grown-trans (x₂ z₂).grown (x₃ z).grown) in
        record {
          keep = keep-trans {s = s} {u = u₂} {v = u₃} (record {
            word = λ q m. word q e₂ ∙ (word' u q w e₁
                (λ k. m (ap (λ (l : ℕ). get_or s.slots l 0) k ∙ e slot (omega arith) (omega arith) (before (silent c) t z₀))) ∙ ap (λ (l : List ℕ). get_or l q 0) i.slots);
          }) y.keep;
          packages = y.packages ∙ (ap (λ (v : World). v.packages) e₂ ∙ (ap (λ (v : World). v.packages) e₁ ∙ i.same.packages));
          own = y.own ∙ (ap (λ (v : World). v.own) e₂ ∙ (ap (λ (v : World). v.own) e₁ ∙ i.same.own));
          params = C.and (record { name = λ l. absurd (l tt); type = is_grow (silent c) g i.is }) y.params;
          env = λ ks en. y.env (knows a.name (type_meant c.texts a.type) ∷ ks)
              (subst (λ (l : List Local). EnvRel c type u₂.types l (knows a.name (type_meant c.texts a.type) ∷ ks))
              (sym (ap (λ (v : World). v.env) e₂ ∙ ap (λ (l : List Local). record { name = a.name; type = some w } ∷ l) (ap (λ (v : World). v.env) e₁ ∙ i.same.env)))
              (one_local refl refl (is_grow (silent c) (grown-trans (x₁ z₁).grown (x₂ z₂).grown) i.is)
              (env_grow c type (grown-trans (x z₀).grown (grown-trans (x₁ z₁).grown (x₂ z₂).grown)) en)));
        })))))
      where
        good : {u : World} {w : ℕ} → Silent (silent c) u → (Silent (silent c) u → After (silent c)
            (Built c type (λ d w. Is (silent c) d w (type_meant c.texts a.type)) s) s u w) → Good (silent c) u.types w
        good z x = record { tree = type_meant c.texts a.type; is = (x z).value.is; no_slot = λ _. no-slot c.texts a.type }

        word : {u v : World} {l : Local} (q : ℕ) → v ≡ with_env u (l ∷ u.env) → get_or v.slots q 0 ≡ get_or u.slots q 0
        word q e = ap (λ (v : World). get_or v.slots q 0) e

        word' : (u : World) {v : World} (q w : ℕ) → v ≡ with_slots u (set u.slots slot w) → (q ≡ slot → ⊥) → get_or v.slots q 0 ≡ get_or u.slots q 0
        word' u q w e m = ap (λ (v : World). get_or v.slots q 0) e ∙ get_or-set_other u.slots slot q w 0 m

    pub h_check_return : (n name : ℕ) (e : TypeExpr) (ret : ℕ) {slot : ℕ} {a : Answer} {s : World} → Claimed (silent c) s → OwnAnswer slot a
        → (Silent (silent c) s → AnswerOk (silent c) s a)
        → Gives (silent c) (λ u (_ : Done). (u ≡ s) × (Fixed c type s → type slot ≡ tree_in c s ret)) s (check_return c n name e ret a s)
    unfolding check_return ty_tree ty tree
    h_check_return n name e ret h o k =
        h_if_known _ h o k (λ i. g_when (silent c) _ _ (λ q. g_return (silent c) h (λ z. (refl, λ f. f.at _ (i z) ∙ same_ty-true _ _ q))) (λ _. h_report c type h n _))

    -- ── Imports ──

    module _ (library : List Held) where
      pub record Brings {A : Type 0} (s : World) (f : Scope → Scope) (u : World) (a : A) : Type 0 where
        pub slots : u.slots ≡ s.slots
        pub env : u.env ≡ s.env
        pub decl : (sc : Scope) → Decl c type library s sc → Decl c type library u (f sc)

      module _ (path : List ℕ) {s : World} (sc : Scope) (d : Decl c type library s sc) where
        brought : (p : Package) → find_package c.texts path s.packages ≡ none → find_package c.texts path c.library ≡ some p
            → Decl c type library (with_packages s (p ∷ s.packages)) (unless_held c.texts library type (find_held path sc.held) path sc)
        unfolding unless_held import_found
        brought p e q = by (find_held path sc.held) (subst (λ (o : Option Package). Finds (HeldRel c s.types) o (find_held path sc.held)) e (held_found c path d.held))
          where
            one : (o : Option Held) → Finds (HeldRel c s.types) (some p) o → Decl c type library (with_packages s (p ∷ s.packages)) (import_found c.texts library type o sc)
            one none x' = elim x' [ ]
            one (some h) (each x) = record { held = C.and x d.held; own = d.own; lib = d.lib }

            by : (o : Option Held) → Finds (HeldRel c s.types) none o → Decl c type library (with_packages s (p ∷ s.packages)) (unless_held c.texts library type o path sc)
            by (some _) x'' = elim x'' [ ]
            by none neither = one (find_held path library) (subst (λ (o : Option Package). Finds (HeldRel c s.types) o (find_held path library)) q (held_found c path d.lib))

        there : (p : Package) → find_package c.texts path s.packages ≡ some p → Decl c type library s (unless_held c.texts library type (find_held path sc.held) path sc)
        unfolding unless_held
        there p e = by (find_held path sc.held) (subst (λ (o : Option Package). Finds (HeldRel c s.types) o (find_held path sc.held)) e (held_found c path d.held))
          where
            by : (o : Option Held) → Finds (HeldRel c s.types) (some p) o → Decl c type library s (unless_held c.texts library type o path sc)
            by none x' = elim x' [ ]
            by (some h) (each x) = d

      h_import : (n path : ℕ) {s : World} → Claimed (silent c) s
          → Gives (silent c) (Brings s (λ sc. unless_held c.texts library type (find_held (name_bytes c.texts path) sc.held) (name_bytes c.texts path) sc)) s (import_one c n path s)
      unfolding import_one hold
      h_import n path {s} h =
          g_option (silent c) _ _
          (λ e. g_option (silent c) _ _ (λ _. h_report c type h n _) (λ p q. h_exact (g_hold (silent c) p h (λ z. package_found (silent c) _ (h z).library q))
          (λ z. record { slots = refl; env = refl; decl = λ sc d. brought (name_bytes c.texts path) sc d p e q })))
          (λ p e. g_return (silent c) h (λ z. record { slots = refl; env = refl; decl = λ sc d. there (name_bytes c.texts path) sc d p e }))

      each_import : (n : ℕ) (ps : List ℕ) {s : World} → Claimed (silent c) s
          → Gives (silent c) (Brings s (imported c.texts library type ps)) s (for_each (λ path. import_one c n path) ps s)
      unfolding for_each imported
      each_import n [] h = g_return (silent c) h (λ z. record { slots = refl; env = refl; decl = λ sc d. d })
      each_import n (p ∷ ps) h =
          g_next (silent c) _ (h_import n p h) (λ _ u t x. g_next (silent c) _ (each_import n ps (λ z. (x z).holds)) (λ ys v t₁ y. g_return (silent c) (λ z. (y z).holds) (λ z.
          let i = (x (before (silent c) t₁ z)).value in
          record { slots = (y z).value.slots ∙ i.slots; env = (y z).value.env ∙ i.env; decl = λ sc d. (y z).value.decl _ (i.decl sc d) })))

      pub h_imports : (n token : ℕ) (ps : List ℕ) {s : World} → Claimed (silent c) s
          → Gives (silent c) (Brings s (imported c.texts library type ps)) s (import_all c n token ps s)
      unfolding import_all
      h_imports n token [] h = h_report c type h n _
      h_imports n token (p ∷ ps) h = g_next (silent c) _ (each_import n (p ∷ ps) h)
          (λ _ u t x. g_return (silent c) (λ z. (x z).holds) (λ z. record { slots = (x z).value.slots; env = (x z).value.env; decl = (x z).value.decl }))
