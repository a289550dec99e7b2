-- Call, Extern and Import as a whole, given what is told of a call's arguments. Assumes nothing.
use Rattle.std.specs.Prelude.{ℕ, ◌+◌, ◌≤◌, ◌<◌, ◌≡◌, refl, Bool, true, length}
use Rattle.std.proofs.Common.{arith, sym, ◌∙◌}
use Rattle.std.proofs.Math.Decide.{ℕ_discrete}
use Rattle.std.proofs.Math.Path.{ap, subst}
use mathlib.Core.List.{List, [], ◌∷◌, ◌++◌, map, append-nil}
use Rattle.std.proofs.Math.ListN.{get_or}
use Rattle.tok.specs.Step.{Result, ok, Refusal, next}
use Rattle.tok.specs.Text.{name_bytes}
use Rattle.ptype.specs.Ty.{Ty, void_ty}
use Rattle.ptype.specs.Words.{void_word}
use Rattle.ptype.specs.Add.{Buffer}
use Rattle.ast.specs.TypeExpr.{TypeExpr, Arg}
use Rattle.ast.specs.Node.{Node, Nodes, ExternFn, Fn, Import, Extern, done, then, slot_of}
use Rattle.library.specs.Package.{Function, pkg}
use Rattle.rules.specs.declared.Answer.{Answer}
use Rattle.rules.specs.World.{Ctx, World, Walk}
use Rattle.rules.specs.Steps.{set_known}
use Rattle.rules.specs.Rules.{node, visit_all}
use Rattle.rules.specs.Calls.{Callee, own_function, package_function, through_field, no_callee, Provided, provided_of, call}
use Rattle.rules.specs.Visited.{visited_below, visited_among}
use Rattle.laws.specs.SlotsOf.{ArgSlots, SlotsOfAll, SlotsOf}
use Rattle.accepts.specs.Count.{total, one-other}
use Rattle.rules.specs.Visited.{arguments_of}
use Rattle.accepts.proofs.OtherSlots.{among-hold}
use Rattle.onerun.proofs.Arguments.{ProvidedOk}
use Rattle.onerun.specs.Claim.{All, end, and, Both, NameAt, FunctionOk, Holds}
use Rattle.onerun.specs.Claim as C
use Rattle.onerun.specs.Grows.{all_map}
use Rattle.onerun.specs.Logic.{Claimed, Silent, before}
use Rattle.onerun.proofs.Types.{void-good}
use Rattle.onerun.specs.Proper.{ProperAll, ProperCallee, ProperExterns}
use Rattle.onerun.proofs.Functions.{Below}
use Rattle.onerun.proofs.Nodes.{g_all}
use Rattle.stops.specs.Ready.{Ready, Free, ready-then}
use Rattle.runs.specs.Declared.{Held, Chosen, Scope, extern_member, holding, imported, given_types, target_of, target_at, declare_all}
use Rattle.runs_laws.specs.Judged.{CallOk, JudgedAll}
use Rattle.runs_laws.specs.Judged as J
use Rattle.runs_judged.specs.Claim.{silent, same-slots, Fixed, fixed_back, Tells, earlier, h_step, h_after, With, h_with, h_to, g_both, h_poison, h_map, h_set, last-slot, own-count, last-unset}
use Rattle.runs_judged.specs.Rules.{Rule, low-tree}
use Rattle.runs_judged.specs.InForce.{sig_ok, MemberRel, Force, env-same, force-same}
use Rattle.runs_judged.specs.Called.{types, Given}
use Rattle.runs_judged.specs.Groups.{h_resolve_call, h_resolve_pkg}
use Rattle.runs_judged.specs.Declares.{h_externs, h_hold, h_imports}
use Rattle.runs_judged.specs.Parts.{all-leave}

-- the types given to a call, by arguments and by what they provide
provided-types : (c : Ctx) (type : ℕ → Ty) (xs : Nodes) → types c type (provided_of xs) ≡ given_types type xs
unfolding provided_of given_types
provided-types c type done = refl
provided-types c type (then x xs) = ap (λ (l : List Ty). type (slot_of x) ∷ l) (provided-types c type xs)

pub ready_nil : {s : World} (xs : List Node) → Ready s xs → Ready s (xs ++ [])
ready_nil {s} xs h = subst (Ready s) (sym (append-nil xs)) h

-- slots after an own slot are others
pub args-above : (slot k : ℕ) (args : List Arg) → slot < k → ArgSlots (Free (last-slot slot)) k args
unfolding ArgSlots
args-above slot k [] l = tt
args-above slot k (a ∷ rest) l = (λ h. omega (arith, own-count k slot, one-other k slot (λ e. omega arith)), args-above slot (k + 1) rest (omega arith))

-- the slots of an Fn's arguments, one by one
pub args_at : (Q : ℕ → Type 0) (slot : ℕ) (args : List Arg) → ArgSlots Q slot args → (q : ℕ) → slot ≤ q → q < slot + length args → Q q
unfolding ArgSlots
args_at Q slot [] h q l m = absurd (omega arith)
args_at Q slot (a ∷ rest) h q l m = by (args_at Q (slot + 1) rest h.1 q) (ℕ_discrete q slot)
  where
    by : (slot + 1 ≤ q → q < slot + 1 + length rest → Q q) → Dec (q ≡ slot) → Q q
    by go (yes e) = subst Q (sym e) h.0
    by go (no n) = go (omega arith) (omega arith)

pub args-unset : {s : World} (n slot name : ℕ) (ret : TypeExpr) (args : List Arg) (body : Nodes) (ys : List Node) → Ready s (Fn n slot name ret args body ∷ ys)
    → ArgSlots (λ q. get_or s.slots q 0 ≡ 0) (slot + 1) args
unfolding visited_among visited_below SlotsOfAll SlotsOf slot_of arguments_of total
args-unset {s} n slot name ret args body ys h =
    (among-hold (λ q. get_or s.slots q 0 ≡ 0) (then (Fn n slot name ret args done) done) (record { holds = λ q l. h.unset q (omega arith) })).0.1

module _ (c : Ctx) (type : ℕ → Ty) (library : List Held) where
  -- what a rule leaves, with what is in force
  pub record Ruled (Ok : Type 0) (ks : List J.Known) (sc : Scope) (u : World) (a : Answer) : Type 0 where
    pub ok : Ok
    pub force : Force c type library u ks sc

  abbrev pub Knows : World → List J.Known → Scope → Type 0
  Knows s ks sc = Silent (silent c) s → Fixed c type s → Force c type library s ks sc

  pub h_rule : {Ok : Type 0} (slot : ℕ) {ks : List J.Known} {sc : Scope} {s : World} {x : Result World Refusal Answer} → Claimed (silent c) s → Knows s ks sc
      → Tells c type (Rule c type slot s Ok) s x → Tells c type (Ruled Ok ks sc) s x
  h_rule slot h know g = h_map c type (λ u a t p z fx.
      let z₀ = before (silent c) t z in
      let r = (p z).value.fact fx in
      record { ok = r.ok; force = force-same c type library (p z).grown r.same (know z₀ (earlier c type (h z₀) (p z) fx)) }) g

  -- ── Call ──

  pub record ArgumentsTold (table : List Chosen) (xs : Nodes) (ks : List J.Known) (sc : Scope) (u : World) (b : Bool) : Type 0 where
    pub judged : JudgedAll c.texts type table xs ks
    pub force : Force c type library u ks (declare_all c.texts library type xs sc)

  given-all : {s : World} {xs : List Provided} → All (ProvidedOk (silent c) s) xs → Given c type s xs
  given-all h = all_map (λ a x. x.has tt) h

  module _ (table : List Chosen) (n slot : ℕ) (low : slot < c.void) (args : Nodes) (proper : ProperAll (Below (silent c)) (NameAt (silent c)) args) {ks : List J.Known}
      {sc : Scope} {s : World} (ready : Ready s (visited_among args ++ last-slot slot)) (h : Claimed (silent c) s)
      (told : Tells c type (ArgumentsTold table args ks sc) s (visit_all c args s)) where
    abbrev Called : World → Answer → Type 0
    Called = With c type (JudgedAll c.texts type table args ks) (Ruled (CallOk c.texts type table n slot (given_types type args)) ks (declare_all c.texts library type args sc))

    visited : (f : Bool → Walk Answer)
        → ((b : Bool) (u : World) → Ready u (last-slot slot) → Claimed (silent c) u → (Silent (silent c) u → Given c type u (provided_of args)) → (Silent (silent c) u → b ≡ true → ⊥)
        → Knows u ks (declare_all c.texts library type args sc)
        → Tells c type (Rule c type slot u (CallOk c.texts type table n slot (types c type (provided_of args)))) u (f b u)) → Tells c type Called s (next (visit_all c args s) f)
    visited f k =
        h_after c type (last-slot slot) f (ready-then [] (last-slot slot) (own-ready ready) (record { left = λ q l. refl })) (all-leave c (last-slot slot) args s ready)
        (g_both c type (g_all (silent c) args proper h) told) (λ a u p. p.1.keep) (λ b u d t x.
        h_with c type (λ z. (x z).holds) (λ z q. ((x z).value.1.fact q).judged)
        (h_to c type (λ v a y. record { ok = subst (CallOk c.texts type table n slot) (provided-types c type args) y.ok; force = y.force })
        (h_rule slot (λ z. (x z).holds) (λ z q. ((x z).value.1.fact q).force)
        (k b u d (λ z. (x z).holds) (λ z. given-all (x z).value.0.provided) (λ z e. (x z).value.0.of_names e tt) (λ z q. ((x z).value.1.fact q).force)))))
      where
        own-ready : {s : World} → Ready s (visited_among args ++ last-slot slot) → Ready s (last-slot slot)
        own-ready {s} h = ready-then (visited_among args) (last-slot slot) {s = s} {u = s} h (record { left = λ q l. refl })

    pub h_call : (f : Callee) (P : ℕ → Type 0) → ProperCallee P (NameAt (silent c)) f
        → target_at slot table ≡ target_of c.texts library type f (given_types type args) (declare_all c.texts library type args sc)
        → Tells c type Called s (call c n slot f (provided_of args) (visit_all c args) s)
    unfolding call ProperCallee
    h_call (own_function name) P p tab =
        visited _ (λ b u d hu i no' know. h_resolve_call c type n slot low (provided_of args) (λ z. last-unset slot d) hu i library table know name
        (subst (λ (l : List Ty). target_at slot table ≡ target_of c.texts library type (own_function name) l (declare_all c.texts library type args sc))
        (sym (provided-types c type args)) tab))
    h_call (package_function pkg name) P p tab =
        visited _ (λ b u d hu i no' know. h_resolve_pkg c type n slot low (provided_of args) (λ z. last-unset slot d) hu i library table know pkg name b no'
        (subst (λ (l : List Ty). target_at slot table ≡ target_of c.texts library type (package_function pkg name) l (declare_all c.texts library type args sc))
        (sym (provided-types c type args)) tab))
    h_call (through_field name) P p tab = h_poison c type h n _
    h_call no_callee P p tab = absurd p

  -- ── Extern and Import ──

  members-ok : {b : Buffer} {gs : List Function} {ms : List _} → Both (MemberRel c b) gs ms → All (FunctionOk (silent c) b) gs
  members-ok C.end = end
  members-ok (C.and x rest) = and (record { sig = sig_ok c x.sig }) (members-ok rest)

  -- the own slot is void
  pub h_void : (slot : ℕ) {s : World} → slot < c.void → (Silent (silent c) s → get_or s.slots slot 0 ≡ 0) → Claimed (silent c) s → {ks : List J.Known} {sc : Scope} → Knows s ks sc
      → Tells c type (Ruled (type slot ≡ void_ty) ks sc) s (set_known slot void_word s)
  h_void slot {s} low unset h know =
      h_rule slot h know (h_map c type (λ u a t p z fx. let w = (p z).value.fact fx in
      record { ok = w.is ∙ low-tree c s.types 1 (omega arith) (omega arith); same = w.same }) (h_set c type slot low unset h (λ z. void-good (silent c) s.types)))

  module _ (n slot token : ℕ) (low : slot < c.void) {ks : List J.Known} {sc : Scope} {s : World} (unset : Silent (silent c) s → get_or s.slots slot 0 ≡ 0) (h : Claimed (silent c) s)
      (know : Knows s ks sc) where
    pub h_import : (paths : List ℕ) → Tells c type (Ruled (type slot ≡ void_ty) ks (imported c.texts library type paths sc)) s (node c (Import n slot token paths) s)
    unfolding node
    h_import paths =
        h_step c type _ (h_imports c type library n token paths h) (λ _ u x. same-slots x.slots) (λ _ u t x.
        h_void slot low (λ z. ap (λ (l : List ℕ). get_or l slot 0) (x z).value.slots ∙ unset (before (silent c) t z)) (λ z. (x z).holds) (λ z fu.
        let z₀ = before (silent c) t z in
        let fo = know z₀ (fixed_back c type (h z₀) (x z).grown (same-slots (x z).value.slots) fu) in
        record { env = env-same c type library (x z).grown (x z).value.env fo.env; decl = (x z).value.decl sc fo.decl }))

    pub h_extern : (name : ℕ) (fs : List ExternFn) → ProperExterns (Below (silent c)) (NameAt (silent c)) fs
        → Tells c type (Ruled (type slot ≡ void_ty) ks (holding
        (record { name = name_bytes c.texts name; origin = n; functions = map (extern_member c.texts) fs }) sc)) s (node c (Extern n slot token name fs) s)
    unfolding node
    h_extern name fs proper =
        h_step c type _ (h_externs c type n fs proper h) (λ _ u x. same-slots x.slots) (λ gs u t x.
        h_step c type _ (h_hold c type (pkg name gs) (λ z. (x z).holds) (λ z. record { functions = members-ok (x z).value.is }))
        (λ _ v y. same-slots (ap (λ (w : World). w.slots) y)) (λ _ v t₁ y.
        h_void slot low (λ z. ap (λ (w : World). get_or w.slots slot 0) (y z).value
        ∙ (ap (λ (l : List ℕ). get_or l slot 0) (x (before (silent c) t₁ z)).value.slots ∙ unset (before (silent c) t (before (silent c) t₁ z)))) (λ z. (y z).holds) (λ z fv.
        let z₁ = before (silent c) t₁ z in
        let z₀ = before (silent c) t z₁ in
        let fu = fixed_back c type (x z₁).holds (y z).grown (same-slots (ap (λ (w : World). w.slots) (y z).value)) fv in
        let fo = know z₀ (fixed_back c type (h z₀) (x z₁).grown (same-slots (x z₁).value.slots) fu) in
        let now = force-same c type library (x z₁).grown (x z₁).value.same fo in
        subst (λ (w : World). Force c type library w ks (holding
        (record { name = name_bytes c.texts name; origin = n; functions = map (extern_member c.texts) fs }) sc)) (sym (y z).value)
        (record { env = now.env; decl = record { held = C.and (record { name = refl; functions = (x z₁).value.is }) now.decl.held; own = now.decl.own; lib = now.decl.lib } }))))
