-- The theorem of trees: a node walked without diagnostic is judged, by the types that the walk's end has in slots; and what is in force after it
-- is what the static pass says. By induction on the tree. Assumes nothing.
use Rattle.std.specs.Prelude.{ℕ, ◌<◌, ◌≡◌, refl, Bool, true, false, List, [], ◌∷◌, ◌++◌, get_or}
use Rattle.std.proofs.Common.{sym, ap, ◌∙◌}
use Rattle.std.proofs.Math.Path.{subst}
use Rattle.std.proofs.lemmas.Bool.{false≢true}
use Rattle.std.proofs.Math.Option.{Option, none, some}
use Rattle.tok.specs.Step.{ok, next}
use Rattle.ptype.specs.Ty.{Ty, rec, void_ty, bool_ty, array_ty, contains_slot}
use Rattle.ptype.specs.Words.{void_word}
use Rattle.ast.specs.Span.{span_of}
use Rattle.ast.specs.Node.{Node, Nodes, Cases, Values, slot_of}
use Rattle.ast.specs.Node.{Atom, Ident, Bin, Unary, Let, Fn, Match, Call, Field, Cast, Import, Extern, Record, Array, Absent, done, then, no_case, case, no_value, value}
use Rattle.rules.specs.declared.Answer.{Answer}
use Rattle.rules.specs.World.{Ctx, World, with_env}
use Rattle.rules.specs.Steps.{env_insert, set_known}
use Rattle.rules.specs.Calls.{callee_of}
use Rattle.rules.specs.Rules.{let_binding, Branch, node, block, last, cases, values, array, members, visit_all}
use Rattle.rules.specs.Visited.{visited_below, visited_among, visited_in_cases, visited_in_values}
use Rattle.laws.specs.RulesKeep as K
use Rattle.laws.specs.Owns.{end_slot}
use Rattle.onerun.specs.Claim.{All, end, and, Both, Is, Good, NameAt, bound, Recorded, Holds, AnswerOk}
use Rattle.onerun.specs.Claim as C
use Rattle.onerun.specs.Grows.{all_map, is_grow, is-tree}
use Rattle.onerun.specs.Logic.{Claimed, Later, Silent, before, After, g_return, answer-later}
use Rattle.onerun.proofs.Types.{PairsAre, no_pairs, more-pairs, low-good}
use Rattle.onerun.specs.Proper.{Proper, ProperAll, ProperCases, ProperValues}
use Rattle.onerun.proofs.Functions.{Below}
use Rattle.onerun.proofs.Rules.{branch-later}
use Rattle.onerun.proofs.Nodes.{g_cases, g_values}
use Rattle.stops.specs.Ready.{leaves_kept, Fits, Ready, ready-left, ready-then, ready_assoc, ready-own, ready-fits}
use Rattle.rules.specs.Functions.{type_meant}
use Rattle.runs.specs.Declared.{Held, Target, Chosen, Scope, choosing, declare, declare_all, declare_cases, declare_values}
use Rattle.runs.specs.Stands.{Place, root, statement, operand, Stands, AllStand, CasesStand, ValuesStand}
use Rattle.runs_laws.specs.Judged.{knows, after, record_ty, Judged, JudgedAll, JudgedBody, JudgedCases, JudgedValues, JudgedRoots}
use Rattle.runs_laws.specs.Judged as J
use Rattle.runs_laws.specs.Sound.{operand_same}
use Rattle.runs_judged.specs.Claim.{silent, same-slots, keep_same, OwnAnswer, is_known, is_poison, no-poison, has-known, Fixed, fixed_back, Says, Tells, earlier, h_next, h_visit}
use Rattle.runs_judged.specs.Claim.{h_visit-block, h_known, h_step, h_after, h_with, h_to, g_both, h_poison, h_map, h_set, last-slot, own-last, last-unset, one_local}
use Rattle.runs_judged.specs.Rules.{low-tree, Binds, h_fuse, h_unary, h_ident, h_let, h_insert, h_type_from, h_cast, h_field}
use Rattle.runs_judged.specs.InForce.{Decl, Force, force-same, env-same}
use Rattle.runs_judged.specs.Exprs.{no-slot}
use Rattle.runs_judged.specs.Resolved.{Resolves, ResolvesAll, ResolvesCases, ResolvesValues}
use Rattle.runs_judged.specs.Parts.{cases-leave, values-leave, h_framed, h_condition, EndsIn, h_matched, h_member, h_go_on, h_array_of, h_value, h_record}
use Rattle.runs_judged.specs.Wholes.{ready_nil, Ruled, Knows, h_rule, h_void, ArgumentsTold, h_call, h_import, h_extern}
use Rattle.runs_judged.specs.FnRule.{BlockTold, h_fn}

module _ (c : Ctx) (type : ℕ → Ty) (library : List Held) (table : List Chosen) where
  abbrev ProperNode : Node → Type 0
  ProperNode x = Proper (Below (silent c)) (NameAt (silent c)) x

  abbrev ProperNodes : Nodes → Type 0
  ProperNodes xs = ProperAll (Below (silent c)) (NameAt (silent c)) xs

  abbrev Declares : Node → Scope → Scope
  Declares x sc = declare c.texts library type x sc

  abbrev DeclaresAll : Nodes → Scope → Scope
  DeclaresAll xs sc = declare_all c.texts library type xs sc

  abbrev KnowsAt : World → List J.Known → Scope → Type 0
  KnowsAt s ks sc = Knows c type library s ks sc

  abbrev HoldsAt : World → Type 0
  HoldsAt s = Claimed (silent c) s

  pub record NodeTold (x : Node) (p : Place) (ks : List J.Known) (sc : Scope) (u : World) (a : Answer) : Type 0 where
    pub judged : Judged c.texts type table x p ks
    pub force : Force c type library u (after c.texts type table x ks) (Declares x sc)

  -- the nodes after one of slot v
  record BodyTells (v : ℕ) (xs : Nodes) (ks : List J.Known) (sc : Scope) (u : World) (a : Answer) : Type 0 where
    judged : JudgedBody c.texts type table xs ks (type v) (type (end_slot v xs))
    decl : Decl c type library u (DeclaresAll xs sc)

  -- cases: the slots in which their bodies end
  unfoldable ends_of : Cases → List ℕ
  ends_of no_case = []
  ends_of (case token x body cs) = end_slot c.void body ∷ ends_of cs

  record EndsAt (b : Branch) (q : ℕ) : Type 0 where
    answer : OwnAnswer q b.answer

  record CasesTold (cs : Cases) (ks : List J.Known) (sc : Scope) (u : World) (bs : List Branch) : Type 0 where
    judged : (whole : Ty) → All (λ (q : ℕ). type q ≡ whole) (ends_of cs) → JudgedCases c.texts type table cs ks whole
    ends : Both EndsAt bs (ends_of cs)
    force : Force c type library u ks (declare_cases c.texts library type cs sc)

  record ValuesTold (vs : Values) (ks : List J.Known) (sc : Scope) (u : World) (ps : List ℕ) : Type 0 where
    judged : JudgedValues c.texts type table vs ks
    pairs : PairsAre (silent c) u.types ps (record_ty c.texts type table vs)
    force : Force c type library u ks (declare_values c.texts library type vs sc)

  record MembersTold (slot i : ℕ) (xs : Nodes) (ks : List J.Known) (sc : Scope) (u : World) (a : Answer) : Type 0 where
    judged : JudgedAll c.texts type table xs ks
    members : J.Members c.texts type table (type i) xs
    is : type slot ≡ array_ty (type i)
    force : Force c type library u ks (DeclaresAll xs sc)

  ends-all : {t : Ty} {bs : List Branch} {qs : List ℕ} → Both EndsAt bs qs → All (EndsIn c type t) bs → All (λ (q : ℕ). type q ≡ t) qs
  ends-all C.end end = end
  ends-all (C.and {b = q} x xs) (and e es) = and (e q x.answer) (ends-all xs es)

  -- after an operand
  after-operand : (x : Node) {ks : List J.Known} {sc : Scope} {s u : World} {a : Answer}
      → (Silent (silent c) u → After (silent c) (Says c type (NodeTold x operand ks sc) s) s u a) → KnowsAt u ks (Declares x sc)
  after-operand x {ks} {sc} {s} {u} f z q =
      let y = (f z).value.fact q in
      subst (λ (l : List J.Known). Force c type library u l (Declares x sc)) (operand_same c.texts type table x y.judged) y.force

  -- a slot's word, and its type at the end
  slot_is : {u : World} {q : ℕ} → Holds (silent c) u → Recorded (silent c) u q → Fixed c type u → Is (silent c) u.types (get_or u.slots q 0) (type q)
  slot_is {u} {q} h e f = let g = h.slots q e in subst (λ (y : Ty). Is (silent c) u.types (get_or u.slots q 0) y) (sym (f.at q e ∙ is-tree (silent c) g.is)) g.is

  -- Let's end: the binding, then the slot
  let_end_lem : (n slot name i : ℕ) {ks : List J.Known} {sc : Scope} {a : Answer} {u : World} → slot < c.void → Ready u (last-slot slot) → OwnAnswer i a → HoldsAt u
      → (Silent (silent c) u → AnswerOk (silent c) u a) → (Silent (silent c) u → Recorded (silent c) u i) → KnowsAt u ks sc
      → Tells c type (Ruled c type library (type slot ≡ void_ty) (knows name (type i) ∷ ks) sc) u
      (next (let_binding n name a u) (λ b v. next (env_insert name b v) (λ _. set_known slot void_word)))
  let_end_lem n slot name i {ks} {sc} {a} {u} low d o h k e know =
      h_step c type _ (h_let c type n name h o k) (λ b v x. same-slots (ap (λ (w : World). w.slots) x.same)) (λ b v t f.
      h_step c type _ (h_insert c type name (λ z. (f z).holds) (λ z. bound_in v b z t f)) (λ _ w x. same-slots (ap (λ (w : World). w.slots) x)) (λ _ w t₁ g.
      let whole : Silent (silent c) w → w ≡ with_env u (record { name = name; type = b } ∷ u.env) = λ z. (g z).value ∙ ap
      (λ (v : World). with_env v (record { name = name; type = b } ∷ v.env)) (f (before (silent c) t₁ z)).value.same in
      h_void c type library slot low (λ z. ap (λ (w : World). get_or w.slots slot 0) (whole z) ∙ last-unset slot d) (λ z. (g z).holds) (λ z fw.
      let z₁ = before (silent c) t₁ z in
      let z₀ = before (silent c) t z₁ in
      let fv = fixed_back c type (f z₁).holds (g z).grown (same-slots (ap (λ (w : World). w.slots) (g z).value)) fw in
      let fu = fixed_back c type (h z₀) (f z₁).grown (same-slots (ap (λ (w : World). w.slots) (f z₁).value.same)) fv in
      let fo = know z₀ fu in
      subst (λ (w : World). Force c type library w (knows name (type i) ∷ ks) sc) (sym (whole z))
      (record { env = one_local refl (f z₁).value.is (slot_is (h z₀) (e z₀) fu) fo.env; decl = record { held = fo.decl.held; own = fo.decl.own; lib = fo.decl.lib } }))))
    where
      bound_in : (v : World) (b : Option ℕ) → Silent (silent c) v → Later u v → (Silent (silent c) v → After (silent c) (Binds c type u i) u v b) → C.Bound (silent c) v.types b
      bound_in v b z t f =
          let x = (f z).value in
          let z₀ = before (silent c) t z in
          subst (λ (o : Option ℕ). C.Bound (silent c) v.types o) (sym x.is)
          (bound (subst (λ (w : World). Good (silent c) w.types (get_or u.slots i 0)) (sym x.same) ((h z₀).slots i (e z₀))))

  -- what a call chose changes no declaration
  chosen-decl : (n slot : ℕ) (o : Option Target) {u : World} (sc : Scope) → Decl c type library u sc → Decl c type library u (choosing n slot o sc)
  unfolding choosing
  chosen-decl n slot none sc d = d
  chosen-decl n slot (some x) sc d = record { held = d.held; own = d.own; lib = d.lib }

  has : {u : World} {q : ℕ} {a : Answer} → OwnAnswer q a → AnswerOk (silent c) u a → Recorded (silent c) u q
  has is_known k = has-known k
  has is_poison k = absurd (no-poison k)

  case-judged : (token : ℕ) (x : Node) (body : Nodes) (cs : Cases) (ks : List J.Known) (whole : Ty) → Judged c.texts type table x operand ks → type (slot_of x) ≡ bool_ty
      → JudgedBody c.texts type table body ks void_ty (type (end_slot c.void body))
      → (All (λ (q : ℕ). type q ≡ whole) (ends_of cs) → JudgedCases c.texts type table cs ks whole) → All (λ (q : ℕ). type q ≡ whole) (ends_of (case token x body cs))
      → JudgedCases c.texts type table (case token x body cs) ks whole
  unfolding ends_of JudgedCases
  case-judged token x body cs ks whole j b k go (and e es) = (j, b, subst (JudgedBody c.texts type table body ks void_ty) e k, go es)

  mutual
    unfolding node Proper Stands Judged after visited_below slot_of Fits declare Resolves end_slot record_ty ends_of J.Members contains_slot

    pub h_node : (x : Node) (p : Place) (ks : List J.Known) (sc : Scope) → ProperNode x → Stands x p → Resolves c.texts library type table x sc → {s : World}
        → Ready s (x ∷ visited_below x) → HoldsAt s → KnowsAt s ks sc → Tells c type (NodeTold x p ks sc) s (node c x s)
    h_node (Atom n slot token k) p ks sc q pl rs {s} d h know =
        let f = ready-fits (Atom n slot token k) [] d in
        h_to c type (λ u a x. record { judged = record { low = f.0; high = f.1; is = x.ok }; force = x.force })
        (h_rule c type library slot h know (h_map c type
        (λ u a t y z fx. let w = (y z).value.fact fx in record { ok = w.is ∙ low-tree c s.types k q.1.low q.1.high; same = w.same })
        (h_set c type slot q.0 (λ z. ready-own (Atom n slot token k) [] d) h (λ z. low-good (silent c) s.types k q.1.low q.1.high))))
    h_node (Ident n slot name) p ks sc q pl rs {s} d h know =
        h_to c type (λ u a x. record { judged = x.ok; force = x.force })
        (h_rule c type library slot h know (h_ident c type h n slot name q.0 (λ z. ready-own (Ident n slot name) [] d) (λ z f. (know z f).env)))
    h_node (Bin n slot token op l r) p ks sc q pl rs {s} d h know =
        let d₁ = ready_assoc (l ∷ visited_below l) (r ∷ visited_below r) (last-slot slot) (own-last (Bin n slot token op l r) _ d) in
        h_to c type (λ u a x. record { judged = (x.static, x.told.static, x.told.told.ok); force = x.told.told.force })
        (h_visit c type l ((r ∷ visited_below r) ++ last-slot slot) _ q.1 h d₁
        (h_node l operand ks sc q.1 pl.0 rs.0 (ready-left (l ∷ visited_below l) ((r ∷ visited_below r) ++ last-slot slot) d₁) h know) (λ a u o i d₂ t f.
        h_with c type (λ z. (f z).holds) (λ z fu. ((f z).value.fact fu).judged)
        (h_visit c type r (last-slot slot) _ q.2 (λ z. (f z).holds) d₂
        (h_node r operand ks (Declares l sc) q.2 pl.1 rs.1 (ready-left (r ∷ visited_below r) (last-slot slot) d₂) (λ z. (f z).holds) (after-operand l f)) (λ b v o₁ i₁ d₃ t₁ g.
        h_with c type (λ z. (g z).holds) (λ z fv. ((g z).value.fact fv).judged)
        (h_known c type _ (λ z. (g z).holds) o (λ z. answer-later (silent c) (g z) (i (before (silent c) t₁ z)).answer)
        (h_known c type _ (λ z. (g z).holds) o₁ (λ z. (i₁ z).answer)
        (h_rule c type library slot (λ z. (g z).holds) (after-operand r g)
        (h_fuse c type (λ z. (g z).holds) n slot token q.0 (λ z. last-unset slot d₃) op (λ z. (g z).recorded (slot_of l) ((i (before (silent c) t₁ z)).own tt)) (λ z. (i₁ z).own tt)))))))))
    h_node (Unary n slot token op r) p ks sc q pl rs {s} d h know =
        let d₁ = own-last (Unary n slot token op r) _ d in
        h_to c type (λ u a x. record { judged = (x.static, x.told.ok); force = x.told.force })
        (h_visit c type r (last-slot slot) _ q.1 h d₁ (h_node r operand ks sc q.1 pl rs (ready-left (r ∷ visited_below r) (last-slot slot) d₁) h know) (λ b v o₁ i₁ d₃ t₁ g.
        h_with c type (λ z. (g z).holds) (λ z fv. ((g z).value.fact fv).judged)
        (h_known c type _ (λ z. (g z).holds) o₁ (λ z. (i₁ z).answer)
        (h_rule c type library slot (λ z. (g z).holds) (after-operand r g) (h_unary c type (λ z. (g z).holds) n slot token q.0 (λ z. last-unset slot d₃) op (λ z. (i₁ z).own tt))))))
    h_node (Let n slot name r) p ks sc q pl rs {s} d h know =
        let d₁ = own-last (Let n slot name r) _ d in
        h_to c type (λ u a x. record { judged = (pl.0, x.static, x.told.ok); force = x.told.force })
        (h_visit c type r (last-slot slot) _ q.2 h d₁ (h_node r operand ks sc q.2 pl.1 rs (ready-left (r ∷ visited_below r) (last-slot slot) d₁) h know) (λ b v o₁ i₁ d₃ t₁ g.
        h_with c type (λ z. (g z).holds) (λ z fv. ((g z).value.fact fv).judged)
        (let_end_lem n slot name (slot_of r) q.0 d₃ o₁ (λ z. (g z).holds) (λ z. (i₁ z).answer) (λ z. (i₁ z).own tt) (after-operand r g))))
    h_node (Fn n slot name ret args body) p ks sc q pl rs {s} d h know =
        h_to c type (λ u a x. record { judged = (pl.0, x.static); force = x.told.force })
        (h_fn c type library table n slot name ret args body q.0 q.2 q.3 q.4 q.5 (λ v d₁ h₁ know₁. h_block body _ _ q.5 pl.1 rs d₁ h₁ know₁) d
        (ready_nil (Fn n slot name ret args body ∷ visited_among body) d) h know)
    h_node (Match n slot cs token e) p ks sc q pl rs {s} d h know =
        let d₁ = ready_assoc (visited_in_cases cs) (visited_among e) (last-slot slot) (own-last (Match n slot cs token e) _ d) in
        let ys : List Node = visited_among e ++ last-slot slot in
        h_after c type ys _ (ready-then (visited_in_cases cs) ys {s = s} {u = s} d₁ (record { left = λ q l. refl })) (cases-leave c ys n cs s d₁)
        (g_both c type (g_cases (silent c) n cs q.1 h) (h_cases n cs ks sc q.1 pl.0 rs.0 (ready-left (visited_in_cases cs) ys d₁) h know)) (λ _ u x. x.1.keep) (λ bs u d₂ t f.
        h_to c type (λ u a x. record {
          judged = (
            x.static.judged _
                (ends-all x.static.ends (subst (λ (t : Ty). All (EndsIn c type t) bs) (sym x.told.told.ok.0) x.told.told.ok.1)),
            subst
                (JudgedBody c.texts type table e ks void_ty) (sym x.told.told.ok.0) x.told.static,
          );
          force = x.told.told.force;
        })
        (h_with c type (λ z. (f z).holds) (λ z fu. (f z).value.1.fact fu)
        (h_visit-block c type e (last-slot slot) _ q.2 (λ z. (f z).holds) d₂
        (h_block e ks (declare_cases c.texts library type cs sc) q.2 pl.1 rs.1 (ready-left (visited_among e) (last-slot slot) d₂) (λ z. (f z).holds)
        (λ z fu. ((f z).value.1.fact fu).force)) (λ b v o k d₃ t₁ g.
        h_with c type (λ z. (g z).holds) (λ z fv. ((g z).value.fact fv).judged)
        (h_rule c type library slot (λ z. (g z).holds) (λ z fv. ((g z).value.fact fv).force)
        (h_matched c type n slot q.0 bs (λ z. last-unset slot d₃) (λ z. (g z).holds) o k (λ z. has o (k z))
        (λ z. all_map (branch-later (silent c) (g z)) (f (before (silent c) t₁ z)).value.0.branches)))))))
    h_node (Call n slot target args) p ks sc q pl rs {s} d h know =
        let d₁ = own-last (Call n slot target args) _ d in
        h_to c type (λ u a x. record { judged = (x.static, x.told.ok); force = record { env = x.told.force.env; decl = chosen-decl n slot _ _ x.told.force.decl } })
        (h_call c type library table n slot q.0 args q.2 d₁ h (h_all args ks sc q.2 pl rs.0 (ready-left (visited_among args) (last-slot slot) d₁) h know)
        (callee_of target) (Below (silent c)) q.1 rs.1)
    h_node (Field n slot r name) p ks sc q pl rs {s} d h know =
        let d₁ = own-last (Field n slot r name) _ d in
        h_to c type (λ u a x. record { judged = (x.static, x.told.ok); force = x.told.force })
        (h_visit c type r (last-slot slot) _ q.1 h d₁ (h_node r operand ks sc q.1 pl rs (ready-left (r ∷ visited_below r) (last-slot slot) d₁) h know) (λ b v o₁ i₁ d₃ t₁ g.
        h_with c type (λ z. (g z).holds) (λ z fv. ((g z).value.fact fv).judged)
        (h_known c type _ (λ z. (g z).holds) o₁ (λ z. (i₁ z).answer)
        (h_rule c type library slot (λ z. (g z).holds) (after-operand r g) (h_field c type (λ z. (g z).holds) n slot name q.0 (λ z. last-unset slot d₃) (λ z. (i₁ z).own tt))))))
    h_node (Cast n slot token l x) p ks sc q pl rs {s} d h know =
        let ys : List Node = (l ∷ visited_below l) ++ last-slot slot in
        h_to c type (λ u a x. record { judged = (x.static, x.told.ok); force = x.told.force })
        (h_after c type ys _ (own-last (Cast n slot token l x) _ d) (K.in_type_from (leaves_kept ys) c n x s) (h_type_from c type n x q.2 h)
        (λ w u y. same-slots y.slots) (λ to u d₁ t f.
        h_visit c type l (last-slot slot) _ q.1 (λ z. (f z).holds) d₁ (h_node l operand ks sc q.1 pl rs (ready-left (l ∷ visited_below l) (last-slot slot) d₁) (λ z. (f z).holds) (λ z fu.
        let z₀ = before (silent c) t z in
        force-same c type library (f z).grown (f z).value.same (know z₀ (fixed_back c type (h z₀) (f z).grown (same-slots (f z).value.slots) fu)))) (λ b v o₁ i₁ d₃ t₁ g.
        h_with c type (λ z. (g z).holds) (λ z fv. ((g z).value.fact fv).judged)
        (h_known c type _ (λ z. (g z).holds) o₁ (λ z. (i₁ z).answer)
        (h_rule c type library slot (λ z. (g z).holds) (after-operand l g)
        (h_cast c type (λ z. (g z).holds) n slot token q.0 (λ z. last-unset slot d₃) x (λ z. (i₁ z).own tt) (λ z. is_grow (silent c) (g z).grown (f (before (silent c) t₁ z)).value.is)
        (λ z. record { tree = type_meant c.texts x; is = is_grow (silent c) (g z).grown (f (before (silent c) t₁ z)).value.is; no_slot = λ _. no-slot c.texts x })))))))
    h_node (Import n slot token paths) p ks sc q pl rs {s} d h know =
        h_to c type (λ u a x. record { judged = x.ok; force = x.force }) (h_import c type library n slot token q.0 (λ z. ready-own (Import n slot token paths) [] d) h know paths)
    h_node (Extern n slot token name fs) p ks sc q pl rs {s} d h know =
        h_to c type (λ u a x. record { judged = x.ok; force = x.force })
        (h_extern c type library n slot token q.0 (λ z. ready-own (Extern n slot token name fs) [] d) h know name fs q.2)
    h_node (Record n slot token fs) p ks sc q pl rs {s} d h know =
        let d₁ = own-last (Record n slot token fs) _ d in
        let ys : List Node = last-slot slot in
        h_to c type (λ u a x. record { judged = (x.static, x.told.ok); force = x.told.force })
        (h_after c type ys _ (ready-then (visited_in_values fs) ys {s = s} {u = s} d₁ (record { left = λ q l. refl })) (values-leave c ys fs s d₁)
        (g_both c type (g_values (silent c) fs q.1 h) (h_values fs ks sc q.1 pl rs (ready-left (visited_in_values fs) ys d₁) h know)) (λ _ u x. x.1.keep) (λ ps u d₂ t f.
        h_with c type (λ z. (f z).holds) (λ z fu. ((f z).value.1.fact fu).judged)
        (h_step c type _ (h_record c type n ps (λ z. (f z).holds) (λ z. (f z).value.0.pairs)) (λ w v x. same-slots x.slots) (λ w v t₁ g.
        h_rule c type library slot (λ z. (g z).holds) (λ z fv.
        let z₁ = before (silent c) t₁ z in
        force-same c type library (g z).grown (g z).value.same ((f z₁).value.1.fact (fixed_back c type (f z₁).holds (g z).grown (same-slots (g z).value.slots) fv)).force)
        (h_map c type (λ w₁ a t₂ y z fx.
        let z₂ = before (silent c) t₂ z in
        let z₁ = before (silent c) t₁ z₂ in
        let fv = earlier c type (g z₂).holds (y z) fx in
        let fu = fixed_back c type (f z₁).holds (g z₂).grown (same-slots (g z₂).value.slots) fv in
        let r = (y z).value.fact fx in
        record { ok = r.is ∙ is-tree (silent c) ((g z₂).value.is _ ((f z₁).value.1.fact fu).pairs); same = r.same })
        (h_set c type slot q.0 (λ z. ap (λ (l : List ℕ). get_or l slot 0) (g z).value.slots ∙ last-unset slot d₂) (λ z. (g z).holds)
        (λ z. let i = (f (before (silent c) t₁ z)).value.0.pairs in record { tree = rec i.fields; is = (g z).value.is i.fields i.are; no_slot = i.no_slot })))))))
    h_node (Array n slot token ms) p ks sc q pl rs {s} d h know = h_array n slot token ms p ks sc q.0 q.1 pl rs d h know
    h_node (Absent n) p ks sc q pl rs d h know = absurd q

    h_array : (n slot token : ℕ) (ms : Nodes) (p : Place) (ks : List J.Known) (sc : Scope) → slot < c.void → ProperNodes ms → AllStand ms operand
        → ResolvesAll c.texts library type table ms sc → {s : World} → Ready s (Array n slot token ms ∷ visited_among ms) → HoldsAt s → KnowsAt s ks sc
        → Tells c type (NodeTold (Array n slot token ms) p ks sc) s (array c n slot token ms s)
    h_array n slot token done p ks sc low q pl rs {s} d h know = h_poison c type h n _
    h_array n slot token (then x xs) p ks sc low q pl rs {s} d h know =
        let d₁ = ready_assoc (x ∷ visited_below x) (visited_among xs) (last-slot slot) (own-last (Array n slot token (then x xs)) _ d) in
        h_to c type (λ u a y. record {
          judged =
              ((y.static, y.told.judged), record { element = type (slot_of x); members = (refl, y.told.members); is = y.told.is });
          force = y.told.force;
        })
        (h_visit c type x (visited_among xs ++ last-slot slot) _ q.0 h d₁
        (h_node x operand ks sc q.0 pl.0 rs.0 (ready-left (x ∷ visited_below x) (visited_among xs ++ last-slot slot) d₁) h know) (λ a u o i d₂ t f.
        h_with c type (λ z. (f z).holds) (λ z fu. ((f z).value.fact fu).judged)
        (h_members n slot xs (slot_of x) false ks (Declares x sc) low q.1 pl.1 rs.1 o (λ z. (i z).answer) (λ z. (i z).own tt) (λ z e. false≢true e) d₂
        (λ z. (f z).holds) (after-operand x f))))

    h_members : (n slot : ℕ) (xs : Nodes) (i : ℕ) (b : Bool) (ks : List J.Known) (sc : Scope) → slot < c.void → ProperNodes xs → AllStand xs operand
        → ResolvesAll c.texts library type table xs sc → {a : Answer} {s : World} → OwnAnswer i a → (Silent (silent c) s → AnswerOk (silent c) s a)
        → (Silent (silent c) s → Recorded (silent c) s i)
        → (Silent (silent c) s → b ≡ true → ⊥) → Ready s (visited_among xs ++ last-slot slot) → HoldsAt s → KnowsAt s ks sc
        → Tells c type (MembersTold slot i xs ks sc) s (members c n slot a b xs s)
    h_members n slot done i b ks sc low q pl rs o k e l d h know =
        h_to c type (λ u a x. record { judged = tt; members = tt; is = x.ok; force = x.force })
        (h_rule c type library slot h know (h_array_of c type n slot low (λ z. last-unset slot d) h o k e b l))
    h_members n slot (then x xs) i b ks sc low q pl rs {a = a} {s = s} o k e l d h know =
        let d₁ = ready_assoc (x ∷ visited_below x) (visited_among xs) (last-slot slot) d in
        let ys : List Node = visited_among xs ++ last-slot slot in
        h_to c type (λ u a y. record {
          judged = (y.static, y.told.told.judged);
          members =
              (y.told.static, y.told.told.members);
          is = y.told.told.is;
          force = y.told.told.force;
        })
        (h_visit c type x ys _ q.0 h d₁ (h_node x operand ks sc q.0 pl.0 rs.0 (ready-left (x ∷ visited_below x) ys d₁) h know) (λ y u o₁ i₁ d₂ t f.
        h_with c type (λ z. (f z).holds) (λ z fu. ((f z).value.fact fu).judged)
        (h_after c type ys _ d₂ (K.in_member (leaves_kept ys) c n (span_of x) a y u)
        (h_member c type n (span_of x) (λ z. (f z).holds) o o₁ (λ z. answer-later (silent c) (f z) (k (before (silent c) t z))) (λ z. (i₁ z).answer))
        (λ m v g. same-slots (ap (λ (w : World). w.slots) g.same)) (λ m v d₃ t₁ g.
        h_with c type (λ z. (g z).holds) (λ z fv. (g z).value.type' (subst (Fixed c type) (g z).value.same fv))
        (h_go_on c type m b _ (λ z. (g z).holds) (λ z. (g z).value.is) (λ z. l (before (silent c) t (before (silent c) t₁ z))) (λ b' lb.
        h_members n slot xs i b' ks (Declares x sc) low q.1 pl.1 rs.1 o
        (λ z. let z₁ = before (silent c) t₁ z in answer-later (silent c) (g z) (answer-later (silent c) (f z₁) (k (before (silent c) t z₁))))
        (λ z. let z₁ = before (silent c) t₁ z in (g z).recorded i ((f z₁).recorded i (e (before (silent c) t z₁)))) lb d₃ (λ z. (g z).holds)
        (λ z fv. subst (λ (w : World). Force c type library w ks (Declares x sc)) (sym (g z).value.same)
        (after-operand x f (before (silent c) t₁ z) (subst (Fixed c type) (g z).value.same fv)))))))))

    h_all : (xs : Nodes) (ks : List J.Known) (sc : Scope) → ProperNodes xs → AllStand xs operand → ResolvesAll c.texts library type table xs sc → {s : World}
        → Ready s (visited_among xs) → HoldsAt s → KnowsAt s ks sc → Tells c type (ArgumentsTold c type library table xs ks sc) s (visit_all c xs s)
    h_all done ks sc q pl rs {s} d h know = g_return (silent c) h (λ z. record { keep = keep_same s; fact = λ f. record { judged = tt; force = know z f } })
    h_all (then x xs) ks sc q pl rs {s} d h know =
        h_visit c type x (visited_among xs) _ q.0 h d (h_node x operand ks sc q.0 pl.0 rs.0 (ready-left (x ∷ visited_below x) (visited_among xs) d) h know) (λ a u o i d₁ t f.
        h_next c type _ (h_all xs ks (Declares x sc) q.1 pl.1 rs.1 d₁ (λ z. (f z).holds) (after-operand x f)) (λ b v t₁ g.
        g_return (silent c) (λ z. (g z).holds) (λ z. record {
          keep = keep_same v;
          fact = λ fv. let z₁ = before (silent c) t₁ z in record {
            judged =
                (((f z₁).value.fact (earlier c type (f z₁).holds (g z) fv)).judged, ((g z).value.fact fv).judged);
            force = ((g z).value.fact fv).force;
          };
        })))

    h_cases : (n : ℕ) (cs : Cases) (ks : List J.Known) (sc : Scope) → ProperCases (Below (silent c)) (NameAt (silent c)) cs → CasesStand cs
        → ResolvesCases c.texts library type table cs sc → {s : World} → Ready s (visited_in_cases cs) → HoldsAt s → KnowsAt s ks sc → Tells c type (CasesTold cs ks sc) s (cases c n cs s)
    h_cases n no_case ks sc q pl rs {s} d h know = g_return (silent c) h (λ z. record { keep = keep_same s; fact = λ f. record { judged = λ whole es. tt; ends = C.end; force = know z f } })
    h_cases n (case token x body cs) ks sc q pl rs {s} d h know =
        let ys : List Node = visited_among body ++ visited_in_cases cs in
        let d₁ = ready_assoc (x ∷ visited_below x) (visited_among body) (visited_in_cases cs) d in
        h_visit c type x ys _ q.0 h d₁ (h_node x operand ks sc q.0 pl.0 rs.0 (ready-left (x ∷ visited_below x) ys d₁) h know) (λ a u o i d₂ t f.
        h_after c type ys _ d₂ (K.in_condition (leaves_kept ys) c n token a u)
        (h_condition c type n token (λ z. (f z).holds) o (λ z. (i z).answer)) (λ _ v g. same-slots (ap (λ (w : World). w.slots) g.0)) (λ _ u₁ d₃ t₁ g.
        h_visit-block c type body (visited_in_cases cs) _ q.1 (λ z. (g z).holds) d₃
        (h_block body ks (Declares x sc) q.1 pl.1 rs.1 (ready-left (visited_among body) (visited_in_cases cs) d₃) (λ z. (g z).holds)
        (λ z fv. subst (λ (w : World). Force c type library w ks (Declares x sc)) (sym (g z).value.0)
        (after-operand x f (before (silent c) t₁ z) (subst (Fixed c type) (g z).value.0 fv)))) (λ b u₂ o₂ k₂ d₄ t₂ f₂.
        h_next c type _ (h_cases n cs ks (DeclaresAll body (Declares x sc)) q.2 pl.2 rs.2 d₄ (λ z. (f₂ z).holds) (λ z fu. ((f₂ z).value.fact fu).force)) (λ bs u₃ t₃ f₃.
        g_return (silent c) (λ z. (f₃ z).holds) (λ z. record {
          keep = keep_same u₃;
          fact = λ fx.
              let z₂ = before (silent c) t₃ z in
              let z₁ = before (silent c) t₂ z₂ in
              let z₀ = before (silent c) t₁ z₁ in
              let fx₂ = earlier c type (f₂ z₂).holds (f₃ z) fx in
              let fx₁ = earlier c type (g z₁).holds (f₂ z₂) fx₂ in
              let fx₀ = subst (Fixed c type) (g z₁).value.0 fx₁ in
              let y = (f₃ z).value.fact fx in
              record {
                judged = λ whole es. case-judged token x body cs ks whole ((f z₀).value.fact fx₀).judged ((g z₁).value.1 fx₀) ((f₂ z₂).value.fact fx₂).judged (y.judged whole) es;
                ends = C.and (record { answer = o₂ }) y.ends;
                force = y.force;
              };
        })))))

    h_values : (vs : Values) (ks : List J.Known) (sc : Scope) → ProperValues (Below (silent c)) (NameAt (silent c)) vs → ValuesStand vs
        → ResolvesValues c.texts library type table vs sc → {s : World} → Ready s (visited_in_values vs) → HoldsAt s → KnowsAt s ks sc → Tells c type (ValuesTold vs ks sc) s (values c vs s)
    h_values no_value ks sc q pl rs {s} d h know = g_return (silent c) h
        (λ z. record { keep = keep_same s; fact = λ f. record { judged = tt; pairs = no_pairs (silent c) s.types; force = know z f } })
    h_values (value name x vs) ks sc q pl rs {s} d h know =
        let ys : List Node = visited_in_values vs in
        h_visit c type x ys _ q.1 h d (h_node x operand ks sc q.1 pl.0 rs.0 (ready-left (x ∷ visited_below x) ys d) h know) (λ a u o i d₁ t f.
        h_after c type ys _ d₁ (K.in_value (leaves_kept ys) a u) (h_value c type (λ z. (f z).holds) o (λ z. (i z).answer))
        (λ _ v g. same-slots (ap (λ (w : World). w.slots) g.0)) (λ w u₁ d₂ t₁ g.
        h_next c type _ (h_values vs ks (Declares x sc) q.2 pl.1 rs.1 d₂ (λ z. (g z).holds)
        (λ z fv. subst (λ (w : World). Force c type library w ks (Declares x sc)) (sym (g z).value.0)
        (after-operand x f (before (silent c) t₁ z) (subst (Fixed c type) (g z).value.0 fv)))) (λ ps u₂ t₂ f₂.
        g_return (silent c) (λ z. (f₂ z).holds) (λ z. record {
          keep = keep_same u₂;
          fact = λ fx.
              let z₁ = before (silent c) t₂ z in
              let z₀ = before (silent c) t₁ z₁ in
              let fx₁ = earlier c type (g z₁).holds (f₂ z) fx in
              let fx₀ = subst (Fixed c type) (g z₁).value.0 fx₁ in
              let is : Is (silent c) u.types w (type (slot_of x)) = subst (λ (v : ℕ). Is (silent c) u.types v (type (slot_of x))) (sym (g z₁).value.1)
              (slot_is (f z₀).holds ((i z₀).own tt) fx₀) in
              let y = (f₂ z).value.fact fx in
              record {
                judged = (((f z₀).value.fact fx₀).judged, y.judged);
                pairs = more-pairs (silent c) q.0 (is_grow (silent c) (f₂ z).grown (is_grow (silent c) (g z₁).grown is)) y.pairs;
                force = y.force;
              };
        }))))

    h_body : (v : ℕ) (xs : Nodes) (ks : List J.Known) (sc : Scope) (a : Answer) → ProperNodes xs → AllStand xs statement → ResolvesAll c.texts library type table xs sc
        → {s : World} → Ready s (visited_among xs) → HoldsAt s → KnowsAt s ks sc → Tells c type (BodyTells v xs ks sc) s (last c a xs s)
    h_body v done ks sc a q pl rs {s} d h know = g_return (silent c) h (λ z. record { keep = keep_same s; fact = λ f. record { judged = refl; decl = (know z f).decl } })
    h_body v (then x xs) ks sc a q pl rs {s} d h know =
        h_visit c type x (visited_among xs) _ q.0 h d (h_node x statement ks sc q.0 pl.0 rs.0 (ready-left (x ∷ visited_below x) (visited_among xs) d) h know) (λ b u o i d₁ t f.
        h_to c type (λ w b y. record { judged = (y.static, y.told.judged); decl = y.told.decl })
        (h_with c type (λ z. (f z).holds) (λ z fu. ((f z).value.fact fu).judged)
        (h_body (slot_of x) xs (after c.texts type table x ks) (Declares x sc) b q.1 pl.1 rs.1 d₁ (λ z. (f z).holds) (λ z fu. ((f z).value.fact fu).force))))

    h_block : (xs : Nodes) (ks : List J.Known) (sc : Scope) → ProperNodes xs → AllStand xs statement → ResolvesAll c.texts library type table xs sc → {s : World}
        → Ready s (visited_among xs) → HoldsAt s → KnowsAt s ks sc → Tells c type (BlockTold c type library table xs ks sc) s (block c xs s)
    h_block done ks sc q pl rs {s} d h know = g_return (silent c) h (λ z. record { keep = keep_same s; fact = λ f. record { judged = sym f.void; force = know z f } })
    h_block (then x xs) ks sc q pl rs {s} d h know =
        h_map c type (λ u a t y z fx.
        let z₀ = before (silent c) t z in
        let r = (y z).value.fact fx in
        record {
          judged = (r.0.static, r.0.told.judged);
          force = record {
            env = env-same c type library (y z).grown r.1
                (know z₀ (earlier c type (h z₀) (y z) fx)).env;
            decl = r.0.told.decl;
          };
        })
        (h_framed c type
        (λ u e a y. record {
          static = y.static;
          told = record { judged = y.told.judged; decl = record { held = y.told.decl.held; own = y.told.decl.own; lib = y.told.decl.lib } };
        }) _ h
        (h_visit c type x (visited_among xs) _ q.0 h d (h_node x statement ks sc q.0 pl.0 rs.0 (ready-left (x ∷ visited_below x) (visited_among xs) d) h know) (λ b u o i d₁ t f.
        h_with c type (λ z. (f z).holds) (λ z fu. ((f z).value.fact fu).judged)
        (h_body (slot_of x) xs (after c.texts type table x ks) (Declares x sc) b q.1 pl.1 rs.1 d₁ (λ z. (f z).holds) (λ z fu. ((f z).value.fact fu).force)))))

  -- the roots
  pub h_roots : (xs : Nodes) (ks : List J.Known) (sc : Scope) (a : Answer) → ProperNodes xs → AllStand xs root → ResolvesAll c.texts library type table xs sc
      → {s : World} → Ready s (visited_among xs) → HoldsAt s → KnowsAt s ks sc
      → Tells c type (λ u (b : Answer). JudgedRoots c.texts type table xs ks) s (last c a xs s)
  unfolding last ProperAll AllStand ResolvesAll JudgedRoots visited_among
  h_roots done ks sc a q pl rs {s} d h know = g_return (silent c) h (λ z. record { keep = keep_same s; fact = λ _. tt })
  h_roots (then x xs) ks sc a q pl rs {s} d h know =
      h_visit c type x (visited_among xs) _ q.0 h d (h_node x root ks sc q.0 pl.0 rs.0 (ready-left (x ∷ visited_below x) (visited_among xs) d) h know) (λ b u o i d₁ t f.
      h_map c type (λ v e t₁ y z fx. let z₀ = before (silent c) t₁ z in (((f z₀).value.fact (earlier c type (f z₀).holds (y z) fx)).judged, (y z).value.fact fx))
      (h_roots xs (after c.texts type table x ks) (Declares x sc) b q.1 pl.1 rs.1 d₁ (λ z. (f z).holds) (λ z fx. ((f z).value.fact fx).force)))
