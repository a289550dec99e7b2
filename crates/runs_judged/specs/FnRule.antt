-- Fn as a whole, given what is told of its body from the point on where its signature is entered: so a recursive call finds it. Assumes nothing.
use Rattle.std.specs.Prelude.{ℕ, ◌+◌, ◌<◌, ◌≡◌, false, List, [], ◌∷◌, ◌++◌, get_or}
use Rattle.std.proofs.Common.{arith, sym, ap, subst, ◌∙◌}
use Rattle.std.proofs.Math.Path.{refl}
use Rattle.std.proofs.Math.Option.{none}
use Rattle.tok.specs.Step.{Result, ok, Refusal, next}
use Rattle.tok.specs.Text.{name_bytes}
use Rattle.ptype.specs.Ty.{Ty, void_ty}
use Rattle.ast.specs.TypeExpr.{TypeExpr, Arg}
use Rattle.ast.specs.Node.{Node, Nodes, Fn, slot_of}
use Rattle.library.specs.Package.{signature}
use Rattle.rules.specs.declared.Answer.{Answer}
use Rattle.rules.specs.declared.Answer.TheVariants.{Known, Poison}
use Rattle.rules.specs.World.{Ctx, World, with_env}
use Rattle.rules.specs.Steps.{Done, if_known, ty, tree, ty_tree, type_from_expr, enter, apart}
use Rattle.rules.specs.Rules.{fn_arguments, check_return, fn, unless_defined, block}
use Rattle.rules.specs.Visited.{visited_among}
use Rattle.laws.specs.SlotsOf.{ArgSlots}
use Rattle.laws.specs.Keeps.{Keeps}
use Rattle.laws.specs.RulesKeep as K
use Rattle.laws.specs.Owns.{end_slot}
use Rattle.accepts.proofs.OtherSlots.{among-hold}
use Rattle.tworuns.specs.Means.{grown-trans}
use Rattle.onerun.specs.Claim.{Is, NameAt}
use Rattle.onerun.specs.Claim as C
use Rattle.onerun.specs.Grows.{both-map, is_grow, is-tree, param_grow}
use Rattle.onerun.specs.Logic.{Claimed, Silent, before, Gives, g_next, g_return, g_when, g_option}
use Rattle.onerun.proofs.Scope.{alone, g_apart, g_enter}
use Rattle.onerun.proofs.Arguments.{params_grow}
use Rattle.onerun.specs.Proper.{ProperType, ProperArgs, ProperAll}
use Rattle.onerun.proofs.Functions.{Below, g_fn_arguments, signature-ok}
use Rattle.onerun.proofs.Nodes.{g_block}
use Rattle.stops.specs.Ready.{Ready, Free, Leaves, Any, leaves_kept, leaves_enters, ready-then, ready-left, ready-below, arguments-free}
use Rattle.rules.specs.Functions.{type_meant}
use Rattle.runs.specs.Declared.{Held, Own, Chosen, Scope, meeting, declare_all}
use Rattle.runs_laws.specs.Judged.{args_known, JudgedBody}
use Rattle.runs_laws.specs.Judged as J
use Rattle.runs_judged.specs.Claim.{silent, same-slots, keep_same, Fixed, fixed_back, Tells, h_visit-block, h_step, h_after, With}
use Rattle.runs_judged.specs.Claim.{h_with, g_both, h_report, h_poison, h_map, h_set, last-slot, own-last, last-unset, no_local}
use Rattle.runs_judged.specs.Rules.{h_type_from}
use Rattle.runs_judged.specs.InForce.{expr_sig, SigRel, sig_ok, Decl, Force, decl-same, env-same, force-same}
use Rattle.runs_judged.specs.Exprs.{no-slot}
use Rattle.runs_judged.specs.Declares.{h_enter, expr-sig, h_fn_arguments, h_check_return}
use Rattle.runs_judged.specs.Parts.{free, h_apart}
use Rattle.runs_judged.specs.Wholes.{args-above, args_at, args-unset, Ruled, Knows, h_rule}

module _ (c : Ctx) (type : ℕ → Ty) (library : List Held) (table : List Chosen) where
  -- what is told of a block
  pub record BlockTold (xs : Nodes) (ks : List J.Known) (sc : Scope) (u : World) (a : Answer) : Type 0 where
    pub judged : JudgedBody c.texts type table xs ks void_ty (type (end_slot c.void xs))
    pub force : Force c type library u ks (declare_all c.texts library type xs sc)

  quiet_return : (n name : ℕ) (e : TypeExpr) (ret : ℕ) (a : Answer) {s : World} → Claimed (silent c) s → Gives (silent c) (λ _ (_ : Done). Unit {0}) s (check_return c n name e ret a s)
  unfolding check_return if_known ty_tree ty tree
  quiet_return n name e ret (Known x) h = g_when (silent c) _ _ (λ _. g_return (silent c) h (λ z. tt)) (λ _. h_report c type h n _)
  quiet_return n name e ret Poison h = g_return (silent c) h (λ z. tt)

  module _ (n slot name : ℕ) (ret : TypeExpr) (args : List Arg) (body : Nodes) (low : slot < c.void) (pr : ProperType (Below (silent c)) (NameAt (silent c)) ret)
      (pa : ProperArgs (Below (silent c)) (NameAt (silent c)) args) (ps : ArgSlots (Below (silent c)) (slot + 1) args)
      (pb : ProperAll (Below (silent c)) (NameAt (silent c)) body) where
    abbrev self : Own
    self = record { name = name_bytes c.texts name; node = n; args = args; ret = ret; body = body }

    abbrev known : List J.Known
    known = args_known c.texts type table [] args

    record BodyTells (sc : Scope) (u : World) (w : ℕ) : Type 0 where
      judged : JudgedBody c.texts type table body known void_ty (type_meant c.texts ret)
      decl : Decl c type library u (declare_all c.texts library type body (meeting self sc))

    abbrev inner : World → Result World Refusal ℕ
    inner s = next (fn_arguments c n (slot + 1) args s) (λ params u. next (type_from_expr c n ret u)
        (λ w u. next (enter name params w u) (λ _ u. next (block c body u) (λ a u. next (check_return c n name ret w a u) (λ _ u. ok w u)))))

    -- the return type's word
    ret-is : {s : World} → Claimed (silent c) s → Gives (silent c) (λ u w. Is (silent c) u.types w (type_meant c.texts ret)) s (inner s)
    ret-is h =
        g_next (silent c) _ (g_fn_arguments (silent c) n (slot + 1) args pa ps h) (λ qs u₁ t₁ x₁.
        g_next (silent c) _ (h_type_from c type n ret pr (λ z. (x₁ z).holds)) (λ w u₂ t₂ x₂.
        g_next (silent c) _ (g_enter (silent c) name qs w (λ z. (x₂ z).holds)
        (λ z. record {
          sig = signature-ok (silent c) (params_grow (silent c) (x₂ z).grown (x₁ (before (silent c) t₂ z)).value.params)
              (record { tree = type_meant c.texts ret; is = (x₂ z).value.is; no_slot = λ _. no-slot c.texts ret });
        })) (λ _ u₃ t₃ x₃.
        g_next (silent c) _ (g_block (silent c) body pb (λ z. (x₃ z).holds)) (λ a u₄ t₄ x₄.
        g_next (silent c) _ (quiet_return n name ret w a (λ z. (x₄ z).holds)) (λ _ u₅ t₅ x₅.
        g_return (silent c) (λ z. (x₅ z).holds) (λ z.
        let z₄ = before (silent c) t₅ z in
        let z₃ = before (silent c) t₄ z₄ in
        is_grow (silent c) (grown-trans (x₃ z₃).grown (grown-trans (x₄ z₄).grown (x₅ z).grown)) (x₂ (before (silent c) t₃ z₃)).value.is))))))

    abbrev ys : List Node
    ys = visited_among body ++ []

    abbrev BodyTold : Scope → Type 0
    BodyTold sc = (v : World) → Ready v (visited_among body) → Claimed (silent c) v → Knows c type library v known (meeting self sc)
        → Tells c type (BlockTold body known (meeting self sc)) v (block c body v)

    h_inner : {s : World} {sc : Scope} → BodyTold sc → Ready s (Fn n slot name ret args body ∷ ys) → Claimed (silent c) s → Knows c type library s [] sc
        → Tells c type (BodyTells sc) s (inner s)
    h_inner {s} {sc} told d h know =
        h_after c type ys _ (ready-below (Fn n slot name ret args body) ys d)
        (K.in_fn_arguments (leaves_kept ys) c n (slot + 1) args (arguments-free n slot name ret args body ys d) s)
        (h_fn_arguments c type table n (slot + 1) args pa ps (λ q l m z. args_at (λ q. get_or s.slots q 0 ≡ 0) (slot + 1) args
        (args-unset n slot name ret args body ys d) q l m) h) (λ qs u x. x.keep) (λ qs u₁ d₁ t₁ x₁.
        h_after c type ys _ d₁ (K.in_type_from (leaves_kept ys) c n ret u₁) (h_type_from c type n ret pr (λ z. (x₁ z).holds))
        (λ w u y. same-slots y.slots) (λ w u₂ d₂ t₂ x₂.
        let sig : Silent (silent c) u₂ → SigRel c u₂.types (signature qs w false) (expr_sig c.texts args ret) = λ z. expr-sig c type args ret
        (both-map (param_grow (silent c) (x₂ z).grown) (x₁ (before (silent c) t₂ z)).value.params) (x₂ z).value.is in
        h_after c type ys _ d₂ (K.in_enter (leaves_kept ys) (leaves_enters ys) name qs w u₂)
        (h_enter c type name qs w (λ z. (x₂ z).holds) (λ z. record { sig = sig_ok c (sig z) })) (λ _ u y. same-slots (ap (λ (w : World). w.slots) y)) (λ _ u₃ d₃ t₃ x₃.
        h_visit-block c type body [] _ pb (λ z. (x₃ z).holds) d₃ (told u₃ (ready-left (visited_among body) [] d₃) (λ z. (x₃ z).holds) (λ z fx.
        let z₂ = before (silent c) t₃ z in
        let z₁ = before (silent c) t₂ z₂ in
        let z₀ = before (silent c) t₁ z₁ in
        let f₂ = fixed_back c type (x₂ z₂).holds (x₃ z).grown (same-slots (ap (λ (w : World). w.slots) (x₃ z).value)) fx in
        let f₁ = fixed_back c type (x₁ z₁).holds (x₂ z₂).grown (same-slots (x₂ z₂).value.slots) f₂ in
        let fo = know z₀ (fixed_back c type (h z₀) (x₁ z₁).grown (x₁ z₁).value.keep f₁) in
        let at₁ : Force c type library u₁ known sc = record {
          env = (x₁ z₁).value.env [] fo.env;
          decl = decl-same c type library (x₁ z₁).grown
              (x₁ z₁).value.packages (x₁ z₁).value.own fo.decl;
        } in
        let at₂ = force-same c type library (x₂ z₂).grown (x₂ z₂).value.same at₁ in
        subst (λ (v : World). Force c type library v known (meeting self sc)) (sym (x₃ z).value)
        (record { env = at₂.env; decl = record { held = at₂.decl.held; own = C.and (record { name = refl; sig = sig z₂ }) at₂.decl.own; lib = at₂.decl.lib } })))
        (λ a u₄ o k d₄ t₄ x₄.
        h_step c type _ (h_check_return c type n name ret w (λ z. (x₄ z).holds) o k) (λ _ u y. same-slots (ap (λ (w : World). w.slots) y.0)) (λ _ u₅ t₅ x₅.
        g_return (silent c) (λ z. (x₅ z).holds) (λ z.
        let z₄ = before (silent c) t₅ z in
        let z₃ = before (silent c) t₄ z₄ in
        let is : Is (silent c) u₄.types w (type_meant c.texts ret) = is_grow (silent c) (grown-trans (x₃ z₃).grown (x₄ z₄).grown) (x₂ (before (silent c) t₃ z₃)).value.is in
        record {
          keep = keep_same u₅;
          fact = λ fx.
              let f₄ = subst (Fixed c type) (x₅ z).value.0 fx in
              let b = (x₄ z₄).value.fact f₄ in
              record {
                judged = subst (JudgedBody c.texts type table body known void_ty) ((x₅ z).value.1 f₄ ∙ is-tree (silent c) is) b.judged;
                decl = subst (λ (v : World). Decl c type library v (declare_all c.texts library type body (meeting self sc))) (sym (x₅ z).value.0) b.force.decl;
              };
        }))))))

    pub h_fn : {s : World} {ks : List J.Known} {sc : Scope} → BodyTold sc → Ready s (Fn n slot name ret args body ∷ visited_among body)
        → Ready s (Fn n slot name ret args body ∷ ys) → Claimed (silent c) s → Knows c type library s ks sc
        → Tells c type (With c type (JudgedBody c.texts type table body known void_ty (type_meant c.texts ret))
        (Ruled c type library (Unit {0}) ks (declare_all c.texts library type body (meeting self sc)))) s (unless_defined c n name (fn c n slot name ret args (block c body)) s)
    unfolding unless_defined fn slot_of
    h_fn {s} {ks} {sc} told d d' h know =
        let own : Ready s (visited_among body ++ last-slot slot) = own-last (Fn n slot name ret args body) (visited_among body) d in
        g_option (silent c) _ _
        (λ _. h_after c type (last-slot slot) _ (ready-then (visited_among body) (last-slot slot) {s = s} {u = s} own (record { left = λ q l. refl })) (leave own)
        (g_both c type (h_apart c type (λ u e a x. record { judged = x.judged; decl = record { held = x.decl.held; own = x.decl.own; lib = x.decl.lib } }) _ h
        (h_inner told (record { once = d'.once; unset = d'.unset; fit = d'.fit }) (alone (silent c) h) (λ z f. alone-force z f)))
        (g_apart (silent c) {Q = λ u w. Is (silent c) u.types w (type_meant c.texts ret)} (λ u e a x. x) _ h (ret-is (alone (silent c) h)))) (λ a u p. p.0.keep) (λ w u d₁ t x.
        h_with c type (λ z. (x z).holds) (λ z q. ((x z).value.0.fact q).0.judged)
        (h_rule c type library slot (λ z. (x z).holds) (λ z q.
        let z₀ = before (silent c) t z in
        let fo = know z₀ (fixed_back c type (h z₀) (x z).grown (x z).value.0.keep q) in
        record { env = env-same c type library (x z).grown ((x z).value.0.fact q).1 fo.env; decl = ((x z).value.0.fact q).0.decl })
        (h_map c type (λ v a t₁ p z fx. record { ok = tt; same = ((p z).value.fact fx).same })
        (h_set c type slot low (λ z. last-unset slot d₁) (λ z. (x z).holds) (λ z. record { tree = type_meant c.texts ret; is = (x z).value.1; no_slot = λ _. no-slot c.texts ret }))))))
        (λ f _. h_poison c type h n _)
      where
        leave : Ready s (visited_among body ++ last-slot slot) → Keeps (Leaves (last-slot slot)) Any s (apart (λ s. inner s) s)
        leave r =
            let law = leaves_kept (last-slot slot) in
            let entering = leaves_enters (last-slot slot) in
            K.in_apart law (λ s. inner s)
            (K.in_next law _ (K.in_fn_arguments law c n (slot + 1) args (args-above slot (slot + 1) args (omega arith))) (λ qs.
            K.in_next law _ (K.in_type_from law c n ret) (λ w.
            K.in_next law _ (K.in_enter law entering name qs w) (λ _.
            K.in_next law _ (K.in_block law entering c body (among-hold (Free (last-slot slot)) body (free c (last-slot slot) (visited_among body) r))) (λ a.
            K.in_next law _ (K.in_check_return law c n name ret w a) (λ _.
            K.in_return law w)))))) s

        alone-force : Silent (silent c) (with_env s []) → Fixed c type (with_env s []) → Force c type library (with_env s []) [] sc
        alone-force z f =
            let fo = know (record { none = z.none }) (record { at = λ q r. f.at q (record { other = r.other; low = r.low }); void = f.void }) in
            record { env = no_local; decl = record { held = fo.decl.held; own = fo.decl.own; lib = fo.decl.lib } }
