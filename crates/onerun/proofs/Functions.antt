-- Fn and Extern: signatures made of type expressions, which have no slots. Assumes nothing.
use Rattle.std.specs.Prelude.{ℕ, ◌+◌, ◌<◌, false, length}
use mathlib.Core.List.{List, [], ◌∷◌}
use Rattle.tok.specs.Step.{◌>>=◌, return, for_each}
use Rattle.ptype.specs.Add.{Buffer}
use Rattle.ast.specs.TypeExpr.{TypeExpr, Arg, type_token}
use Rattle.ast.specs.Node.{Node, ExternFn}
use Rattle.ast.specs.Claims.{count_from}
use Rattle.err.proofs.WellFormedLaws.{defined_already-well, bad_return-well}
use Rattle.library.specs.Package.{Param, param, signature}
use Rattle.rules.specs.declared.Answer.{Answer}
use Rattle.rules.specs.World.{World, Walk}
use Rattle.rules.specs.Steps.{ty, tree, ty_tree, type_from_expr}
use Rattle.rules.specs.Steps as S
use Rattle.rules.specs.Rules.{fn_arguments, check_return, fn, unless_defined, extern_fn}
use Rattle.laws.specs.SlotsOf.{ArgSlots}
use Rattle.onerun.specs.Claim.{Run, All, end, and, NameAt, Good, bound, SignatureOk, FunctionOk, Holds, AnswerOk}
use Rattle.onerun.specs.Claim as C
use Rattle.onerun.specs.Grows.{typed_grow, param_grow, function_grow, typed-names}
use Rattle.onerun.specs.Logic.{Claimed, Silent, before, Gives, g_next, g_return, g_when, g_option, g_map, g_on_types, g_if_known, g_set}
use Rattle.onerun.proofs.Report.{g_report}
use Rattle.onerun.proofs.Seen.{AllRecorded, slots-later, Seen, seen-later, NodeOk, g_keep-fn, node-poison}
use Rattle.onerun.proofs.Scope.{Any, slots-env, seen-env, g_insert, g_enter, g_apart, alone, g_each}
use Rattle.onerun.specs.Trees.{free-slots}
use Rattle.onerun.proofs.Types.{t_type_from}
use Rattle.onerun.proofs.Operators.{slot-good}
use Rattle.onerun.specs.Proper.{ProperType, ProperArgs, ProperExterns}
use Rattle.onerun.proofs.Arguments.{ParamTyped, ParamsOk, params_grow}

module _ (r : Run) where
  abbrev pub Below : ℕ → Type 0
  Below slot = slot < r.ctx.void

  pub g_type_from : (n : ℕ) (t : TypeExpr) → ProperType Below (NameAt r) t → {s : World} → Claimed r s → Gives r (λ u w. Good r u.types w) s (type_from_expr r.ctx n t s)
  unfolding type_from_expr
  g_type_from n t p {s} h = g_on_types r {Q = Good r} _ h (λ z. t_type_from r Below n t p s.types)

  no-params : (b : Buffer) → ParamsOk r b []
  no-params b = record { trees = []; each = C.end }

  more-params : {b : Buffer} {name w : ℕ} {ps : List Param} → NameAt r name → Good r b w → ParamsOk r b ps → ParamsOk r b (param name w ∷ ps)
  more-params m g h = record { trees = g.tree ∷ h.trees; each = C.and (record { name = m; type = g.is }) h.each }

  -- a signature whose return type has no slot
  pub signature-ok : {b : Buffer} {ps : List Param} {ret : ℕ} → ParamsOk r b ps → Good r b ret → SignatureOk r b (signature ps ret false)
  signature-ok {ps = ps} {ret = ret} h g = record {
    trees = h.trees;
    params = h.each;
    ret = g.tree;
    returns = g.is;
    stands = λ q p e. free-slots p g.tree (g.no_slot q);
    sig = r.plain ps ret h.trees;
  }

  -- the arguments of an Fn: "one after it per argument", each with a type
  pub record FnArgumentsOk (slots : List ℕ) (u : World) (ps : List Param) : Type 0 where
    pub params : ParamsOk r u.types ps
    pub recorded : r.clean → AllRecorded r u slots

  pub g_fn_arguments : (n slot : ℕ) (args : List Arg) → ProperArgs Below (NameAt r) args → ArgSlots Below slot args → {s : World} → Claimed r s
      → Gives r (FnArgumentsOk (count_from slot (length args))) s (fn_arguments r.ctx n slot args s)
  unfolding fn_arguments ProperArgs ArgSlots count_from
  g_fn_arguments n slot [] p o {s} h = g_return r h (λ z. record { params = no-params s.types; recorded = λ q. end })
  g_fn_arguments n slot (a ∷ rest) p o h =
      g_next r _ (g_type_from n a.type p.1 h) (λ w u t x.
      g_next r _ (g_set r slot o.0 (λ z. (x z).holds) (λ z. (x z).value)) (λ _ u₁ t₁ x₁.
      g_next r _ (g_insert r a.name (λ z. (x₁ z).holds) (λ z. bound (typed_grow r (x₁ z).grown (x (before r t₁ z)).value))) (λ _ u₂ t₂ x₂.
      g_next r _ (g_fn_arguments n (slot + 1) rest p.2 o.1 (λ z. (x₂ z).holds)) (λ ps u₃ t₃ x₃.
      g_return r (λ z. (x₃ z).holds) (λ z.
      let z₂ = before r t₃ z in
      let z₁ = before r t₂ z₂ in
      record {
        params = more-params p.0 (typed_grow r (x₃ z).grown (typed_grow r (x₂ z₂).grown (typed_grow r (x₁ z₁).grown (x (before r t₁ z₁)).value))) (x₃ z).value.params;
        recorded = λ q. and ((x₃ z).recorded slot ((x₂ z₂).recorded slot ((x₁ z₁).value.own q))) ((x₃ z).value.recorded q);
      })))))

  g_check_return : (n name : ℕ) → NameAt r name → (e : TypeExpr) {ret : ℕ} {a : Answer} {s : World} → Claimed r s → (Silent r s → Good r s.types ret) → (Silent r s → AnswerOk r s a)
      → Gives r (Any r) s (check_return r.ctx n name e ret a s)
  unfolding check_return ty_tree ty tree
  g_check_return n name m e h g k =
      g_if_known r _ h k (λ z. tt) (λ a i. g_when r _ _ (λ _. g_return r h (λ z. tt))
      (λ _. g_map r (λ u _ t x z. tt) (g_report r h n (λ o z. bad_return-well (type_token e) _ _ _ (m o) (typed-names r (g z) o) (typed-names r (slot-good r h i z) o)))))

  -- what a block answers, and the nodes visited by then
  pub record BlockOk (ys : List Node) (u : World) (a : Answer) : Type 0 where
    pub answer : AnswerOk r u a
    pub seen : r.clean → Seen r u ys

  record FnOk (slots : List ℕ) (ys : List Node) (u : World) (ret : ℕ) : Type 0 where
    type : Good r u.types ret
    arguments : r.clean → AllRecorded r u slots
    seen : r.clean → Seen r u ys

  pub g_fn : (n slot name : ℕ) (e : TypeExpr) (args : List Arg) (ys : List Node) (body : Walk Answer) → Below slot
      → NameAt r name → ProperType Below (NameAt r) e → ProperArgs Below (NameAt r) args → ArgSlots Below (slot + 1) args
      → ((s : World) → Claimed r s → Gives r (BlockOk ys) s (body s)) → {s : World} → Claimed r s
      → Gives r (NodeOk r slot (count_from (slot + 1) (length args)) ys) s (unless_defined r.ctx n name (fn r.ctx n slot name e args body) s)
  unfolding unless_defined fn S.poison
  g_fn n slot name e args ys body own m p pa o k {s} h =
      g_option r _ _
      (λ _. g_next r _
      (g_apart r {Q = FnOk (count_from (slot + 1) (length args)) ys} (λ u en a x. record { type = x.type; arguments = λ q. slots-env r (x.arguments q); seen = λ q. seen-env r (x.seen q) }) _ h
      (g_next r _ (g_fn_arguments n (slot + 1) args pa o (alone r h)) (λ ps u₁ t₁ x₁.
      g_next r _ (g_type_from n e p (λ z. (x₁ z).holds)) (λ ret u₂ t₂ x₂.
      g_next r _ (g_enter r name ps ret (λ z. (x₂ z).holds) (λ z. record { sig = signature-ok (params_grow r (x₂ z).grown (x₁ (before r t₂ z)).value.params) (x₂ z).value })) (λ _ u₃ t₃ x₃.
      g_next r _ (k u₃ (λ z. (x₃ z).holds)) (λ a u₄ t₄ x₄.
      let g : Silent r u₄ → Good r u₄.types ret = λ z. let z₃ = before r t₄ z in typed_grow r (x₄ z).grown (typed_grow r (x₃ z₃).grown (x₂ (before r t₃ z₃)).value) in
      g_next r _ (g_check_return n name m e (λ z. (x₄ z).holds) g (λ z. (x₄ z).value.answer)) (λ _ u₅ t₅ x₅.
      g_return r (λ z. (x₅ z).holds) (λ z.
      let z₄ = before r t₅ z in
      let z₃ = before r t₄ z₄ in
      let z₂ = before r t₃ z₃ in
      record {
        type = typed_grow r (x₅ z).grown (g z₄);
        arguments = λ q. slots-later r (x₅ z) (slots-later r (x₄ z₄) (slots-later r (x₃ z₃) (slots-later r (x₂ z₂) ((x₁ (before r t₂ z₂)).value.recorded q))));
        seen = λ q. seen-later r (x₅ z) ((x₄ z₄).value.seen q);
      }))))))))
      (λ ret u t x. g_keep-fn r (λ z. (x z).value.arguments) (λ z. (x z).value.seen) (g_set r slot own (λ z. (x z).holds) (λ z. (x z).value.type))))
      (λ f _. node-poison r (g_report r h n (λ l z. defined_already-well name _ (m l))))

  -- ── Extern ──

  record ArgProper (a : Arg) : Type 0 where
    name : NameAt r a.name
    type : ProperType Below (NameAt r) a.type

  args-all : (xs : List Arg) → ProperArgs Below (NameAt r) xs → All ArgProper xs
  unfolding ProperArgs
  args-all [] p = end
  args-all (a ∷ xs) p = and (record { name = p.0; type = p.1 }) (args-all xs p.2)

  g_arg : (n : ℕ) (a : Arg) → ArgProper a → (s : World) → Claimed r s → Gives r (λ u p. ParamTyped r u.types p) s (◌>>=◌ (type_from_expr r.ctx n a.type) (λ w. return (param a.name w)) s)
  g_arg n a p s h =
      g_next r _ (g_type_from n a.type p.type h) (λ w u t x.
      g_return r (λ z. (x z).holds) (λ z. record { tree = (x z).value.tree; ok = record { name = p.name; type = (x z).value.is } }))

  params-all : {b : Buffer} {ps : List Param} → All (ParamTyped r b) ps → ParamsOk r b ps
  params-all {b} end = no-params b
  params-all (and h hs) = let k = params-all hs in record { trees = h.tree ∷ k.trees; each = C.and h.ok k.each }

  record ExternProper (f : ExternFn) : Type 0 where
    args : ProperArgs Below (NameAt r) f.args
    ret : ProperType Below (NameAt r) f.ret

  externs_all : (fs : List ExternFn) → ProperExterns Below (NameAt r) fs → All ExternProper fs
  unfolding ProperExterns
  externs_all [] p = end
  externs_all (f ∷ fs) p = and (record { args = p.1; ret = p.2 }) (externs_all fs p.3)

  g_extern : (n : ℕ) (f : ExternFn) → ExternProper f → (s : World) → Claimed r s → Gives r (λ u g. FunctionOk r u.types g) s (extern_fn r.ctx n f s)
  unfolding extern_fn
  g_extern n f p s h =
      g_next r _
      (g_each r ArgProper (ParamTyped r) (λ b d g x y. record { tree = y.tree; ok = param_grow r g x y.tree y.ok }) _ (λ a i s k. g_arg n a i s k) (args-all f.args p.args) h)
      (λ ps u t x. g_next r _ (g_type_from n f.ret p.ret (λ z. (x z).holds)) (λ ret v t₁ y.
      g_return r (λ z. (y z).holds) (λ z. record { sig = signature-ok (params_grow r (y z).grown (params-all (x (before r t₁ z)).value)) (y z).value })))

  pub g_externs : (n : ℕ) (fs : List ExternFn) → ProperExterns Below (NameAt r) fs → {s : World} → Claimed r s
      → Gives r (λ u gs. All (FunctionOk r u.types) gs) s (for_each (λ f. extern_fn r.ctx n f) fs s)
  g_externs n fs p h = g_each r ExternProper (FunctionOk r) (λ b d g x y. function_grow r g x y) _ (λ f i s k. g_extern n f i s k) (externs_all fs p) h
