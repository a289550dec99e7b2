-- Calls without diagnostic: the declaration that the static pass finds is the one that the rules found, and the call's type is its return type,
-- slots filled. One lemma for each function of the rules. Assumes nothing.
use Prim.Native.Nat.{ℕ, ◌<◌}
use Rattle.std.proofs.Common.{arith, ◌∙◌, true≢false, eqb-true}
use Rattle.std.specs.Prelude.{◌≡◌, Bool, length}
use Rattle.std.proofs.Math.Path.{refl, sym, ap, subst}
use Rattle.std.proofs.Math.Bool.{true, false, and-eq-true_iff}
use Rattle.std.proofs.lemmas.Bool.{false≢true}
use Rattle.std.proofs.Math.Option.{Option, none, some}
use mathlib.Core.List.{List, [], ◌∷◌, map}
use Rattle.std.proofs.Math.ListN.{get_or}
use Rattle.tok.specs.Step.{ok}
use Rattle.tok.specs.Text.{Texts}
use Rattle.ptype.specs.Ty.{Ty, same_ty, contains_slot}
use Rattle.ptype.proofs.SameLaws.{same_ty-true}
use Rattle.ptype.specs.Slots.{Binding, bound_to, is_some}
use Rattle.slots.specs.BindLaws.{Extends, same, extends-trans, extends-bound}
use Rattle.slots.specs.Substitute.{Filling, filling_of, substitute}
use Rattle.ast.specs.TypeExpr.{Arg}
use Rattle.library.specs.Package.{Param, Signature}
use Rattle.rules.specs.World.{Ctx, World, with_slots}
use Rattle.rules.specs.Steps.{tree}
use Rattle.rules.specs.Calls.{Provided, arguments, returned, check_call_args, overload_matches}
use Rattle.tworuns.specs.Means.{Grown}
use Rattle.onerun.specs.Claim.{All, end, and, slots_are, all_slots_are, Is, Good, BindingOk, SignatureOk, Recorded, Holds}
use Rattle.onerun.specs.Grows.{all_map, both-map, is_grow, is-tree, param_grow, signature_grow}
use Rattle.onerun.specs.Logic.{Claimed, Later, Silent, before, After, Gives, t_map, g_next, g_map, g_return, g_when}
use Rattle.onerun.specs.Trees.{is_bound, never, never-free, free-slots}
use Rattle.onerun.proofs.Apply.{t_apply}
use Rattle.onerun.proofs.Arguments.{ParamsOk, first-param, rest-params, params_grow, Covers}
use Rattle.rules.specs.Functions.{type_meant}
use Rattle.runs.specs.Declared.{Chosen}
use Rattle.runs_laws.specs.Judged.{arg_types}
use Rattle.runs_judged.specs.Claim.{silent, same-trans, same-world, same-slots, Fixed, fixed_back, Tells, earlier, h_step, h_map, h_report, told-set, Built, h_on_types, h_set}
use Rattle.runs_judged.specs.Rules.{Rule}
use Rattle.runs_judged.specs.InForce.{each, params-trees}
use Rattle.runs_judged.specs.Filled.{t_filled, free-same}
use Rattle.runs_judged.specs.Exprs.{no-slot}
use Rattle.runs_judged.specs.Arguments.{tree_in, t_both, agrees-self, agrees_back, fills_self, Fitted, h_argument}

head-same : {x y : Ty} → ◌≡◌ {A = List Ty} (x ∷ []) (y ∷ []) → x ≡ y
head-same e = cc e

bound-still : (n : List ℕ) {bs cs : List Binding} → Extends bs cs → is_bound bs n ≡ true → is_bound cs n ≡ true
bound-still n {bs} {cs} x e = by (bound_to n bs) refl e
  where
    by : (o : Option ℕ) → bound_to n bs ≡ o → is_some o ≡ true → is_bound cs n ≡ true
    by none q i = absurd (false≢true i)
    by (some w) q i = ap is_some (extends-bound n w x q)

two-slots : (p : List ℕ → Bool) (x : Ty) (xs : List Ty) → all_slots_are p (x ∷ []) ≡ true → all_slots_are p xs ≡ true → all_slots_are p (x ∷ xs) ≡ true
unfolding all_slots_are
two-slots p x xs e q = (and-eq-true_iff (slots_are p x) (all_slots_are p xs)).1 (((and-eq-true_iff (slots_are p x) true).0 e).0, q)

-- types that match are equal
pub overload_same : (xs ys : List Ty) → overload_matches xs ys ≡ true → xs ≡ ys
unfolding overload_matches
overload_same [] [] e = refl
overload_same [] (y ∷ ys) e = absurd (false≢true e)
overload_same (x ∷ xs) [] e = absurd (false≢true e)
overload_same (x ∷ xs) (y ∷ ys) e =
    let q = (and-eq-true_iff (same_ty x y) (overload_matches xs ys)).0 e in
    ap (λ (z : Ty). z ∷ xs) (same_ty-true x y q.0) ∙ ap (λ (l : List Ty). y ∷ l) (overload_same xs ys q.1)

-- types without slots are filled by themselves
pub frees_same : (f : Filling) {xs : List Ty} → All (λ (t : Ty). contains_slot t ≡ false) xs → map (substitute f) xs ≡ xs
frees_same f end = refl
frees_same f (and {a = x} {xs = xs} h rest) = ap (λ (y : Ty). y ∷ map (substitute f) xs) (free-same f x h) ∙ ap (λ (l : List Ty). x ∷ l) (frees_same f rest)

pub frees_slots : {xs : List Ty} → All (λ (t : Ty). contains_slot t ≡ false) xs → all_slots_are never xs ≡ true
unfolding all_slots_are
frees_slots end = refl
frees_slots (and {a = x} {xs = xs} h rest) = (and-eq-true_iff (slots_are never x) (all_slots_are never xs)).1 (free-slots never x h, frees_slots rest)

pub no-slots : (t : Texts) (args : List Arg) → All (λ (x : Ty). contains_slot x ≡ false) (map (λ (a : Arg). type_meant t a.type) args)
no-slots t [] = end
no-slots t (a ∷ rest) = and (no-slot t a.type) (no-slots t rest)

pub arg_types_lem : (t : Texts) (type : ℕ → Ty) (table : List Chosen) (args : List Arg) → map (λ (a : Arg). type_meant t a.type) args ≡ arg_types t type table args
unfolding arg_types
arg_types_lem t type table [] = refl
arg_types_lem t type table (a ∷ rest) = ap (λ (l : List Ty). type_meant t a.type ∷ l) (arg_types_lem t type table rest)

module _ (c : Ctx) (type : ℕ → Ty) where
  abbrev pub types : List Provided → List Ty
  types given = map (λ (a : Provided). type a.slot) given

  abbrev pub trees : World → List Param → List Ty
  trees s ps = map (λ (p : Param). tree_in c s p.type) ps

  trees-stay : (s u : World) {ps : List Param} → Grown s.types u.types → ParamsOk (silent c) s.types ps → trees u ps ≡ trees s ps
  trees-stay s u g h = sym (params-trees c (both-map (param_grow (silent c) g) h.each)) ∙ params-trees c h.each

  abbrev pub Given : World → List Provided → Type 0
  Given s given = All (λ (a : Provided). Recorded (silent c) s a.slot) given

  -- a call fits a signature: its types, slots filled, are those given and the call's own
  pub record CallFits (slot : ℕ) (given xs : List Ty) (r : Ty) : Type 0 where
    pub filling : Filling
    pub params : map (substitute filling) xs ≡ given
    pub ret : type slot ≡ substitute filling r

  module _ (n : ℕ) (name : List ℕ) where
    h_arguments : (slotted : Bool) (ps : List Param) (given : List Provided) {bs : List Binding} → length given ≡ length ps → {s : World} → Claimed (silent c) s
        → (Silent (silent c) s → ParamsOk (silent c) s.types ps) → (Silent (silent c) s → Given s given) → (Silent (silent c) s → All (BindingOk (silent c) s.types) bs)
        → Gives (silent c) (Fitted c type slotted s ps given bs) s (arguments c n name slotted ps given bs s)
    unfolding arguments all_slots_are
    h_arguments slotted [] [] e h k i b = g_return (silent c) h (λ z.
        record { slots = refl; same = same-world refl; bindings = b z; extends = same; bound = λ p j. refl; fits = λ _ f _. refl })
    h_arguments slotted [] (a ∷ rest) e h k i b = absurd (omega arith)
    h_arguments slotted (p ∷ ps) [] e h k i b = absurd (omega arith)
    h_arguments slotted (p ∷ ps) (a ∷ rest) {bs} e {s} h k i b =
        g_next (silent c) _ (h_argument c type n name p a h (λ z. first-param (silent c) (k z).each) (λ z. first-all (i z)) slotted b) (λ more u t f.
        g_map (silent c) (λ v cs t₁ f₁ z. together more cs (k (before (silent c) t (before (silent c) t₁ z))) (f (before (silent c) t₁ z)) (f₁ z))
        (h_arguments slotted ps rest (omega arith) (λ z. (f z).holds) (λ z. params_grow (silent c) (f z).grown (rest-params (silent c) (k (before (silent c) t z)).each))
        (λ z. all_map (λ y x. (f z).recorded y.slot x) (rest_all (i (before (silent c) t z)))) (λ z. (f z).value.bindings)))
      where
        first-all : {s : World} → Given s (a ∷ rest) → Recorded (silent c) s a.slot
        first-all (and x xs) = x

        rest_all : {s : World} → Given s (a ∷ rest) → Given s rest
        rest_all (and x xs) = xs

        together : {s u v : World} (more cs : List Binding) → ParamsOk (silent c) s.types (p ∷ ps)
            → After (silent c) (Fitted c type slotted s (p ∷ []) (a ∷ []) bs) s u more → After (silent c) (Fitted c type slotted u ps rest more) u v cs
            → Fitted c type slotted s (p ∷ ps) (a ∷ rest) bs v cs
        together {s} {u} {v} more cs k x y =
            let stay : trees u ps ≡ trees s ps = trees-stay s u x.grown (rest-params (silent c) k.each) in
            record {
              slots = y.value.slots ∙ x.value.slots;
              same = same-trans x.value.same y.value.same;
              bindings = y.value.bindings;
              extends = extends-trans x.value.extends y.value.extends;
              bound = λ r j. two-slots r (tree_in c s p.type) (trees s ps) (x.value.bound r (λ q l w. j q l (bound-still l y.value.extends w)))
                  (subst (λ (l : List Ty). all_slots_are r l ≡ true) stay (y.value.bound r j));
              fits = λ fx g ag.
                  let fu : Fixed c type u = fixed_back c type x.holds y.grown (same-slots y.value.slots) fx in
                  ap (λ (z : Ty). z ∷ map (substitute g) (trees s ps)) (head-same (x.value.fits fu g (agrees_back c y.grown x.value.bindings y.value.extends ag)))
                  ∙ ap (λ (l : List Ty). type a.slot ∷ l) (ap (map (substitute g)) (sym stay) ∙ y.value.fits fx g ag);
            }

    -- the return type, filled
    h_returned : (f : Signature) {bs : List Binding} {s : World} → Claimed (silent c) s
        → (Silent (silent c) s → SignatureOk (silent c) s.types f) → (Silent (silent c) s → All (BindingOk (silent c) s.types) bs)
        → (Silent (silent c) s → (p : List ℕ → Bool) → Covers (silent c) f.with_slots bs p → all_slots_are p (trees s f.params) ≡ true)
        → Gives (silent c) (Built c type (λ d w. Good (silent c) d w × Is (silent c) d w
        (substitute (filling_of c.texts s.types.words bs) (tree_in c s f.ret))) s) s (returned c n f bs s)
    unfolding returned tree
    h_returned f {bs} {s} h k b j =
        g_when (silent c) _ _
        (λ e. h_on_types c type _ h (λ z.
        let g = k z in
        rw (is-tree (silent c) g.returns) (t_both c
        (t_map (silent c) (λ w d y. record { tree = y.tree; is = y.is; no_slot = λ q. y.filled q (stands z (is_bound bs) (λ _ l w. w)) })
        (t_apply (silent c) bs n g.ret (b z) g.returns))
        (t_filled (silent c) bs (filling_of c.texts s.types.words bs) n g.ret (fills_self c bs (b z)) g.returns))))
        (λ e. g_return (silent c) h (λ z.
        let g = k z in
        let free : contains_slot g.ret ≡ false = never-free g.ret (stands z never (λ i. absurd (true≢false (sym i ∙ e)))) in
        record {
          is = (
            record { tree = g.ret; is = g.returns; no_slot = λ q. free },
            rw (is-tree (silent c) g.returns)
                (subst (λ (x : Ty). Is (silent c) s.types f.ret x) (sym (free-same (filling_of c.texts s.types.words bs) g.ret free)) g.returns),
          );
          slots = refl;
          same = same-world refl;
        }))
      where
        stands : (z : Silent (silent c) s) (p : List ℕ → Bool) → Covers (silent c) f.with_slots bs p → slots_are p (k z).ret ≡ true
        stands z p v = (k z).stands tt p (subst (λ (l : List Ty). all_slots_are p l ≡ true) (sym (params-trees c (k z).params)) (j z p v))

    -- a call of one signature
    pub h_check_call : (slot token : ℕ) → slot < c.void → (given : List Provided) (f : Signature) {s : World} → (Silent (silent c) s → get_or s.slots slot 0 ≡ 0)
        → Claimed (silent c) s → (Silent (silent c) s → Given s given)
        → (Silent (silent c) s → SignatureOk (silent c) s.types f)
        → Tells c type (Rule c type slot s (CallFits slot (types given) (trees s f.params) (tree_in c s f.ret))) s (check_call_args c n slot token name f given s)
    unfolding check_call_args
    h_check_call slot token low given f {s} unset h i k =
        g_when (silent c) _ _
        (λ e. h_step c type _ (h_arguments f.with_slots f.params given (eqb-true (length given) (length f.params) e) h
        (λ z. record { trees = (k z).trees; each = (k z).params }) i (λ z. end)) (λ bs u x. same-slots x.slots) (λ bs u t x.
        h_step c type _ (h_returned f (λ z. (x z).holds) (λ z. signature_grow (silent c) (x z).grown f (k (before (silent c) t z))) (λ z. (x z).value.bindings)
        (λ z p v. subst (λ (l : List Ty). all_slots_are p l ≡ true) (sym (stay z t x)) ((x z).value.bound p v))) (λ w v y. same-slots y.slots) (λ w v t₁ y.
        h_map c type (λ u₁ a t₂ q z fx.
        let z₂ = before (silent c) t₂ z in
        let z₁ = before (silent c) t₁ z₂ in
        let z₀ = before (silent c) t z₁ in
        let fv = earlier c type (y z₂).holds (q z) fx in
        let fu = fixed_back c type (x z₁).holds (y z₂).grown (same-slots (y z₂).value.slots) fv in
        let r = (q z).value.fact fx in
        let ret : tree_in c u f.ret ≡ tree_in c s f.ret = is-tree (silent c) (is_grow (silent c) (x z₁).grown (k z₀).returns) ∙ sym (is-tree (silent c) (k z₀).returns) in
        record {
          ok = record {
            filling = filling_of c.texts u.types.words bs;
            params = (x z₁).value.fits fu (filling_of c.texts u.types.words bs) (agrees-self c u.types bs);
            ret = r.is ∙ (is-tree (silent c) (y z₂).value.is.1 ∙ ap (substitute (filling_of c.texts u.types.words bs)) ret);
          };
          same = same-trans (x z₁).value.same (same-trans (y z₂).value.same r.same);
        })
        (h_set c type slot low (λ z. ap (λ (l : List ℕ). get_or l slot 0) ((y z).value.slots ∙ (x (before (silent c) t₁ z)).value.slots) ∙ unset
        (before (silent c) t (before (silent c) t₁ z))) (λ z. (y z).holds) (λ z. (y z).value.is.0)))))
        (λ _. g_next (silent c) _ (h_report c type {Q = λ _ _. ⊥} h n _)
        (λ _ u t x. g_when (silent c) _ _ (λ _. g_return (silent c) (λ z. (x z).holds) (λ z. absurd (x z).value)) (λ _. told-set c type slot _ (λ z. (x z).value))))
      where
        stay : {u : World} {bs : List Binding} → Silent (silent c) u → (t : Later s u)
            → (Silent (silent c) u → After (silent c) (Fitted c type f.with_slots s f.params given []) s u bs) → trees u f.params ≡ trees s f.params
        stay {u} z t x = let g = k (before (silent c) t z) in trees-stay s u (x z).grown (record { trees = g.trees; each = g.params })
