-- Program logic of the walk: a relation of worlds that every primitive step keeps (`Keeps`) is kept by each rule, and by the walk of the roots.
use Rattle.std.specs.Prelude.{ℕ, ◌+◌, Bool, ◌≡◌}
use Rattle.std.proofs.Math.Bool.{true, false}
use Rattle.std.proofs.Math.Path.{refl}
use Rattle.std.proofs.Math.Option.{Option, none, some}
use mathlib.Core.List.{List, [], ◌∷◌}
use Rattle.ptype.specs.Words.{ty_of}
use Rattle.tok.specs.Step.{Result, ok, Step, Refusal, refusal, next, ◌>>=◌, return, look, give, refuse, when, for_each}
use Rattle.ptype.specs.Add.{Buffer}
use Rattle.ptype.specs.Ty.{Ty}
use Rattle.ptype.specs.Slots.{Binding, Bound, all_bound, conflict, void_slot}
use Rattle.ast.specs.Node.{Node, Nodes, Cases, Values, ExternFn, first_roots}
use Rattle.ast.specs.Node.{Atom, Ident, Bin, Unary, Let, Fn, Match, Call, Field, Cast, Import, Extern, Record, Array, Absent, done, then, no_case, case, no_value, value}
use Rattle.tok.specs.declared.Span.{Span}
use Rattle.ast.specs.Span.{span_of}
use Rattle.ast.specs.TypeExpr.{Arg, TypeExpr}
use Rattle.err.specs.Message.{Diagnostic}
use Rattle.err.specs.Report.{has_room, added, tell}
use Rattle.rules.specs.declared.Answer.{Answer}
use Rattle.rules.specs.declared.Answer.TheVariants.{Known, Poison}
use Rattle.library.specs.Package.{Param, Signature, Package, pool_of}
use Rattle.rules.specs.World.{Ctx, World, Walk, with_env, Log}
use Rattle.rules.specs.Steps.{Done, known, if_known, on_option, ty, tree, ty_tree, set_known, on_types, raised_log, on_log}
use Rattle.rules.specs.Steps.{raised_told, output_of, report, poison, env_insert, framed, apart, hold, enter, type_from_expr}
use Rattle.rules.specs.Operators.{fuse, unary, cast}
use Rattle.rules.specs.Calls.{Callee, own_function, package_function, through_field, no_callee, Provided, compared, after_binding, slotted_argument, plain_argument, argument, arguments}
use Rattle.rules.specs.Calls.{returned, check_call_args, resolve_call, param_trees, provided_trees, position, all_return, common_return, select, in_group, resolve_pkg_call, call}
use Rattle.rules.specs.declared.Member.{Member}
use Rattle.rules.specs.declared.Member.TheVariants.{Alike as alike, Silent as silent, Differs as differs}
use Rattle.rules.specs.Rules.{ident, let_binding, fn_arguments, check_return, fn, unless_defined, field_type, field, value_type, member_types, member, go_on, array_of, condition}
use Rattle.rules.specs.Rules.{Branch, compare_branches, matched, import_one, import_all, extern_fn, node, block, last, visit_all, cases, values, array, members}
use Rattle.refusals.specs.Inputs.{Inputs}
use Rattle.rules.specs.Walk.{ctx_of, copy_pool, measure, walk_first}
use Rattle.laws.specs.SlotsOf.{ArgSlots, SlotsOf, SlotsOfAll, SlotsOfCases, SlotsOfValues}
use Rattle.ast.specs.Image.{node_count}
use Rattle.laws.specs.Keeps.{Keeps, kept, stopped, Logs, logged, unlogged, StepsKeep, Enters, more, InT, t_apply, t_wrap, t_record, t_type_from}

module _ {R : World → World → Type 0} {Q P : ℕ → Type 0} (law : StepsKeep R Q P) where
  abbrev pub In : {A : Type 0} → Walk A → Type 0
  In m = (s : World) → Keeps R Q s (m s)

  pub step : {A B : Type 0} {s : World} {r : Result World Refusal A} (f : A → Walk B) → Keeps R Q s r → ((a : A) → In (f a)) → Keeps R Q s (next r f)
  step f (kept p) k = more law p (k _ _)
  step f (stopped q) k = stopped q

  pub in_next : {A B : Type 0} {m : Walk A} (f : A → Walk B) → In m → ((a : A) → In (f a)) → In (◌>>=◌ m f)
  in_next f h k s = step f (h s) k

  pub in_return : {A : Type 0} (a : A) → In (return a)
  in_return a s = kept (law.same s)

  pub in_look : {B : Type 0} (f : World → Walk B) → ((t : World) → In (f t)) → In (◌>>=◌ look f)
  in_look f h s = h s s

  pub at-when : {A : Type 0} (b : Bool) (x y : Walk A) (s : World) → (b ≡ true → Keeps R Q s (x s)) → (b ≡ false → Keeps R Q s (y s)) → Keeps R Q s (when b x y s)
  unfolding when
  at-when true x y s h k = h refl
  at-when false x y s h k = k refl

  pub in_when : {A : Type 0} (b : Bool) (x y : Walk A) → In x → In y → In (when b x y)
  in_when b x y h k s = at-when b x y s (λ _. h s) (λ _. k s)

  pub in_known : (a : Answer) (f : ℕ → Walk Answer) → ((slot : ℕ) → In (f slot)) → In (known a f)
  unfolding known
  in_known (Known slot) f h = h slot
  in_known Poison f h = in_return Poison

  pub in_if_known : (a : Answer) (f : ℕ → Walk Done) → ((slot : ℕ) → In (f slot)) → In (if_known a f)
  unfolding if_known
  in_if_known (Known slot) f h = h slot
  in_if_known Poison f h = in_return tt

  pub in_option : {A B : Type 0} (o : Option A) (m : Walk B) (f : A → Walk B) → In m → ((a : A) → In (f a)) → In (on_option o m f)
  unfolding on_option
  in_option none m f h k = h
  in_option (some a) m f h k = k a

  pub in_each : {A B : Type 0} (f : A → Walk B) (xs : List A) → ((a : A) → In (f a)) → In (for_each f xs)
  unfolding for_each
  in_each f [] h = in_return []
  in_each f (x ∷ xs) h = in_next _ (h x) λ b. in_next _ (in_each f xs h) λ bs. in_return (b ∷ bs)

  pub in_ty : (slot : ℕ) → In (ty slot)
  unfolding ty
  in_ty slot s = kept (law.same s)

  pub in_tree : (c : Ctx) (w : ℕ) → In (tree c w)
  unfolding tree
  in_tree c w s = kept (law.same s)

  -- where the rest must know that its tree was read from a types buffer
  pub in_tree-next : {B : Type 0} (c : Ctx) (w : ℕ) (f : Ty → Walk B) → ((ws : List ℕ) → In (f (ty_of c.texts ws w))) → In (◌>>=◌ (tree c w) f)
  unfolding tree
  in_tree-next c w f h s = h s.types.words s

  pub in_ty_tree : (c : Ctx) (slot : ℕ) → In (ty_tree c slot)
  unfolding ty_tree
  in_ty_tree c slot = in_next _ (in_ty slot) λ w. in_tree c w

  pub in_set : (slot w : ℕ) → P slot → In (set_known slot w)
  unfolding set_known
  in_set slot w h s = kept (law.slot slot w s h)

  at_told : (n : ℕ) (d : Diagnostic) (s : World) (b : Bool) → has_room (output_of s) d ≡ b
      → Keeps R Q s {A = Done} (raised_told s (when b (give tt (added (output_of s) d)) (refuse (refusal 9 n)) (output_of s)))
  unfolding when raised_told
  at_told n d s true e = kept (law.told d s e)
  at_told n d s false e = stopped law.told_full

  pub in_report : (n : ℕ) (d : Diagnostic) → In (report n d)
  unfolding report tell
  in_report n d s = at_told n d s (has_room (output_of s) d) refl

  pub in_poison : (n : ℕ) (d : Diagnostic) → In (poison n d)
  unfolding poison
  in_poison n d = in_next _ (in_report n d) λ _. in_return Poison

  at-log : {A : Type 0} (s : World) {r : Result Log Refusal A} → Logs Q r → Keeps R Q s (raised_log s r)
  unfolding raised_log
  at-log s (logged {l = l}) = kept (law.logs l s)
  at-log s (unlogged q) = stopped q

  pub in_on_log : {A : Type 0} (m : Step Log Refusal A) → ((l : Log) → Logs Q (m l)) → In (on_log m)
  unfolding on_log
  in_on_log m h s = at-log s (h s.log)

  pub in_insert : (name : ℕ) (t : Option ℕ) → In (env_insert name t)
  unfolding env_insert
  in_insert name t s = kept (law.binds _ s)

  pub in_hold : (p : Package) → In (hold p)
  unfolding hold
  in_hold p s = kept (law.holds p s)

  frame_back : {A : Type 0} {s : World} {r : Result World Refusal A} → Keeps R Q s r → Keeps R Q s (next r (λ a after. ok a (with_env after s.env)))
  frame_back (kept p) = kept (law.frame p)
  frame_back (stopped q) = stopped q

  alone-back : {A : Type 0} {s : World} {r : Result World Refusal A} → Keeps R Q (with_env s []) r → Keeps R Q s (next r (λ a after. ok a (with_env after s.env)))
  alone-back (kept p) = kept (law.alone p)
  alone-back (stopped q) = stopped q

  pub in_framed : {A : Type 0} (m : Walk A) → In m → In (framed m)
  unfolding framed
  in_framed m h s = frame_back (h s)

  pub in_apart : {A : Type 0} (m : Walk A) → In m → In (apart m)
  unfolding apart framed
  in_apart m h s = alone-back (h (with_env s []))

  pub in_on_types : {A : Type 0} (m : Step Buffer Refusal A) → InT law m → In (on_types m)
  unfolding on_types
  in_on_types m h s = h s

  pub in_type_from : (c : Ctx) (n : ℕ) (t : TypeExpr) → In (type_from_expr c n t)
  unfolding type_from_expr
  in_type_from c n t = in_on_types _ (t_type_from law c.texts n t)

  -- operators
  pub in_fuse : (c : Ctx) (n slot token op l r : ℕ) → P slot → In (fuse c n slot token op l r)
  unfolding fuse
  in_fuse c n slot token op l r h =
      in_next _ (in_ty l) λ _. in_next _ (in_ty r) λ _. in_next _ (in_tree c _) λ _. in_next _ (in_tree c _) λ _.
      in_when _ _ _ (in_when _ _ _ (in_poison n _) (in_poison n _)) (in_set slot _ h)

  pub in_unary : (c : Ctx) (n slot token op r : ℕ) → P slot → In (unary c n slot token op r)
  unfolding unary
  in_unary c n slot token op r h = in_next _ (in_ty r) λ w. in_tree-next c w _ λ ws. in_when _ _ _ (in_set slot _ h) (in_poison n _)

  pub in_cast : (c : Ctx) (n slot token left to : ℕ) → P slot → In (cast c n slot token left to)
  unfolding cast
  in_cast c n slot token left to h =
      in_next _ (in_ty left) λ _. in_next _ (in_tree c _) λ _. in_next _ (in_tree c _) λ _.
      in_when _ _ _ (in_set slot to h) (in_when _ _ _ (in_next _ (in_report n _) λ _. in_set slot to h) (in_poison n _))

  -- calls
  pub in_compared : (c : Ctx) (n : ℕ) (name : List ℕ) (p : Param) (a : Provided) (e t : Ty) → In (compared c n name p a e t)
  unfolding compared
  in_compared c n name p a e t = in_when _ _ _ (in_return tt) (in_report n _)

  pub in_bound : (c : Ctx) (n : ℕ) (name : List ℕ) (p : Param) (a : Provided) (e t : Ty) (b : Bound) → In (after_binding c n name p a e t b)
  unfolding after_binding
  in_bound c n name p a e t (all_bound bs) =
      in_next _ (in_on_types _ (t_apply law c.texts n bs e _)) λ w. in_next _ (in_tree c w) λ x. in_next _ (in_compared c n name p a x t) λ _. in_return bs
  in_bound c n name p a e t (conflict bs slot old new) = in_next _ (in_tree c old) λ _. in_next _ (in_tree c new) λ _. in_next _ (in_report n _) λ _. in_return bs
  in_bound c n name p a e t (void_slot bs slot) = in_next _ (in_report n _) λ _. in_return bs

  pub in_argument : (c : Ctx) (n : ℕ) (name : List ℕ) (slots : Bool) (p : Param) (a : Provided) (bs : List Binding) → In (argument c n name slots p a bs)
  unfolding argument slotted_argument plain_argument
  in_argument c n name slots p a bs =
      in_next _ (in_ty _) λ w. in_next _ (in_tree c w) λ t. in_when _ _ _ (in_return bs) (in_when _ _ _
      (in_when _ _ _ (in_return bs) (in_look _ λ s. in_next _ (in_tree c _) λ e. in_bound c n name p a e t _))
      (in_next _ (in_tree c _) λ e. in_next _ (in_compared c n name p a e t) λ _. in_return bs))

  pub in_arguments : (c : Ctx) (n : ℕ) (name : List ℕ) (slots : Bool) (ps : List Param) (xs : List Provided) (bs : List Binding) → In (arguments c n name slots ps xs bs)
  unfolding arguments
  in_arguments c n name slots [] xs bs = in_return bs
  in_arguments c n name slots (p ∷ ps) [] bs = in_return bs
  in_arguments c n name slots (p ∷ ps) (x ∷ xs) bs = in_next _ (in_argument c n name slots p x bs) λ more. in_arguments c n name slots ps xs more

  pub in_returned : (c : Ctx) (n : ℕ) (f : Signature) (bs : List Binding) → In (returned c n f bs)
  unfolding returned
  in_returned c n f bs = in_when _ _ _ (in_next _ (in_tree c _) λ t. in_on_types _ (t_apply law c.texts n bs t _)) (in_return _)

  pub in_check_call : (c : Ctx) (n slot token : ℕ) (name : List ℕ) (f : Signature) (xs : List Provided) → P slot → In (check_call_args c n slot token name f xs)
  unfolding check_call_args
  in_check_call c n slot token name f xs h =
      in_when _ _ _ (in_next _ (in_arguments c n name _ _ xs []) λ bs. in_next _ (in_returned c n f bs) λ w. in_set slot w h)
      (in_next _ (in_report n _) λ _. in_when _ _ _ (in_return Poison) (in_set slot _ h))

  pub in_params : (c : Ctx) (ps : List Param) → In (param_trees c ps)
  unfolding param_trees
  in_params c ps = in_each _ ps λ p. in_tree c _

  pub in_provided : (c : Ctx) (xs : List Provided) → In (provided_trees c xs)
  unfolding provided_trees
  in_provided c xs = in_each _ xs λ x. in_ty_tree c _

  pub in_position : (c : Ctx) (ts : List Ty) (fs : List Signature) → In (position c ts fs)
  unfolding position
  in_position c ts [] = in_return none
  in_position c ts (f ∷ fs) = in_next _ (in_params c _) λ _. in_when _ _ _ (in_return _) (in_position c ts fs)

  pub in_all_return : (c : Ctx) (t : Ty) (fs : List Signature) → In (all_return c t fs)
  unfolding all_return
  in_all_return c t [] = in_return true
  in_all_return c t (f ∷ fs) = in_next _ (in_tree c _) λ _. in_when _ _ _ (in_all_return c t fs) (in_return false)

  pub in_common : (c : Ctx) (slot : ℕ) (f : Signature) (fs : List Signature) → P slot → In (common_return c slot f fs)
  unfolding common_return
  in_common c slot f fs h = in_next _ (in_tree c _) λ t. in_next _ (in_all_return c t fs) λ _. in_when _ _ _ (in_set slot _ h) (in_return Poison)

  pub in_select : (c : Ctx) (n slot name : ℕ) (x : List ℕ) (f : Signature) (fs : List Signature) (xs : List Provided) (b : Bool) → P slot → In (select c n slot name x f fs xs b)
  unfolding select
  in_select c n slot name x f fs xs b h =
      in_when _ _ _ (in_common c slot f fs h) (in_next _ (in_provided c xs) λ ts. in_next _ (in_position c ts _) λ found. in_option found _ _
      (in_next _ (in_each _ _ λ g. in_params c _) λ _. in_next _ (in_report n _) λ _. in_common c slot f fs h)
      λ g. in_set slot _ h)

  pub in_group_lem : (c : Ctx) (n slot name : ℕ) (x : List ℕ) (fs : List Signature) (xs : List Provided) (b : Bool) → P slot → In (in_group c n slot name x fs xs b)
  unfolding in_group
  in_group_lem c n slot name x [] xs b h = in_poison n _
  in_group_lem c n slot name x (f ∷ []) xs b h = in_check_call c n slot name x f xs h
  in_group_lem c n slot name x (f ∷ g ∷ fs) xs b h = in_select c n slot name x f (g ∷ fs) xs b h

  pub in_call : (c : Ctx) (n slot : ℕ) (f : Callee) (xs : List Provided) (m : Walk Bool) → In m → P slot → In (call c n slot f xs m)
  unfolding call resolve_call resolve_pkg_call
  in_call c n slot (own_function name) xs m h p = in_next _ h λ _. in_look _ λ s. in_option _ _ _ (in_poison n _) λ f. in_check_call c n slot name _ f xs p
  in_call c n slot (package_function pkg name) xs m h p = in_next _ h λ b. in_look _ λ s. in_option _ _ _ (in_poison n _) λ q. in_group_lem c n slot name _ _ xs b p
  in_call c n slot (through_field name) xs m h p = in_poison n _
  in_call c n slot no_callee xs m h p = in_return Poison

  -- rules
  pub in_ident : (c : Ctx) (n slot name : ℕ) → P slot → In (ident c n slot name)
  unfolding ident
  in_ident c n slot name h = in_look _ λ s. in_option _ _ _ (in_poison n _) λ b. in_option b _ _ (in_return Poison) λ w. in_set slot w h

  pub in_let : (n name : ℕ) (a : Answer) → In (let_binding n name a)
  unfolding let_binding
  in_let n name (Known r) = in_next _ (in_ty r) λ w. in_when _ _ _ (in_next _ (in_report n _) λ _. in_return none) (in_return (some w))
  in_let n name Poison = in_return none

  pub in_fn_arguments : (c : Ctx) (n slot : ℕ) (xs : List Arg) → ArgSlots P slot xs → In (fn_arguments c n slot xs)
  unfolding fn_arguments ArgSlots
  in_fn_arguments c n slot [] h = in_return []
  in_fn_arguments c n slot (a ∷ xs) h =
      in_next _ (in_type_from c n _) λ w. in_next _ (in_set slot w h.0) λ _. in_next _ (in_insert _ _) λ _. in_next _ (in_fn_arguments c n (slot + 1) xs h.1) λ _. in_return _

  pub in_check_return : (c : Ctx) (n name : ℕ) (e : TypeExpr) (ret : ℕ) (a : Answer) → In (check_return c n name e ret a)
  unfolding check_return
  in_check_return c n name e ret a = in_if_known a _ λ slot. in_next _ (in_tree c ret) λ _. in_next _ (in_ty_tree c slot) λ _. in_when _ _ _ (in_return tt) (in_report n _)

  pub in_field : (c : Ctx) (n slot name t : ℕ) → P slot → In (field c n slot name t)
  unfolding field field_type
  in_field c n slot name t h =
      in_next _ (in_ty t) λ w. in_next _ (in_tree c w) λ _. in_look _ λ s. in_when _ _ _
      (in_option _ _ _ (in_poison n _) λ x. in_when _ _ _ (in_next _ (in_set slot _ h) λ _. in_return Poison) (in_set slot x h)) (in_poison n _)

  pub in_value : (a : Answer) → In (value_type a)
  unfolding value_type
  in_value (Known slot) = in_ty slot
  in_value Poison = in_return _

  pub in_member : (c : Ctx) (n : ℕ) (x : Span) (a b : Answer) → In (member c n x a b)
  unfolding member member_types
  in_member c n x (Known f) (Known m) =
      in_next _ (in_ty_tree c f) λ _. in_next _ (in_ty_tree c m) λ _. in_when _ _ _ (in_return silent) (in_when _ _ _ (in_return alike) (in_next _ (in_report n _) λ _. in_return differs))
  in_member c n x (Known f) Poison = in_return silent
  in_member c n x Poison b = in_return silent

  pub in_go_on : (m : Member) (b : Bool) (f : Bool → Walk Answer) → ((b : Bool) → In (f b)) → In (go_on m b f)
  unfolding go_on
  in_go_on alike b f h = h b
  in_go_on silent b f h = h true
  in_go_on differs b f h = in_return Poison

  pub in_array_of : (c : Ctx) (n slot : ℕ) (a : Answer) (b : Bool) → P slot → In (array_of c n slot a b)
  unfolding array_of
  in_array_of c n slot a b h =
      in_known a _ λ f. in_when _ _ _ (in_return Poison) (in_next _ (in_ty f) λ e. in_next _ (in_on_types _ (t_wrap law c.texts n 7 e)) λ w. in_set slot w h)

  pub in_condition : (c : Ctx) (n token : ℕ) (a : Answer) → In (condition c n token a)
  unfolding condition
  in_condition c n token a = in_if_known a _ λ slot. in_next _ (in_ty_tree c slot) λ _. in_when _ _ _ (in_return tt) (in_report n _)

  pub in_branches : (c : Ctx) (n d : ℕ) (bs : List Branch) → In (compare_branches c n d bs)
  unfolding compare_branches
  in_branches c n d [] = in_return tt
  in_branches c n d (b ∷ bs) =
      in_next _ (in_if_known _ _ λ slot. in_next _ (in_ty_tree c slot) λ _. in_next _ (in_ty_tree c d) λ _. in_when _ _ _ (in_return tt) (in_report n _)) λ _. in_branches c n d bs

  pub in_matched : (c : Ctx) (n slot : ℕ) (bs : List Branch) (a : Answer) → P slot → In (matched c n slot bs a)
  unfolding matched
  in_matched c n slot bs a h = in_known a _ λ d. in_next _ (in_branches c n d bs) λ _. in_next _ (in_ty d) λ w. in_set slot w h

  pub in_import : (c : Ctx) (n path : ℕ) → In (import_one c n path)
  unfolding import_one
  in_import c n path = in_look _ λ s. in_option _ _ _ (in_option _ _ _ (in_report n _) λ p. in_hold p) λ _. in_return tt

  pub in_imports : (c : Ctx) (n token : ℕ) (ps : List ℕ) → In (import_all c n token ps)
  unfolding import_all
  in_imports c n token [] = in_report n _
  in_imports c n token (p ∷ ps) = in_next _ (in_each _ (p ∷ ps) λ x. in_import c n x) λ _. in_return tt

  pub in_extern : (c : Ctx) (n : ℕ) (f : ExternFn) → In (extern_fn c n f)
  unfolding extern_fn
  in_extern c n f = in_next _ (in_each _ _ λ a. in_next _ (in_type_from c n _) λ _. in_return _) λ _. in_next _ (in_type_from c n _) λ _. in_return _

  pub in_measure : (c : Ctx) (n : ℕ) (ws : List ℕ) → In (measure c n ws)
  unfolding measure
  in_measure c n [] = in_return tt
  in_measure c n (w ∷ ws) = in_next _ (in_tree c w) λ t. in_when _ _ _ (in_measure c n ws) (λ _. stopped law.too_deep)

  -- the theorem, with `enter`
  module _ (entering : Enters R) where
    pub in_enter : (name : ℕ) (ps : List Param) (ret : ℕ) → In (enter name ps ret)
    unfolding enter
    in_enter name ps ret s = kept (entering.enters name ps ret s)

    pub in_fn : (c : Ctx) (n slot name : ℕ) (e : TypeExpr) (xs : List Arg) (m : Walk Answer) → In m → P slot → ArgSlots P (slot + 1) xs → In (unless_defined c n name (fn c n slot name e xs m))
    unfolding unless_defined fn
    in_fn c n slot name e xs m h p q =
        in_look _ λ s. in_option _ _ _
        (in_next _ (in_apart _ (in_next _ (in_fn_arguments c n (slot + 1) xs q) λ ps. in_next _ (in_type_from c n e) λ ret. in_next _ (in_enter name ps ret) λ _.
        in_next _ h λ a. in_next _ (in_check_return c n name e ret a) λ _. in_return ret)) λ ret. in_set slot ret p)
        λ _. in_poison n _

    mutual
      unfolding node SlotsOf

      pub in_node : (c : Ctx) (t : Node) → SlotsOf P t → In (node c t)
      in_node c (Atom n slot token k) h = in_set slot _ h
      in_node c (Ident n slot name) h = in_ident c n slot name h
      in_node c (Bin n slot token op l r) h =
          in_next _ (in_node c l h.1) λ a. in_next _ (in_node c r h.2) λ b. in_known a _ λ x. in_known b _ λ y. in_fuse c n slot token op x y h.0
      in_node c (Unary n slot token op r) h = in_next _ (in_node c r h.1) λ a. in_known a _ λ x. in_unary c n slot token op x h.0
      in_node c (Let n slot name r) h =
          in_next _ (in_node c r h.1) λ a. in_next _ (in_let n name a) λ b. in_next _ (in_insert name b) λ _. in_set slot _ h.0
      in_node c (Fn n slot name ret args body) h = in_fn c n slot name ret args _ (in_block c body h.2) h.0 h.1
      in_node c (Match n slot cs token d) h =
          in_next _ (in_cases c n cs h.1) λ bs. in_next _ (in_block c d h.2) λ a. in_matched c n slot bs a h.0
      in_node c (Call n slot target args) h = in_call c n slot _ _ _ (in_all c args h.1) h.0
      in_node c (Field n slot target name) h = in_next _ (in_node c target h.1) λ a. in_known a _ λ x. in_field c n slot name x h.0
      in_node c (Cast n slot token l t) h =
          in_next _ (in_type_from c n t) λ to. in_next _ (in_node c l h.1) λ a. in_known a _ λ x. in_cast c n slot token x to h.0
      in_node c (Import n slot token ps) h = in_next _ (in_imports c n token ps) λ _. in_set slot _ h
      in_node c (Extern n slot token name fs) h = in_next _ (in_each _ fs λ f. in_extern c n f) λ _. in_next _ (in_hold _) λ _. in_set slot _ h
      in_node c (Record n slot token fs) h =
          in_next _ (in_values c fs h.1) λ ws. in_next _ (in_on_types _ (t_record law c.texts n ws)) λ w. in_set slot w h.0
      in_node c (Array n slot token ms) h = in_array c n slot token ms h.0 h.1
      in_node c (Absent n) h = in_return Poison

      pub in_block : (c : Ctx) (xs : Nodes) → SlotsOfAll P xs → In (block c xs)
      in_block c done h = in_return _
      in_block c (then x xs) h = in_framed _ (in_next _ (in_node c x h.0) λ a. in_last c a xs h.1)

      pub in_last : (c : Ctx) (a : Answer) (xs : Nodes) → SlotsOfAll P xs → In (last c a xs)
      in_last c a done h = in_return a
      in_last c a (then x xs) h = in_next _ (in_node c x h.0) λ b. in_last c b xs h.1

      pub in_all : (c : Ctx) (xs : Nodes) → SlotsOfAll P xs → In (visit_all c xs)
      in_all c done h = in_return false
      in_all c (then x xs) h = in_next _ (in_node c x h.0) λ a. in_next _ (in_all c xs h.1) λ b. in_return _

      pub in_cases : (c : Ctx) (n : ℕ) (cs : Cases) → SlotsOfCases P cs → In (cases c n cs)
      in_cases c n no_case h = in_return []
      in_cases c n (case token x body cs) h =
          in_next _ (in_node c x h.0) λ a. in_next _ (in_condition c n token a) λ _. in_next _ (in_block c body h.1) λ b. in_next _ (in_cases c n cs h.2) λ _. in_return _

      pub in_values : (c : Ctx) (vs : Values) → SlotsOfValues P vs → In (values c vs)
      in_values c no_value h = in_return []
      in_values c (value name x vs) h = in_next _ (in_node c x h.0) λ a. in_next _ (in_value a) λ w. in_next _ (in_values c vs h.1) λ _. in_return _

      pub in_array : (c : Ctx) (n slot token : ℕ) (xs : Nodes) → P slot → SlotsOfAll P xs → In (array c n slot token xs)
      in_array c n slot token done p h = in_poison n _
      in_array c n slot token (then x xs) p h = in_next _ (in_node c x h.0) λ a. in_members c n slot a false xs p h.1

      pub in_members : (c : Ctx) (n slot : ℕ) (a : Answer) (b : Bool) (xs : Nodes) → P slot → SlotsOfAll P xs → In (members c n slot a b xs)
      in_members c n slot a b done p h = in_array_of c n slot a b p
      in_members c n slot a b (then x xs) p h =
          in_next _ (in_node c x h.0) λ y. in_next _ (in_member c n (span_of x) a y) λ m. in_go_on m b _ λ q. in_members c n slot a q xs p h.1

    -- the walk of the first k roots, where it is in R to copy the pool
    pub at-walk : (i : Inputs) (k : ℕ) (s : World) → SlotsOfAll P (first_roots i.image k)
        → Keeps R Q s (copy_pool (node_count i.image) (pool_of i.library) s) → Keeps R Q s (walk_first i k s)
    unfolding walk_first
    at-walk i k s h p = step _ p λ _. in_next _ (in_measure (ctx_of i) _ _) λ _. in_next _ (in_last (ctx_of i) _ _ h) λ _. in_return tt
