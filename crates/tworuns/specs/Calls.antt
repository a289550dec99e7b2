-- Calls in two runs: the same diagnostics, and results of one type. One lemma for each function of the rules. Assumes nothing.
use Rattle.std.specs.Prelude.{ℕ, ◌<◌, ◌≡◌, Bool, List}
use Rattle.std.proofs.Math.Path.{refl}
use Rattle.std.proofs.Common.{ap}
use Rattle.std.proofs.Math.Option.{Option}
use Rattle.tok.specs.Step.{for_each}
use Rattle.ptype.specs.Ty.{Ty, contains_slot}
use Rattle.ptype.specs.Add.{Buffer}
use Rattle.ptype.specs.Slots.{Binding, Bound}
use Rattle.library.specs.Package.{Param, Signature}
use Rattle.rules.specs.World.{World, Walk}
use Rattle.rules.specs.Steps.{ty, tree, ty_tree, poison}
use Rattle.rules.specs.Calls.{Callee, own_function, package_function, through_field, no_callee, Provided, compared, after_binding, slotted_argument, plain_argument, argument, arguments}
use Rattle.rules.specs.Calls.{returned, check_call_args, resolve_call, param_trees, provided_trees, position, all_return, common_return, select, in_group, resolve_pkg_call, call}
use Rattle.tworuns.specs.Runs.{Runs, Relation, Each, end, and, each_map, each-length, Both?, neither, present, Slot, SameType, SameName, SameParam}
use Rattle.tworuns.specs.Runs.{SameSignature, Worlds, type_grow, param_grow, signature_grow, same-zero, same-tree, tree-first, tree-second}
use Rattle.tworuns.specs.Runs as R
use Rattle.tworuns.specs.Sound.{SoundCallee}
use Rattle.laws.specs.RulesKeep.{in_look, in_option, in_poison, in_check_call, in_group_lem}
use Rattle.tworuns.specs.Logic.{told-kept, Parts, fine, q_next, Gives, p_next, p_return, p_when, p_option, p_set, p_on_types, Answers, Words, Nothing, Equal}
use Rattle.tworuns.specs.Primitive.{p_report, p_poison, Reads, p_reads, reads-each}
use Rattle.tworuns.specs.Inner.{type-is}
use Rattle.tworuns.specs.Exprs.{In}
use Rattle.tworuns.specs.Bind.{Bindings, bindings_grow, SameBound, all, clash, of_void, bind-same, t_apply}
use Rattle.tworuns.specs.Find.{function-same, package_same, group-same}

-- an argument that a call provides
pub record SameProvided (r : Runs) (a a' : Provided) : Type 0 where
  pub slot : Slot r a.slot a'.slot
  pub span : a.span ≡ a'.span

module _ (r : Runs) (n : ℕ) {name name' : List ℕ} (q : name ≡ name') {p p' : Param} {a a' : Provided} (i : SameProvided r a a') where
  p_compared : {s s' : World} → Worlds r s s' → {b b' : Buffer} {e e' t t' : Ty} → SameParam r b b' p p' → e ≡ e' → t ≡ t'
      → Gives r (Nothing r) s s' (compared r.first n name p a e t s) (compared r.second n name' p' a' e' t' s')
  unfolding compared
  p_compared ws h x y = p_when r _ _ _ _ (cc (x, y)) (λ _. p_return r ws tt) (λ _. p_report r ws n (cc (h.name.bytes, i.span, x, y, q)))

  p_bound : {s s' : World} → Worlds r s s' → {x x' t t' : Ty} {b b' : Bound} (h : SameParam r s.types s'.types p p')
      → x ≡ h.type.tree → x' ≡ h.type.tree → t ≡ t' → SameBound r s.types s'.types b b'
      → Gives r (Bindings r) s s' (after_binding r.first n name p a x t b s) (after_binding r.second n name' p' a' x' t' b' s')
  unfolding after_binding tree
  p_bound {s} {s'} ws h e e' y (all bs) =
      rw (e, e') (p_next r _ _ (p_on_types r _ _ ws (t_apply r n h.type.tree ws.types bs (type-is h.type)))
      (λ w w' u u' g g' v x. p_next r _ _ (p_compared v h (same-tree r x) y) (λ _ _ k k' f f' z _. p_return r z (bindings_grow r f f' (bindings_grow r g g' bs)))))
  p_bound ws h e e' y (clash bs old new) =
      p_next r _ _ (p_report r ws n (cc (same-tree r old, same-tree r new, i.span, q))) (λ _ _ k k' f f' z _. p_return r z (bindings_grow r f f' bs))
  p_bound ws h e e' y (of_void bs) = p_next r _ _ (p_report r ws n (cc (i.span, q))) (λ _ _ k k' f f' z _. p_return r z (bindings_grow r f f' bs))

  p_argument : {s s' : World} → Worlds r s s' → {slots slots' : Bool} {bs bs' : List Binding} → slots ≡ slots' → SameParam r s.types s'.types p p'
      → Bindings r s.types s'.types bs bs' → Gives r (Bindings r) s s' (argument r.first n name slots p a bs s) (argument r.second n name' slots' p' a' bs' s')
  unfolding argument slotted_argument plain_argument ty tree
  p_argument ws k h bs =
      let w = ws.slots a.slot a'.slot i.slot in
      let t = same-tree r w in
      p_when r _ _ _ _ (cc (same-zero r w, t)) (λ _. p_return r ws bs)
      (λ _. p_when r _ _ _ _ k
      (λ _. p_when r _ _ _ _ (ap contains_slot t) (λ _. p_return r ws bs)
      (λ _. p_bound ws h (tree-first r h.type) (tree-second r h.type) t
      (rw (tree-first r h.type, tree-second r h.type) (bind-same r ws.types h.type.left w bs))))
      (λ _. p_next r _ _ (p_compared ws h (same-tree r h.type) t) (λ _ _ u u' g g' v _. p_return r v (bindings_grow r g g' bs))))

module _ (r : Runs) (n : ℕ) {name name' : List ℕ} (q : name ≡ name') where
  p_arguments : {given given' : List Provided} → Each (SameProvided r) given given' → {s s' : World}
      → Worlds r s s' → {slots slots' : Bool} {ps ps' : List Param} {bs bs' : List Binding} → slots ≡ slots'
      → Each (SameParam r s.types s'.types) ps ps' → Bindings r s.types s'.types bs bs'
      → Gives r (Bindings r) s s' (arguments r.first n name slots ps given bs s) (arguments r.second n name' slots' ps' given' bs' s')
  unfolding arguments
  p_arguments end ws k end bs = p_return r ws bs
  p_arguments end ws k (and h hs) bs = p_return r ws bs
  p_arguments (and i is) ws k end bs = p_return r ws bs
  p_arguments (and i is) ws k (and h hs) bs =
      p_next r _ _ (p_argument r n q i ws k h bs) (λ more more' u u' g g' v x. p_arguments is v k (each_map (param_grow r g g') hs) x)

  p_returned : {s s' : World} → Worlds r s s' → {f f' : Signature} {bs bs' : List Binding} → SameSignature r s.types s'.types f f' → Bindings r s.types s'.types bs bs'
      → Gives r (Words r) s s' (returned r.first n f bs s) (returned r.second n f' bs' s')
  unfolding returned tree
  p_returned ws h bs =
      p_when r _ _ _ _ h.with_slots
      (λ _. rw (tree-first r h.ret, tree-second r h.ret) (p_on_types r _ _ ws (t_apply r n h.ret.tree ws.types bs (type-is h.ret))))
      (λ _. p_return r ws h.ret)

  p_check_call : (slot token : ℕ) → slot < r.first.void → {given given' : List Provided} → Each (SameProvided r) given given'
      → {s s' : World} → Worlds r s s' → {f f' : Signature} → SameSignature r s.types s'.types f f'
      → Gives r (Answers r) s s' (check_call_args r.first n slot token name f given s) (check_call_args r.second n slot token name' f' given' s')
  unfolding check_call_args
  p_check_call slot token own is ws {f} {f'} h =
      p_when r _ _ _ _ (cc (each-length is, each-length h.params))
      (λ _. p_next r _ _ (p_arguments is ws h.with_slots h.params end) (λ bs bs' u u' g g' v x.
      p_next r _ _ (p_returned v (signature_grow r g g' f f' h) x) (λ w w' k k' i i' z y. p_set r slot z own y)))
      (λ _. p_next r _ _ (p_report r ws n (cc (q, each-length is, each-length h.params))) (λ _ _ u u' g g' v _.
      p_when r _ _ _ _ h.with_slots (λ _. p_return r v R.poison) (λ _. p_set r slot v own (type_grow r g g' f.ret f'.ret h.ret))))

-- reading the types of arguments and returns
module _ (r : Runs) {s s' : World} (ws : Worlds r s s') where
  reads-tree : {w w' : ℕ} → SameType r s.types s'.types w w' → Reads s s' (tree r.first w s) (tree r.second w' s')
  unfolding tree
  reads-tree h = record { value = h.tree; first = rw (tree-first r h); second = rw (tree-second r h) }

  reads-params : {ps ps' : List Param} → Each (SameParam r s.types s'.types) ps ps' → Reads s s' (param_trees r.first ps s) (param_trees r.second ps' s')
  unfolding param_trees
  reads-params hs = reads-each _ _ hs (λ p p' h. reads-tree h.type)

  reads-provided : {given given' : List Provided} → Each (SameProvided r) given given' → Reads s s' (provided_trees r.first given s) (provided_trees r.second given' s')
  unfolding provided_trees ty_tree ty
  reads-provided is = reads-each _ _ is (λ a a' i. reads-tree (ws.slots a.slot a'.slot i.slot))

  reads-candidates : {fs fs' : List Signature} → Each (SameSignature r s.types s'.types) fs fs'
      → Reads s s' (for_each (λ g. param_trees r.first g.params) fs s) (for_each (λ g. param_trees r.second g.params) fs' s')
  reads-candidates hs = reads-each _ _ hs (λ f f' h. reads-params h.params)

  abbrev Found : Relation (Option Signature)
  Found b b' o o' = Both? (SameSignature r b b') o o'

  p_position : (ts : List Ty) {fs fs' : List Signature} → Each (SameSignature r s.types s'.types) fs fs'
      → Gives r Found s s' (position r.first ts fs s) (position r.second ts fs' s')
  unfolding position
  p_position ts end = p_return r ws neither
  p_position ts (and h hs) = p_reads _ _ (reads-params h.params) (p_when r _ _ _ _ refl (λ _. p_return r ws (present h)) (λ _. p_position ts hs))

  p_all_return : (t : Ty) {fs fs' : List Signature} → Each (SameSignature r s.types s'.types) fs fs'
      → Gives r (Equal r) s s' (all_return r.first t fs s) (all_return r.second t fs' s')
  unfolding all_return
  p_all_return t end = p_return r ws refl
  p_all_return t (and h hs) = p_reads _ _ (reads-tree h.ret) (p_when r _ _ _ _ refl (λ _. p_all_return t hs) (λ _. p_return r ws refl))

  module _ (slot : ℕ) (own : slot < r.first.void) {f f' : Signature} (h : SameSignature r s.types s'.types f f') {fs fs' : List Signature} (hs : Each (SameSignature r s.types s'.types) fs fs') where
    p_common : Gives r (Answers r) s s' (common_return r.first slot f fs s) (common_return r.second slot f' fs' s')
    unfolding common_return
    p_common =
        p_reads _ _ (reads-tree h.ret) (p_next r _ _ (p_all_return _ hs)
        (λ b b' u u' g g' v e. p_when r _ _ _ _ e (λ _. p_set r slot v own (type_grow r g g' f.ret f'.ret h.ret)) (λ _. p_return r v R.poison)))

module _ (r : Runs) (n slot : ℕ) (own : slot < r.first.void) {given given' : List Provided} (is : Each (SameProvided r) given given') where
  p_select : {s s' : World} → Worlds r s s' → (token : ℕ) {name name' : List ℕ} → name ≡ name' → {f f' : Signature} → SameSignature r s.types s'.types f f'
      → {fs fs' : List Signature} → Each (SameSignature r s.types s'.types) fs fs' → {b b' : Bool} → b ≡ b'
      → Gives r (Answers r) s s' (select r.first n slot token name f fs given b s) (select r.second n slot token name' f' fs' given' b' s')
  unfolding select
  p_select ws token q {f} {f'} h hs e =
      p_when r _ _ _ _ e (λ _. p_common r ws slot own h hs)
      (λ _. p_reads _ _ (reads-provided r ws is) (p_next r _ _ (p_position r ws _ (and h hs)) (λ o o' u u' g g' v x.
      let h₁ = signature_grow r g g' f f' h in
      let hs₁ = each_map (signature_grow r g g') hs in
      p_option r _ _ _ _ x
      (p_reads _ _ (reads-candidates r v (and h₁ hs₁)) (p_next r _ _ (p_report r v n (cc (q))) (λ _ _ k k' i i' z _.
      p_common r z slot own (signature_grow r i i' f f' h₁) (each_map (signature_grow r i i') hs₁))))
      (λ c c' y. p_set r slot v own y.ret))))

  p_group : {s s' : World} → Worlds r s s' → (token : ℕ) {name name' : List ℕ} → name ≡ name' → {fs fs' : List Signature} → Each (SameSignature r s.types s'.types) fs fs' → {b b' : Bool} → b ≡ b'
      → Gives r (Answers r) s s' (in_group r.first n slot token name fs given b s) (in_group r.second n slot token name' fs' given' b' s')
  unfolding in_group
  p_group ws token q end e = p_poison r ws n (cc (q))
  p_group ws token q (and h end) e = p_check_call r n q slot token own is ws h
  p_group ws token q (and h (and k hs)) e = p_select ws token q h (and k hs) e

  p_resolve_call : {s s' : World} → Worlds r s s' → (name : ℕ) → SameName r name name
      → Gives r (Answers r) s s' (resolve_call r.first n slot name given s) (resolve_call r.second n slot name given' s')
  unfolding resolve_call
  p_resolve_call ws name m =
      p_option r _ _ _ _ (function-same r m.bytes ws.own) (p_poison r ws n (cc m.bytes)) (λ f f' h. p_check_call r n m.bytes slot name own is ws h)

  p_resolve_pkg : {s s' : World} → Worlds r s s' → (pkg name : ℕ) → SameName r pkg pkg → SameName r name name → {b b' : Bool} → b ≡ b'
      → Gives r (Answers r) s s' (resolve_pkg_call r.first n slot pkg name given b s) (resolve_pkg_call r.second n slot pkg name given' b' s')
  unfolding resolve_pkg_call
  p_resolve_pkg ws pkg name k m e =
      p_option r _ _ _ _ (package_same r k.bytes ws.packages) (p_poison r ws n (cc k.bytes))
      (λ p p' h. p_group ws name (cc (k.bytes, m.bytes)) (group-same r m.bytes h.functions) e)

  -- The Call arm; `visits` visits the arguments.
  pub q_call : {s s' : World} → Worlds r s s' → (f : Callee) → SoundCallee (λ i. i < r.first.void) (In r) f → (visits visits' : Walk Bool)
      → Parts r (Equal r) s s' (visits s) (visits' s') → Parts r (Answers r) s s' (call r.first n slot f given visits s) (call r.second n slot f given' visits' s')
  unfolding call SoundCallee resolve_call resolve_pkg_call
  q_call ws (own_function name) h v v' m =
      q_next r _ _ m (λ _. in_look told-kept _ λ s. in_option told-kept _ _ _ (in_poison told-kept n _) λ f. in_check_call told-kept r.first n slot name _ f given tt)
      (λ _ _ u u' g g' x _. fine (p_resolve_call x name (record { bytes = ws.names name h; word = λ z. refl })))
  q_call ws (package_function pkg name) h v v' m =
      q_next r _ _ m (λ b. in_look told-kept _ λ s. in_option told-kept _ _ _ (in_poison told-kept n _) λ p. in_group_lem told-kept r.first n slot name _ _ given b tt)
      (λ b b' u u' g g' x e. fine (p_resolve_pkg x pkg name (record { bytes = ws.names pkg h.0; word = λ z. refl }) (record { bytes = ws.names name h.1; word = λ z. refl }) e))
  q_call ws (through_field name) h v v' m = fine (p_poison r ws n refl)
  q_call ws no_callee h v v' m = fine (p_return r ws R.poison)
