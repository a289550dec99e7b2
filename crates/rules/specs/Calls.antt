-- Calls (typecheck/lib.rs: `resolve_call`, `resolve_pkg_call`, `check_call_args`; err.rs: `common_return`). Definitions.
use Rattle.std.specs.Prelude.{ℕ, Bool, true, false, ◌&&◌, ◌||◌, List, [], ◌∷◌, length, eqb}
use Rattle.std.proofs.Math.Option.{Option, none, some}
use Rattle.tok.specs.Step.{◌>>=◌, ◌>>◌, return, look, when, for_each}
use Rattle.ptype.specs.Ty.{Ty, same_ty, contains_unknown, contains_slot}
use Rattle.ptype.specs.Slots.{Binding, Bound, all_bound, conflict, void_slot, bind_slots, apply_slot_binding}
use Rattle.ast.specs.Node.{Node, Nodes, Atom, Ident, Bin, Unary, Let, Fn, Match, Call, Field, Cast, Import, Extern, Record, Array, Absent, done, then, slot_of}
use Rattle.tok.specs.declared.Span.{Span}
use Rattle.ast.specs.Span.{span_of}
use Rattle.err.specs.Message.{pkg_name, call_through_field, missing_package, undefined_in_package, undefined_own, no_specialisation, argument_count, arg_mismatch, slot_conflict, slot_void}
use Rattle.rules.specs.declared.Answer.{Answer}
use Rattle.rules.specs.declared.Answer.TheVariants.{Poison}
use Rattle.library.specs.Package.{Param, Signature, find_package, find_function, group_of}
use Rattle.rules.specs.World.{Ctx, name_in, Walk}
use Rattle.rules.specs.Steps.{Done, skip, on_option, ty, tree, ty_tree, set_known, on_types, report, poison}

-- What a call's target says: an own function, a function of a package, or a field of what is no Ident. "A call's target is never visited."
pub data Callee : Type 0 where
  own_function : (name : ℕ) → Callee
  package_function : (pkg name : ℕ) → Callee
  through_field : (name : ℕ) → Callee
  -- "target (Ident or Field)": no other kind in an accepted image
  no_callee : Callee

-- let Node::Ident { name: pkg_tok, .. } = self.ast.node(field_target) else { .. }
unfoldable pub field_callee : (name : ℕ) → (target : Node) → Callee
field_callee name (Ident n slot p) = package_function p name
field_callee name (Atom n slot token k) = through_field name
field_callee name (Bin n slot token op l r) = through_field name
field_callee name (Unary n slot token op r) = through_field name
field_callee name (Let n slot x r) = through_field name
field_callee name (Fn n slot x ret args body) = through_field name
field_callee name (Match n slot cs token d) = through_field name
field_callee name (Call n slot target args) = through_field name
field_callee name (Field n slot target x) = through_field name
field_callee name (Cast n slot token l t) = through_field name
field_callee name (Import n slot token paths) = through_field name
field_callee name (Extern n slot token x fs) = through_field name
field_callee name (Record n slot token fs) = through_field name
field_callee name (Array n slot token ms) = through_field name
field_callee name (Absent n) = through_field name

-- match self.ast.node(*target) { Node::Field { .. } => resolve_pkg_call, Node::Ident { .. } => resolve_call, _ => unreachable!() }
unfoldable pub callee_of : (target : Node) → Callee
callee_of (Field n slot target name) = field_callee name target
callee_of (Ident n slot name) = own_function name
callee_of (Atom n slot token k) = no_callee
callee_of (Bin n slot token op l r) = no_callee
callee_of (Unary n slot token op r) = no_callee
callee_of (Let n slot x r) = no_callee
callee_of (Fn n slot x ret args body) = no_callee
callee_of (Match n slot cs token d) = no_callee
callee_of (Call n slot target args) = no_callee
callee_of (Cast n slot token l t) = no_callee
callee_of (Import n slot token paths) = no_callee
callee_of (Extern n slot token x fs) = no_callee
callee_of (Record n slot token fs) = no_callee
callee_of (Array n slot token ms) = no_callee
callee_of (Absent n) = no_callee

-- An argument that a call provides: its slot, where its type stands once it is visited, and its span.
pub record Provided : Type 0 where
  pub slot : ℕ
  pub span : Span

unfoldable pub provided_of : Nodes → List Provided
provided_of done = []
provided_of (then x xs) = record { slot = slot_of x; span = span_of x } ∷ provided_of xs

-- if expected_arg_type != provided_type { diagnostics.push(arg_mismatch(..)) }
unfoldable pub compared : Ctx → (n : ℕ) → (call_name : List ℕ) → Param → Provided → (expected provided : Ty) → Walk Done
compared c n call_name p a expected provided =
    when (same_ty expected provided) skip (report n (arg_mismatch a.span call_name (name_in c p.name) expected provided))

-- The result of bind_slots: an error is reported and the argument left; else the expected type with its slots applied is compared.
unfoldable pub after_binding : Ctx → (n : ℕ) → (call_name : List ℕ) → Param → Provided → (expected provided : Ty) → Bound → Walk (List Binding)
after_binding c n call_name p a expected provided (all_bound bs) = do
  w ← on_types (apply_slot_binding c.texts n bs expected p.type)
  e ← tree c w
  compared c n call_name p a e provided
  return bs
after_binding c n call_name p a expected provided (conflict bs slot existing new) = do
  e ← tree c existing
  t ← tree c new
  report n (slot_conflict a.span call_name slot e t)
  return bs
after_binding c n call_name p a expected provided (void_slot bs slot) = do
  report n (slot_void a.span call_name slot)
  return bs

-- One argument of a slotted function. "Such an argument [one that contains a Slot], where the Rust can stop dead, is passed over without a
-- diagnostic": it binds, builds and reports nothing.
unfoldable pub slotted_argument : Ctx → (n : ℕ) → (call_name : List ℕ) → Param → Provided → (word : ℕ) → Ty → List Binding → Walk (List Binding)
slotted_argument c n call_name p a w provided bs =
    when (contains_slot provided) (return bs)
    (do
      s ← look
      expected ← tree c p.type
      after_binding c n call_name p a expected provided (bind_slots c.texts s.types.words expected w bs))

-- if !fun.with_slots { .. continue; }
unfoldable pub plain_argument : Ctx → (n : ℕ) → (call_name : List ℕ) → Param → Provided → Ty → List Binding → Walk (List Binding)
plain_argument c n call_name p a provided bs = do
  expected ← tree c p.type
  compared c n call_name p a expected provided
  return bs

-- let Some(provided_type) = map.get(..).filter(|ty| !ty.contains_unknown()) else { continue; }
unfoldable pub argument : Ctx → (n : ℕ) → (call_name : List ℕ) → (with_slots : Bool) → Param → Provided → List Binding → Walk (List Binding)
argument c n call_name with_slots p a bs = do
  w ← ty a.slot
  provided ← tree c w
  when (eqb w 0 || contains_unknown provided) (return bs)
      (when with_slots (slotted_argument c n call_name p a w provided bs) (plain_argument c n call_name p a provided bs))

-- for (i, &provided_node) in args.iter().enumerate() { .. }; the bindings grow from argument to argument
unfoldable pub arguments : Ctx → (n : ℕ) → (call_name : List ℕ) → (with_slots : Bool) → List Param → List Provided → List Binding → Walk (List Binding)
arguments c n call_name with_slots [] given bs = return bs
arguments c n call_name with_slots (p ∷ ps) [] bs = return bs
arguments c n call_name with_slots (p ∷ ps) (a ∷ rest) bs = do
  more ← argument c n call_name with_slots p a bs
  arguments c n call_name with_slots ps rest more

-- if fun.with_slots { fun.ret.apply_slot_binding(..) } else { fun.ret }
unfoldable pub returned : Ctx → (n : ℕ) → Signature → List Binding → Walk ℕ
returned c n fun bs =
    when fun.with_slots
    (do
      t ← tree c fun.ret
      on_types (apply_slot_binding c.texts n bs t fun.ret))
    (return fun.ret)

-- Typechecker::check_call_args
unfoldable pub check_call_args : Ctx → (n slot token : ℕ) → (call_name : List ℕ) → Signature → List Provided → Walk Answer
check_call_args c n slot token call_name fun given =
    when (eqb (length given) (length fun.params))
    (do
      bs ← arguments c n call_name fun.with_slots fun.params given []
      ret ← returned c n fun bs
      set_known slot ret)
    (do
      report n (argument_count token call_name (length fun.params) (length given))
      when fun.with_slots (return Poison) (set_known slot fun.ret))

-- Typechecker::resolve_call, after the arguments are visited
unfoldable pub resolve_call : Ctx → (n slot name : ℕ) → List Provided → Walk Answer
resolve_call c n slot name given = do
  s ← look
  on_option (find_function c.texts (name_in c name) s.own)
      (poison n (undefined_own name (name_in c name)))
      (λ fun. check_call_args c n slot name (name_in c name) fun given)

-- the trees of a list of arguments
unfoldable pub param_trees : Ctx → List Param → Walk (List Ty)
param_trees c ps = for_each (λ p. tree c p.type) ps

unfoldable pub provided_trees : Ctx → List Provided → Walk (List Ty)
provided_trees c given = for_each (λ a. ty_tree c a.slot) given

-- overload_matches: candidate.len() == provided.len() && candidate.zip(provided).all(|(c, p)| c == p)
unfoldable pub overload_matches : (candidate provided : List Ty) → Bool
overload_matches [] [] = true
overload_matches [] (p ∷ ps) = false
overload_matches (t ∷ ts) [] = false
overload_matches (t ∷ ts) (p ∷ ps) = same_ty t p && overload_matches ts ps

-- "takes the first candidate whose every argument type is equal, counts alike"
unfoldable pub position : Ctx → (provided : List Ty) → List Signature → Walk (Option Signature)
position c provided [] = return none
position c provided (f ∷ fs) = do
  ts ← param_trees c f.params
  when (overload_matches ts provided) (return (some f)) (position c provided fs)

-- candidates.iter().all(|c| c.ret == first)
unfoldable pub all_return : Ctx → Ty → List Signature → Walk Bool
all_return c t [] = return true
all_return c t (f ∷ fs) = do
  r ← tree c f.ret
  when (same_ty r t) (all_return c t fs) (return false)

-- common_return: the first's return type where all are equal to it, else Poison
unfoldable pub common_return : Ctx → (slot : ℕ) → (first : Signature) → (others : List Signature) → Walk Answer
common_return c slot f others = do
  t ← tree c f.ret
  all ← all_return c t others
  when all (set_known slot f.ret) (return Poison)

-- A group of several: where an argument is poisoned, or no candidate fits (18), what all return is still known.
unfoldable pub select : Ctx → (n slot name : ℕ) → (call_name : List ℕ) → (first : Signature) → (others : List Signature) → List Provided → (poisoned : Bool) → Walk Answer
select c n slot name call_name f others given poisoned =
    when poisoned (common_return c slot f others)
    (do
      provided ← provided_trees c given
      found ← position c provided (f ∷ others)
      on_option found
          (do
            candidates ← for_each (λ g. param_trees c g.params) (f ∷ others)
            report n (no_specialisation name call_name provided candidates)
            common_return c slot f others)
          (λ g. set_known slot g.ret))

-- the candidates of a group: none is 16, one is checked by itself, several are selected from
unfoldable pub in_group : Ctx → (n slot name : ℕ) → (call_name : List ℕ) → List Signature → List Provided → (poisoned : Bool) → Walk Answer
in_group c n slot name call_name [] given poisoned = poison n (undefined_in_package name call_name)
in_group c n slot name call_name (f ∷ []) given poisoned = check_call_args c n slot name call_name f given
in_group c n slot name call_name (f ∷ g ∷ others) given poisoned = select c n slot name call_name f (g ∷ others) given poisoned

-- Typechecker::resolve_pkg_call, after the arguments are visited
unfoldable pub resolve_pkg_call : Ctx → (n slot pkg name : ℕ) → List Provided → (poisoned : Bool) → Walk Answer
resolve_pkg_call c n slot pkg name given poisoned = do
  s ← look
  on_option (find_package c.texts (name_in c pkg) s.packages)
      (poison n (missing_package pkg (name_in c pkg)))
      (λ p. in_group c n slot name (pkg_name (name_in c pkg) (name_in c name)) (group_of c.texts (name_in c name) p.functions) given poisoned)

-- The Call arm; `visits` visits all arguments and says whether one is poisoned. A call through a field (14) makes none of them.
unfoldable pub call : Ctx → (n slot : ℕ) → Callee → List Provided → (visits : Walk Bool) → Walk Answer
call c n slot (own_function name) given visits = do
  _ ← visits
  resolve_call c n slot name given
call c n slot (package_function pkg name) given visits = do
  poisoned ← visits
  resolve_pkg_call c n slot pkg name given poisoned
call c n slot (through_field name) given visits = poison n (call_through_field name)
call c n slot no_callee given visits = return Poison
