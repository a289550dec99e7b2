-- Which slot a rule answers: the node's own; a block that of its last node, or slot V. By following each rule to its ends. Assumes nothing.
use Rattle.std.specs.Prelude.{ℕ, ◌+◌, Bool, length}
use Rattle.std.proofs.Math.Bool.{true, false}
use Rattle.std.proofs.Math.Option.{Option, none, some}
use mathlib.Core.List.{List, [], ◌∷◌}
use Rattle.tok.specs.Step.{Result, ok, refused, Refusal, next, ◌>>=◌, ◌>>◌, return, when, for_each}
use Rattle.ast.specs.TypeExpr.{TypeExpr, Arg}
use Rattle.ptype.specs.Words.{unknown_word}
use Rattle.ptype.specs.Add.{add_wrap, add_record}
use Rattle.ast.specs.Span.{span_of}
use Rattle.ast.specs.Node.{Node, Nodes, Atom, Ident, Bin, Unary, Let, Fn, Match, Call, Field, Cast, Import, Extern, Record, Array, Absent, done, then, slot_of}
use Rattle.err.specs.Message.{Diagnostic, redundant_cast, argument_count, no_specialisation}
use Rattle.library.specs.Package.{Signature, pkg}
use Rattle.rules.specs.declared.Answer.{Answer}
use Rattle.rules.specs.declared.Answer.TheVariants.{Known, Poison}
use Rattle.rules.specs.World.{Ctx, Local, World, Walk, with_env}
use Rattle.rules.specs.Steps.{known, on_option, ty, tree, set_known, on_types, report, poison, env_insert, framed, apart, hold, enter, type_from_expr}
use Rattle.rules.specs.Operators.{fuse, unary, cast}
use Rattle.rules.specs.Calls.{Callee, own_function, package_function, through_field, no_callee, Provided, callee_of, provided_of, arguments, returned, param_trees}
use Rattle.rules.specs.Calls.{provided_trees, position, all_return, check_call_args, resolve_call, common_return, select, in_group, resolve_pkg_call, call}
use Rattle.rules.specs.declared.Member.{Member}
use Rattle.rules.specs.declared.Member.TheVariants.{Alike as alike, Silent as silent, Differs as differs}
use Rattle.rules.specs.Rules.{ident, let_binding, fn_arguments, check_return, fn, unless_defined, field_type, field, member, go_on, array_of}
use Rattle.rules.specs.Rules.{Branch, compare_branches, matched, import_all, extern_fn, node, block, last, cases, values, array, members}

pub data Owns (slot : ℕ) : Result World Refusal Answer → Type 0 where
  knows : (s : World) → Owns slot (ok (Known slot) s)
  poisons : (s : World) → Owns slot (ok Poison s)
  refuses : (r : Refusal) → Owns slot (refused r)

-- a step that answers no other slot
abbrev pub In : (slot : ℕ) → Walk Answer → Type 0
In slot m = (s : World) → Owns slot (m s)

module _ {slot : ℕ} where
  after : {A : Type 0} (r : Result World Refusal A) (f : A → Walk Answer) → ((a : A) → In slot (f a)) → Owns slot (next r f)
  after (ok a s) f h = h a s
  after (refused e) f h = refuses e

  and_then : {A : Type 0} (m : Walk A) {f : A → Walk Answer} → ((a : A) → In slot (f a)) → In slot (◌>>=◌ m f)
  and_then m {f} h s = after (m s) f h

  either : (b : Bool) {m k : Walk Answer} → In slot m → In slot k → In slot (when b m k)
  unfolding when
  either true h g = h
  either false h g = g

  option : {A : Type 0} (o : Option A) {m : Walk Answer} {f : A → Walk Answer} → In slot m → ((a : A) → In slot (f a)) → In slot (on_option o m f)
  unfolding on_option
  option none h g = h
  option (some a) h g = g a

  if_known_lem : (a : Answer) {f : ℕ → Walk Answer} → ((i : ℕ) → In slot (f i)) → In slot (known a f)
  unfolding known
  if_known_lem (Known i) h = h i
  if_known_lem Poison h = poisons

  set : (w : ℕ) → In slot (set_known slot w)
  unfolding set_known
  set w s = knows _

  poisoned : (n : ℕ) (d : Diagnostic) → In slot (poison n d)
  unfolding poison
  poisoned n d s = after (report n d s) _ (λ _. poisons)

  back : (e : List Local) {r : Result World Refusal Answer} → Owns slot r → Owns slot (next r (λ a t. ok a (with_env t e)))
  back e (knows s) = knows _
  back e (poisons s) = poisons _
  back e (refuses r) = refuses r

  in_frame : {m : Walk Answer} → In slot m → In slot (framed m)
  unfolding framed
  in_frame h s = back s.env (h s)

  -- the plain rules
  in_fuse : (c : Ctx) (n token op left right : ℕ) → In slot (fuse c n slot token op left right)
  unfolding fuse
  in_fuse c n token op left right = and_then (ty left) λ l. and_then (ty right) λ r. and_then (tree c l) λ lt. and_then (tree c r) λ rt. either _ (either _ (poisoned n _) (poisoned n _)) (set _)

  in_unary : (c : Ctx) (n token op right : ℕ) → In slot (unary c n slot token op right)
  unfolding unary
  in_unary c n token op right = and_then (ty right) λ r. and_then (tree c r) λ rt. either _ (set _) (poisoned n _)

  in_cast : (c : Ctx) (n token left to : ℕ) → In slot (cast c n slot token left to)
  unfolding cast
  in_cast c n token left to =
      and_then (ty left) λ i. and_then (tree c i) λ it. and_then (tree c to) λ ot.
      either _ (set _) (either _ (and_then (report n (redundant_cast token it)) λ _. set _) (poisoned n _))

  in_ident : (c : Ctx) (n name : ℕ) → In slot (ident c n slot name)
  unfolding ident
  in_ident c n name s = option _ (poisoned n _) (λ binding. option binding poisons (λ w. set w)) s

  in_field : (c : Ctx) (n name target : ℕ) → In slot (field c n slot name target)
  unfolding field field_type
  in_field c n name target =
      and_then (ty target) λ w. and_then (tree c w) λ t s. either _ (option _ (poisoned n _) (λ found. either _ (and_then (set_known slot unknown_word) λ _. poisons) (set _))) (poisoned n _) s

  in_array : (c : Ctx) (n : ℕ) (first : Answer) (poisoned : Bool) → In slot (array_of c n slot first poisoned)
  unfolding array_of
  in_array c n first p = if_known_lem first λ f. either p poisons (and_then (ty f) λ e. and_then (on_types (add_wrap c.texts n 7 e)) λ w. set w)

  in_go_on : (m : Member) (p : Bool) {rest : Bool → Walk Answer} → ((b : Bool) → In slot (rest b)) → In slot (go_on m p rest)
  unfolding go_on
  in_go_on alike p h = h p
  in_go_on silent p h = h true
  in_go_on differs p h = poisons

  in_matched : (c : Ctx) (n : ℕ) (branches : List Branch) (default : Answer) → In slot (matched c n slot branches default)
  unfolding matched
  in_matched c n bs d = if_known_lem d λ i. and_then (compare_branches c n i bs) λ _. and_then (ty i) λ w. set w

  in_defined : (c : Ctx) (n name : ℕ) {m : Walk Answer} → In slot m → In slot (unless_defined c n name m)
  unfolding unless_defined
  in_defined c n name h s = option _ h (λ _. poisoned n _) s

  in_fn : (c : Ctx) (n name : ℕ) (e : TypeExpr) (args : List Arg) (body : Walk Answer) → In slot (fn c n slot name e args body)
  unfolding fn
  in_fn c n name e args body =
      and_then
      (apart do
        params ← fn_arguments c n (slot + 1) args
        ret ← type_from_expr c n e
        enter name params ret
        computed ← body
        check_return c n name e ret computed
        return ret)
      λ ret. set ret

  in_args : (c : Ctx) (n token : ℕ) (call_name : List ℕ) (f : Signature) (given : List Provided) → In slot (check_call_args c n slot token call_name f given)
  unfolding check_call_args
  in_args c n token call_name f given =
      either _
      (and_then (arguments c n call_name f.with_slots f.params given []) λ bs. and_then (returned c n f bs) λ ret. set ret)
      (and_then (report n (argument_count token call_name (length f.params) (length given))) λ _. either _ poisons (set _))

  in_common : (c : Ctx) (f : Signature) (others : List Signature) → In slot (common_return c slot f others)
  unfolding common_return
  in_common c f others = and_then (tree c f.ret) λ t. and_then (all_return c t others) λ all. either all (set _) poisons

  in_select : (c : Ctx) (n name : ℕ) (call_name : List ℕ) (f : Signature) (others : List Signature) (given : List Provided) (poisoned : Bool)
      → In slot (select c n slot name call_name f others given poisoned)
  unfolding select
  in_select c n name call_name f others given p =
      either p (in_common c f others)
      (and_then (provided_trees c given) λ provided. and_then (position c provided (f ∷ others)) λ found. option found
      (and_then (for_each (λ g. param_trees c g.params) (f ∷ others)) λ cs. and_then (report n (no_specialisation name call_name provided cs)) λ _. in_common c f others) λ g. set _)

  in_group_lem : (c : Ctx) (n name : ℕ) (call_name : List ℕ) (fs : List Signature) (given : List Provided) (poisoned : Bool) → In slot (in_group c n slot name call_name fs given poisoned)
  unfolding in_group
  in_group_lem c n name call_name [] given p = poisoned n _
  in_group_lem c n name call_name (f ∷ []) given p = in_args c n name call_name f given
  in_group_lem c n name call_name (f ∷ g ∷ others) given p = in_select c n name call_name f (g ∷ others) given p

  in_call : (c : Ctx) (n : ℕ) (callee : Callee) (given : List Provided) (visits : Walk Bool) → In slot (call c n slot callee given visits)
  unfolding call resolve_call resolve_pkg_call
  in_call c n (own_function name) given visits = and_then visits λ _ s. option _ (poisoned n _) (λ f. in_args c n name _ f given) s
  in_call c n (package_function pkg name) given visits = and_then visits λ p s. option _ (poisoned n _) (λ k. in_group_lem c n name _ _ given p) s
  in_call c n (through_field name) given visits = poisoned n _
  in_call c n no_callee given visits = poisons

-- an array's members
in_members : (c : Ctx) (n slot : ℕ) (first : Answer) (p : Bool) (xs : Nodes) → In slot (members c n slot first p xs)
unfolding members
in_members c n slot first p done = in_array c n first p
in_members c n slot first p (then x xs) = and_then (node c x) λ a. and_then (member c n (span_of x) first a) λ m. in_go_on m p λ b. in_members c n slot first b xs

-- Typechecker::node answers the node's own slot.
pub own-node : (c : Ctx) (x : Node) → In (slot_of x) (node c x)
unfolding node slot_of array
own-node c (Atom n slot token k) = set _
own-node c (Ident n slot name) = in_ident c n name
own-node c (Bin n slot token op l r) = and_then (node c l) λ a. and_then (node c r) λ b. if_known_lem a λ i. if_known_lem b λ j. in_fuse c n token op i j
own-node c (Unary n slot token op r) = and_then (node c r) λ a. if_known_lem a λ i. in_unary c n token op i
own-node c (Let n slot name r) = and_then (node c r) λ a. and_then (let_binding n name a) λ b. and_then (env_insert name b) λ _. set _
own-node c (Fn n slot name ret args body) = in_defined c n name (in_fn c n name ret args _)
own-node c (Match n slot cs token d) = and_then (cases c n cs) λ bs. and_then (block c d) λ a. in_matched c n bs a
own-node c (Call n slot target args) = in_call c n (callee_of target) (provided_of args) _
own-node c (Field n slot target name) = and_then (node c target) λ a. if_known_lem a λ i. in_field c n name i
own-node c (Cast n slot token l t) = and_then (type_from_expr c n t) λ to. and_then (node c l) λ a. if_known_lem a λ i. in_cast c n token i to
own-node c (Import n slot token paths) = and_then (import_all c n token paths) λ _. set _
own-node c (Extern n slot token name fs) = and_then (for_each (λ f. extern_fn c n f) fs) λ gs. and_then (hold (pkg name gs)) λ _. set _
own-node c (Record n slot token fs) = and_then (values c fs) λ ps. and_then (on_types (add_record c.texts n ps)) λ w. set w
own-node c (Array n slot token done) = poisoned n _
own-node c (Array n slot token (then x xs)) = and_then (node c x) λ first. in_members c n slot first false xs
own-node c (Absent n) = poisons

-- ── Blocks ──

-- the slot of the last node, and of none the one given
unfoldable pub end_slot : (slot : ℕ) → Nodes → ℕ
end_slot slot done = slot
end_slot slot (then x xs) = end_slot (slot_of x) xs

pub data OwnAnswer (slot : ℕ) : Answer → Type 0 where
  its : OwnAnswer slot (Known slot)
  nothing : OwnAnswer slot Poison

goes_on : {slot slot' : ℕ} {f : Answer → Walk Answer} {r : Result World Refusal Answer} → Owns slot r → ((a : Answer) → OwnAnswer slot a → In slot' (f a)) → Owns slot' (next r f)
goes_on (knows s) h = h _ its s
goes_on (poisons s) h = h _ nothing s
goes_on (refuses r) h = refuses r

pub own-last : (c : Ctx) (a : Answer) (xs : Nodes) {slot : ℕ} → OwnAnswer slot a → In (end_slot slot xs) (last c a xs)
unfolding last end_slot
own-last c a done its = knows
own-last c a done nothing = poisons
own-last c a (then x xs) o = λ s. goes_on (own-node c x s) (λ b p. own-last c b xs p)

pub own_block : (c : Ctx) (xs : Nodes) → In (end_slot c.void xs) (block c xs)
unfolding block end_slot
own_block c done = knows
own_block c (then x xs) = in_frame (λ s. goes_on (own-node c x s) (λ a p. own-last c a xs p))
