-- What a node's own slot tells once its rule has ended: poisoned, it is as it was, but where a field of type Unknown was read, and Known, it
-- holds no Unknown that a field was read of. So whether a node was poisoned can be read from its slot. By following each rule to its ends,
-- as `Owns` does. Assumes nothing.
use Rattle.std.specs.Prelude.{ℕ, ◌+◌, ◌<◌, ◌≡◌, refl, Bool, eqb, set}
use native.Mathlib.Omega.{arith}
use Rattle.std.proofs.Math.Decide.{dec_lt}
use Rattle.std.proofs.Math.Path.{sym}
use Rattle.std.proofs.Common.{ap, ◌∙◌, length-set, get_or-set_same}
use Rattle.std.proofs.Math.Bool.{true, false}
use Rattle.std.proofs.Math.Option.{Option, none, some}
use mathlib.Core.List.{List, [], ◌∷◌}
use Rattle.std.proofs.lemmas.Bool.{eqb-false}
use Rattle.std.proofs.Math.ListN.{length, get_or, get_or-eq_default}
use Rattle.tok.specs.Word.{kind_of}
use Rattle.tok.specs.Step.{Result, ok, refused, Step, Refusal, next, ◌>>=◌, return, look, when}
use Rattle.ast.specs.TypeExpr.{TypeExpr, Arg}
use Rattle.ptype.specs.Words.{unknown_word}
use Rattle.ptype.specs.Add.{Buffer}
use Rattle.ast.specs.Span.{span_of}
use Rattle.ast.specs.Node.{Node, Nodes, Atom, Ident, Bin, Unary, Let, Fn, Match, Call, Field, Cast, Import, Extern, Record, Array, Absent, done, then, slot_of}
use Rattle.err.specs.Message.{Diagnostic, redundant_cast, argument_count, no_specialisation}
use Rattle.library.specs.Package.{Signature, pkg}
use Rattle.rules.specs.declared.Answer.{Answer}
use Rattle.rules.specs.declared.Answer.TheVariants.{Known, Poison}
use Rattle.rules.specs.World.{Ctx, Local, Log, World, Walk, with_env}
use Rattle.rules.specs.Steps.{known, on_option, ty, tree, set_known, on_types, on_log, report, poison, framed}
use Rattle.rules.specs.Operators.{fuse, unary, cast}
use Rattle.rules.specs.Calls.{Callee, own_function, package_function, through_field, no_callee, Provided, callee_of, provided_of}
use Rattle.rules.specs.Calls.{check_call_args, resolve_call, common_return, select, in_group, resolve_pkg_call, call}
use Rattle.rules.specs.declared.Member.{Member}
use Rattle.rules.specs.declared.Member.TheVariants.{Alike as alike, Silent as silent, Differs as differs}
use Rattle.rules.specs.Rules.{ident, fn, unless_defined, field_type, field, go_on, array_of, Branch, matched, node, block, last, array, members}
use Rattle.laws.specs.SlotsOf.{ArgSlots, SlotsOf, SlotsOfAll, PartsOf, last_node, LastOf}
use Rattle.laws.specs.RulesKeep as K
use Rattle.laws.specs.Keeps.{Keeps, kept, logs-all, InT, t_record, t_wrap}
use Rattle.laws.specs.Still.{Still, Any, Other, still_kept, still-enters}

-- a Field node reads fields
unfoldable pub Reads : Node → Type 0
Reads (Field n slot target name) = Unit {0}
Reads (Atom n slot token k) = ⊥
Reads (Ident n slot name) = ⊥
Reads (Bin n slot token op l r) = ⊥
Reads (Unary n slot token op r) = ⊥
Reads (Let n slot name r) = ⊥
Reads (Fn n slot name ret args body) = ⊥
Reads (Match n slot cs token d) = ⊥
Reads (Call n slot target args) = ⊥
Reads (Cast n slot token l t) = ⊥
Reads (Import n slot token paths) = ⊥
Reads (Extern n slot token name fs) = ⊥
Reads (Record n slot token fs) = ⊥
Reads (Array n slot token ms) = ⊥
Reads (Absent n) = ⊥

-- slot a had word w before the rule of a node that reads fields (F), or of one that does not
pub data Tells (F : Type 0) (a w : ℕ) : Result World Refusal Answer → Type 0 where
  knows : {s : World} → (F → kind_of (get_or s.slots a 0) ≡ 11 → ⊥) → Tells F a w (ok (Known a) s)
  poisons : {s : World} → get_or s.slots a 0 ≡ w → Tells F a w (ok Poison s)
  unknown : {s : World} → F → get_or s.slots a 0 ≡ unknown_word → Tells F a w (ok Poison s)
  refuses : {e : Refusal} → Tells F a w (refused e)

module _ (F : Type 0) (a w : ℕ) where
  -- a step that leaves slot a alone
  abbrev Leaves : {A : Type 0} → Walk A → Type 0
  Leaves m = (s : World) → Keeps (Still a) Any s (m s)

  abbrev pub In : Walk Answer → Type 0
  In m = (s : World) → get_or s.slots a 0 ≡ w → Tells F a w (m s)

  after : {A : Type 0} {s : World} (r : Result World Refusal A) (f : A → Walk Answer) → Keeps (Still a) Any s r → get_or s.slots a 0 ≡ w → ((x : A) → In (f x)) → Tells F a w (next r f)
  after (ok x u) f (kept p) e h = h x u (p.still ∙ e)
  after (refused i) f k e h = refuses

  and_then : {A : Type 0} {m : Walk A} {f : A → Walk Answer} → Leaves m → ((x : A) → In (f x)) → In (◌>>=◌ m f)
  and_then {m = m} {f = f} l h s e = after (m s) f (l s) e h

  with_look : {f : World → Walk Answer} → ((t : World) → In (f t)) → In (◌>>=◌ look f)
  with_look h s e = h s s e

  either : (b : Bool) {m k : Walk Answer} → In m → In k → In (when b m k)
  unfolding when
  either true h g = h
  either false h g = g

  option : {A : Type 0} (o : Option A) {m : Walk Answer} {f : A → Walk Answer} → In m → ((x : A) → In (f x)) → In (on_option o m f)
  unfolding on_option
  option none h g = h
  option (some x) h g = g x

  stays : In (return Poison)
  stays s e = poisons e

  if_known_lem : (x : Answer) {f : ℕ → Walk Answer} → ((i : ℕ) → In (f i)) → In (known x f)
  unfolding known
  if_known_lem (Known i) h = h i
  if_known_lem Poison h = stays

  k_report : (n : ℕ) (d : Diagnostic) → Leaves (report n d)
  k_report n d = K.in_report (still_kept a) n d

  k_ty : (slot : ℕ) → Leaves (ty slot)
  k_ty slot = K.in_ty (still_kept a) slot

  k_tree : (c : Ctx) (x : ℕ) → Leaves (tree c x)
  k_tree c x = K.in_tree (still_kept a) c x

  k_types : {A : Type 0} (m : Step Buffer Refusal A) → InT (still_kept a) m → Leaves (on_types m)
  k_types m h = K.in_on_types (still_kept a) m h

  k_log : {A : Type 0} (m : Step Log Refusal A) → Leaves (on_log m)
  k_log m = K.in_on_log (still_kept a) m (λ l. logs-all (λ _. tt) (m l))

  k_next : {A B : Type 0} {m : Walk A} (f : A → Walk B) → Leaves m → ((x : A) → Leaves (f x)) → Leaves (◌>>=◌ m f)
  k_next f h k = K.in_next (still_kept a) f h k

  k_node : (c : Ctx) (x : Node) → SlotsOf (Other a) x → Leaves (node c x)
  k_node c x h = K.in_node (still_kept a) (still-enters a) c x h

  poisoned : (n : ℕ) (d : Diagnostic) → In (poison n d)
  unfolding poison
  poisoned n d = and_then (k_report n d) (λ _. stays)

  -- ── Where the slot gets a word ──

  -- what is in it then: that word, or nothing where there is no such slot
  in_range : (l : List ℕ) (x : ℕ) → a < length l → get_or (set l a x) a 0 ≡ x
  in_range l x h = get_or-set_same l a x 0 h

  past_end : (l : List ℕ) → (a < length l → ⊥) → get_or l a 0 ≡ 0
  past_end l h = get_or-eq_default l 0 (omega arith)

  module _ (no : F → ⊥) where
    puts : (x : ℕ) → In (set_known a x)
    unfolding set_known
    puts x s e = knows (λ f. absurd (no f))

    in_fuse : (c : Ctx) (n token op left right : ℕ) → In (fuse c n a token op left right)
    unfolding fuse
    in_fuse c n token op left right =
        and_then (k_ty left) λ l. and_then (k_ty right) λ r. and_then (k_tree c l) λ lt. and_then (k_tree c r) λ rt. either _ (either _ (poisoned n _) (poisoned n _)) (puts _)

    in_unary : (c : Ctx) (n token op right : ℕ) → In (unary c n a token op right)
    unfolding unary
    in_unary c n token op right = and_then (k_ty right) λ r. and_then (k_tree c r) λ rt. either _ (puts _) (poisoned n _)

    in_cast : (c : Ctx) (n token left to : ℕ) → In (cast c n a token left to)
    unfolding cast
    in_cast c n token left to =
        and_then (k_ty left) λ i. and_then (k_tree c i) λ it. and_then (k_tree c to) λ ot.
        either _ (puts _) (either _ (and_then (k_report n (redundant_cast token it)) λ _. puts _) (poisoned n _))

    in_ident : (c : Ctx) (n name : ℕ) → In (ident c n a name)
    unfolding ident
    in_ident c n name = with_look λ t. option _ (poisoned n _) (λ binding. option binding stays (λ x. puts x))

    in_array : (c : Ctx) (n : ℕ) (first : Answer) (p : Bool) → In (array_of c n a first p)
    unfolding array_of
    in_array c n first p = if_known_lem first λ f. either p stays (and_then (k_ty f) λ e. and_then (k_types _ (t_wrap (still_kept a) c.texts n 7 e)) λ x. puts x)

    in_go_on : (m : Member) (p : Bool) {rest : Bool → Walk Answer} → ((b : Bool) → In (rest b)) → In (go_on m p rest)
    unfolding go_on
    in_go_on alike p h = h p
    in_go_on silent p h = h true
    in_go_on differs p h = stays

    in_matched : (c : Ctx) (n : ℕ) (branches : List Branch) (default : Answer) → In (matched c n a branches default)
    unfolding matched
    in_matched c n bs d = if_known_lem d λ i. and_then (K.in_branches (still_kept a) c n i bs) λ _. and_then (k_ty i) λ x. puts x

    in_defined : (c : Ctx) (n name : ℕ) {m : Walk Answer} → In m → In (unless_defined c n name m)
    unfolding unless_defined
    in_defined c n name h = with_look λ t. option _ h (λ _. poisoned n _)

    in_args : (c : Ctx) (n token : ℕ) (call_name : List ℕ) (f : Signature) (given : List Provided) → In (check_call_args c n a token call_name f given)
    unfolding check_call_args
    in_args c n token call_name f given =
        either _
        (and_then (K.in_arguments (still_kept a) c n call_name f.with_slots f.params given []) λ bs.
        and_then (K.in_returned (still_kept a) c n f bs) λ ret. puts ret)
        (and_then (k_report n (argument_count token call_name (length f.params) (length given))) λ _. either _ stays (puts _))

    in_common : (c : Ctx) (f : Signature) (others : List Signature) → In (common_return c a f others)
    unfolding common_return
    in_common c f others = and_then (k_tree c f.ret) λ t. and_then (K.in_all_return (still_kept a) c t others) λ all. either all (puts _) stays

    in_select : (c : Ctx) (n name : ℕ) (call_name : List ℕ) (f : Signature) (others : List Signature) (given : List Provided) (p : Bool) → In (select c n a name call_name f others given p)
    unfolding select
    in_select c n name call_name f others given p =
        either p (in_common c f others)
        (and_then (K.in_provided (still_kept a) c given) λ provided. and_then (K.in_position (still_kept a) c provided (f ∷ others)) λ found. option found
        (and_then (K.in_each (still_kept a) _ (f ∷ others) λ g. K.in_params (still_kept a) c g.params) λ cs.
        and_then (k_report n (no_specialisation name call_name provided cs)) λ _. in_common c f others) λ g. puts _)

    in_group_lem : (c : Ctx) (n name : ℕ) (call_name : List ℕ) (fs : List Signature) (given : List Provided) (p : Bool) → In (in_group c n a name call_name fs given p)
    unfolding in_group
    in_group_lem c n name call_name [] given p = poisoned n _
    in_group_lem c n name call_name (f ∷ []) given p = in_args c n name call_name f given
    in_group_lem c n name call_name (f ∷ g ∷ others) given p = in_select c n name call_name f (g ∷ others) given p

    in_call : (c : Ctx) (n : ℕ) (callee : Callee) (given : List Provided) (visits : Walk Bool) → Leaves visits → In (call c n a callee given visits)
    unfolding call resolve_call resolve_pkg_call
    in_call c n (own_function name) given visits l = and_then l λ _. with_look λ t. option _ (poisoned n _) (λ f. in_args c n name _ f given)
    in_call c n (package_function pkg name) given visits l = and_then l λ p. with_look λ t. option _ (poisoned n _) (λ k. in_group_lem c n name _ _ given p)
    in_call c n (through_field name) given visits l = poisoned n _
    in_call c n no_callee given visits l = stays

    in_fn : (c : Ctx) (n name : ℕ) (e : TypeExpr) (args : List Arg) (body : Walk Answer) → ArgSlots (Other a) (a + 1) args → Leaves body → In (fn c n a name e args body)
    unfolding fn
    in_fn c n name e args body h l =
        and_then
        (K.in_apart (still_kept a) _
        (k_next _ (K.in_fn_arguments (still_kept a) c n (a + 1) args h) λ ps. k_next _ (K.in_type_from (still_kept a) c n e) λ ret.
        k_next _ (K.in_enter (still_kept a) (still-enters a) name ps ret) λ _. k_next _ l λ x. k_next _ (K.in_check_return (still_kept a) c n name e ret x) λ _.
        K.in_return (still_kept a) ret))
        λ ret. puts ret

    in_members : (c : Ctx) (n : ℕ) (first : Answer) (p : Bool) (xs : Nodes) → SlotsOfAll (Other a) xs → In (members c n a first p xs)
    unfolding members SlotsOf
    in_members c n first p done h = in_array c n first p
    in_members c n first p (then x xs) h = and_then (k_node c x h.0) λ y. and_then (K.in_member (still_kept a) c n (span_of x) first y) λ m. in_go_on m p λ b. in_members c n first b xs h.1

  -- ── A field is read ──

  module _ (f : F) where
    set_known_lem : (x : ℕ) → (kind_of x ≡ 11 → ⊥) → In (set_known a x)
    unfolding set_known
    set_known_lem x k s e = knows (λ _ q. k_at q (dec_lt a (length s.slots)))
      where
        k_at : kind_of (get_or (set s.slots a x) a 0) ≡ 11 → Dec (a < length s.slots) → ⊥
        k_at q (yes l) = k (sym (ap kind_of (in_range s.slots x l)) ∙ q)
        k_at q (no l) =
            let z : get_or (set s.slots a x) a 0 ≡ 0 = past_end (set s.slots a x) (λ h. l (rw (length-set s.slots a x) at h)) in
            let y : kind_of 0 ≡ 11 = sym (ap kind_of z) ∙ q in
            omega arith

    set-unknown : In (◌>>=◌ (set_known a unknown_word) (λ _. return Poison))
    unfolding set_known
    set-unknown s e = by (dec_lt a (length s.slots))
      where
        by : Dec (a < length s.slots) → Tells F a w (◌>>=◌ (set_known a unknown_word) (λ _. return Poison) s)
        by (yes l) = unknown f (in_range s.slots unknown_word l)
        by (no l) = poisons (past_end (set s.slots a unknown_word) (λ h. l (rw (length-set s.slots a unknown_word) at h)) ∙ sym (past_end s.slots l) ∙ e)

    by_kind : (x : ℕ) (b : Bool) → eqb (kind_of x) 11 ≡ b → In (when b (◌>>=◌ (set_known a unknown_word) (λ _. return Poison)) (set_known a x))
    unfolding when
    by_kind x true q = set-unknown
    by_kind x false q = set_known_lem x (eqb-false (kind_of x) 11 q)

    in_field : (c : Ctx) (n name target : ℕ) → In (field c n a name target)
    unfolding field field_type
    in_field c n name target =
        and_then (k_ty target) λ x. and_then (k_tree c x) λ t. with_look λ s. either _ (option _ (poisoned n _) (λ x. by_kind x (eqb (kind_of x) 11) refl)) (poisoned n _)

-- ── The rule of a node ──

-- THE LAW, where no visited part of the node owns its slot
pub told-node : (c : Ctx) (x : Node) (w : ℕ) → PartsOf (Other (slot_of x)) x → In (Reads x) (slot_of x) w (node c x)
unfolding node slot_of array PartsOf SlotsOfAll Reads
told-node c (Atom n slot token k) w h = puts ⊥ slot w (λ z. z) _
told-node c (Ident n slot name) w h = in_ident ⊥ slot w (λ z. z) c n name
told-node c (Bin n slot token op l r) w h =
    and_then ⊥ slot w (k_node ⊥ slot w c l h.0) λ a. and_then ⊥ slot w (k_node ⊥ slot w c r h.1) λ b.
    if_known_lem ⊥ slot w a λ i. if_known_lem ⊥ slot w b λ j. in_fuse ⊥ slot w (λ z. z) c n token op i j
told-node c (Unary n slot token op r) w h = and_then ⊥ slot w (k_node ⊥ slot w c r h) λ a. if_known_lem ⊥ slot w a λ i. in_unary ⊥ slot w (λ z. z) c n token op i
told-node c (Let n slot name r) w h =
    and_then ⊥ slot w (k_node ⊥ slot w c r h) λ a. and_then ⊥ slot w (K.in_let (still_kept slot) n name a) λ b.
    and_then ⊥ slot w (K.in_insert (still_kept slot) name b) λ _. puts ⊥ slot w (λ z. z) _
told-node c (Fn n slot name ret args body) w h =
    in_defined ⊥ slot w (λ z. z) c n name (in_fn ⊥ slot w (λ z. z) c n name ret args _ h.0 (K.in_block (still_kept slot) (still-enters slot) c body h.1))
told-node c (Match n slot cs token d) w h =
    and_then ⊥ slot w (K.in_cases (still_kept slot) (still-enters slot) c n cs h.0) λ bs.
    and_then ⊥ slot w (K.in_block (still_kept slot) (still-enters slot) c d h.1) λ a. in_matched ⊥ slot w (λ z. z) c n bs a
told-node c (Call n slot target args) w h = in_call ⊥ slot w (λ z. z) c n (callee_of target) (provided_of args) _ (K.in_all (still_kept slot) (still-enters slot) c args h)
told-node c (Field n slot target name) w h = and_then Unit slot w (k_node Unit slot w c target h) λ a. if_known_lem Unit slot w a λ i. in_field Unit slot w tt c n name i
told-node c (Cast n slot token l t) w h =
    and_then ⊥ slot w (K.in_type_from (still_kept slot) c n t) λ to. and_then ⊥ slot w (k_node ⊥ slot w c l h) λ a. if_known_lem ⊥ slot w a λ i. in_cast ⊥ slot w (λ z. z) c n token i to
told-node c (Import n slot token paths) w h = and_then ⊥ slot w (K.in_imports (still_kept slot) c n token paths) λ _. puts ⊥ slot w (λ z. z) _
told-node c (Extern n slot token name fs) w h =
    and_then ⊥ slot w (K.in_each (still_kept slot) _ fs λ f. K.in_extern (still_kept slot) c n f) λ gs.
    and_then ⊥ slot w (K.in_hold (still_kept slot) _) λ _. puts ⊥ slot w (λ z. z) _
told-node c (Record n slot token fs) w h =
    and_then ⊥ slot w (K.in_values (still_kept slot) (still-enters slot) c fs h) λ ps.
    and_then ⊥ slot w (k_types ⊥ slot w _ (t_record (still_kept slot) c.texts n ps)) λ x. puts ⊥ slot w (λ z. z) x
told-node c (Array n slot token done) w h = poisoned ⊥ slot w n _
told-node c (Array n slot token (then x xs)) w h = and_then ⊥ slot w (k_node ⊥ slot w c x h.0) λ first. in_members ⊥ slot w (λ z. z) c n first false xs h.1
told-node c (Absent n) w h = stays ⊥ _ w

-- ── A block ──

same_answer : {F : Type 0} {a w : ℕ} {r : Result World Refusal Answer} → Tells F a w r → Tells F a w (next r (λ b. return b))
same_answer (knows k) = knows k
same_answer (poisons e) = poisons e
same_answer (unknown f e) = unknown f e
same_answer refuses = refuses

told-nodes : (c : Ctx) (x : Node) (xs : Nodes) (w : ℕ) → LastOf (Other (slot_of (last_node x xs))) x xs
    → In (Reads (last_node x xs)) (slot_of (last_node x xs)) w (λ s. next (node c x s) (λ a. last c a xs))
unfolding last_node LastOf last
told-nodes c x done w h = λ s e. same_answer (told-node c x w h s e)
told-nodes c x (then y ys) w h =
    and_then (Reads (last_node y ys)) (slot_of (last_node y ys)) w (k_node (Reads (last_node y ys)) (slot_of (last_node y ys)) w c x h.0) (λ _. told-nodes c y ys w h.1)

back : {F : Type 0} {a w : ℕ} (e : List Local) {r : Result World Refusal Answer} → Tells F a w r → Tells F a w (next r (λ b t. ok b (with_env t e)))
back e (knows k) = knows k
back e (poisons q) = poisons q
back e (unknown f q) = unknown f q
back e refuses = refuses

-- THE LAW for a block that is not empty, where no visited node of it but the last owns the last one's slot
pub told-block : (c : Ctx) (x : Node) (xs : Nodes) (w : ℕ) → LastOf (Other (slot_of (last_node x xs))) x xs → In (Reads (last_node x xs)) (slot_of (last_node x xs)) w (block c (then x xs))
unfolding block framed
told-block c x xs w h = λ s e. back s.env (told-nodes c x xs w h s e)

-- after other steps, where they leave what is asked for
pub tells-next : {F : Type 0} {a w : ℕ} {A : Type 0} (r : Result World Refusal A) (f : A → Walk Answer) → ((x : A) (u : World) → r ≡ ok x u → Tells F a w (f x u)) → Tells F a w (next r f)
tells-next (ok x u) f h = h x u refl
tells-next (refused e) f h = refuses
