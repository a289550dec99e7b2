-- Refusal 6: the walk uses no more words of the functions buffer than "3 + 2 × arguments over all Fn nodes". Steps other than `enter` use none
-- (`Still`, an instance of `Keeps`); a tree uses no more than the Fn nodes visited in it (`Spends`), by induction. Assumes nothing.
use Rattle.std.specs.Prelude.{ℕ, suc, ◌+◌, ◌*◌, ◌≤◌, ◌≡◌, refl, Bool, true, false, List, [], ◌∷◌, ◌++◌, length}
use Rattle.std.proofs.Common.{arith, ap, ◌∙◌, length-append}
use Rattle.std.proofs.Math.Option.{Option, none, some}
use Rattle.tok.specs.Step.{Result, ok, refused, Refusal, Step, next, ◌>>=◌}
use Rattle.ptype.specs.Add.{append}
use Rattle.ast.specs.TypeExpr.{TypeExpr, Arg}
use Rattle.ast.specs.Node.{Node, Nodes, Cases, Values, roots_of}
use Rattle.ast.specs.Node.{Atom, Ident, Bin, Unary, Let, Fn, Match, Call, Field, Cast, Import, Extern, Record, Array, Absent, done, then, no_case, case, no_value, value}
use Rattle.ast.specs.Room.{entry_words}
use Rattle.image_laws.specs.OutlineAt.{outline_at}
use Rattle.ast.specs.Span.{span_of}
use Rattle.ast.specs.Image.{node_count}
use Rattle.library.specs.Package.{Param, pool_of}
use Rattle.refusals.specs.Inputs.{Inputs, Buffers}
use Rattle.rules.specs.declared.Answer.{Answer}
use Rattle.rules.specs.World.{Ctx, Log, World, Walk, with_env}
use Rattle.rules.specs.Steps.{Done, on_log, framed, apart, on_option, pairs_of, entry_of, enter}
use Rattle.rules.specs.Calls.{Callee, own_function, package_function, through_field, no_callee, Provided, callee_of, provided_of, resolve_call, resolve_pkg_call, call}
use Rattle.rules.specs.declared.Member.{Member}
use Rattle.rules.specs.declared.Member.TheVariants.{Alike as alike, Silent as silent, Differs as differs}
use Rattle.rules.specs.Rules.{fn_arguments, fn, unless_defined, go_on, node, block, last, visit_all, cases, values, array, members}
use Rattle.rules.specs.Visited.{visited_below, visited_among, visited_in_cases, visited_in_values, visited_in}
use Rattle.rules.specs.Walk.{ctx_of, start_of, copy_pool, walk_first, walk, walk_of}
use Rattle.laws.specs.Keeps.{Keeps, kept, stopped, StepsKeep, logs-all, t_record}
use Rattle.laws.specs.RulesKeep as K
use Rattle.accepts.specs.Count.{total, total-append}
use Rattle.accepts.specs.Passed.{Passed}
use Rattle.accepts.specs.ClaimedOnce.{entries_sum}
use Rattle.accepts.specs.VisitedParts.{entry_length}
use Rattle.accepts.proofs.Once.{visited_le}

-- ── Steps other than `enter` ──

abbrev Any : ℕ → Type 0
Any k = Unit {0}

record Still (s u : World) : Type 0 where
  used : u.functions.used ≡ s.functions.used

still_kept : StepsKeep Still Any Any
still_kept = record {
  same = λ s. record { used = refl };
  trans = λ {s} {t} {u} x y. record { used = y.used ∙ x.used };
  slot = λ i w s p. record { used = refl };
  type = λ texts k new s e d. record { used = refl };
  told = λ d s e. record { used = refl };
  binds = λ l s. record { used = refl };
  frame = λ {s} {u} h. record { used = h.used };
  alone = λ {s} {u} h. record { used = h.used };
  holds = λ p s. record { used = refl };
  logs = λ l s. record { used = refl };
  types_full = tt;
  too_deep = tt;
  told_full = tt;
}

-- ── At most k words more are used, and the answer has a property ──

pub data Spends {A : Type 0} (B : A → Type 0) (k : ℕ) (s : World) : Result World Refusal A → Type 0 where
  spent : {a : A} {u : World} → B a → u.functions.used ≤ s.functions.used + k → Spends B k s (ok a u)
  stops : {r : Refusal} → Spends B k s (refused r)

abbrev Costs : {A : Type 0} → (B : A → Type 0) → (k : ℕ) → Walk A → Type 0
Costs B k m = (s : World) → Spends B k s (m s)

abbrev Some : {A : Type 0} → A → Type 0
Some a = Unit {0}

free : {A : Type 0} {B : A → Type 0} {k : ℕ} {a : A} {s : World} → B a → Spends B k s (ok a s)
free {s = s} b = spent {u = s} b (omega arith)

more : {A : Type 0} {B : A → Type 0} {s : World} {r : Result World Refusal A} {j k : ℕ} → j ≤ k → Spends B j s r → Spends B k s r
more l (spent {u = u} b h) = spent {u = u} b (omega arith)
more l stops = stops

still : {A : Type 0} {s : World} {r : Result World Refusal A} {k : ℕ} → Keeps Still Any s r → Spends Some k s r
still (kept {u = u} h) = let e = h.used in spent {u = u} tt (omega arith)
still (stopped q) = stops

after : {A : Type 0} {D : A → Type 0} {s u : World} {r : Result World Refusal A} {l : ℕ} (j k : ℕ) → j + k ≤ l → u.functions.used ≤ s.functions.used + j → Spends D k u r → Spends D l s r
after j k h i (spent {u = v} d e) = spent {u = v} d (omega arith)
after j k h i stops = stops

then_spends : {A C : Type 0} {B : A → Type 0} {D : C → Type 0} {s : World} {r : Result World Refusal A} {l : ℕ} (j k : ℕ)
    → j + k ≤ l → (f : A → Walk C) → Spends B j s r → ((a : A) → B a → Costs D k (f a))
    → Spends D l s (next r f)
then_spends j k h f (spent {a = a} {u = u} b i) g = after j k h i (g a b u)
then_spends j k h f stops g = stops

-- two steps that use words, j and k
both : {A C : Type 0} {B : A → Type 0} {D : C → Type 0} {m : Walk A} {l : ℕ} (j k : ℕ) → j + k ≤ l → (f : A → Walk C) → Costs B j m → ((a : A) → B a → Costs D k (f a)) → Costs D l (◌>>=◌ m f)
both j k h f x y s = then_spends j k h f (x s) y

-- one that uses none, before or after
abbrev In : {A : Type 0} → Walk A → Type 0
In m = (s : World) → Keeps Still Any s (m s)

first-none : {A C : Type 0} {D : C → Type 0} {m : Walk A} {k : ℕ} (f : A → Walk C) → In m → ((a : A) → Costs D k (f a)) → Costs D k (◌>>=◌ m f)
first-none {k = k} f x y s = then_spends 0 k (omega arith) f (still (x s)) (λ a _. y a)

then-none : {A C : Type 0} {B : A → Type 0} {m : Walk A} {k : ℕ} (f : A → Walk C) → Costs B k m → ((a : A) → In (f a)) → Costs Some k (◌>>=◌ m f)
then-none {k = k} f x y s = then_spends k 0 (omega arith) f (x s) (λ a _ u. still (y a u))

-- a step of the log uses none
log-none : {A : Type 0} (m : Step Log Refusal A) → In (on_log m)
log-none m = K.in_on_log still_kept m (λ l. logs-all (λ _. tt) (m l))

-- "a block has its own frame", "a function body sees only its arguments": the environment taken back
back : {A : Type 0} {B : A → Type 0} {s t : World} {r : Result World Refusal A} {k : ℕ} → t.functions.used ≡ s.functions.used → Spends B k t r
    → Spends B k s (next r (λ a u. ok a (with_env u s.env)))
back {s = s} e (spent {u = u} b h) = spent {u = with_env u s.env} b (omega arith)
back e stops = stops

costs-framed : {A : Type 0} {B : A → Type 0} {k : ℕ} (m : Walk A) → Costs B k m → Costs B k (framed m)
unfolding framed
costs-framed m h s = back refl (h s)

costs-apart : {A : Type 0} {B : A → Type 0} {k : ℕ} (m : Walk A) → Costs B k m → Costs B k (apart m)
unfolding apart framed
costs-apart m h s = back refl (h (with_env s []))

-- ── Fn ──

pairs-length : (ps : List Param) → length (pairs_of ps) ≡ 2 * length ps
unfolding pairs_of
pairs-length [] = refl
pairs-length (p ∷ ps) = omega (arith, pairs-length ps)

entry_length_lem : (name : ℕ) (ps : List Param) (ret : ℕ) → length (entry_of name ps ret) ≡ 3 + 2 * length ps
unfolding entry_of
entry_length_lem name ps ret = omega (arith, length-append (name ∷ length ps ∷ pairs_of ps) (ret ∷ []), pairs-length ps)

enter-costs : (name : ℕ) (ps : List Param) (ret : ℕ) → Costs Some (3 + 2 * length ps) (enter name ps ret)
unfolding enter append
enter-costs name ps ret s =
    let h : s.functions.used + length (entry_of name ps ret) ≤ s.functions.used + (3 + 2 * length ps) = omega (arith, entry_length_lem name ps ret) in
    spent tt h

-- there are as many parameters as arguments
abbrev AsMany : List Arg → List Param → Type 0
AsMany args ps = length ps ≡ length args

arguments_cost : (c : Ctx) (n slot : ℕ) (args : List Arg) → Costs (AsMany args) 0 (fn_arguments c n slot args)
unfolding fn_arguments
arguments_cost c n slot [] = λ s. free refl
arguments_cost c n slot (a ∷ rest) =
    first-none _ (K.in_type_from still_kept c n a.type) λ w.
    first-none _ (K.in_set still_kept slot w tt) λ _.
    first-none _ (K.in_insert still_kept a.name _) λ _.
    both 0 0 (omega arith) _ (arguments_cost c n (slot + 1) rest) λ ps e s. free (ap suc e)

costs-option : {A C : Type 0} {D : C → Type 0} {k : ℕ} (o : Option A) (m : Walk C) (f : A → Walk C) → Costs D k m → ((a : A) → Costs D k (f a)) → Costs D k (on_option o m f)
unfolding on_option
costs-option none m f h g = h
costs-option (some a) m f h g = g a

fn-costs : (c : Ctx) (n slot name : ℕ) (e : TypeExpr) (args : List Arg) (body : Walk Answer) (k : ℕ) → Costs Some k body
    → Costs Some (3 + 2 * length args + k) (unless_defined c n name (fn c n slot name e args body))
unfolding unless_defined fn
fn-costs c n slot name e args body k h = λ s. costs-option _ _ _
    (then-none _ (costs-apart _
    (both 0 (3 + 2 * length args + k) (omega arith) _ (arguments_cost c n (slot + 1) args) λ ps many.
    first-none _ (K.in_type_from still_kept c n e) λ ret.
    both (3 + 2 * length args) k (omega arith) _ (λ t. more (omega arith) (enter-costs name ps ret t)) λ _ _.
    then-none _ h λ a. K.in_next still_kept _ (K.in_check_return still_kept c n name e ret a) λ _. K.in_return still_kept ret))
    λ ret. K.in_set still_kept slot ret tt)
    (λ _ t. still (K.in_poison still_kept n _ t)) s

-- ── Calls and arrays ──

call-costs : (c : Ctx) (n slot : ℕ) (f : Callee) (xs : List Provided) (m : Walk Bool) (k : ℕ) → Costs Some k m → Costs Some k (call c n slot f xs m)
unfolding call resolve_call resolve_pkg_call
call-costs c n slot (own_function name) xs m k h =
    then-none _ h λ _. K.in_look still_kept _ λ s. K.in_option still_kept _ _ _ (K.in_poison still_kept n _) λ f. K.in_check_call still_kept c n slot name _ f xs tt
call-costs c n slot (package_function pkg name) xs m k h =
    then-none _ h λ b. K.in_look still_kept _ λ s. K.in_option still_kept _ _ _ (K.in_poison still_kept n _) λ q. K.in_group_lem still_kept c n slot name _ _ xs b tt
call-costs c n slot (through_field name) xs m k h = λ s. still (K.in_poison still_kept n _ s)
call-costs c n slot no_callee xs m k h = λ s. free tt

go_on-costs : {k : ℕ} (m : Member) (b : Bool) (f : Bool → Walk Answer) → ((p : Bool) → Costs Some k (f p)) → Costs Some k (go_on m b f)
unfolding go_on
go_on-costs alike b f h = h b
go_on-costs silent b f h = h true
go_on-costs differs b f h = λ s. free tt

-- ── Trees ──

-- the words that the Fn nodes of a list use
abbrev words : List Node → ℕ
words xs = total entry_length xs

-- of a visited node and what is visited below it
abbrev words_of : Node → ℕ
words_of x = words (x ∷ visited_below x)

joined_words : (x : Node) (ys : List Node) → words ((x ∷ visited_below x) ++ ys) ≡ words_of x + words ys
joined_words x ys = total-append entry_length (x ∷ visited_below x) ys

mutual
  unfolding node visited_below entry_length total

  node-costs : (c : Ctx) (t : Node) → Costs Some (words_of t) (node c t)
  node-costs c (Atom n slot token k) = λ s. still (K.in_set still_kept slot _ tt s)
  node-costs c (Ident n slot name) = λ s. still (K.in_ident still_kept c n slot name tt s)
  node-costs c (Bin n slot token op l r) =
      both (words_of l) (words_of r) (omega (arith, joined_words l (r ∷ visited_below r))) _ (node-costs c l) λ a _. then-none _ (node-costs c r) λ b.
      K.in_known still_kept a _ λ x. K.in_known still_kept b _ λ y. K.in_fuse still_kept c n slot token op x y tt
  node-costs c (Unary n slot token op r) =
      λ s. more (omega arith) (then-none _ (node-costs c r) (λ a. K.in_known still_kept a _ λ x. K.in_unary still_kept c n slot token op x tt) s)
  node-costs c (Let n slot name r) =
      λ s. more (omega arith)
      (then-none _ (node-costs c r) (λ a. K.in_next still_kept _ (K.in_let still_kept n name a) λ b. K.in_next still_kept _ (K.in_insert still_kept name b) λ _.
      K.in_set still_kept slot _ tt) s)
  node-costs c (Fn n slot name ret args body) = fn-costs c n slot name ret args (block c body) (words (visited_among body)) (block-costs c body)
  node-costs c (Match n slot cs token d) =
      both (words (visited_in_cases cs)) (words (visited_among d)) (omega (arith, total-append entry_length (visited_in_cases cs) (visited_among d))) _ (cases_cost c n cs) λ bs _.
      then-none _ (block-costs c d) λ a. K.in_matched still_kept c n slot bs a tt
  node-costs c (Call n slot target args) = λ s. more (omega arith) (call-costs c n slot (callee_of target) (provided_of args) (visit_all c args) (words (visited_among args)) (all_cost c args) s)
  node-costs c (Field n slot target name) =
      λ s. more (omega arith) (then-none _ (node-costs c target) (λ a. K.in_known still_kept a _ λ x. K.in_field still_kept c n slot name x tt) s)
  node-costs c (Cast n slot token l t) =
      λ s. more (omega arith)
      (first-none _ (K.in_type_from still_kept c n t) (λ to. then-none _ (node-costs c l) λ a. K.in_known still_kept a _ λ x. K.in_cast still_kept c n slot token x to tt) s)
  node-costs c (Import n slot token paths) =
      λ s. still (K.in_next still_kept _ (K.in_imports still_kept c n token paths) (λ _. K.in_set still_kept slot _ tt) s)
  node-costs c (Extern n slot token name fs) =
      λ s. still (K.in_next still_kept _ (K.in_each still_kept _ fs (λ f. K.in_extern still_kept c n f)) (λ _. K.in_next still_kept _ (K.in_hold still_kept _) λ _.
      K.in_set still_kept slot _ tt) s)
  node-costs c (Record n slot token fs) =
      λ s. more (omega arith)
      (then-none _ (values_cost c fs) (λ ws. K.in_next still_kept _ (K.in_on_types still_kept _ (t_record still_kept c.texts n ws)) λ w. K.in_set still_kept slot w tt) s)
  node-costs c (Array n slot token ms) = λ s. more (omega arith) (array-costs c n slot token ms s)
  node-costs c (Absent n) = λ s. free tt

  block-costs : (c : Ctx) (xs : Nodes) → Costs Some (words (visited_among xs)) (block c xs)
  block-costs c done = λ s. free tt
  block-costs c (then x xs) =
      costs-framed _ (both (words_of x) (words (visited_among xs)) (omega (arith, joined_words x (visited_among xs))) _ (node-costs c x) λ a _. last-costs c a xs)

  last-costs : (c : Ctx) (a : Answer) (xs : Nodes) → Costs Some (words (visited_among xs)) (last c a xs)
  last-costs c a done = λ s. free tt
  last-costs c a (then x xs) = both (words_of x) (words (visited_among xs)) (omega (arith, joined_words x (visited_among xs))) _ (node-costs c x) λ b _. last-costs c b xs

  all_cost : (c : Ctx) (xs : Nodes) → Costs Some (words (visited_among xs)) (visit_all c xs)
  all_cost c done = λ s. free tt
  all_cost c (then x xs) =
      both (words_of x) (words (visited_among xs)) (omega (arith, joined_words x (visited_among xs))) _ (node-costs c x) λ a _. then-none _ (all_cost c xs) λ b. K.in_return still_kept _

  cases_cost : (c : Ctx) (n : ℕ) (cs : Cases) → Costs Some (words (visited_in_cases cs)) (cases c n cs)
  cases_cost c n no_case = λ s. free tt
  cases_cost c n (case token x body cs) =
      let ys : List Node = (x ∷ visited_below x) ++ visited_among body in
      both (words_of x) (words (visited_among body) + words (visited_in_cases cs))
      (omega (arith, joined_words x (visited_among body), total-append entry_length ys (visited_in_cases cs))) _ (node-costs c x) λ a _.
      first-none _ (K.in_condition still_kept c n token a) λ _.
      both (words (visited_among body)) (words (visited_in_cases cs)) (omega arith) _ (block-costs c body) λ b _. then-none _ (cases_cost c n cs) λ _. K.in_return still_kept _

  values_cost : (c : Ctx) (vs : Values) → Costs Some (words (visited_in_values vs)) (values c vs)
  values_cost c no_value = λ s. free tt
  values_cost c (value name x vs) =
      both (words_of x) (words (visited_in_values vs)) (omega (arith, joined_words x (visited_in_values vs))) _ (node-costs c x) λ a _.
      first-none _ (K.in_value still_kept a) λ w. then-none _ (values_cost c vs) λ _. K.in_return still_kept _

  array-costs : (c : Ctx) (n slot token : ℕ) (xs : Nodes) → Costs Some (words (visited_among xs)) (array c n slot token xs)
  array-costs c n slot token done = λ s. still (K.in_poison still_kept n _ s)
  array-costs c n slot token (then x xs) =
      both (words_of x) (words (visited_among xs)) (omega (arith, joined_words x (visited_among xs))) _ (node-costs c x) λ a _. members_cost c n slot a false xs

  members_cost : (c : Ctx) (n slot : ℕ) (a : Answer) (b : Bool) (xs : Nodes) → Costs Some (words (visited_among xs)) (members c n slot a b xs)
  members_cost c n slot a b done = λ s. still (K.in_array_of still_kept c n slot a b tt s)
  members_cost c n slot a b (then x xs) =
      both (words_of x) (words (visited_among xs)) (omega (arith, joined_words x (visited_among xs))) _ (node-costs c x) λ y _.
      first-none _ (K.in_member still_kept c n (span_of x) a y) λ m. go_on-costs m b _ λ q. members_cost c n slot a q xs

-- ── The walk ──

copy_still : (n : ℕ) (pool : List ℕ) → In (copy_pool n pool)
unfolding copy_pool
copy_still n pool s = K.at-when still_kept _ _ _ s (λ _. kept (record { used = refl })) (λ _. stopped tt)

walk-costs : (i : Inputs) (b : Buffers) → Spends Some (words (visited_in i.image)) (start_of i b) (walk_of i b)
unfolding walk_of walk walk_first visited_in roots_of
walk-costs i b =
    first-none _ (copy_still (node_count i.image) (pool_of i.library))
    (λ _. first-none _ (K.in_measure still_kept (ctx_of i) _ _) λ _. then-none _ (last-costs (ctx_of i) _ (roots_of i.image)) λ _. K.in_return still_kept tt)
    (start_of i b)

ended : {s u : World} {k : ℕ} {r : Result World Refusal Done} → Spends Some k s r → r ≡ ok tt u → u.functions.used ≤ s.functions.used + k
ended {s} {u} {k} (spent {u = v} b h) e = let same : v ≡ u = cc in rw (← same) h
ended stops e = absurd (let z : ◌≡◌ {A = ℕ} 0 1 = cc in omega arith)

-- THE LAW
pub function-room : (i : Inputs) (b : Buffers) → Passed i b → (s : World) → walk_of i b ≡ ok tt s → s.functions.used ≤ length b.functions
unfolding start_of
function-room i b p s e =
    omega (
      arith,
      ended (walk-costs i b) e,
      p.functions,
      entries_sum i.image,
      visited_le p.image p.claims entry_length (λ n. entry_words (outline_at i.image n)) (λ x o. omega (arith, o.entry)),
    )
