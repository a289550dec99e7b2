-- The names of own functions stand in the Fn nodes that are walked: what holds of every name of the roots holds of theirs. Steps other than
-- `enter` leave them as they are (an instance of `Keeps`); by induction on the nodes. Assumes nothing.
use Rattle.std.specs.Prelude.{ℕ, ◌+◌, ◌≡◌, Bool, false, List, []}
use Rattle.tok.specs.Step.{ok, ◌>>=◌, return}
use Rattle.ast.specs.TypeExpr.{TypeExpr, Arg}
use Rattle.ast.specs.Node.{Node, Nodes, Cases, Values, roots_of}
use Rattle.ast.specs.Node.{Atom, Ident, Bin, Unary, Let, Fn, Match, Call, Field, Cast, Import, Extern, Record, Array, Absent, done, then, no_case, case, no_value, value}
use Rattle.ast.specs.Span.{span_of}
use Rattle.library.specs.Package.{Param}
use Rattle.refusals.specs.Inputs.{Inputs, Buffers}
use Rattle.rules.specs.declared.Answer.{Answer}
use Rattle.rules.specs.World.{Ctx, World, Walk}
use Rattle.rules.specs.Steps.{known, set_known, enter}
use Rattle.rules.specs.Rules.{fn, unless_defined, node, block, last, visit_all, cases, values, array, members}
use Rattle.rules.specs.Walk.{ctx_of, start_of, copy_pool, walk_first, walk, walk_of}
use Rattle.laws.specs.SlotsOf.{all-args}
use Rattle.laws.specs.Keeps.{Keeps, kept, stopped, StepsKeep, t_record}
use Rattle.laws.specs.RulesKeep as K
use Rattle.laws.specs.Grow.{kept-ok}
use Rattle.onerun.specs.Claim.{All, end, and}
use Rattle.onerun.specs.Proper.{Proper, ProperAll, ProperCases, ProperValues}

abbrev Any : ℕ → Type 0
Any k = Unit {0}

-- P is what is known of slots, N of names
module _ (P N : ℕ → Type 0) where
  pub record Named (s : World) : Type 0 where
    pub own : All (λ f. N f.name) s.own

  abbrev Stays : World → World → Type 0
  Stays s u = Named s → Named u

  stays : StepsKeep Stays Any Any
  stays = record {
    same = λ s h. h;
    trans = λ {s} {t} {u} x y h. y (x h);
    slot = λ i w s p h. record { own = h.own };
    type = λ texts k new s e deep h. record { own = h.own };
    told = λ d s e h. record { own = h.own };
    binds = λ l s h. record { own = h.own };
    frame = λ {s} {u} x h. record { own = (x h).own };
    alone = λ {s} {u} x h. record { own = (x (record { own = h.own })).own };
    holds = λ p s h. record { own = h.own };
    logs = λ l s h. record { own = h.own };
    types_full = tt;
    too_deep = tt;
    told_full = tt;
  }

  abbrev In : {A : Type 0} → Walk A → Type 0
  In m = (s : World) → Keeps Stays Any s (m s)

  in_next : {A B : Type 0} {m : Walk A} (f : A → Walk B) → In m → ((a : A) → In (f a)) → In (◌>>=◌ m f)
  in_next f h k s = K.in_next stays f h k s

  in_return : {A : Type 0} (a : A) → In (return a)
  in_return a s = K.in_return stays a s

  in_known : (a : Answer) (f : ℕ → Walk Answer) → ((slot : ℕ) → In (f slot)) → In (known a f)
  in_known a f h s = K.in_known stays a f h s

  in_set : (slot w : ℕ) → In (set_known slot w)
  in_set slot w s = K.in_set stays slot w tt s

  -- ── Fn ──

  in_enter : (name : ℕ) (ps : List Param) (ret : ℕ) → N name → In (enter name ps ret)
  unfolding enter
  in_enter name ps ret n s = kept (λ h. record { own = and n h.own })

  in_fn : (c : Ctx) (n slot name : ℕ) (e : TypeExpr) (args : List Arg) (body : Walk Answer) → N name → In body → In (unless_defined c n name (fn c n slot name e args body))
  unfolding unless_defined fn
  in_fn c n slot name e args body m h =
      K.in_look stays _ λ s. K.in_option stays _ _ _
      (in_next _ (K.in_apart stays _
      (in_next _ (K.in_fn_arguments stays c n (slot + 1) args (all-args (λ _. tt) (slot + 1) args)) λ ps.
      in_next _ (K.in_type_from stays c n e) λ ret.
      in_next _ (in_enter name ps ret m) λ _.
      in_next _ h λ a. in_next _ (K.in_check_return stays c n name e ret a) λ _. in_return ret))
      λ ret. in_set slot ret)
      λ _. K.in_poison stays n _

  -- ── Nodes ──

  mutual
    unfolding node Proper

    in_node : (c : Ctx) (t : Node) → Proper P N t → In (node c t)
    in_node c (Atom n slot token k) h = in_set slot _
    in_node c (Ident n slot name) h = K.in_ident stays c n slot name tt
    in_node c (Bin n slot token op l r) h =
        in_next _ (in_node c l h.1) λ a. in_next _ (in_node c r h.2) λ b. in_known a _ λ x. in_known b _ λ y.
        K.in_fuse stays c n slot token op x y tt
    in_node c (Unary n slot token op r) h = in_next _ (in_node c r h.1) λ a. in_known a _ λ x. K.in_unary stays c n slot token op x tt
    in_node c (Let n slot name r) h =
        in_next _ (in_node c r h.2) λ a. in_next _ (K.in_let stays n name a) λ b.
        in_next _ (K.in_insert stays name b) λ _. in_set slot _
    in_node c (Fn n slot name ret args body) h = in_fn c n slot name ret args (block c body) h.1 (in_block c body h.5)
    in_node c (Match n slot cs token d) h =
        in_next _ (in_cases c n cs h.1) λ bs. in_next _ (in_block c d h.2) λ a. K.in_matched stays c n slot bs a tt
    in_node c (Call n slot target args) h = K.in_call stays c n slot _ _ _ (in_all c args h.2) tt
    in_node c (Field n slot target name) h = in_next _ (in_node c target h.1) λ a. in_known a _ λ x. K.in_field stays c n slot name x tt
    in_node c (Cast n slot token l t) h =
        in_next _ (K.in_type_from stays c n t) λ to. in_next _ (in_node c l h.1) λ a. in_known a _ λ x.
        K.in_cast stays c n slot token x to tt
    in_node c (Import n slot token paths) h = in_next _ (K.in_imports stays c n token paths) λ _. in_set slot _
    in_node c (Extern n slot token name fs) h =
        in_next _ (K.in_each stays _ fs λ f. K.in_extern stays c n f) λ _.
        in_next _ (K.in_hold stays _) λ _. in_set slot _
    in_node c (Record n slot token fs) h =
        in_next _ (in_values c fs h.1) λ ws.
        in_next _ (K.in_on_types stays _ (t_record stays c.texts n ws)) λ w. in_set slot w
    in_node c (Array n slot token ms) h = in_array c n slot token ms h.1
    in_node c (Absent n) h = absurd h

    in_block : (c : Ctx) (xs : Nodes) → ProperAll P N xs → In (block c xs)
    in_block c done h = in_return _
    in_block c (then x xs) h = K.in_framed stays _ (in_next _ (in_node c x h.0) λ a. in_last c a xs h.1)

    in_last : (c : Ctx) (a : Answer) (xs : Nodes) → ProperAll P N xs → In (last c a xs)
    in_last c a done h = in_return a
    in_last c a (then x xs) h = in_next _ (in_node c x h.0) λ b. in_last c b xs h.1

    in_all : (c : Ctx) (xs : Nodes) → ProperAll P N xs → In (visit_all c xs)
    in_all c done h = in_return false
    in_all c (then x xs) h = in_next _ (in_node c x h.0) λ a. in_next _ (in_all c xs h.1) λ b. in_return _

    in_cases : (c : Ctx) (n : ℕ) (cs : Cases) → ProperCases P N cs → In (cases c n cs)
    in_cases c n no_case h = in_return []
    in_cases c n (case token x body cs) h =
        in_next _ (in_node c x h.0) λ a. in_next _ (K.in_condition stays c n token a) λ _.
        in_next _ (in_block c body h.1) λ b. in_next _ (in_cases c n cs h.2) λ _. in_return _

    in_values : (c : Ctx) (vs : Values) → ProperValues P N vs → In (values c vs)
    in_values c no_value h = in_return []
    in_values c (value name x vs) h =
        in_next _ (in_node c x h.1) λ a. in_next _ (K.in_value stays a) λ w. in_next _ (in_values c vs h.2) λ _. in_return _

    in_array : (c : Ctx) (n slot token : ℕ) (xs : Nodes) → ProperAll P N xs → In (array c n slot token xs)
    in_array c n slot token done h = K.in_poison stays n _
    in_array c n slot token (then x xs) h = in_next _ (in_node c x h.0) λ a. in_members c n slot a false xs h.1

    in_members : (c : Ctx) (n slot : ℕ) (a : Answer) (b : Bool) (xs : Nodes) → ProperAll P N xs → In (members c n slot a b xs)
    in_members c n slot a b done h = K.in_array_of stays c n slot a b tt
    in_members c n slot a b (then x xs) h =
        in_next _ (in_node c x h.0) λ y. in_next _ (K.in_member stays c n (span_of x) a y) λ m.
        K.in_go_on stays m b _ λ q. in_members c n slot a q xs h.1

  -- ── The walk ──

  in_copy : (n : ℕ) (pool : List ℕ) → In (copy_pool n pool)
  unfolding copy_pool
  in_copy n pool s = K.at-when stays _ _ _ s (λ _. kept (λ h. record { own = h.own })) (λ _. stopped tt)

  in_walk : (i : Inputs) → ProperAll P N (roots_of i.image) → In (walk i)
  unfolding walk walk_first roots_of
  in_walk i h =
      in_next _ (in_copy _ _) λ _. in_next _ (K.in_measure stays (ctx_of i) _ _) λ _. in_next _ (in_last (ctx_of i) _ _ h) λ _. in_return tt

  -- THE LAW
  pub own-named : (i : Inputs) (b : Buffers) → ProperAll P N (roots_of i.image) → {u : World} → walk_of i b ≡ ok tt u → Named u
  unfolding walk_of start_of
  own-named i b h e = kept-ok (in_walk i h (start_of i b)) e (record { own = end })
