-- Where no diagnostic is raised, the own functions are the visited Fns, in the order of visits. One line for each node kind, by induction on the
-- tree. Assumes nothing.
use Rattle.std.specs.Prelude.{ℕ, ◌+◌, ◌≡◌, refl, Bool}
use Rattle.std.proofs.Common.{arith, sym, ap, ◌∙◌}
use Rattle.std.proofs.Math.Bool.{true, false}
use Rattle.std.proofs.Math.Option.{Option, none, some}
use mathlib.Core.List.{List, [], ◌∷◌, ◌++◌, append_assoc}
use Rattle.tok.specs.Step.{Result, ok, Refusal, refusal, next, ◌>>◌, return, give, refuse, when}
use Rattle.tok.specs.declared.Span.{Span}
use Rattle.ptype.specs.Ty.{Ty}
use Rattle.ptype.specs.Add.{Buffer, append}
use Rattle.ast.specs.TypeExpr.{TypeExpr, Arg}
use Rattle.ast.specs.Node.{Node, Nodes, Cases, Values, Atom, Ident, Bin, Unary, Let, Fn, Match, Call, Field, Cast, Import, Extern, Record, Array, Absent, done, then, no_case, case, no_value, value}
use Rattle.ast.specs.Span.{span_of}
use Rattle.err.specs.Message.{Diagnostic}
use Rattle.err.specs.Report.{has_room, added, tell}
use Rattle.library.specs.Package.{Param, signature, function}
use Rattle.rules.specs.declared.Answer.{Answer}
use Rattle.rules.specs.declared.Answer.TheVariants.{Known, Poison}
use Rattle.rules.specs.World.{Ctx, World, Walk, with_functions, with_types, with_told, with_env}
use Rattle.rules.specs.Steps.{Done, on_option, ty, tree, ty_tree, raised, on_types, raised_told, output_of, report, poison, type_from_expr, entry_of, enter}
use Rattle.rules.specs.Calls.{Callee, own_function, package_function, through_field, no_callee, callee_of, Provided, provided_of, call}
use Rattle.rules.specs.declared.Member.TheVariants.{Alike as alike, Silent as silent, Differs as differs}
use Rattle.rules.specs.Rules.{fn_arguments, fn, unless_defined, member_types, member, go_on, node, block, last, visit_all, cases, values, array, members}
use Rattle.rules.specs.Visited.{visited_below, visited_among, visited_in_cases, visited_in_values}
use Rattle.rules.specs.Functions.{type_meant, FnHead, head_of, fns_among}
use Rattle.laws.specs.Keeps.{StepsKeep, t_record}
use Rattle.laws.specs.RulesKeep as K
use Rattle.tworuns.specs.Means.{grown-same, grown-trans}
use Rattle.tworuns.specs.Sound.{SoundType, SoundArgs, SoundCallee, Sound, SoundAll, SoundCases, SoundValues}
use Rattle.tworuns.specs.ExprTrees.{Adds, adds, stops, WordOf, word_grow, expr-word}
use Rattle.tworuns.specs.Met.{Any, Nothing, ParamsOf, end, and, no_fn, one_fn, params_grow, Quiet, quiet-kept, Gives, gives, ceases, step, of_equal}
use Rattle.tworuns.specs.Met.{quietly, quiet-first, quiet-last, Raises, raises, fails, after_raise, raises-next, in_frame, set_apart}

-- the Fns of two lists of nodes
pub fns_append : (xs ys : List Node) → fns_among (xs ++ ys) ≡ fns_among xs ++ fns_among ys
unfolding fns_among
fns_append [] ys = refl
fns_append (x ∷ xs) ys = ap (λ (l : List FnHead). head_of x ++ l) (fns_append xs ys) ∙ sym (append_assoc (head_of x) (fns_among xs) (fns_among ys))

fns_three : (xs ys zs : List Node) → fns_among (xs ++ ys ++ zs) ≡ fns_among xs ++ (fns_among ys ++ fns_among zs)
fns_three xs ys zs = fns_append (xs ++ ys) zs ∙ (ap (λ (l : List FnHead). l ++ fns_among zs) (fns_append xs ys) ∙ append_assoc (fns_among xs) (fns_among ys) (fns_among zs))

module _ (c : Ctx) (P N : ℕ → Type 0) where
  abbrev Q : World → World → Type 0
  Q = Quiet c.texts

  law : StepsKeep Q Any Any
  law = quiet-kept c.texts

  abbrev pub Meets : {A : Type 0} → List FnHead → World → Result World Refusal A → Type 0
  Meets ds s x = Gives c.texts Nothing ds s x

  -- ── Diagnostics ──

  at_told : (n : ℕ) (d : Diagnostic) (s : World) (b : Bool) → Raises c.texts s {A = Done} (raised_told s (when b (give tt (added (output_of s) d)) (refuse (refusal 9 n)) (output_of s)))
  unfolding when raised_told
  at_told n d s true = raises {u = with_told s (added (output_of s) d).diagnostics (added (output_of s) d).messages} (omega arith) (grown-same s.types)
  at_told n d s false = fails

  tells : (n : ℕ) (d : Diagnostic) (s : World) → Raises c.texts s (report n d s)
  unfolding report tell
  tells n d s = at_told n d s (has_room (output_of s) d)

  poisons : (n : ℕ) (d : Diagnostic) {ds : List FnHead} (s : World) → Meets ds s (poison n d s)
  unfolding poison
  poisons n d s = after_raise c.texts (λ u a. tt) (raises-next c.texts _ (tells n d s) (λ _. K.in_return law Poison))

  -- ── Fn ──

  from-types : {x : Ty} {s : World} {y : Result Buffer Refusal ℕ} → Adds (WordOf c.texts x) s.types y → Gives c.texts (λ u w. WordOf c.texts x u.types w) [] s (raised s y)
  unfolding raised
  from-types {s = s} (adds {d = d} g w) = gives {u = with_types s d} (record { more = omega arith; grown = g; met = λ e. no_fn }) w
  from-types stops = ceases

  word-from : (n : ℕ) (e : TypeExpr) → SoundType P N e → (s : World) → Gives c.texts (λ u w. WordOf c.texts (type_meant c.texts e) u.types w) [] s (type_from_expr c n e s)
  unfolding type_from_expr on_types
  word-from n e h s = from-types (expr-word c.texts P N n e h s.types)

  no-params : {s : World} → Gives c.texts (λ u ps. ParamsOf c.texts u.types [] ps) [] s (ok [] s)
  no-params {s} = gives (law.same s) end

  params-from : (n slot : ℕ) (args : List Arg) → SoundArgs P N args → (s : World) → Gives c.texts (λ u ps. ParamsOf c.texts u.types args ps) [] s (fn_arguments c n slot args s)
  unfolding fn_arguments SoundArgs
  params-from n slot [] h s = no-params
  params-from n slot (a ∷ rest) h s =
      step c.texts _ (word-from n a.type h.1 s) (λ w u₁ g₁ x.
      step c.texts _ (quietly c.texts (K.in_set law slot w tt u₁)) (λ _ u₂ g₂ _.
      step c.texts _ (quietly c.texts (K.in_insert law a.name (some w) u₂)) (λ _ u₃ g₃ _.
      step c.texts _ (params-from n (slot + 1) rest h.2 u₃) (λ ps u₄ g₄ y.
      gives (law.same u₄) (and (word_grow c.texts (grown-trans g₂.grown (grown-trans g₃.grown g₄.grown)) x) y)))))

  enters : (d : FnHead) (ps : List Param) (ret : ℕ) (s : World) → ParamsOf c.texts s.types d.args ps → WordOf c.texts (type_meant c.texts d.ret) s.types ret
      → Meets (d ∷ []) s (enter d.name ps ret s)
  unfolding enter
  enters d ps ret s p r =
      gives {u = with_functions s (append s.functions (entry_of d.name ps ret)) (function d.name (signature ps ret false) ∷ s.own)}
      (record { more = omega arith; grown = grown-same s.types; met = λ e. one_fn (record { name = refl; params = p; ret = r }) no_fn }) tt

  on-option : {A : Type 0} {ds : List FnHead} (o : Option A) (m : Walk Answer) (f : A → Walk Answer) {s : World} → Meets ds s (m s) → ((a : A) → Meets ds s (f a s)) → Meets ds s (on_option o m f s)
  unfolding on_option
  on-option none m f h k = h
  on-option (some a) m f h k = k a

  in_fn : (n slot name : ℕ) (e : TypeExpr) (args : List Arg) (ds : List FnHead) (body : Walk Answer) → SoundType P N e → SoundArgs P N args → ((s : World) → Meets ds s (body s))
      → (s : World) → Meets (record { name = name; args = args; ret = e } ∷ ds) s (unless_defined c n name (fn c n slot name e args body) s)
  unfolding unless_defined fn
  in_fn n slot name e args ds body he ha hb s =
      on-option _ _ _
      (quiet-last c.texts _
      (set_apart c.texts _
      (step c.texts _ (params-from n (slot + 1) args ha (with_env s [])) (λ ps u₁ g₁ x₁.
      step c.texts _ (word-from n e he u₁) (λ ret u₂ g₂ x₂.
      step c.texts _ (enters (record { name = name; args = args; ret = e }) ps ret u₂ (params_grow c.texts g₂.grown x₁) x₂) (λ _ u₃ g₃ _.
      quiet-last c.texts _ (hb u₃) (λ a. K.in_next law _ (K.in_check_return law c n name e ret a) λ _. K.in_return law ret))))))
      (λ ret. K.in_set law slot ret tt))
      (λ f. poisons n _ s)

  -- ── Calls ──

  in_call : (n slot : ℕ) (f : Callee) (given : List Provided) (ds : List FnHead) (visits : Walk Bool)
      → SoundCallee P N f → ((s : World) → Meets ds s (visits s)) → (s : World) → Meets ds s (call c n slot f given visits s)
  unfolding call SoundCallee
  in_call n slot (own_function name) given ds visits h k s = quiet-last c.texts _ (k s) (λ b. K.in_call law c n slot (own_function name) given (return b) (K.in_return law b) tt)
  in_call n slot (package_function pkg name) given ds visits h k s =
      quiet-last c.texts _ (k s) (λ b. K.in_call law c n slot (package_function pkg name) given (return b) (K.in_return law b) tt)
  in_call n slot (through_field name) given ds visits h k s = poisons n _ s
  in_call n slot no_callee given ds visits h k s = absurd h

  -- ── Members of an array: one that differs ends the visits, and raises 2 ──

  module _ {ds : List FnHead} (p : Bool) (f : Bool → Walk Answer) (k : (b : Bool) (s : World) → Meets ds s (f b s)) where
    differs-told : {s : World} {x : Result World Refusal Done} → Raises c.texts s x → Meets ds s (next (next x (λ _. return differs)) (λ m. go_on m p f))
    unfolding go_on
    differs-told (raises l g) = after_raise c.texts (λ u a. tt) (raises l g)
    differs-told fails = ceases

    by-member : (n : ℕ) (d : Diagnostic) (s : World) (a b : Bool) → Meets ds s (next (when a (return silent) (when b (return alike) (report n d >> return differs)) s) (λ m. go_on m p f))
    unfolding when go_on
    by-member n d s true b = k true s
    by-member n d s false true = k p s
    by-member n d s false false = differs-told (tells n d s)

    after-member : (n : ℕ) (span : Span) (first a : Answer) (s : World) → Meets ds s (next (member c n span first a s) (λ m. go_on m p f))
    unfolding member member_types ty_tree ty tree go_on
    after-member n span (Known i) (Known j) s = by-member n _ s _ _
    after-member n span (Known i) Poison s = k true s
    after-member n span Poison a s = k true s

  -- ── Nodes ──

  abbrev below : Node → List FnHead
  below x = fns_among (visited_below x)

  abbrev whole : Node → List FnHead
  whole x = fns_among (x ∷ visited_below x)

  mutual
    unfolding node Sound visited_below fns_among head_of

    pub node_fns : (x : Node) → Sound P N x → (s : World) → Meets (whole x) s (node c x s)
    node_fns (Atom n slot token k) h s = quietly c.texts (K.in_set law slot _ tt s)
    node_fns (Ident n slot name) h s = quietly c.texts (K.in_ident law c n slot name tt s)
    node_fns (Bin n slot token op l r) h s =
        of_equal c.texts (sym (fns_append (l ∷ visited_below l) (r ∷ visited_below r)))
        (step c.texts _ (node_fns l h.1 s) (λ a u _ _. quiet-last c.texts _ (node_fns r h.2 u)
        (λ b. K.in_known law a _ λ i. K.in_known law b _ λ j. K.in_fuse law c n slot token op i j tt)))
    node_fns (Unary n slot token op r) h s = quiet-last c.texts _ (node_fns r h.1 s) (λ a. K.in_known law a _ λ i. K.in_unary law c n slot token op i tt)
    node_fns (Let n slot name r) h s =
        quiet-last c.texts _ (node_fns r h.2 s)
        (λ a. K.in_next law _ (K.in_let law n name a) λ b. K.in_next law _ (K.in_insert law name b) λ _. K.in_set law slot _ tt)
    node_fns (Fn n slot name ret args body) h s = in_fn n slot name ret args (fns_among (visited_among body)) (block c body) h.2 h.3 (λ u. block_fns body h.5 u) s
    node_fns (Match n slot cs token d) h s =
        of_equal c.texts (sym (fns_append (visited_in_cases cs) (visited_among d)))
        (step c.texts _ (cases_fns n cs h.1 s) (λ bs u _ _. quiet-last c.texts _ (block_fns d h.2 u) (λ a. K.in_matched law c n slot bs a tt)))
    node_fns (Call n slot target args) h s = in_call n slot (callee_of target) (provided_of args) (fns_among (visited_among args)) (visit_all c args) h.1 (λ u. all_fns args h.2 u) s
    node_fns (Field n slot target name) h s = quiet-last c.texts _ (node_fns target h.1 s) (λ a. K.in_known law a _ λ i. K.in_field law c n slot name i tt)
    node_fns (Cast n slot token l t) h s =
        quiet-first c.texts _ (K.in_type_from law c n t) (λ to u. quiet-last c.texts _ (node_fns l h.1 u)
        (λ a. K.in_known law a _ λ i. K.in_cast law c n slot token i to tt))
    node_fns (Import n slot token paths) h s = quietly c.texts (K.in_next law _ (K.in_imports law c n token paths) (λ _. K.in_set law slot _ tt) s)
    node_fns (Extern n slot token name fs) h s =
        quietly c.texts
        (K.in_next law _ (K.in_each law _ fs λ f. K.in_extern law c n f)
        (λ gs. K.in_next law _ (K.in_hold law _) λ _. K.in_set law slot _ tt) s)
    node_fns (Record n slot token fs) h s =
        quiet-last c.texts _ (values_fns fs h.1 s)
        (λ ps. K.in_next law _ (K.in_on_types law _ (t_record law c.texts n ps)) λ w. K.in_set law slot w tt)
    node_fns (Array n slot token ms) h s = array_fns n slot token ms h.1 s
    node_fns (Absent n) h s = absurd h

    pub block_fns : (xs : Nodes) → SoundAll P N xs → (s : World) → Meets (fns_among (visited_among xs)) s (block c xs s)
    block_fns done h s = gives (law.same s) tt
    block_fns (then x xs) h s =
        of_equal c.texts (sym (fns_append (x ∷ visited_below x) (visited_among xs)))
        (in_frame c.texts _ (step c.texts _ (node_fns x h.0 s) (λ a u _ _. last_fns a xs h.1 u)))

    pub last_fns : (a : Answer) (xs : Nodes) → SoundAll P N xs → (s : World) → Meets (fns_among (visited_among xs)) s (last c a xs s)
    last_fns a done h s = gives (law.same s) tt
    last_fns a (then x xs) h s =
        of_equal c.texts (sym (fns_append (x ∷ visited_below x) (visited_among xs))) (step c.texts _ (node_fns x h.0 s) (λ b u _ _. last_fns b xs h.1 u))

    all_fns : (xs : Nodes) → SoundAll P N xs → (s : World) → Meets (fns_among (visited_among xs)) s (visit_all c xs s)
    all_fns done h s = gives (law.same s) tt
    all_fns (then x xs) h s =
        of_equal c.texts (sym (fns_append (x ∷ visited_below x) (visited_among xs)))
        (step c.texts _ (node_fns x h.0 s) (λ a u _ _. quiet-last c.texts _ (all_fns xs h.1 u) (λ b. K.in_return law _)))

    cases_fns : (n : ℕ) (cs : Cases) → SoundCases P N cs → (s : World) → Meets (fns_among (visited_in_cases cs)) s (cases c n cs s)
    cases_fns n no_case h s = gives (law.same s) tt
    cases_fns n (case token x body cs) h s =
        of_equal c.texts (sym (fns_three (x ∷ visited_below x) (visited_among body) (visited_in_cases cs)))
        (step c.texts _ (node_fns x h.0 s) (λ a u _ _. quiet-first c.texts _ (K.in_condition law c n token a) (λ _ v.
        step c.texts _ (block_fns body h.1 v) (λ b w _ _. quiet-last c.texts _ (cases_fns n cs h.2 w) (λ bs. K.in_return law _)))))

    values_fns : (vs : Values) → SoundValues P N vs → (s : World) → Meets (fns_among (visited_in_values vs)) s (values c vs s)
    values_fns no_value h s = gives (law.same s) tt
    values_fns (value name x vs) h s =
        of_equal c.texts (sym (fns_append (x ∷ visited_below x) (visited_in_values vs)))
        (step c.texts _ (node_fns x h.1 s) (λ a u _ _. quiet-first c.texts _ (K.in_value law a) (λ w v.
        quiet-last c.texts _ (values_fns vs h.2 v) (λ rest. K.in_return law _))))

    array_fns : (n slot token : ℕ) (xs : Nodes) → SoundAll P N xs → (s : World) → Meets (fns_among (visited_among xs)) s (array c n slot token xs s)
    array_fns n slot token done h s = poisons n _ s
    array_fns n slot token (then x xs) h s =
        of_equal c.texts (sym (fns_append (x ∷ visited_below x) (visited_among xs))) (step c.texts _ (node_fns x h.0 s) (λ a u _ _. members_fns n slot a false xs h.1 u))

    members_fns : (n slot : ℕ) (a : Answer) (b : Bool) (xs : Nodes) → SoundAll P N xs → (s : World) → Meets (fns_among (visited_among xs)) s (members c n slot a b xs s)
    members_fns n slot a b done h s = quietly c.texts (K.in_array_of law c n slot a b tt s)
    members_fns n slot a b (then x xs) h s =
        of_equal c.texts (sym (fns_append (x ∷ visited_below x) (visited_among xs)))
        (step c.texts _ (node_fns x h.0 s) (λ y u _ _. after-member b _ (λ p v. members_fns n slot a p xs h.1 v) n (span_of x) a y u))
