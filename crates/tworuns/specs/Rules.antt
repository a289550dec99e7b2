-- The rules of each node kind in two runs, but for the visits of parts. One lemma for each. Assumes nothing.
use Rattle.std.specs.Prelude.{ℕ, ◌+◌, ◌<◌, ◌≡◌, Bool, get_or}
use Rattle.std.proofs.Common.{arith, ap, eqb-true}
use Rattle.std.proofs.Math.Path.{refl}
use Rattle.std.proofs.Math.Bool.{true}
use Rattle.std.proofs.Math.Option.{Option, some}
use mathlib.Core.List.{List, [], ◌∷◌}
use Rattle.tok.specs.Word.{kind_of}
use Rattle.tok.specs.Text.{name_bytes}
use Rattle.tok.specs.Step.{◌>>=◌, return, when, for_each}
use Rattle.tok.specs.declared.Span.{Span}
use Rattle.ptype.specs.Ty.{same_ty}
use Rattle.ptype.specs.Words.{ty_of, void_word, unknown_word}
use Rattle.ptype.specs.Add.{Buffer}
use Rattle.ast.specs.TypeExpr.{TypeExpr, Arg}
use Rattle.ast.specs.Node.{ExternFn}
use Rattle.err.specs.Message.{defined_already, no_record, match_cases, no_import}
use Rattle.rules.specs.declared.Answer.{Answer}
use Rattle.library.specs.Package.{Param, param, Signature, Function, Package}
use Rattle.rules.specs.World.{World, Walk, name_in}
use Rattle.rules.specs.Steps.{skip, known, if_known, on_option, ty, tree, ty_tree, report, poison, hold, type_from_expr}
use Rattle.rules.specs.declared.Member.{Member}
use Rattle.rules.specs.declared.Member.TheVariants.{Alike as alike, Silent as silent, Differs as differs}
use Rattle.rules.specs.Rules.{ident, let_binding, fn_arguments, check_return, fn, unless_defined, field_type, field, value_type, member_types}
use Rattle.rules.specs.Rules.{member, go_on, array_of, condition, Branch, compare_branches, matched, import_one, import_all, extern_fn}
use Rattle.laws.specs.SlotsOf.{ArgSlots}
use Rattle.tworuns.specs.Runs.{Runs, Relation, Each, end, and, each_map, Both?, neither, present, Slot, SameType, SameName, SameAnswer, SameParam, SameSignature}
use Rattle.tworuns.specs.Runs.{SameFunction, SamePackage, Worlds, type_grow, param_grow, function_grow, same_kind, same-tree, same_test}
use Rattle.tworuns.specs.Runs as R
use Rattle.tworuns.specs.Sound.{SoundType, SoundArgs, SoundExterns, SoundNames}
use Rattle.laws.specs.Keeps.{Keeps}
use Rattle.laws.specs.RulesKeep.{in_next, in_return, in_each, in_set, in_enter, in_type_from, in_check_return, in_import}
use Rattle.tworuns.specs.Logic.{Told, Any, told-kept, Parts, fine, q_next, Gives, p_next, p_return, p_when, p_option}
use Rattle.tworuns.specs.Logic.{p_known, p_if_known, p_set, p_on_types, Answers, Words, Nothing, Equal, told-enters}
use Rattle.tworuns.specs.Primitive.{p_report, p_poison, p_insert, p_hold, p_enter, q_apart, q_told}
use Rattle.tworuns.specs.Types.{t_wrap}
use Rattle.tworuns.specs.Inner.{fields-same}
use Rattle.tworuns.specs.Exprs.{In, plain-same, t_type_from}
use Rattle.tworuns.specs.Operators.{plain-low}
use Rattle.tworuns.specs.Find.{local_same, function-same, package_same, field-same, InLibraries, in_both, in_longer, library-same}

module _ (r : Runs) where
  abbrev pub Own : ℕ → Type 0
  Own slot = slot < r.first.void

  pub name_of : {s s' : World} → Worlds r s s' → {w : ℕ} → In r w → SameName r w w
  name_of ws {w} l = record { bytes = ws.names w l; word = λ z. refl }

  pub void-same : (b b' : Buffer) → SameType r b b' void_word void_word
  void-same b b' = plain-same r b b' 1 (plain-low 1 (omega arith))

  pub unknown-same : (b b' : Buffer) → SameType r b b' unknown_word unknown_word
  unknown-same b b' = plain-same r b b' 11 (record { no_wrap = refl; no_record = λ e. omega arith; no_name = refl })

  -- the type in a slot, which two runs share
  module _ {s s' : World} (ws : Worlds r s s') where
    pub slot-tree : {a a' : ℕ} → Slot r a a' → ty_of r.first.texts s.types.words (get_or s.slots a 0) ≡ ty_of r.second.texts s'.types.words (get_or s'.slots a' 0)
    slot-tree {a} {a'} x = same-tree r (ws.slots a a' x)

    abbrev Options : Relation (Option ℕ)
    Options b b' o o' = Both? (SameType r b b') o o'

    pub p_ident : (n slot name : ℕ) → Own slot → In r name → Gives r (Answers r) s s' (ident r.first n slot name s) (ident r.second n slot name s')
    unfolding ident
    p_ident n slot name own l =
        let e = ws.names name l in
        p_option r _ _ _ _ (local_same r e ws.env) (p_poison r ws n (cc (e)))
        (λ o o' x. p_option r _ _ _ _ x (p_return r ws R.poison) (λ w w' h. p_set r slot ws own h))

    pub p_let : (n name : ℕ) {a a' : Answer} → SameAnswer r a a' → Gives r Options s s' (let_binding n name a s) (let_binding n name a' s')
    unfolding let_binding ty
    p_let n name (R.known {a = a} {a' = a'} x) =
        let w = ws.slots a a' x in
        p_when r _ _ _ _ (cc (same_kind r w)) (λ _. p_next r _ _ (p_report r ws n refl) (λ _ _ u u' g g' v _. p_return r v neither)) (λ _. p_return r ws (present w))
    p_let n name R.poison = p_return r ws neither

    pub p_type_from : (n : ℕ) (t : TypeExpr) → SoundType Own (In r) t → Gives r (Words r) s s' (type_from_expr r.first n t s) (type_from_expr r.second n t s')
    unfolding type_from_expr
    p_type_from n t h = p_on_types r _ _ ws (t_type_from r Own ws.names n t h ws.types)

    pub p_check_return : (n name : ℕ) → In r name → (e : TypeExpr) {ret ret' : ℕ} → SameType r s.types s'.types ret ret' → {a a' : Answer} → SameAnswer r a a'
        → Gives r (Nothing r) s s' (check_return r.first n name e ret a s) (check_return r.second n name e ret' a' s')
    unfolding check_return ty_tree ty tree
    p_check_return n name l e h x =
        p_if_known r _ _ ws x (λ a a' y. p_when r _ _ _ _ (same_test r (ws.slots a a' y) h) (λ _. p_return r ws tt)
        (λ _. p_report r ws n (cc (ws.names name l, slot-tree y, same-tree r h))))

    pub p_field : (n slot name : ℕ) → Own slot → In r name → {a a' : ℕ} → Slot r a a' → Gives r (Answers r) s s' (field r.first n slot name a s) (field r.second n slot name a' s')
    unfolding field field_type ty tree
    p_field n slot name own l {a} {a'} x =
        let w = ws.slots a a' x in
        let e = ws.names name l in
        p_when r _ _ _ _ (cc (same_kind r w))
        (λ k. let f = fields-same ws.types w (eqb-true (kind_of (get_or s.slots a 0)) 8 k) in
        p_option r _ _ _ _ (field-same r e ws.types f.fields f.are) (p_poison r ws n (cc (e, slot-tree x)))
        (λ v v' h. p_when r _ _ _ _ (cc (same_kind r h))
        (λ _. p_next r _ _ (p_set r slot ws own (unknown-same s.types s'.types)) (λ _ _ u u' g g' z _. p_return r z R.poison)) (λ _. p_set r slot ws own h)))
        (λ _. p_poison r ws n (cc (slot-tree x)))

    pub p_value : {a a' : Answer} → SameAnswer r a a' → Gives r (Words r) s s' (value_type a s) (value_type a' s')
    unfolding value_type ty
    p_value (R.known {a = a} {a' = a'} x) = p_return r ws (ws.slots a a' x)
    p_value R.poison = p_return r ws (unknown-same s.types s'.types)

    pub p_member : (n : ℕ) (span : Span) {a a' b b' : Answer} → SameAnswer r a a' → SameAnswer r b b' → Gives r (Equal r) s s' (member r.first n span a b s) (member r.second n span a' b' s')
    unfolding member member_types ty_tree ty tree
    p_member n span (R.known {a = a} {a' = a'} x) (R.known {a = b} {a' = b'} y) =
        p_when r _ _ _ _ (cc (slot-tree x, slot-tree y)) (λ _. p_return r ws refl)
        (λ _. p_when r _ _ _ _ (cc (slot-tree x, slot-tree y)) (λ _. p_return r ws refl)
        (λ _. p_next r _ _ (p_report r ws n (cc (slot-tree x, slot-tree y))) (λ _ _ u u' g g' v _. p_return r v refl)))
    p_member n span (R.known x) R.poison = p_return r ws refl
    p_member n span R.poison y = p_return r ws refl

    pub p_array_of : (n slot : ℕ) → Own slot → {a a' : Answer} → SameAnswer r a a' → (b : Bool) → Gives r (Answers r) s s' (array_of r.first n slot a b s) (array_of r.second n slot a' b s')
    unfolding array_of ty
    p_array_of n slot own x b =
        p_known r _ _ ws x (λ a a' y. p_when r _ _ _ _ refl (λ _. p_return r ws R.poison)
        (λ _. p_next r _ _ (p_on_types r _ _ ws (t_wrap r ws.types n 7 _ _ refl (ws.slots a a' y))) (λ w w' u u' g g' v h. p_set r slot v own h)))

    pub p_condition : (n token : ℕ) {a a' : Answer} → SameAnswer r a a' → Gives r (Nothing r) s s' (condition r.first n token a s) (condition r.second n token a' s')
    unfolding condition ty_tree ty tree
    p_condition n token x = p_if_known r _ _ ws x (λ a a' y. p_when r _ _ _ _ (cc (slot-tree y)) (λ _. p_return r ws tt) (λ _. p_report r ws n (cc (slot-tree y))))

    -- "an Import of one already held does nothing; the first library package of a name is found": 26 where only the longer library has it
    pub q_import : (n path : ℕ) → In r path → Parts r (Nothing r) s s' (import_one r.first n path s) (import_one r.second n path s')
    unfolding import_one on_option
    q_import n path l = held (package_same r e ws.packages) (library-same r e ws.library)
      where
        e : name_bytes r.first.texts path ≡ name_bytes r.second.texts path
        e = ws.names path l

        held : {o o' p p' : Option Package} → Both? (SamePackage r s.types s'.types) o o' → InLibraries r s.types s'.types p p'
            → Parts r (Nothing r) s s' (on_option o (on_option p (report n (no_import path (name_in r.first path))) hold) (λ _. skip) s)
            (on_option o' (on_option p' (report n (no_import path (name_in r.second path))) hold) (λ _. skip) s')
        held (present x) k = fine (p_return r ws tt)
        held neither (in_both k) = fine (p_option r _ _ _ _ k (p_report r ws n (ap (no_import path) e)) (λ p p' h. p_hold r ws h))
        held neither (in_longer k) = q_told n (no_import path (name_in r.first path)) k _

  -- a case's token and what its body answered
  pub record SameBranch (b b' : Branch) : Type 0 where
    pub token : b.token ≡ b'.token
    pub answer : SameAnswer r b.answer b'.answer

  p_branch : (n : ℕ) {d d' : ℕ} → Slot r d d' → {token token' : ℕ} → token ≡ token' → {a a' : Answer} → SameAnswer r a a' → {s s' : World} → Worlds r s s'
      → Gives r (Nothing r) s s'
      (if_known a (λ slot. ◌>>=◌ (ty_tree r.first slot) (λ t. ◌>>=◌ (ty_tree r.first d) (λ u. when (same_ty t u) skip (report n (match_cases token u t))))) s)
      (if_known a' (λ slot. ◌>>=◌ (ty_tree r.second slot) (λ t. ◌>>=◌ (ty_tree r.second d') (λ u. when (same_ty t u) skip (report n (match_cases token' u t))))) s')
  unfolding ty_tree ty tree
  p_branch n x q h ws =
      p_if_known r _ _ ws h (λ a a' y. p_when r _ _ _ _ (cc (slot-tree ws x, slot-tree ws y)) (λ _. p_return r ws tt) (λ _. p_report r ws n (cc (q, slot-tree ws x, slot-tree ws y))))

  p_branches : (n : ℕ) {d d' : ℕ} → Slot r d d' → {bs bs' : List Branch} → Each SameBranch bs bs' → {s s' : World} → Worlds r s s'
      → Gives r (Nothing r) s s' (compare_branches r.first n d bs s) (compare_branches r.second n d' bs' s')
  unfolding compare_branches
  p_branches n x end ws = p_return r ws tt
  p_branches n x (and h hs) ws = p_next r _ _ (p_branch n x h.token h.answer ws) (λ _ _ u u' g g' v _. p_branches n x hs v)

  pub p_matched : (n slot : ℕ) → Own slot → {bs bs' : List Branch} → Each SameBranch bs bs' → {a a' : Answer} → SameAnswer r a a' → {s s' : World} → Worlds r s s'
      → Gives r (Answers r) s s' (matched r.first n slot bs a s) (matched r.second n slot bs' a' s')
  unfolding matched ty
  p_matched n slot own bs x ws =
      p_known r _ _ ws x (λ d d' y. p_next r _ _ (p_branches n y bs ws) (λ _ _ u u' g g' v _. p_set r slot v own (v.slots d d' y)))

  pub q_go_on : (m : Member) (b : Bool) (f f' : Bool → Walk Answer) {s s' : World} → Worlds r s s' → ((b : Bool) → Parts r (Answers r) s s' (f b s) (f' b s'))
      → Parts r (Answers r) s s' (go_on m b f s) (go_on m b f' s')
  unfolding go_on
  q_go_on alike b f f' ws h = h b
  q_go_on silent b f f' ws h = h true
  q_go_on differs b f f' ws h = fine (p_return r ws R.poison)

  -- functions
  abbrev pub Params : Relation (List Param)
  Params b b' ps ps' = Each (SameParam r b b') ps ps'

  p_fn_arguments : (n slot : ℕ) (args : List Arg) → SoundArgs Own (In r) args → ArgSlots Own slot args → {s s' : World} → Worlds r s s'
      → Gives r Params s s' (fn_arguments r.first n slot args s) (fn_arguments r.second n slot args s')
  unfolding fn_arguments SoundArgs ArgSlots
  p_fn_arguments n slot [] h o ws = p_return r ws end
  p_fn_arguments n slot (a ∷ rest) h o ws =
      p_next r _ _ (p_type_from ws n a.type h.1) (λ w w' u u' g g' v x.
      p_next r _ _ (p_set r slot v o.0 x) (λ _ _ u₁ u₁' g₁ g₁' v₁ _.
      let x₁ = type_grow r g₁ g₁' w w' x in
      p_next r _ _ (p_insert r v₁ a.name (some w) (some w') (name_of v₁ h.0) (present x₁)) (λ _ _ u₂ u₂' g₂ g₂' v₂ _.
      let x₂ = type_grow r g₂ g₂' w w' x₁ in
      p_next r _ _ (p_fn_arguments n (slot + 1) rest h.2 o.1 v₂) (λ ps ps' u₃ u₃' g₃ g₃' v₃ hs.
      p_return r v₃ (and (record { name = name_of v₃ h.0; type = type_grow r g₃ g₃' w w' x₂ }) hs)))))

  pub q_fn : (n slot name : ℕ) (e : TypeExpr) (args : List Arg) (body body' : Walk Answer) → Own slot → In r name → SoundType Own (In r) e → SoundArgs Own (In r) args → ArgSlots Own (slot + 1) args
      → ((s : World) → Keeps Told Any s (body s)) → ((s s' : World) → Worlds r s s' → Parts r (Answers r) s s' (body s) (body' s')) → {s s' : World} → Worlds r s s'
      → Parts r (Answers r) s s' (unless_defined r.first n name (fn r.first n slot name e args body) s) (unless_defined r.second n name (fn r.second n slot name e args body') s')
  unfolding unless_defined fn on_option
  q_fn n slot name e args body body' own l t h o bk k {s} {s'} ws = found (function-same r q ws.own)
    where
      q : name_bytes r.first.texts name ≡ name_bytes r.second.texts name
      q = ws.names name l

      inner : Parts r (Answers r) s s' (fn r.first n slot name e args body s) (fn r.second n slot name e args body' s')
      inner =
          q_next r _ _
          (q_apart r {Q = Words r} ws _ _ (λ ws₀.
          q_next r _ _ (fine (p_fn_arguments n (slot + 1) args h o ws₀))
          (λ ps. in_next told-kept _ (in_type_from told-kept r.first n e) λ ret. in_next told-kept _ (in_enter told-kept told-enters name ps ret) λ _.
          in_next told-kept _ bk λ a. in_next told-kept _ (in_check_return told-kept r.first n name e ret a) λ _. in_return told-kept ret)
          (λ ps ps' u₁ u₁' g₁ g₁' v₁ hs.
          q_next r _ _ (fine (p_type_from v₁ n e t))
          (λ ret. in_next told-kept _ (in_enter told-kept told-enters name ps ret) λ _.
          in_next told-kept _ bk λ a. in_next told-kept _ (in_check_return told-kept r.first n name e ret a) λ _. in_return told-kept ret)
          (λ ret ret' u₂ u₂' g₂ g₂' v₂ x.
          q_next r _ _
          (fine (p_enter r v₂ name ps ps' ret ret' (record { name = name_of v₂ l; sig = record { params = each_map (param_grow r g₂ g₂') hs; ret = x; with_slots = refl } })))
          (λ _. in_next told-kept _ bk λ a. in_next told-kept _ (in_check_return told-kept r.first n name e ret a) λ _. in_return told-kept ret)
          (λ _ _ u₃ u₃' g₃ g₃' v₃ _.
          q_next r _ _ (k u₃ u₃' v₃)
          (λ a. in_next told-kept _ (in_check_return told-kept r.first n name e ret a) λ _. in_return told-kept ret)
          (λ a a' u₄ u₄' g₄ g₄' v₄ y.
          let x₄ = type_grow r g₄ g₄' ret ret' (type_grow r g₃ g₃' ret ret' x) in
          fine (p_next r _ _ (p_check_return v₄ n name l e x₄ y) (λ _ _ u₅ u₅' g₅ g₅' v₅ _. p_return r v₅ (type_grow r g₅ g₅' ret ret' x₄)))))))))
          (λ ret. in_set told-kept slot ret tt)
          (λ ret ret' u u' g g' v x. fine (p_set r slot v own x))

      found : {p p' : Option Signature} → Both? (SameSignature r s.types s'.types) p p'
          → Parts r (Answers r) s s' (on_option p (fn r.first n slot name e args body) (λ _. poison n (defined_already name (name_in r.first name))) s)
          (on_option p' (fn r.second n slot name e args body') (λ _. poison n (defined_already name (name_in r.second name))) s')
      found neither = inner
      found (present x) = fine (p_poison r ws n (ap (defined_already name) q))

  -- imports and externs
  q_imports : (n : ℕ) (paths : List ℕ) → SoundNames Own (In r) paths → {s s' : World} → Worlds r s s'
      → Parts r (λ _ _ _ _. Unit {0}) s s' (for_each (λ path. import_one r.first n path) paths s) (for_each (λ path. import_one r.second n path) paths s')
  unfolding for_each SoundNames
  q_imports n [] h ws = fine (p_return r ws tt)
  q_imports n (p ∷ ps) h ws =
      q_next r _ _ (q_import ws n p h.0) (λ b. in_next told-kept _ (in_each told-kept _ ps λ x. in_import told-kept r.first n x) λ bs. in_return told-kept (b ∷ bs))
      (λ _ _ u u' g g' v _. q_next r _ _ (q_imports n ps h.1 v) (λ bs. in_return told-kept _) (λ _ _ k k' i i' z _. fine (p_return r z tt)))

  pub q_import_all : (n token : ℕ) (paths : List ℕ) → SoundNames Own (In r) paths → {s s' : World} → Worlds r s s'
      → Parts r (Nothing r) s s' (import_all r.first n token paths s) (import_all r.second n token paths s')
  unfolding import_all
  q_import_all n token [] h ws = fine (p_report r ws n refl)
  q_import_all n token (p ∷ ps) h ws = q_next r _ _ (q_imports n (p ∷ ps) h ws) (λ _. in_return told-kept tt) (λ _ _ u u' g g' v _. fine (p_return r v tt))

  p_extern_args : (n : ℕ) (args : List Arg) → SoundArgs Own (In r) args → {s s' : World} → Worlds r s s'
      → Gives r Params s s'
      (for_each (λ a. ◌>>=◌ (type_from_expr r.first n a.type) (λ w. return (param a.name w))) args s)
      (for_each (λ a. ◌>>=◌ (type_from_expr r.second n a.type) (λ w. return (param a.name w))) args s')
  unfolding for_each SoundArgs
  p_extern_args n [] h ws = p_return r ws end
  p_extern_args n (a ∷ rest) h ws =
      p_next r {P = λ b b' p p'. SameParam r b b' p p'} _ _
      (p_next r _ _ (p_type_from ws n a.type h.1) (λ w w' u u' g g' v x. p_return r v (record { name = name_of v h.0; type = x })))
      (λ p p' u u' g g' v x. p_next r _ _ (p_extern_args n rest h.2 v) (λ ps ps' k k' i i' z y. p_return r z (and (param_grow r i i' p p' x) y)))

  p_extern : (n : ℕ) (f : ExternFn) → In r f.name → SoundArgs Own (In r) f.args → SoundType Own (In r) f.ret → {s s' : World} → Worlds r s s'
      → Gives r (λ b b' f f'. SameFunction r b b' f f') s s' (extern_fn r.first n f s) (extern_fn r.second n f s')
  unfolding extern_fn
  p_extern n f l h t ws =
      p_next r _ _ (p_extern_args n f.args h ws) (λ ps ps' u u' g g' v x.
      p_next r _ _ (p_type_from v n f.ret t) (λ ret ret' k k' i i' z y.
      p_return r z (record { name = name_of z l; sig = record { params = each_map (param_grow r i i') x; ret = y; with_slots = refl } })))

  abbrev pub Functions : Relation (List Function)
  Functions b b' fs fs' = Each (SameFunction r b b') fs fs'

  pub p_externs : (n : ℕ) (fs : List ExternFn) → SoundExterns Own (In r) fs → {s s' : World} → Worlds r s s'
      → Gives r Functions s s' (for_each (λ f. extern_fn r.first n f) fs s) (for_each (λ f. extern_fn r.second n f) fs s')
  unfolding for_each SoundExterns
  p_externs n [] h ws = p_return r ws end
  p_externs n (f ∷ fs) h ws =
      p_next r _ _ (p_extern n f h.0 h.1 h.2 ws) (λ x x' u u' g g' v y.
      p_next r _ _ (p_externs n fs h.3 v) (λ xs xs' k k' i i' z ys. p_return r z (and (function_grow r i i' x x' y) ys)))
