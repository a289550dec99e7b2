-- A call of a function with slots, one law for each way out of the code. Assumes nothing.
use Rattle.std.specs.Prelude.{ℕ, suc, ◌+◌, ◌-◌, ◌≤◌, ◌<◌, ◌≡◌, min, Bool, true, false, ◌||◌, List, [], Ok, Err, eqb, length, get_or, drop, ⊤}
use Rattle.std.specs.Result.{IsErrAnd}
use Rattle.std.proofs.Math.Path.{refl}
use Rattle.std.proofs.Common.{sym, ap, ◌∙◌, arith}
use native.Mathlib.Numerals.{add-one}
use native.Mathlib.Nat.{le_refl, one-mul}
use lib.Seq.{drop-cons}
use borrow.Author.Tests.{eq-eqb, ne_eqb}
use Rattle.tok.specs.Text.{Texts}
use Rattle.tok.specs.Step.{Result, ok, Refusal as Refused, next, return, when}
use Rattle.ptype.specs.Ty.{Ty, contains_unknown, contains_slot}
use Rattle.ptype.specs.Words.{ty_of}
use Rattle.ptype.specs.Add.{buffer}
use Rattle.ptype.specs.Slots.{Binding, Bound, all_bound, conflict, void_slot, bind_slots, apply_slot_binding}
use Rattle.add.specs.Answer.{Added, result_of}
use Rattle.add.specs.Means.{Grown}
use Rattle.add.specs.AddLaws.{grown-same, grown-then, means-grown}
use Rattle.add.specs.StepLaws.{next-ok, of-answer}
use Rattle.slots.specs.declared.Bindings.{Bindings}
use Rattle.slots.specs.Bindings.{first_pairs, pair_room, bindings_of, bindings_after}
use Rattle.apply.specs.Apply.{apply_word}
use Rattle.ast.specs.Node.{nodes_from, tree_of, slot_of}
use Rattle.ast.specs.Span.{span_of}
use Rattle.err.specs.Message.{argument_count}
use Rattle.library.specs.Package.{Param, param, Signature, Package}
use Rattle.rules.specs.declared.Answer.{Answer}
use Rattle.rules.specs.declared.Answer.TheVariants.{Poison}
use Rattle.rules.specs.World.{Ctx, World}
use Rattle.rules.specs.Steps.{tree, ty, on_types, set_known, report}
use Rattle.rules.specs.Calls.{Provided, provided_of, compared, after_binding, slotted_argument, argument, arguments, returned, check_call_args}
use Rattle.laws.specs.Keeps.{Keeps, kept}
use Rattle.laws.specs.RulesKeep.{in_argument}
use Rattle.laws.specs.Grow.{Grow, Walked, grow_kept, Below}
use Rattle.state.specs.declared.Used.{Used}
use Rattle.state.specs.declared.Refusal.{Refusal}
use Rattle.state.specs.Context.{ctx}
use Rattle.state.specs.World.{Rest, world, Step, stepped, with_answer, Steps, no_more}
use Rattle.state.specs.Reporting.{passed, on-ok, on-err}
use Rattle.state.specs.Adding.{added_of}
use Rattle.arguments.specs.Argument.{given}
use Rattle.slotted.specs.Argues.{Argues}
use Rattle.slotted.specs.Meant.{Meant, ArgumentMeant}
use Rattle.slotted.proofs.Returns.{applying}
use Rattle.arguments.specs.declared.Argument.{Argument}
use Rattle.signatures.specs.Groups.{as_slotted}
use Rattle.call_args.specs.Given.{given_from, argument_in}
use Rattle.call_args.proofs.Plain.{arguments-none, length-given}
use Rattle.slotted_call.specs.Bindable.{Bindable, none, more, Arguments, known_return}

-- ── Growing ──

grown-of : {A : Type 0} {w w' : World} {a : A} → Keeps (Grow 0) Walked w (ok a w') → Grown w.types w'.types
grown-of {w = w} (kept g) = record {
  front = record { front = sym (rw one-mul at (g.types.front w.types.used (le_refl w.types.used))) };
  more = g.types.more;
}

argument_grows : (c : Ctx) (n : ℕ) (call_name : List ℕ) (f : Bool) (p : Param) (a : Provided) (bs : List Binding) {bs' : List Binding} (w : World) {w' : World}
    → argument c n call_name f p a bs w ≡ ok bs' w' → Grown w.types w'.types
argument_grows c n call_name f p a bs w e = grown-of (rw e at (in_argument (grow_kept 0) c n call_name f p a bs w))

meant-grown : {texts : Texts} {t t' : List ℕ} {u u' w : ℕ} → Grown (buffer t u) (buffer t' u') → Meant texts t u w → Meant texts t' u' w
meant-grown g m =
    let k = means-grown g m.means in
    record { means = rw k.is k }

same-type : {texts : Texts} {t t' : List ℕ} {u u' w : ℕ} → Grown (buffer t u) (buffer t' u') → Meant texts t u w → ty_of texts t' w ≡ ty_of texts t w
same-type g m = (means-grown g m.means).is

-- ── What an argument binds ──

module _ (P : List Binding → Type 0) where
  after-binds : (c : Ctx) (n : ℕ) (call_name : List ℕ) (p : Param) (a : Provided) (e t : Ty) (x : Bound) (w : World) {bs' : List Binding} {w' : World}
      → after_binding c n call_name p a e t x w ≡ ok bs' w' → P (bindings_after x) → P bs'
  unfolding after_binding bindings_after tree
  after-binds c n call_name p a e t (all_bound bs) w {bs'} {w'} q h =
      let x = next-ok (on_types (apply_slot_binding c.texts n bs e p.type) w) _ bs' w' q in
      let y = next-ok (compared c n call_name p a (ty_of c.texts x.1.types.words x.0) t x.1) (λ _. return bs) bs' w' x.3 in
      of-answer (λ b _. P b) y.3 h
  after-binds c n call_name p a e t (conflict bs slot old new) w {bs'} {w'} q h =
      let y = next-ok (report n _ w) (λ _. return bs) bs' w' q in
      of-answer (λ b _. P b) y.3 h
  after-binds c n call_name p a e t (void_slot bs slot) w {bs'} {w'} q h =
      let y = next-ok (report n _ w) (λ _. return bs) bs' w' q in
      of-answer (λ b _. P b) y.3 h

  argument-binds : (c : Ctx) (n : ℕ) (call_name : List ℕ) (p : Param) (a : Provided) (bs : List Binding) (w : World) {bs' : List Binding} {w' : World}
      → argument c n call_name true p a bs w ≡ ok bs' w' → P bs
      → P (bindings_after (bind_slots c.texts w.types.words (ty_of c.texts w.types.words p.type) (get_or w.slots a.slot 0) bs)) → P bs'
  unfolding argument slotted_argument ty tree when
  argument-binds c n call_name p a bs w {bs'} {w'} q h k =
      by (eqb word 0 || contains_unknown (ty_of c.texts w.types.words word)) (contains_slot (ty_of c.texts w.types.words word)) _ q
      (λ e. after-binds c n call_name p a (ty_of c.texts w.types.words p.type) (ty_of c.texts w.types.words word) bound w e k)
    where
      word : ℕ
      word = get_or w.slots a.slot 0

      bound : Bound
      bound = bind_slots c.texts w.types.words (ty_of c.texts w.types.words p.type) word bs

      by : (x y : Bool) (m : World → Result World Refused (List Binding)) → when x (return bs) (when y (return bs) m) w ≡ ok bs' w' → (m w ≡ ok bs' w' → P bs') → P bs'
      by true y m e f = of-answer (λ b _. P b) e h
      by false true m e f = of-answer (λ b _. P b) e h
      by false false m e f = f e

-- a world for facts that hold in any
somewhere : Rest
somewhere = record { functions = buffer [] 0; env = []; packages = []; own = []; more = no_more }

-- ── Each argument ──

no_pairs : (texts : Texts) (b : Bindings) → b.count ≡ 0 → bindings_of texts b ≡ []
unfolding first_pairs
no_pairs texts b e =
    let z : min b.count (pair_room b.pairs.now) ≡ 0 = omega (arith, e) in
    rw z refl

module _ (texts : Texts) (n : ℕ) (call_name : List ℕ) (ps : List Param) (image : List ℕ) (args count : ℕ) (s t d m : List ℕ) (u : Used) (b : Bindings) where
  -- i arguments are done
  pub record SoFar (i : ℕ) (t' d' m' : List ℕ) (u' : Used) (b' : Bindings) : Type 0 where
    pub within : i ≤ count
    pub lent : b'.pairs.ghost_name ≡ b.pairs.ghost_name
    pub keeps : length b'.pairs.now ≡ length b.pairs.now
    pub so : (library : List Package) (void : ℕ) (rest : Rest)
        → arguments (ctx texts library void) n call_name true ps (given_from image args count) [] (world rest s t d m u)
        ≡ arguments (ctx texts library void) n call_name true (drop i ps) (given_from image (args + i) (count - i)) (bindings_of texts b') (world rest s t' d' m' u')
    pub grown : Grown (buffer t u.types) (buffer t' u'.types)
    pub bindable : Bindable texts t ps (bindings_of texts b')

  pub none_done : b.count ≡ 0 → SoFar 0 t d m u b
  none_done e =
      let a : args + 0 ≡ args = omega arith in
      let z : count - 0 ≡ count = omega arith in
      record {
        within = omega arith;
        lent = refl;
        keeps = refl;
        so = λ library void rest. rw (a, z, no_pairs texts b e) refl;
        grown = grown-same (buffer t u.types);
        bindable = rw (no_pairs texts b e) none;
      }

  module _ {i : ℕ} {t' d' m' : List ℕ} {u' : Used} {b' : Bindings} (h : SoFar i t' d' m' u' b') where
    pub all_done : count ≤ i → Arguments texts n call_name ps image args count s t d m u b t' d' m' b' (Ok (tt, u'))
    unfolding nodes_from provided_of stepped with_answer
    all_done l =
        let z : count - i ≡ 0 = omega arith in
        record {
          lent = h.lent;
          step = λ library void.
              record { step = λ rest. h.so library void rest ∙ rw z (arguments-none (ctx texts library void) n call_name true (drop i ps) (bindings_of texts b') (world rest s t' d' m' u')) };
          grown = h.grown;
        }

    module _ (long : count ≡ length ps) (l : i < count) {arg : Argument} (ea : arg ≡ argument_in image args ps i) where
      -- what the step of the argument takes for granted
      pub argument-ready : ((j : ℕ) → j < length ps → Meant texts t u.types (get_or ps j (param 0 0)).type)
          → ((j : ℕ) → j < count → Meant texts t u.types (get_or s (slot_of (tree_of image (get_or image (args + j) 0))) 0))
          → ((bs : List Binding) → Bindable texts t ps bs → length bs ≤ pair_room b.pairs.now) → ArgumentMeant texts s t' u'.types arg.expected arg.slot b'
      argument-ready mp mg room =
          let k : i < length ps = omega (arith, long) in
          let m₁ = mp i k in
          let p = get_or ps i (param 0 0) in
          let w = get_or s (slot_of (tree_of image (get_or image (args + i) 0))) 0 in
          let after = bindings_after (bind_slots texts t' (ty_of texts t p.type) w (bindings_of texts b')) in
          rw ea (record {
            expects = meant-grown h.grown m₁;
            provides = meant-grown h.grown (mg i l);
            room = rw (same-type h.grown m₁) (omega (arith, h.keeps, room after (more h.bindable i k t' w refl)));
          })

      module _ (mp : (j : ℕ) → j < length ps → Meant texts t u.types (get_or ps j (param 0 0)).type) {t'' d'' m'' : List ℕ} {b'' : Bindings} {r : Step ⊤}
          (a : Argues texts (λ c. argument c n call_name true (param arg.name arg.expected) (given arg.slot arg.span)) s t' d' m' u' b' t'' d'' m'' b'' r) where
        one : (library : List Package) (void : ℕ)
            → Steps (argument (ctx texts library void) n call_name true (get_or ps i (param 0 0))
            (given (slot_of (tree_of image (get_or image (args + i) 0))) (span_of (tree_of image (get_or image (args + i) 0)))) (bindings_of texts b'))
            s t' d' m' u' s t'' d'' m'' (with_answer (λ _. bindings_of texts b'') r)
        one library void = rw ea at (a.step library void)

        split : (library : List Package) (void : ℕ) (rest : Rest)
            → arguments (ctx texts library void) n call_name true ps (given_from image args count) [] (world rest s t d m u)
            ≡ next (stepped rest s t'' d'' m'' (with_answer (λ _. bindings_of texts b'') r))
            (λ more. arguments (ctx texts library void) n call_name true (drop (suc i) ps) (given_from image (args + i + 1) (count - suc i)) more)
        unfolding arguments nodes_from provided_of
        split library void rest =
            let k : i < length ps = omega (arith, long) in
            let z : count - i ≡ suc (count - suc i) = omega arith in
            h.so library void rest ∙ rw (drop-cons ps i (param 0 0) k, z, (one library void).step rest) refl

        pub more-done : {done : ⊤} {v : Used} → r ≡ Ok (done, v) → SoFar (i + 1) t'' d'' m'' v b''
        unfolding stepped with_answer
        more-done {v = v} o =
            let k : i < length ps = omega (arith, long) in
            let z : args + (i + 1) ≡ args + i + 1 = omega arith in
            let e = (one [] 0).step somewhere ∙ ap (λ x. stepped somewhere s t'' d'' m'' (with_answer (λ _. bindings_of texts b'') x)) o in
            let p = get_or ps i (param 0 0) in
            let x = given (slot_of (tree_of image (get_or image (args + i) 0))) (span_of (tree_of image (get_or image (args + i) 0))) in
            record {
              within = omega arith;
              lent = a.lent ∙ h.lent;
              keeps = a.keeps ∙ h.keeps;
              so = λ library void rest. split library void rest ∙ rw (o, z, add-one i) refl;
              grown = grown-then h.grown (argument_grows (ctx texts [] 0) n call_name true p x (bindings_of texts b') (world somewhere s t' d' m' u') e);
              bindable =
                  argument-binds (Bindable texts t ps) (ctx texts [] 0) n call_name p x (bindings_of texts b') (world somewhere s t' d' m' u') e h.bindable
                  (more h.bindable i k t' (get_or s x.slot 0) (rw (same-type h.grown (mp i k)) refl));
            }

        pub done-stops : {f : Refusal} {q : Step ⊤} → r ≡ Err f → IsErrAnd q (λ y. y ≡ f) → Arguments texts n call_name ps image args count s t d m u b t'' d'' m'' b'' q
        unfolding stepped with_answer
        done-stops {f} {q} o k = record {
          lent = a.lent ∙ h.lent;
          step = λ library void. record { step = λ rest. split library void rest ∙ rw (o, passed q k) refl };
          grown = rw (passed q k) tt;
        }

-- ── The return type ──

module _ (texts : Texts) (n slot ret : ℕ) (bs : List Binding) (s t d m : List ℕ) (u : Used) (mr : Meant texts t u.types ret) (added : Added) (t' : List ℕ)
    (e : (k : ℕ) → apply_word texts k bs ret (buffer t u.types) ≡ result_of k added t') {r : Step ℕ} (er : r ≡ added_of n u added) where
  pub returns-known : {w : ℕ} {v : Used} {s' : List ℕ} {q : Step Answer} → r ≡ Ok (w, v) → ((t d m : List ℕ) → Steps (set_known slot w) s t d m v s' t d m q)
      → Steps (known_return texts n slot ret bs t) s t d m u s' t' d m q
  returns-known p k = on-ok _ (applying texts n ret bs s t d m u mr added e er) p (k t' d m)

  pub returns-refused : {f : Refusal} {q : Step Answer} → r ≡ Err f → IsErrAnd q (λ y. y ≡ f) → Steps (known_return texts n slot ret bs t) s t d m u s t' d m q
  returns-refused p k = on-err _ (applying texts n ret bs s t d m u mr added e er) p k

-- ── The call ──

module _ (texts : Texts) (n slot token : ℕ) (call_name : List ℕ) (fun : Signature) (image : List ℕ) (args count : ℕ) (s t d m : List ℕ) (u : Used) where
  -- the check of the call
  abbrev Checked : (s' t' d' m' : List ℕ) → Step Answer → Type 0
  Checked s' t' d' m' q = (library : List Package) (void : ℕ)
      → Steps (check_call_args (ctx texts library void) n slot token call_name (as_slotted fun) (given_from image args count)) s t d m u s' t' d' m' q

  module _ {required : ℕ} (en : required ≡ length fun.params) where
    -- another number of arguments
    module _ (differ : count ≡ required → ⊥) {d' m' : List ℕ} {r : Step ⊤} (p : Steps (report n (argument_count token call_name required count)) s t d m u s t d' m' r) where
      pub miscounted : {done : ⊤} {v : Used} → r ≡ Ok (done, v) → Checked s t d' m' (Ok (Poison, v))
      unfolding check_call_args when stepped
      miscounted {v = v} o = λ library void.
          rw (length-given image count args, ← en, ne_eqb count required differ) (on-ok (λ _. return Poison) p {u₁ = v} o (record { step = λ rest. refl }))

      pub miscounted-full : {f : Refusal} {q : Step Answer} → r ≡ Err f → IsErrAnd q (λ y. y ≡ f) → Checked s t d' m' q
      unfolding check_call_args when
      miscounted-full o k = λ library void. rw (length-given image count args, ← en, ne_eqb count required differ) (on-err (λ _. return Poison) p o k)

    -- each argument, and then the return type
    module _ (e : count ≡ required) {b b' : Bindings} {t' d' m' : List ℕ} {r : Step ⊤}
        (a : Arguments texts n call_name fun.params image args count s t d m u b t' d' m' b' r) where
      pub call-refused : {f : Refusal} {q : Step Answer} → r ≡ Err f → IsErrAnd q (λ y. y ≡ f) → Checked s t' d' m' q
      unfolding check_call_args when with_answer
      call-refused {f} o k = λ library void. rw (length-given image count args, ← en, eq-eqb count required e) (on-err _ (a.step library void) {e = f} (rw o refl) k)

      module _ {done : ⊤} {ret : ℕ} {v : Used} (o : r ≡ Ok (done, v)) (er : ret ≡ fun.ret) where
        pub return-meant : Meant texts t u.types fun.ret → Meant texts t' v.types ret
        return-meant h = rw er (meant-grown (rw o at a.grown) h)

        pub call-returned : {s' t'' : List ℕ} {q : Step Answer} → ((d m : List ℕ) → Steps (known_return texts n slot ret (bindings_of texts b') t') s t' d m v s' t'' d m q)
            → Checked s' t'' d' m' q
        unfolding check_call_args returned tree when with_answer
        call-returned k = λ library void.
            rw (length-given image count args, ← en, eq-eqb count required e, ← er)
            (on-ok _ (a.step library void) {a = bindings_of texts b'} {u₁ = v} (rw o refl) (record { step = λ rest. (k d' m').step rest }))
