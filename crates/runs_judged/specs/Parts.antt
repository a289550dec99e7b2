-- Match, Array and Record, but for the visits of parts; frames; and lists of parts leave the slots of others. One lemma for each. Assumes nothing.
use Rattle.std.specs.Prelude.{ℕ, ◌<◌, ◌≡◌, Bool}
use Rattle.std.proofs.Common.{arith, ◌∙◌}
use Rattle.std.proofs.Math.Path.{refl, sym, ap, subst}
use Rattle.std.proofs.Math.Bool.{true}
use Rattle.std.proofs.lemmas.Bool.{false≢true}
use mathlib.Core.List.{List, [], ◌∷◌, ◌++◌}
use Rattle.std.proofs.Math.ListN.{get_or}
use Rattle.tok.specs.Step.{Result, ok, refused, Refusal, next, ◌>>=◌, when}
use Rattle.tok.specs.declared.Span.{Span}
use Rattle.ptype.specs.Ty.{Ty, Fields, rec, wrap, same_ty, bool_ty, array_ty, contains_slot}
use Rattle.ptype.specs.Words.{ty_of}
use Rattle.ptype.specs.Add.{Buffer, add_record}
use Rattle.ptype.proofs.SameLaws.{same_ty-true}
use Rattle.ast.specs.Node.{Node, Nodes, Cases, Values, done, then, no_case, case, no_value, value}
use Rattle.err.specs.Message.{match_cases}
use Rattle.rules.specs.declared.Answer.{Answer}
use Rattle.rules.specs.declared.Answer.TheVariants.{Known, Poison}
use Rattle.rules.specs.World.{Ctx, Local, World, Walk, with_env}
use Rattle.rules.specs.Steps.{Done, skip, if_known, report, ty, tree, ty_tree, on_types, framed, apart}
use Rattle.rules.specs.declared.Member.{Member}
use Rattle.rules.specs.declared.Member.TheVariants.{Alike as alike, Silent as silent, Differs as differs}
use Rattle.rules.specs.Rules.{value_type, member_types, member, go_on, array_of, condition, Branch, compare_branches, matched, visit_all, cases, values}
use Rattle.rules.specs.Visited.{visited_below, visited_among, visited_in_cases, visited_in_values}
use Rattle.laws.specs.SlotsOf.{SlotsOf, SlotsOfAll, SlotsOfCases, SlotsOfValues}
use Rattle.laws.specs.Keeps.{Keeps}
use Rattle.laws.specs.RulesKeep as K
use Rattle.accepts.specs.Count.{total, total-append, count}
use Rattle.rules.specs.Visited.{slots_of}
use Rattle.accepts.proofs.OtherSlots.{among-hold}
use Rattle.accepts.proofs.OtherSlots as O
use Rattle.onerun.specs.Claim.{All, end, and, Is, Good, Recorded, Holds, AnswerOk}
use Rattle.onerun.specs.Claim as C
use Rattle.onerun.specs.Grows.{all_map, is-tree, typed_free, typed-known}
use Rattle.onerun.specs.Logic.{Claimed, Silent, before, Gives, gives, stopped, GivesT, typed, stopped_t, g_next, g_map, g_return, g_when}
use Rattle.onerun.proofs.Scope.{g_framed, g_apart}
use Rattle.onerun.proofs.Rules.{BranchOk, branch-later}
use Rattle.onerun.proofs.Types.{PairsAre, PairsTyped, t_wrap, t_record}
use Rattle.stops.specs.Ready.{Ready, Free, Leaves, Any, leaves_kept, leaves_enters}
use Rattle.runs_judged.specs.Claim as H
use Rattle.runs_judged.specs.Claim.{same-trans, same-world, same-slots, Keep, OwnAnswer, is_known, is_poison, no-poison, has-known, Fixed}
use Rattle.runs_judged.specs.Claim.{fixed_back, Says, Tells, earlier, h_known, h_step, h_map, h_report, Built, h_on_types, h_set}
use Rattle.runs_judged.specs.Rules.{Rule}
use Rattle.runs_judged.specs.Arguments.{tree_in}
use Rattle.runs_judged.specs.Declares.{h_if_known}

-- ── Slots of others ──

module _ (Q : ℕ → Type 0) where
  front : (xs ys : List Node) → O.Holds Q (xs ++ ys) → O.Holds Q xs
  front xs ys h = record { holds = λ q l. h.holds q (omega (arith, total-append (λ x. count q (slots_of x)) xs ys)) }

  back : (xs ys : List Node) → O.Holds Q (xs ++ ys) → O.Holds Q ys
  back xs ys h = record { holds = λ q l. h.holds q (omega (arith, total-append (λ x. count q (slots_of x)) xs ys)) }

  one-hold : (x : Node) → O.Holds Q (x ∷ visited_below x) → SlotsOf Q x
  unfolding visited_among SlotsOfAll total
  one-hold x h = (among-hold Q (then x done) (record { holds = λ q l. h.holds q (omega (arith, total-append (λ x. count q (slots_of x)) (x ∷ visited_below x) [])) })).0

  values-hold : (vs : Values) → O.Holds Q (visited_in_values vs) → SlotsOfValues Q vs
  unfolding visited_in_values SlotsOfValues
  values-hold no_value h = tt
  values-hold (value name x vs) h = (one-hold x (front (x ∷ visited_below x) (visited_in_values vs) h), values-hold vs (back (x ∷ visited_below x) (visited_in_values vs) h))

  cases-hold : (cs : Cases) → O.Holds Q (visited_in_cases cs) → SlotsOfCases Q cs
  unfolding visited_in_cases SlotsOfCases
  cases-hold no_case h = tt
  cases-hold (case token x body cs) h =
      let i = front ((x ∷ visited_below x) ++ visited_among body) (visited_in_cases cs) h in (
        one-hold x (front (x ∷ visited_below x) (visited_among body) i),
        among-hold Q body (back (x ∷ visited_below x) (visited_among body) i),
        cases-hold cs
            (back ((x ∷ visited_below x) ++ visited_among body) (visited_in_cases cs) h),
      )

module _ (c : Ctx) (ys : List Node) where
  pub free : (xs : List Node) {s : World} → Ready s (xs ++ ys) → O.Holds (Free ys) xs
  free xs h = record { holds = λ q l k. omega (arith, h.once q, total-append (λ x. count q (slots_of x)) xs ys) }

  pub all-leave : (xs : Nodes) (s : World) → Ready s (visited_among xs ++ ys) → Keeps (Leaves ys) Any s (visit_all c xs s)
  all-leave xs s h = K.in_all (leaves_kept ys) (leaves_enters ys) c xs (among-hold (Free ys) xs (free (visited_among xs) h)) s

  pub cases-leave : (n : ℕ) (cs : Cases) (s : World) → Ready s (visited_in_cases cs ++ ys) → Keeps (Leaves ys) Any s (cases c n cs s)
  cases-leave n cs s h = K.in_cases (leaves_kept ys) (leaves_enters ys) c n cs (cases-hold (Free ys) cs (free (visited_in_cases cs) h)) s

  pub values-leave : (vs : Values) (s : World) → Ready s (visited_in_values vs ++ ys) → Keeps (Leaves ys) Any s (values c vs s)
  values-leave vs s h = K.in_values (leaves_kept ys) (leaves_enters ys) c vs (values-hold (Free ys) vs (free (visited_in_values vs) h)) s

module _ (c : Ctx) (type : ℕ → Ty) where
  abbrev R : C.Run
  R = H.silent c

  -- ── Frames ──

  -- a claim that asks nothing of names in scope
  abbrev NoEnv : {A : Type 0} → (World → A → Type 0) → Type 0
  NoEnv {A} P = (u : World) (e : List Local) (a : A) → P u a → P (with_env u e) a

  fixed_env : {u : World} {e : List Local} → Fixed c type (with_env u e) → Fixed c type u
  fixed_env f = record { at = λ q r. f.at q (record { other = r.other; low = r.low }); void = f.void }

  says_env : {A : Type 0} {P : World → A → Type 0} {s : World} → NoEnv P → NoEnv (Says c type P s)
  says_env n u e a x = record { keep = record { word = x.keep.word }; fact = λ f. n u e a (x.fact (fixed_env f)) }

  -- after a frame the names are as before
  env-back : {A : Type 0} {P : World → A → Type 0} {s : World} {e : List Local} (x : Result World Refusal A)
      → Tells c type P s (next x (λ a after. ok a (with_env after e))) → Tells c type (λ u a. P u a × (u.env ≡ e)) s (next x (λ a after. ok a (with_env after e)))
  env-back (ok a v) (gives t p) = gives t (λ z. let i = p z in
      record { grown = i.grown; recorded = i.recorded; holds = i.holds; value = record { keep = i.value.keep; fact = λ q. (i.value.fact q, refl) } })
  env-back (refused r) g = stopped

  pub h_framed : {A : Type 0} {P : World → A → Type 0} → NoEnv P → (m : Walk A) {s : World} → Claimed R s → Tells c type P s (m s)
      → Tells c type (λ u a. P u a × (u.env ≡ s.env)) s (framed m s)
  unfolding framed
  h_framed {A} {P} n m {s} h g = env-back (m s) (g_framed R {Q = Says c type P s} (says_env n) m h g)

  pub h_apart : {A : Type 0} {P : World → A → Type 0} → NoEnv P → (m : Walk A) {s : World} → Claimed R s → Tells c type P (with_env s []) (m (with_env s []))
      → Tells c type (λ u a. P u a × (u.env ≡ s.env)) s (apart m s)
  unfolding apart framed
  h_apart {A} {P} n m {s} h g =
      env-back (m (with_env s [])) (g_apart R {Q = Says c type P s} (says_env n) m h
      (g_map R (λ u a t p z. record { keep = record { word = (p z).value.keep.word }; fact = (p z).value.fact }) g))

  -- ── Match ──

  pub h_condition : (n token : ℕ) {i : ℕ} {a : Answer} {s : World} → Claimed R s → OwnAnswer i a → (Silent R s → AnswerOk R s a)
      → Gives R (λ u (_ : Done). (u ≡ s) × (Fixed c type s → type i ≡ bool_ty)) s (condition c n token a s)
  unfolding condition ty_tree ty tree
  h_condition n token h o k = h_if_known c _ h o k (λ i. g_when R _ _ (λ q. g_return R h (λ z. (refl, λ f. f.at _ (i z) ∙ same_ty-true _ _ q))) (λ _. h_report c type h n _))

  -- a branch of a type
  abbrev pub EndsIn : Ty → Branch → Type 0
  EndsIn t b = (q : ℕ) → OwnAnswer q b.answer → type q ≡ t

  h_branches : (n d : ℕ) (bs : List Branch) {s : World} → Claimed R s → (Silent R s → Recorded R s d) → (Silent R s → All (BranchOk R s) bs)
      → Gives R (λ u (_ : Done). (u ≡ s) × (Fixed c type s → All (EndsIn (type d)) bs)) s (compare_branches c n d bs s)
  unfolding compare_branches ty_tree ty tree if_known
  h_branches n d [] h e k = g_return R h (λ z. (refl, λ f. end))
  h_branches n d (b ∷ bs) {s} h e k =
      g_next R _ (one b.answer (λ z. first (k z)))
      (λ _ u t y. g_map R (λ v _ t₁ p z. let i = (y (before R t₁ z)).value in let j = (p z).value in
      (j.0 ∙ i.0, λ f. and (i.1 f) (subst (λ (w : World). Fixed c type w → All (EndsIn (type d)) bs) i.0 j.1 f)))
      (h_branches n d bs (λ z. (y z).holds) (λ z. (y z).recorded d (e (before R t z))) (λ z. all_map (branch-later R (y z)) (rest (k (before R t z))))))
    where
      first : All (BranchOk R s) (b ∷ bs) → AnswerOk R s b.answer
      first (and x xs) = x.answer

      rest : All (BranchOk R s) (b ∷ bs) → All (BranchOk R s) bs
      rest (and x xs) = xs

      only : {q : ℕ} → type q ≡ type d → (r : ℕ) → OwnAnswer r (Known q) → type r ≡ type d
      only e r is_known = e

      one : (a : Answer) → (Silent R s → AnswerOk R s a) → Gives R (λ u (_ : Done). (u ≡ s) × (Fixed c type s → (q : ℕ) → OwnAnswer q a → type q ≡ type d)) s
          (if_known a (λ slot. ◌>>=◌ (ty_tree c slot) (λ t. ◌>>=◌ (ty_tree c d) (λ x. when (same_ty t x) skip (report n (match_cases b.token x t))))) s)
      one (Known q) i = g_when R _ _ (λ w. g_return R h (λ z. (refl, λ f. only (f.at q (has-known (i z)) ∙ (same_ty-true _ _ w ∙ sym (f.at d (e z))))))) (λ _. h_report c type h n _)
      one Poison i = g_return R h (λ z. absurd (no-poison (i z)))

  pub h_matched : (n slot : ℕ) → slot < c.void → {d : ℕ} {a : Answer} (bs : List Branch) {s : World} → (Silent R s → get_or s.slots slot 0 ≡ 0)
      → Claimed R s → OwnAnswer d a → (Silent R s → AnswerOk R s a)
      → (Silent R s → Recorded R s d) → (Silent R s → All (BranchOk R s) bs) → Tells c type (Rule c type slot s ((type slot ≡ type d) × All (EndsIn (type d)) bs)) s (matched c n slot bs a s)
  unfolding matched ty
  h_matched n slot low {d} bs {s} unset h o k e ks =
      h_known c type _ h o k (h_step c type _ (h_branches n d bs h e ks) (λ _ u x. as_was x.0) (λ _ u t x.
      h_map c type (λ v b t₁ p z fx.
      let z₁ = before R t₁ z in
      let fu = earlier c type (x z₁).holds (p z) fx in
      let w = (p z).value.fact fx in
      let i = (x z₁).value in
      let fs = subst (Fixed c type) i.0 fu in
      record { ok = (w.is ∙ sym (fu.at d ((x z₁).recorded d (e (before R t z₁)))), i.1 fs); same = same-trans (same-world i.0) w.same })
      (h_set c type slot low (λ z. ap (λ (w : World). get_or w.slots slot 0) (x z).value.0 ∙ unset (before R t z)) (λ z. (x z).holds)
      (λ z. (x z).holds.slots d ((x z).recorded d (e (before R t z)))))))
    where
      as_was : {s u : World} → u ≡ s → Keep s u
      as_was e = record { word = λ q _. ap (λ (w : World). get_or w.slots q 0) e }

  -- ── Array ──

  pub record MemberOk (s : World) (i j : ℕ) (u : World) (m : Member) : Type 0 where
    pub same : u ≡ s
    pub is : m ≡ alike
    pub type' : Fixed c type s → type j ≡ type i

  h_member_types : (n : ℕ) (span : Span) (i j : ℕ) {s : World} → Claimed R s → (Silent R s → Recorded R s i) → (Silent R s → Recorded R s j)
      → Gives R (MemberOk s i j) s (member_types c n span i j s)
  unfolding member_types ty_tree ty tree
  h_member_types n span i j {s} h x y =
      g_when R _ _ (λ e. g_return R h (λ z. absurd (false≢true (rw (typed-known R ((h z).slots j (y z)) tt, typed-known R ((h z).slots i (x z)) tt) at e))))
      (λ _. g_when R _ _ (λ e. g_return R h (λ z. record { same = refl; is = refl; type' = λ f. f.at j (y z) ∙ (same_ty-true _ _ e ∙ sym (f.at i (x z))) }))
      (λ _. g_next R _ (h_report c type {Q = λ _ _. ⊥} h n _) (λ _ u t f. g_return R (λ z. (f z).holds) (λ z. absurd (f z).value))))

  pub h_member : (n : ℕ) (span : Span) {i j : ℕ} {a b : Answer} {s : World} → Claimed R s → OwnAnswer i a → OwnAnswer j b → (Silent R s → AnswerOk R s a)
      → (Silent R s → AnswerOk R s b) → Gives R (MemberOk s i j) s (member c n span a b s)
  unfolding member
  h_member n span {i} {j} {s = s} h is_known is_known k l = h_member_types n span i j h (λ z. has-known (k z)) (λ z. has-known (l z))
  h_member n span {s = s} h is_known is_poison k l = g_return R h (λ z. absurd (no-poison (l z)))
  h_member n span {s = s} h is_poison o k l = g_return R h (λ z. absurd (no-poison (k z)))

  abbrev IsAlike : Member → Type 0
  IsAlike alike = Unit {0}
  IsAlike silent = ⊥
  IsAlike differs = ⊥

  pub h_go_on : {Q : World → Answer → Type 0} (m : Member) (b : Bool) (f : Bool → Walk Answer) {s : World} → Claimed R s → (Silent R s → m ≡ alike) → (Silent R s → b ≡ true → ⊥)
      → ((b : Bool) → (Silent R s → b ≡ true → ⊥) → Tells c type Q s (f b s)) → Tells c type Q s (go_on m b f s)
  unfolding go_on
  h_go_on alike b f h k l g = g b l
  h_go_on silent b f h k l g = g true (λ z _. subst IsAlike (sym (k z)) tt)
  h_go_on differs b f h k l g = g_return R h (λ z. absurd (subst IsAlike (sym (k z)) tt))

  -- a word's tree
  is_at : {b : Buffer} {w : ℕ} (x : Ty) → Good R b w → x ≡ ty_of c.texts b.words w → Is R b w x
  is_at {b} {w} x g e = subst (λ (y : Ty). Is R b w y) (sym (e ∙ is-tree R g.is)) g.is

  pub h_array_of : (n slot : ℕ) → slot < c.void → {i : ℕ} {a : Answer} {s : World} → (Silent R s → get_or s.slots slot 0 ≡ 0) → Claimed R s → OwnAnswer i a
      → (Silent R s → AnswerOk R s a) → (Silent R s → Recorded R s i) → (b : Bool) → (Silent R s → b ≡ true → ⊥)
      → Tells c type (Rule c type slot s (type slot ≡ array_ty (type i))) s (array_of c n slot a b s)
  unfolding array_of ty contains_slot
  h_array_of n slot low {i} {s = s} unset h o k e b l =
      h_known c type _ h o k (g_when R _ _ (λ q. g_return R h (λ z. absurd (l z q)))
      (λ _. h_step c type _ (h_on_types c type {Q = λ d w. Is R d w (wrap 7 (tree_in c s (get_or s.slots i 0)))} _ h
      (λ z. t_wrap R n 7 _ refl (is_at (tree_in c s (get_or s.slots i 0)) ((h z).slots i (e z)) refl))) (λ w u x. same-slots x.slots) (λ w u t x.
      h_map c type (λ v a t₁ p z fx.
      let z₁ = before R t₁ z in
      let z₀ = before R t z₁ in
      let fu = earlier c type (x z₁).holds (p z) fx in
      let fs = fixed_back c type (h z₀) (x z₁).grown (same-slots (x z₁).value.slots) fu in
      let y = (p z).value.fact fx in
      record { ok = y.is ∙ (is-tree R (x z₁).value.is ∙ ap (wrap 7) (sym (fs.at i (e z₀)))); same = same-trans (x z₁).value.same y.same })
      (h_set c type slot low (λ z. ap (λ (l : List ℕ). get_or l slot 0) (x z).value.slots ∙ unset (before R t z)) (λ z. (x z).holds)
      (λ z. record { tree = wrap 7 (tree_in c s (get_or s.slots i 0)); is = (x z).value.is; no_slot = λ q. typed_free R ((h (before R t z)).slots i (e (before R t z))) tt })))))

  -- ── Record ──

  pub h_value : {i : ℕ} {a : Answer} {s : World} → Claimed R s → OwnAnswer i a → (Silent R s → AnswerOk R s a)
      → Gives R (λ u (w : ℕ). (u ≡ s) × (w ≡ get_or s.slots i 0)) s (value_type a s)
  unfolding value_type ty
  h_value h is_known k = g_return R h (λ z. (refl, refl))
  h_value {s = s} h is_poison k = g_return R h (λ z. absurd (no-poison (k z)))

  -- of whatever the pairs are
  t_any : {A D : Type 0} (P : D → Type 0) (Q : D → Buffer → A → Type 0) {b : Buffer} {x : Result Buffer Refusal A} → ((y : D) → P y → GivesT R (Q y) b x) → (y : D) → P y
      → GivesT R (λ d a. (y : D) → P y → Q y d a) b x
  t_any {A} {D} P Q {b} {x} k y p = go x k (k y p)
    where
      out : {q : Buffer → A → Type 0} {a : A} {d : Buffer} → GivesT R q b (ok a d) → q d a
      out (typed g v) = v

      go : (x : Result Buffer Refusal A) → ((y : D) → P y → GivesT R (Q y) b x) → GivesT R (Q y) b x → GivesT R (λ d a. (y : D) → P y → Q y d a) b x
      go (ok a d) k (typed g v) = typed g (λ y p. out (k y p))
      go (refused r) k g = stopped_t

  pub h_record : (n : ℕ) (ps : List ℕ) {s : World} → Claimed R s → (Silent R s → PairsTyped R s.types ps)
      → Gives R (Built c type (λ d w. (fs : Fields) → PairsAre R s.types ps fs → Is R d w (rec fs)) s) s (on_types (add_record c.texts n ps) s)
  h_record n ps {s} h k = h_on_types c type {Q = λ d w. (fs : Fields) → PairsAre R s.types ps fs → Is R d w (rec fs)} _ h
      (λ z. t_any (PairsAre R s.types ps) (λ fs d w. Is R d w (rec fs)) (λ fs p. t_record R n ps p) (k z).fields (k z).are)
