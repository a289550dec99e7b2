-- The theorem of two runs: from worlds that agree, each rule ends in worlds that agree, with the same answer; or the first run has a
-- diagnostic and only then may they part (an Import that only the longer library can serve). One induction over the tree. Assumes nothing.
use Rattle.std.specs.Prelude.{ℕ, ◌<◌, ◌≡◌, Bool, false, List}
use Rattle.std.proofs.Math.Path.{refl}
use Rattle.ast.specs.Node.{Node, Nodes, Cases, Values, slot_of}
use Rattle.ast.specs.Node.{Atom, Ident, Bin, Unary, Let, Fn, Match, Call, Field, Cast, Import, Extern, Record, Array, Absent, done, then, no_case, case, no_value, value}
use Rattle.ast.specs.Span.{span_of}
use Rattle.rules.specs.declared.Answer.{Answer}
use Rattle.rules.specs.World.{Ctx, World}
use Rattle.rules.specs.Steps.{is_poison}
use Rattle.rules.specs.Calls.{provided_of, callee_of}
use Rattle.rules.specs.Rules.{Branch, node, block, last, visit_all, cases, values, array, members}
use Rattle.tworuns.specs.Runs.{Runs, Relation, Each, end, and, own, void, SameAnswer, Worlds, type_grow}
use Rattle.tworuns.specs.Runs as R
use Rattle.tworuns.specs.Sound.{Sound, SoundAll, SoundCases, SoundValues}
use Rattle.laws.specs.SlotsOf.{all_slots, all_among_lem, all-cases, all-values}
use Rattle.laws.specs.Keeps.{Keeps}
use Rattle.laws.specs.Keeps as K
use Rattle.laws.specs.RulesKeep.{in_next, in_return, in_known, in_set, in_insert, in_on_types, in_fuse, in_unary, in_cast, in_let, in_field, in_value}
use Rattle.laws.specs.RulesKeep.{in_member, in_go_on, in_condition, in_matched, in_node, in_block, in_last, in_all, in_cases, in_values, in_members}
use Rattle.tworuns.specs.Logic.{Told, Any, told-kept, Parts, fine, q_next, p_next, p_return, p_known, p_set, p_on_types, Answers, Equal, told-enters}
use Rattle.tworuns.specs.Primitive.{p_poison, p_insert, p_hold, q_framed}
use Rattle.tworuns.specs.Types.{t_record}
use Rattle.tworuns.specs.Exprs.{In, Pairs, no_pairs, more-pairs, plain-same}
use Rattle.tworuns.specs.Operators.{p_fuse, p_unary, p_cast}
use Rattle.tworuns.specs.Calls.{SameProvided, q_call}
use Rattle.tworuns.specs.Rules.{Own, name_of, void-same, p_ident, p_let, p_type_from, p_field, p_value, p_member, p_array_of}
use Rattle.tworuns.specs.Rules.{p_condition, SameBranch, p_matched, q_go_on, q_fn, q_import_all, p_externs}

module _ (r : Runs) where
  poison-same : {a a' : Answer} → SameAnswer r a a' → is_poison a ≡ is_poison a'
  unfolding is_poison
  poison-same (R.known x) = refl
  poison-same R.poison = refl

  -- a visited node owns its slot
  pub slot-own : (t : Node) → Sound (Own r) (In r) t → slot_of t < r.first.void
  unfolding Sound slot_of
  slot-own (Atom n slot token k) h = h.0
  slot-own (Ident n slot name) h = h.0
  slot-own (Bin n slot token op a b) h = h.0
  slot-own (Unary n slot token op a) h = h.0
  slot-own (Let n slot name a) h = h.0
  slot-own (Fn n slot name ret args body) h = h.0
  slot-own (Match n slot cs token d) h = h.0
  slot-own (Call n slot target args) h = h.0
  slot-own (Field n slot target name) h = h.0
  slot-own (Cast n slot token a t) h = h.0
  slot-own (Import n slot token paths) h = h.0
  slot-own (Extern n slot token name fs) h = h.0
  slot-own (Record n slot token fs) h = h.0
  slot-own (Array n slot token ms) h = h.0
  slot-own (Absent n) h = absurd h

  provided-same : (xs : Nodes) → SoundAll (Own r) (In r) xs → Each (SameProvided r) (provided_of xs) (provided_of xs)
  unfolding provided_of Sound
  provided-same done h = end
  provided-same (then x xs) h = and (record { slot = own (slot-own x h.0); span = refl }) (provided-same xs h.1)

  abbrev Branches : Relation (List Branch)
  Branches b b' bs bs' = Each (SameBranch r) bs bs'

  abbrev one : Ctx
  one = r.first

  tells-node : (t : Node) (s : World) → Keeps Told Any s (node one t s)
  tells-node t = in_node told-kept told-enters one t (all_slots (λ _. tt) t)

  tells-block : (xs : Nodes) (s : World) → Keeps Told Any s (block one xs s)
  tells-block xs = in_block told-kept told-enters one xs (all_among_lem (λ _. tt) xs)

  tells-last : (a : Answer) (xs : Nodes) (s : World) → Keeps Told Any s (last one a xs s)
  tells-last a xs = in_last told-kept told-enters one a xs (all_among_lem (λ _. tt) xs)

  tells-all : (xs : Nodes) (s : World) → Keeps Told Any s (visit_all one xs s)
  tells-all xs = in_all told-kept told-enters one xs (all_among_lem (λ _. tt) xs)

  tells-cases : (n : ℕ) (cs : Cases) (s : World) → Keeps Told Any s (cases one n cs s)
  tells-cases n cs = in_cases told-kept told-enters one n cs (all-cases (λ _. tt) cs)

  tells-values : (vs : Values) (s : World) → Keeps Told Any s (values one vs s)
  tells-values vs = in_values told-kept told-enters one vs (all-values (λ _. tt) vs)

  tells-members : (n slot : ℕ) (a : Answer) (b : Bool) (xs : Nodes) (s : World) → Keeps Told Any s (members one n slot a b xs s)
  tells-members n slot a b xs = in_members told-kept told-enters one n slot a b xs tt (all_among_lem (λ _. tt) xs)

  mutual
    unfolding node Sound

    pub q_node : (t : Node) → Sound (Own r) (In r) t → {s s' : World} → Worlds r s s' → Parts r (Answers r) s s' (node r.first t s) (node r.second t s')
    q_node (Atom n slot token k) h {s} {s'} ws = fine (p_set r slot ws h.0 (plain-same r s.types s'.types k h.1))
    q_node (Ident n slot name) h ws = fine (p_ident r ws n slot name h.0 h.1)
    q_node (Bin n slot token op a b) h ws =
        q_next r _ _ (q_node a h.1 ws) (λ x. in_next told-kept _ (tells-node b) λ y. in_known told-kept x _ λ i. in_known told-kept y _ λ j. in_fuse told-kept one n slot token op i j tt)
        (λ x x' u u' g g' v y. q_next r _ _ (q_node b h.2 v) (λ z. in_known told-kept x _ λ i. in_known told-kept z _ λ j. in_fuse told-kept one n slot token op i j tt)
        (λ x₂ x₂' u₂ u₂' g₂ g₂' v₂ y₂. fine (p_known r _ _ v₂ y (λ i i' l. p_known r _ _ v₂ y₂ (λ j j' m. p_fuse r v₂ n slot token h.0 op l m)))))
    q_node (Unary n slot token op a) h ws =
        q_next r _ _ (q_node a h.1 ws) (λ x. in_known told-kept x _ λ i. in_unary told-kept one n slot token op i tt)
        (λ x x' u u' g g' v y. fine (p_known r _ _ v y (λ i i' l. p_unary r v n slot token h.0 op l)))
    q_node (Let n slot name a) h ws =
        q_next r _ _ (q_node a h.2 ws) (λ x. in_next told-kept _ (in_let told-kept n name x) λ o. in_next told-kept _ (in_insert told-kept name o) λ _. in_set told-kept slot _ tt)
        (λ x x' u u' g g' v y. fine (p_next r _ _ (p_let r v n name y) (λ o o' u₂ u₂' g₂ g₂' v₂ b.
        p_next r _ _ (p_insert r v₂ name o o' (name_of r v₂ h.1) b) (λ _ _ u₃ u₃' g₃ g₃' v₃ _. p_set r slot v₃ h.0 (void-same r u₃.types u₃'.types)))))
    q_node (Fn n slot name ret args body) h ws =
        q_fn r n slot name ret args _ _ h.0 h.1 h.2 h.3 h.4 (tells-block body) (λ s s' v. q_block body h.5 v) ws
    q_node (Match n slot cs token d) h ws =
        q_next r _ _ (q_cases n cs h.1 ws) (λ bs. in_next told-kept _ (tells-block d) λ a. in_matched told-kept one n slot bs a tt)
        (λ bs bs' u u' g g' v x. q_next r _ _ (q_block d h.2 v) (λ a. in_matched told-kept one n slot bs a tt)
        (λ a a' u₂ u₂' g₂ g₂' v₂ y. fine (p_matched r n slot h.0 x y v₂)))
    q_node (Call n slot target args) h ws = q_call r n slot h.0 (provided-same args h.2) ws (callee_of target) h.1 _ _ (q_all args h.2 ws)
    q_node (Field n slot target name) h ws =
        q_next r _ _ (q_node target h.1 ws) (λ x. in_known told-kept x _ λ i. in_field told-kept one n slot name i tt)
        (λ x x' u u' g g' v y. fine (p_known r _ _ v y (λ i i' l. p_field r v n slot name h.0 h.2 l)))
    q_node (Cast n slot token a t) h ws =
        q_next r _ _ (fine (p_type_from r ws n t h.2)) (λ to. in_next told-kept _ (tells-node a) λ x. in_known told-kept x _ λ i. in_cast told-kept one n slot token i to tt)
        (λ to to' u u' g g' v x. q_next r _ _ (q_node a h.1 v) (λ y. in_known told-kept y _ λ i. in_cast told-kept one n slot token i to tt)
        (λ x₂ x₂' u₂ u₂' g₂ g₂' v₂ y. fine (p_known r _ _ v₂ y (λ i i' l. p_cast r v₂ n slot token h.0 l (type_grow r g₂ g₂' to to' x)))))
    q_node (Import n slot token paths) h ws =
        q_next r _ _ (q_import_all r n token paths h.1 ws) (λ _. in_set told-kept slot _ tt)
        (λ _ _ u u' g g' v _. fine (p_set r slot v h.0 (void-same r u.types u'.types)))
    q_node (Extern n slot token name fs) h ws =
        fine (p_next r _ _ (p_externs r n fs h.2 ws) (λ xs xs' u u' g g' v x. p_next r _ _ (p_hold r v (record { name = name_of r v h.1; functions = x }))
        (λ _ _ u₂ u₂' g₂ g₂' v₂ _. p_set r slot v₂ h.0 (void-same r u₂.types u₂'.types))))
    q_node (Record n slot token fs) h ws =
        q_next r _ _ (q_values fs h.1 ws) (λ ps. in_next told-kept _ (in_on_types told-kept _ (K.t_record told-kept r.first.texts n ps)) λ w. in_set told-kept slot w tt)
        (λ ps ps' u u' g g' v x. fine (p_next r _ _ (p_on_types r _ _ v (t_record r v.types n ps ps' x)) (λ w w' u₂ u₂' g₂ g₂' v₂ y. p_set r slot v₂ h.0 y)))
    q_node (Array n slot token ms) h ws = q_array n slot token ms h.0 h.1 ws
    q_node (Absent n) h ws = absurd h

    pub q_block : (xs : Nodes) → SoundAll (Own r) (In r) xs → {s s' : World} → Worlds r s s' → Parts r (Answers r) s s' (block r.first xs s) (block r.second xs s')
    q_block done h ws = fine (p_return r ws (R.known void))
    q_block (then x xs) h ws = q_framed r ws _ _ (q_next r _ _ (q_node x h.0 ws) (λ a. tells-last a xs) (λ a a' u u' g g' v y. q_last xs h.1 y v))

    pub q_last : (xs : Nodes) → SoundAll (Own r) (In r) xs → {a a' : Answer} → SameAnswer r a a' → {s s' : World} → Worlds r s s'
        → Parts r (Answers r) s s' (last r.first a xs s) (last r.second a' xs s')
    q_last done h x ws = fine (p_return r ws x)
    q_last (then t ts) h x ws = q_next r _ _ (q_node t h.0 ws) (λ a. tells-last a ts) (λ a a' u u' g g' v y. q_last ts h.1 y v)

    pub q_all : (xs : Nodes) → SoundAll (Own r) (In r) xs → {s s' : World} → Worlds r s s' → Parts r (Equal r) s s' (visit_all r.first xs s) (visit_all r.second xs s')
    q_all done h ws = fine (p_return r ws refl)
    q_all (then x xs) h ws =
        q_next r _ _ (q_node x h.0 ws) (λ a. in_next told-kept _ (tells-all xs) λ b. in_return told-kept _)
        (λ a a' u u' g g' v y. q_next r _ _ (q_all xs h.1 v) (λ b. in_return told-kept _) (λ b b' u₂ u₂' g₂ g₂' v₂ e. fine (p_return r v₂ (cc (poison-same y, e)))))

    pub q_cases : (n : ℕ) (cs : Cases) → SoundCases (Own r) (In r) cs → {s s' : World} → Worlds r s s' → Parts r Branches s s' (cases r.first n cs s) (cases r.second n cs s')
    q_cases n no_case h ws = fine (p_return r ws end)
    q_cases n (case token x body cs) h ws =
        q_next r _ _ (q_node x h.0 ws)
        (λ a. in_next told-kept _ (in_condition told-kept one n token a) λ _. in_next told-kept _ (tells-block body) λ b. in_next told-kept _ (tells-cases n cs) λ bs. in_return told-kept _)
        (λ a a' u u' g g' v y. q_next r _ _ (fine (p_condition r v n token y))
        (λ _. in_next told-kept _ (tells-block body) λ b. in_next told-kept _ (tells-cases n cs) λ bs. in_return told-kept _)
        (λ _ _ u₂ u₂' g₂ g₂' v₂ _. q_next r _ _ (q_block body h.1 v₂) (λ b. in_next told-kept _ (tells-cases n cs) λ bs. in_return told-kept _)
        (λ b b' u₃ u₃' g₃ g₃' v₃ z. q_next r _ _ (q_cases n cs h.2 v₃) (λ bs. in_return told-kept _)
        (λ bs bs' u₄ u₄' g₄ g₄' v₄ zs. fine (p_return r v₄ (and (record { token = refl; answer = z }) zs))))))

    pub q_values : (vs : Values) → SoundValues (Own r) (In r) vs → {s s' : World} → Worlds r s s' → Parts r (Pairs r) s s' (values r.first vs s) (values r.second vs s')
    q_values no_value h {s} {s'} ws = fine (p_return r ws (no_pairs r s.types s'.types))
    q_values (value name x vs) h ws =
        q_next r _ _ (q_node x h.1 ws) (λ a. in_next told-kept _ (in_value told-kept a) λ w. in_next told-kept _ (tells-values vs) λ ps. in_return told-kept _)
        (λ a a' u u' g g' v y. q_next r _ _ (fine (p_value r v y)) (λ w. in_next told-kept _ (tells-values vs) λ ps. in_return told-kept _)
        (λ w w' u₂ u₂' g₂ g₂' v₂ z. q_next r _ _ (q_values vs h.2 v₂) (λ ps. in_return told-kept _)
        (λ ps ps' u₃ u₃' g₃ g₃' v₃ zs. fine (p_return r v₃ (more-pairs r (name_of r v₃ h.0) (type_grow r g₃ g₃' w w' z) zs)))))

    pub q_array : (n slot token : ℕ) (xs : Nodes) → slot < r.first.void → SoundAll (Own r) (In r) xs → {s s' : World} → Worlds r s s'
        → Parts r (Answers r) s s' (array r.first n slot token xs s) (array r.second n slot token xs s')
    q_array n slot token done o h ws = fine (p_poison r ws n refl)
    q_array n slot token (then x xs) o h ws =
        q_next r _ _ (q_node x h.0 ws) (λ a. tells-members n slot a false xs) (λ a a' u u' g g' v y. q_members n slot y false xs o h.1 v)

    pub q_members : (n slot : ℕ) {a a' : Answer} → SameAnswer r a a' → (b : Bool) (xs : Nodes) → slot < r.first.void → SoundAll (Own r) (In r) xs → {s s' : World} → Worlds r s s'
        → Parts r (Answers r) s s' (members r.first n slot a b xs s) (members r.second n slot a' b xs s')
    q_members n slot y b done o h ws = fine (p_array_of r ws n slot o y b)
    q_members n slot {a} y b (then x xs) o h ws =
        q_next r _ _ (q_node x h.0 ws)
        (λ z. in_next told-kept _ (in_member told-kept one n (span_of x) a z) λ m. in_go_on told-kept m b _ λ q. tells-members n slot a q xs)
        (λ a₁ a₁' u u' g g' v z. q_next r _ _ (fine (p_member r v n (span_of x) y z)) (λ m. in_go_on told-kept m b _ λ q. tells-members n slot a q xs)
        (λ m m' u₂ u₂' g₂ g₂' v₂ e. rw (← e) (q_go_on r m b _ _ v₂ (λ q. q_members n slot y q xs o h.1 v₂))))
