-- No stop is met: from a world of which `Holds` is claimed, and before nodes whose slots have no type yet, the rules with every stop in its
-- place do what the rules do. By induction on trees, a line for each kind of node. Assumes nothing.
use Rattle.std.specs.Prelude.{ℕ, suc, ◌≡◌, refl, Bool, false, List, [], ◌∷◌, ◌++◌}
use Rattle.std.proofs.Common.{arith, true≢false, le-leb}
use Rattle.facts.specs.Tests.{neither}
use Rattle.tok.specs.Step.{Result, Refusal, next}
use Rattle.ast.specs.Node.{Node, Nodes, Cases, Values, slot_of}
use Rattle.ast.specs.Node.{Atom, Ident, Bin, Unary, Let, Fn, Match, Call, Field, Cast, Import, Extern, Record, Array, Absent, done, then, no_case, case, no_value, value}
use Rattle.ast.specs.Span.{span_of}
use Rattle.rules.specs.declared.Answer.{Answer}
use Rattle.rules.specs.declared.Answer.TheVariants.{Known}
use Rattle.rules.specs.World.{Ctx, World, Walk}
use Rattle.rules.specs.Steps.{is_poison}
use Rattle.rules.specs.Calls.{callee_of, provided_of}
use Rattle.rules.specs.Rules.{node, block, last, visit_all, cases, values, array, members}
use Rattle.rules.specs.Visited.{visited_below, visited_among, visited_in_cases, visited_in_values}
use Rattle.laws.specs.RulesKeep as K
use Rattle.laws.specs.Owns.{Owns, knows, poisons, own-node}
use Rattle.onerun.specs.Claim.{All, end, and, NameAt, Recorded, Holds, AnswerOk}
use Rattle.onerun.specs.Claim as C
use Rattle.onerun.specs.Grows.{all_map}
use Rattle.onerun.specs.Logic.{After, Gives, gives, stopped, g_next, g_return, answer-later}
use Rattle.onerun.proofs.Seen.{NodeOk}
use Rattle.onerun.proofs.Scope.{g_insert, g_hold}
use Rattle.onerun.specs.Proper.{Proper, ProperAll, ProperCases, ProperValues}
use Rattle.onerun.proofs.Rules.{g_let, g_value, g_condition, g_member, BranchOk, branch-later, g_imports}
use Rattle.onerun.proofs.Functions.{Below, g_type_from, g_externs}
use Rattle.onerun.proofs.Nodes.{Visited, proper-slot, g_node, g_block}
use Rattle.stops.specs.Guards.{last_frame, atom_kind, operator}
use Rattle.stops.specs.Guarded.{node_or_stop, block_or_stop, last_or_stop, visit_all_or_stop, cases_or_stop, values_or_stop, array_or_stop, members_or_stop}
use Rattle.stops.specs.Ready.{Fits, Ready, ready-left, ready_assoc, ready-below, ready-own, ready-fits, ready-then, Leaves, leaves_kept, node_leaves, block_leaves, cases-leave, arguments-free}
use Rattle.stops.specs.Past.{run, quiet, atom-test, lex_type, lex_fn, lex_externs, past-unless, past-checked, next-same, then_same, then-left}
use Rattle.stops.specs.Past.{known_same, go_on-same, framed-same, past-expect, past-answer, past-branches, fn_same, answered-same}
use Rattle.stops.specs.SameCalls.{AllTyped}
use Rattle.stops.proofs.SameCalls.{call_same}

module _ (c : Ctx) where
  -- ── What the arguments of a call, and the cases of a Match, leave ──

  -- a node's answer, where it is its own slot's
  own-typed : (slot : ℕ) {args : List ℕ} {ys : List Node} {s : World} {x : Result World Refusal Answer} → Owns slot x → Gives (run c) (NodeOk (run c) slot args ys) s x
      → Gives (run c) (λ u a. is_poison a ≡ false → Recorded (run c) u slot) s x
  unfolding is_poison
  own-typed slot (knows u) (gives t k) = gives t (λ z. let x = k z in record { grown = x.grown; recorded = x.recorded; holds = x.holds; value = λ e. has x.value.own.answer })
    where
      has : AnswerOk (run c) u (Known slot) → Recorded (run c) u slot
      has (C.known e) = e
  own-typed slot (poisons u) (gives t k) = gives t (λ z. let x = k z in record { grown = x.grown; recorded = x.recorded; holds = x.holds; value = λ e. absurd (true≢false e) })
  own-typed slot o stopped = stopped

  all_typed : (xs : Nodes) → ProperAll (Below (run c)) (NameAt (run c)) xs → {s : World} → Holds (run c) s → Gives (run c) (AllTyped c (provided_of xs)) s (visit_all c xs s)
  unfolding visit_all provided_of ProperAll
  all_typed done p h = g_return (run c) (λ _. h) (λ _. record { typed = λ e. end; low = end })
  all_typed (then x xs) p {s} h =
      g_next (run c) _ (own-typed (slot_of x) (own-node c x s) (g_node (run c) x p.0 (λ _. h))) (λ a u t k.
      g_next (run c) _ (all_typed xs p.1 (k (quiet c)).holds) (λ b v t₁ k₁.
      g_return (run c) (λ z. (k₁ z).holds) (λ z. record {
        typed = λ e. let n = neither (is_poison a) b e in and ((k₁ z).recorded (slot_of x) ((k (quiet c)).value n.0)) ((k₁ z).value.typed n.1);
        low = and (let l = proper-slot (run c) x p.0 in omega arith) (k₁ z).value.low;
      })))

  cases-typed : (n : ℕ) (cs : Cases) → ProperCases (Below (run c)) (NameAt (run c)) cs → {s : World} → Holds (run c) s → Gives (run c) (λ u bs. All (BranchOk (run c) u) bs) s (cases c n cs s)
  unfolding cases ProperCases
  cases-typed n no_case p h = g_return (run c) (λ _. h) (λ _. end)
  cases-typed n (case token x body cs) p h =
      g_next (run c) _ (g_node (run c) x p.0 (λ _. h)) (λ a u t k.
      g_next (run c) _ (g_condition (run c) (λ z. (k z).holds) n token (λ z. (k z).value.own.answer)) (λ _ u₁ t₁ k₁.
      g_next (run c) _ (g_block (run c) body p.1 (λ z. (k₁ z).holds)) (λ b u₂ t₂ k₂.
      g_next (run c) _ (cases-typed n cs p.2 (k₂ (quiet c)).holds) (λ bs u₃ t₃ k₃.
      g_return (run c) (λ z. (k₃ z).holds) (λ z. and (record { answer = answer-later (run c) (k₃ z) (k₂ (quiet c)).value.answer }) (k₃ z).value)))))

  -- ── Trees ──

  -- what is still to be visited, after a step that writes none of its slots
  stay : (ys : List Node) {s u : World} → Ready s ys → Leaves ys s u → Ready u ys
  stay ys d l = ready-then [] ys d l

  -- a node is visited, and then nodes of whose slots it writes none
  then-node : {B : Type 0} (x : Node) (ys : List Node) (f g : Answer → Walk B) {r : Result World Refusal Answer} {s : World}
      → Proper (Below (run c)) (NameAt (run c)) x → Ready s ((x ∷ visited_below x) ++ ys) → Holds (run c) s
      → (Ready s (x ∷ visited_below x) → r ≡ node c x s)
      → ((a : Answer) (u : World) → After (run c) (Visited (run c) x) s u a → Ready u ys → f a u ≡ g a u) → next r f ≡ next (node c x s) g
  then-node x ys f g {s = s} p d h e k =
      then-left c ys f g (e (ready-left (x ∷ visited_below x) ys d)) (g_node (run c) x p (λ _. h)) (node_leaves c ys x s d)
      (λ a u q v. k a u q (ready-then (x ∷ visited_below x) ys d v))

  mutual
    unfolding node node_or_stop Proper visited_below slot_of Fits atom_kind operator last_frame

    pub same-node : (f : ℕ) (x : Node) → Proper (Below (run c)) (NameAt (run c)) x → {s : World} → Ready s (x ∷ visited_below x) → Holds (run c) s → node_or_stop c (suc f) x s ≡ node c x s
    same-node f (Atom n slot token k) p d h =
        let k₁ = ready-fits (Atom n slot token k) [] d in
        past-checked slot _ (ready-own (Atom n slot token k) [] d) (past-unless 11 32 (atom-test k k₁.0 k₁.1) _ refl)
    same-node f (Ident n slot name) p d h = past-checked slot _ (ready-own (Ident n slot name) [] d) refl
    same-node f (Bin n slot token op l r) p {s} d h =
        let d₁ = ready-below (Bin n slot token op l r) _ d in
        past-checked slot _ (ready-own (Bin n slot token op l r) _ d)
        (then-node l (r ∷ visited_below r) _ _ p.1 d₁ h (λ y. same-node f l p.1 y h) (λ a u k y.
        then_same c _ _ (same-node f r p.2 y k.holds) (g_node (run c) r p.2 (λ _. k.holds)) (λ b w k₁.
        known_same c _ _ (answer-later (run c) k₁ k.value.own.answer) (λ i ei.
        known_same c _ _ k₁.value.own.answer (λ j ej.
        past-expect c 232 ei _ (past-expect c 232 ej _ (past-unless 10 373 (le-leb op 8 (ready-fits (Bin n slot token op l r) _ d)) _ refl)))))))
    same-node f (Unary n slot token op r) p d h =
        past-checked slot _ (ready-own (Unary n slot token op r) _ d)
        (then_same c _ _ (same-node f r p.1 (ready-below (Unary n slot token op r) _ d) h) (g_node (run c) r p.1 (λ _. h)) (λ a u k.
        known_same c _ _ k.value.own.answer (λ i ei. past-expect c 232 ei _ refl)))
    same-node f (Let n slot name r) p d h =
        past-checked slot _ (ready-own (Let n slot name r) _ d)
        (then_same c _ _ (same-node f r p.2 (ready-below (Let n slot name r) _ d) h) (g_node (run c) r p.2 (λ _. h)) (λ a u k.
        past-answer c 232 k.value.own.answer _ (past-answer c 829 k.value.own.answer _
        (then_same c _ _ refl (g_let (run c) n name (λ _. k.holds) (λ _. k.value.own.answer)) (λ o v k₁.
        then_same c _ _ refl (g_insert (run c) name (λ _. k₁.holds) (λ _. k₁.value)) (λ _ w k₂. past-expect c 225 k₂.holds.voids _ refl))))))
    same-node f (Fn n slot name ret args body) p d h =
        past-checked slot _ (ready-own (Fn n slot name ret args body) _ d)
        (past-unless 11 44 (lex_fn (Below (run c)) (NameAt (run c)) args ret p.3 p.2) _
        (fn_same c (visited_among body) (block c body) _
        (λ u e k. answered-same c 232 _ (same_block 1 body p.5 e k) (g_block (run c) body p.5 (λ _. k)))
        n slot name ret args p.2 p.3 p.4 (arguments-free n slot name ret args body (visited_among body) d) (ready-below (Fn n slot name ret args body) _ d) h))
    same-node f (Match n slot cs token t) p {s} d h =
        let d₁ = ready-below (Match n slot cs token t) _ d in
        past-checked slot _ (ready-own (Match n slot cs token t) _ d)
        (then-left c (visited_among t) _ _ (same_cases f n cs p.1 (ready-left (visited_in_cases cs) (visited_among t) d₁) h) (cases-typed n cs p.1 h)
        (cases-leave c (visited_among t) n n slot token cs t s d) (λ bs u k v.
        then_same c _ _ (same_block (suc f) t p.2 (ready-then (visited_in_cases cs) (visited_among t) d₁ v) k.holds) (g_block (run c) t p.2 (λ _. k.holds)) (λ a w k₁.
        past-answer c 232 k₁.value.answer _ (past-branches c 232 bs (all_map (branch-later (run c) k₁) k.value) _ (past-answer c 225 k₁.value.answer _ refl)))))
    same-node f (Call n slot target args) p {s} d h =
        past-checked slot _ (ready-own (Call n slot target args) _ d)
        (call_same c (Below (run c)) (NameAt (run c)) n slot (callee_of target) p.1 (provided_of args) (visit_all_or_stop c (suc f) args) (visit_all c args)
        (same-all f args p.2 (ready-below (Call n slot target args) _ d) h) (all_typed args p.2 h))
    same-node f (Field n slot target name) p d h =
        past-checked slot _ (ready-own (Field n slot target name) _ d)
        (then_same c _ _ (same-node f target p.1 (ready-below (Field n slot target name) _ d) h) (g_node (run c) target p.1 (λ _. h)) (λ a u k.
        known_same c _ _ k.value.own.answer (λ i ei. past-expect c 232 ei _ refl)))
    same-node f (Cast n slot token l t) p {s} d h =
        let ys : List Node = l ∷ visited_below l in
        past-checked slot _ (ready-own (Cast n slot token l t) _ d)
        (past-unless 11 44 (lex_type (Below (run c)) (NameAt (run c)) t p.2) _
        (then-left c ys _ _ refl (g_type_from (run c) n t p.2 (λ _. h)) (K.in_type_from (leaves_kept ys) c n t s) (λ to u k v.
        then_same c _ _ (same-node f l p.1 (stay ys (ready-below (Cast n slot token l t) _ d) v) k.holds) (g_node (run c) l p.1 (λ _. k.holds)) (λ a w k₁.
        known_same c _ _ k₁.value.own.answer (λ i ei. past-expect c 232 ei _ refl)))))
    same-node f (Import n slot token paths) p d h =
        past-checked slot _ (ready-own (Import n slot token paths) [] d)
        (then_same c _ _ refl (g_imports (run c) (Below (run c)) n token paths p.1 (λ _. h)) (λ _ u k. past-expect c 225 k.holds.voids _ refl))
    same-node f (Extern n slot token name fs) p d h =
        past-checked slot _ (ready-own (Extern n slot token name fs) [] d)
        (past-unless 11 44 (lex_externs (Below (run c)) (NameAt (run c)) fs p.2) _
        (then_same c _ _ refl (g_externs (run c) n fs p.2 (λ _. h)) (λ gs u k.
        then_same c _ _ refl (g_hold (run c) _ (λ _. k.holds) (λ _. record { functions = k.value })) (λ _ v k₁. past-expect c 225 k₁.holds.voids _ refl))))
    same-node f (Record n slot token fs) p d h =
        past-checked slot _ (ready-own (Record n slot token fs) _ d) (next-same c _ (same-values f fs p.1 (ready-below (Record n slot token fs) _ d) h))
    same-node f (Array n slot token ms) p d h =
        past-checked slot _ (ready-own (Array n slot token ms) _ d) (same-array f n slot token ms p.1 (ready-below (Array n slot token ms) _ d) h)
    same-node f (Absent n) p d h = absurd p

    pub same_block : (f : ℕ) (xs : Nodes) → ProperAll (Below (run c)) (NameAt (run c)) xs → {s : World} → Ready s (visited_among xs) → Holds (run c) s → block_or_stop c f xs s ≡ block c xs s
    same_block f done p d h = refl
    same_block f (then x xs) p {s} d h =
        framed-same c _ _
        (then-node x (visited_among xs) _ _ p.0 d h (λ y. same-node f x p.0 y h) (λ a u k y.
        same-last f a xs p.1 y k.holds))

    pub same-last : (f : ℕ) (a : Answer) (xs : Nodes) → ProperAll (Below (run c)) (NameAt (run c)) xs
        → {s : World} → Ready s (visited_among xs) → Holds (run c) s → last_or_stop c (suc f) a xs s ≡ last c a xs s
    same-last f a done p d h = refl
    same-last f a (then x xs) p {s} d h =
        then-node x (visited_among xs) _ _ p.0 d h (λ y. same-node f x p.0 y h) (λ b u k y.
        same-last f b xs p.1 y k.holds)

    same-all : (f : ℕ) (xs : Nodes) → ProperAll (Below (run c)) (NameAt (run c)) xs → {s : World} → Ready s (visited_among xs) → Holds (run c) s → visit_all_or_stop c (suc f) xs s ≡ visit_all c xs s
    same-all f done p d h = refl
    same-all f (then x xs) p {s} d h =
        then-node x (visited_among xs) _ _ p.0 d h (λ y. same-node f x p.0 y h) (λ a u k y.
        next-same c _ (same-all f xs p.1 y k.holds))

    same_cases : (f n : ℕ) (cs : Cases) → ProperCases (Below (run c)) (NameAt (run c)) cs → {s : World}
        → Ready s (visited_in_cases cs) → Holds (run c) s → cases_or_stop c (suc f) n cs s ≡ cases c n cs s
    same_cases f n no_case p d h = refl
    same_cases f n (case token x body cs) p {s} d h =
        let ys : List Node = visited_among body ++ visited_in_cases cs in
        let d₁ = ready_assoc (x ∷ visited_below x) (visited_among body) (visited_in_cases cs) d in
        then-node x ys _ _ p.0 d₁ h (λ y. same-node f x p.0 y h) (λ a u k y.
        past-answer c 232 k.value.own.answer _
        (then-left c ys _ _ refl (g_condition (run c) (λ _. k.holds) n token (λ _. k.value.own.answer))
        (K.in_condition (leaves_kept ys) c n token a u) (λ _ u₁ k₁ v₁.
        let d₂ : Ready u₁ ys = stay ys y v₁ in
        then-left c (visited_in_cases cs) _ _ (same_block (suc f) body p.1 (ready-left (visited_among body) (visited_in_cases cs) d₂) k₁.holds) (g_block (run c) body p.1 (λ _. k₁.holds))
        (block_leaves c (visited_in_cases cs) body u₁ d₂) (λ b u₂ k₂ v₂.
        next-same c _ (same_cases f n cs p.2 (ready-then (visited_among body) (visited_in_cases cs) d₂ v₂) k₂.holds)))))

    same-values : (f : ℕ) (vs : Values) → ProperValues (Below (run c)) (NameAt (run c)) vs → {s : World}
        → Ready s (visited_in_values vs) → Holds (run c) s → values_or_stop c (suc f) vs s ≡ values c vs s
    same-values f no_value p d h = refl
    same-values f (value name x vs) p {s} d h =
        let ys : List Node = visited_in_values vs in
        then-node x ys _ _ p.1 d h (λ y. same-node f x p.1 y h) (λ a u k y.
        past-answer c 232 k.value.own.answer _
        (then-left c ys _ _ refl (g_value (run c) (λ _. k.holds) (λ _. k.value.own.answer)) (K.in_value (leaves_kept ys) a u) (λ w u₁ k₁ v₁.
        next-same c _ (same-values f vs p.2 (stay ys y v₁) k₁.holds))))

    same-array : (f n slot token : ℕ) (xs : Nodes) → ProperAll (Below (run c)) (NameAt (run c)) xs → {s : World}
        → Ready s (visited_among xs) → Holds (run c) s → array_or_stop c (suc f) n slot token xs s ≡ array c n slot token xs s
    same-array f n slot token done p d h = refl
    same-array f n slot token (then x xs) p {s} d h =
        then-node x (visited_among xs) _ _ p.0 d h (λ y. same-node f x p.0 y h) (λ a u k y.
        same-members f n slot a false xs p.1 y k.holds k.value.own.answer)

    same-members : (f n slot : ℕ) (first : Answer) (b : Bool) (xs : Nodes) → ProperAll (Below (run c)) (NameAt (run c)) xs
        → {s : World} → Ready s (visited_among xs) → Holds (run c) s → AnswerOk (run c) s first
        → members_or_stop c (suc f) n slot first b xs s ≡ members c n slot first b xs s
    same-members f n slot first b done p d h o = past-answer c 232 o _ refl
    same-members f n slot first b (then x xs) p {s} d h o =
        let ys : List Node = visited_among xs in
        then-node x ys _ _ p.0 d h (λ y. same-node f x p.0 y h) (λ a u k y.
        let o₁ = answer-later (run c) k o in
        past-answer c 232 k.value.own.answer _ (past-answer c 232 o₁ _
        (then-left c ys _ _ refl (g_member (run c) n (span_of x) (λ _. k.holds) (λ _. o₁) (λ _. k.value.own.answer))
        (K.in_member (leaves_kept ys) c n (span_of x) first a u) (λ m u₁ k₁ v₁.
        go_on-same c m b _ _ (λ q. same-members f n slot first q xs p.1 (stay ys y v₁) k₁.holds (answer-later (run c) k₁ o₁))))))
