-- The theorem of nodes: of every rule's answer and world the same is claimed, and every slot that a visited node owns has a type. One line for
-- each node kind, by induction on the tree. Assumes nothing.
use Rattle.std.specs.Prelude.{ℕ, ◌+◌, ◌<◌, ◌≡◌, Bool, false, ◌||◌, List, [], ◌∷◌, ◌++◌}
use Rattle.std.proofs.Common.{arith, add-one}
use Rattle.std.proofs.Math.Bool.{true}
use Rattle.std.proofs.lemmas.Bool.{false≢true}
use Rattle.tok.specs.Step.{Result, Refusal}
use Rattle.ast.specs.Node.{Node, Nodes, Cases, Values, slot_of}
use Rattle.ast.specs.Node.{Atom, Ident, Bin, Unary, Let, Fn, Match, Call, Field, Cast, Import, Extern, Record, Array, Absent, done, then, no_case, case, no_value, value}
use Rattle.ast.specs.Claims.{count_from}
use Rattle.ast.specs.Span.{span_of}
use Rattle.err.proofs.WellFormedLaws.{empty_array-well}
use Rattle.rules.specs.declared.Answer.{Answer}
use Rattle.rules.specs.World.{World, Walk}
use Rattle.rules.specs.Steps.{is_poison}
use Rattle.rules.specs.Steps as S
use Rattle.rules.specs.Calls.{callee_of, provided_of}
use Rattle.rules.specs.declared.Member.{Member}
use Rattle.rules.specs.declared.Member.TheVariants.{Alike as alike, Silent as silent, Differs as differs}
use Rattle.rules.specs.Rules.{go_on, Branch, node, block, last, visit_all, cases, values, array, members}
use Rattle.rules.specs.Visited.{visited_below, visited_among, visited_in_cases, visited_in_values, arguments_of, slots_of}
use Rattle.onerun.specs.Claim.{Run, All, end, and, OfNames, NameAt, Good, Holds, AnswerOk, poison}
use Rattle.onerun.specs.Claim as C
use Rattle.onerun.specs.Grows.{all_map, typed_grow}
use Rattle.onerun.specs.Logic.{Claimed, Silent, before, Gives, g_next, g_return, g_map, g_on_types, g_known, g_set, own-poison, answer-later}
use Rattle.onerun.proofs.Report.{g_report}
use Rattle.onerun.proofs.Seen.{AllRecorded, Seen, seen-later, seen-both, NodeOk, g_keep, names-node, node-poison}
use Rattle.onerun.proofs.Scope.{answer-env, seen-env, g_insert, g_hold, g_framed}
use Rattle.onerun.proofs.Types.{PairsTyped, no-typed, more-typed, t_record_good, low-good, void-good}
use Rattle.onerun.proofs.Operators.{g_fuse, g_unary, g_cast}
use Rattle.onerun.specs.Proper.{Proper, ProperAll, ProperCases, ProperValues}
use Rattle.onerun.proofs.Arguments.{ProvidedOk}
use Rattle.onerun.proofs.Select.{g_call}
use Rattle.onerun.proofs.Rules.{g_ident, g_let, g_field, g_value, g_condition, g_array_of, MemberOk, is_silent, is_different, g_member, BranchOk, branch-later, g_matched, g_imports}
use Rattle.onerun.proofs.Functions.{Below, g_type_from, BlockOk, g_fn, g_externs}

module _ (r : Run) where
  -- a proper node's slot
  pub proper-slot : (x : Node) → Proper (Below r) (NameAt r) x → slot_of x < r.ctx.void
  unfolding Proper slot_of
  proper-slot (Atom n slot token k) h = h.0
  proper-slot (Ident n slot name) h = h.0
  proper-slot (Bin n slot token op l x) h = h.0
  proper-slot (Unary n slot token op x) h = h.0
  proper-slot (Let n slot name x) h = h.0
  proper-slot (Fn n slot name ret args body) h = h.0
  proper-slot (Match n slot cs token d) h = h.0
  proper-slot (Call n slot target args) h = h.0
  proper-slot (Field n slot target name) h = h.0
  proper-slot (Cast n slot token l t) h = h.0
  proper-slot (Import n slot token paths) h = h.0
  proper-slot (Extern n slot token name fs) h = h.0
  proper-slot (Record n slot token fs) h = h.0
  proper-slot (Array n slot token ms) h = h.0
  proper-slot (Absent n) h = absurd h

  -- what a node answers, and what is visited below it
  abbrev pub Visited : Node → World → Answer → Type 0
  Visited x u a = NodeOk r (slot_of x) (count_from (slot_of x + 1) (arguments_of x)) (visited_below x) u a

  own-slots : (x : Node) {u : World} {a : Answer} → Visited x u a → r.clean → AllRecorded r u (slots_of x)
  unfolding count_from
  own-slots x h q = rw (add-one (arguments_of x)) (and (h.own.own q) (h.arguments q))

  whole : (x : Node) {u : World} {a : Answer} → Visited x u a → r.clean → Seen r u (x ∷ visited_below x)
  whole x h q = and {a = x} (own-slots x h q) (h.seen q)

  -- nodes visited before
  more-node : {slot : ℕ} {args : List ℕ} {xs ys : List Node} {s : World} {x : Result World Refusal Answer} → (Silent r s → r.clean → Seen r s xs) → Gives r (NodeOk r slot args ys) s x
      → Gives r (NodeOk r slot args (xs ++ ys)) s x
  more-node h g = g_map r (λ u a t f z. record { own = (f z).value.own; arguments = (f z).value.arguments; seen = λ q. seen-both r (seen-later r (f z) (h (before r t z) q)) ((f z).value.seen q) }) g

  more-block : {xs ys : List Node} {s : World} {x : Result World Refusal Answer} → (Silent r s → r.clean → Seen r s xs) → Gives r (BlockOk r ys) s x → Gives r (BlockOk r (xs ++ ys)) s x
  more-block h g = g_map r (λ u a t f z. record { answer = (f z).value.answer; seen = λ q. seen-both r (seen-later r (f z) (h (before r t z) q)) ((f z).value.seen q) }) g

  g_go_on : {slot : ℕ} {ys : List Node} (m : Member) (b : Bool) (f : Bool → Walk Answer) {s : World} → Claimed r s → (Silent r s → MemberOk r m) → (Silent r s → b ≡ true → OfNames r)
      → ((b : Bool) → (Silent r s → b ≡ true → OfNames r) → Gives r (NodeOk r slot [] ys) s (f b s)) → Gives r (NodeOk r slot [] ys) s (go_on m b f s)
  unfolding go_on
  g_go_on alike b f h k l g = g b l
  g_go_on silent b f h k l g = g true (λ z _. of_names (k z))
    where
      of_names : MemberOk r silent → OfNames r
      of_names (is_silent o) = o
  g_go_on differs b f h k l g = g_return r h (λ z. names-node r (of_names (k z)))
    where
      of_names : MemberOk r differs → OfNames r
      of_names (is_different o) = o

  -- an argument's answer
  poison-names : {s : World} {a : Answer} (b : Bool) → AnswerOk r s a → (b ≡ true → OfNames r) → (is_poison a || b) ≡ true → OfNames r
  unfolding is_poison
  poison-names b (C.known e) k i = k i
  poison-names b (poison o) k i = o

  pub record ArgumentsOk (xs : Nodes) (u : World) (b : Bool) : Type 0 where
    pub provided : All (ProvidedOk r u) (provided_of xs)
    pub of_names : b ≡ true → OfNames r
    pub seen : r.clean → Seen r u (visited_among xs)

  pub record CasesOk (ys : List Node) (u : World) (bs : List Branch) : Type 0 where
    pub branches : All (BranchOk r u) bs
    pub seen : r.clean → Seen r u ys

  pub record ValuesOk (ys : List Node) (u : World) (ps : List ℕ) : Type 0 where
    pub pairs : PairsTyped r u.types ps
    pub seen : r.clean → Seen r u ys

  mutual
    unfolding node Proper visited_below slot_of arguments_of count_from provided_of S.poison

    pub g_node : (x : Node) → Proper (Below r) (NameAt r) x → {s : World} → Claimed r s → Gives r (Visited x) s (node r.ctx x s)
    g_node (Atom n slot token k) p {s} h = g_keep r (λ z q. end) (g_set r slot p.0 h (λ z. low-good r s.types k p.1.low p.1.high))
    g_node (Ident n slot name) p h = g_keep r (λ z q. end) (g_ident r n slot name p.0 p.1 h)
    g_node (Bin n slot token op l x) p h =
        g_next r _ (g_node l p.1 h) (λ a u t f. g_next r _ (g_node x p.2 (λ z. (f z).holds)) (λ b v t₁ g.
        g_keep r (λ z q. seen-both r (seen-later r (g z) (whole l (f (before r t₁ z)).value q)) (whole x (g z).value q))
        (g_known r _ (λ z. (g z).holds) (λ z. answer-later r (g z) (f (before r t₁ z)).value.own.answer) (λ o. own-poison r o) (λ i ei.
        g_known r _ (λ z. (g z).holds) (λ z. (g z).value.own.answer) (λ o. own-poison r o) (λ j ej. g_fuse r (λ z. (g z).holds) n slot token p.0 ei op ej)))))
    g_node (Unary n slot token op x) p h =
        g_next r _ (g_node x p.1 h) (λ a u t f. g_keep r (λ z q. whole x (f z).value q)
        (g_known r _ (λ z. (f z).holds) (λ z. (f z).value.own.answer) (λ o. own-poison r o) (λ i ei. g_unary r (λ z. (f z).holds) n slot token p.0 ei op)))
    g_node (Let n slot name x) p h =
        g_next r _ (g_node x p.2 h) (λ a u t f. g_next r _ (g_let r n name (λ z. (f z).holds) (λ z. (f z).value.own.answer)) (λ o v t₁ g.
        g_next r _ (g_insert r name (λ z. (g z).holds) (λ z. (g z).value)) (λ _ w t₂ k.
        g_keep r (λ z q. let z₁ = before r t₂ z in seen-later r (k z) (seen-later r (g z₁) (whole x (f (before r t₁ z₁)).value q))) (g_set r slot p.0 (λ z. (k z).holds) (λ z. void-good r w.types)))))
    g_node (Fn n slot name ret args body) p h =
        g_fn r n slot name ret args (visited_among body) (block r.ctx body) p.0 p.1 p.2 p.3 p.4 (λ s k. g_block body p.5 k) h
    g_node (Match n slot cs token d) p h =
        g_next r _ (g_cases n cs p.1 h) (λ bs u t f. g_next r _ (g_block d p.2 (λ z. (f z).holds)) (λ a v t₁ g.
        g_keep r (λ z q. seen-both r (seen-later r (g z) ((f (before r t₁ z)).value.seen q)) ((g z).value.seen q))
        (g_matched r n slot p.0 bs (λ z. (g z).holds) (λ z. all_map (branch-later r (g z)) (f (before r t₁ z)).value.branches) (λ z. (g z).value.answer))))
    g_node (Call n slot target args) p h =
        g_call r n slot p.0 (provided_of args) (visited_among args) (Below r) (callee_of target) p.1 (visit_all r.ctx args) h
        (g_map r (λ u b t f z. let x = (f z).value in record { provided = x.provided; of_names = x.of_names; seen = x.seen }) (g_all args p.2 h))
    g_node (Field n slot target name) p h =
        g_next r _ (g_node target p.1 h) (λ a u t f. g_keep r (λ z q. whole target (f z).value q)
        (g_known r _ (λ z. (f z).holds) (λ z. (f z).value.own.answer) (λ o. own-poison r o) (λ i ei. g_field r (λ z. (f z).holds) n slot name p.0 p.2 ei)))
    g_node (Cast n slot token l e) p h =
        g_next r _ (g_type_from r n e p.2 h) (λ to u t f. g_next r _ (g_node l p.1 (λ z. (f z).holds)) (λ a v t₁ g.
        g_keep r (λ z q. whole l (g z).value q)
        (g_known r _ (λ z. (g z).holds) (λ z. (g z).value.own.answer) (λ o. own-poison r o) (λ i ei.
        g_cast r (λ z. (g z).holds) n slot token p.0 ei (λ z. typed_grow r (g z).grown (f (before r t₁ z)).value)))))
    g_node (Import n slot token paths) p h =
        g_next r _ (g_imports r (Below r) n token paths p.1 h) (λ _ u t f. g_keep r (λ z q. end) (g_set r slot p.0 (λ z. (f z).holds) (λ z. void-good r u.types)))
    g_node (Extern n slot token name fs) p h =
        g_next r _ (g_externs r n fs p.2 h) (λ gs u t f. g_next r _ (g_hold r _ (λ z. (f z).holds) (λ z. record { functions = (f z).value })) (λ _ v t₁ g.
        g_keep r (λ z q. end) (g_set r slot p.0 (λ z. (g z).holds) (λ z. void-good r v.types))))
    g_node (Record n slot token fs) p h =
        g_next r _ (g_values fs p.1 h) (λ ps u t f. g_next r _ (g_on_types r {Q = Good r} _ (λ z. (f z).holds) (λ z. t_record_good r n ps (f z).value.pairs)) (λ w v t₁ g.
        g_keep r (λ z q. seen-later r (g z) ((f (before r t₁ z)).value.seen q)) (g_set r slot p.0 (λ z. (g z).holds) (λ z. (g z).value))))
    g_node (Array n slot token ms) p h = g_array n slot token ms p.0 p.1 h
    g_node (Absent n) p h = absurd p

    pub g_block : (xs : Nodes) → ProperAll (Below r) (NameAt r) xs → {s : World} → Claimed r s → Gives r (BlockOk r (visited_among xs)) s (block r.ctx xs s)
    g_block done p h = g_return r h (λ z. record { answer = C.known (h z).voids; seen = λ q. end })
    g_block (then x xs) p h =
        g_framed r {Q = BlockOk r (visited_among (then x xs))} (λ u e a k. record { answer = answer-env r k.answer; seen = λ q. seen-env r (k.seen q) }) _ h
        (g_next r _ (g_node x p.0 h) (λ a u t f. more-block (λ z q. whole x (f z).value q) (g_last xs p.1 (λ z. (f z).holds) (λ z. (f z).value.own.answer))))

    pub g_last : (xs : Nodes) {a : Answer} → ProperAll (Below r) (NameAt r) xs → {s : World} → Claimed r s
        → (Silent r s → AnswerOk r s a) → Gives r (BlockOk r (visited_among xs)) s (last r.ctx a xs s)
    g_last done p h k = g_return r h (λ z. record { answer = k z; seen = λ q. end })
    g_last (then x xs) p h k =
        g_next r _ (g_node x p.0 h) (λ b u t f. more-block (λ z q. whole x (f z).value q) (g_last xs p.1 (λ z. (f z).holds) (λ z. (f z).value.own.answer)))

    pub g_all : (xs : Nodes) → ProperAll (Below r) (NameAt r) xs → {s : World} → Claimed r s → Gives r (ArgumentsOk xs) s (visit_all r.ctx xs s)
    g_all done p h = g_return r h (λ z. record { provided = end; of_names = λ e. absurd (false≢true e); seen = λ q. end })
    g_all (then x xs) p h =
        g_next r _ (g_node x p.0 h) (λ a u t f. g_next r _ (g_all xs p.1 (λ z. (f z).holds)) (λ b v t₁ g.
        g_return r (λ z. (g z).holds) (λ z. let y = (f (before r t₁ z)).value in record {
          provided = and (record { low = let l = proper-slot x p.0 in omega arith; has = λ q. (g z).recorded (slot_of x) (y.own.own q) }) (g z).value.provided;
          of_names = poison-names b y.own.answer (g z).value.of_names;
          seen = λ q. seen-both r (seen-later r (g z) (whole x y q)) ((g z).value.seen q);
        })))

    pub g_cases : (n : ℕ) (cs : Cases) → ProperCases (Below r) (NameAt r) cs → {s : World} → Claimed r s → Gives r (CasesOk (visited_in_cases cs)) s (cases r.ctx n cs s)
    g_cases n no_case p h = g_return r h (λ z. record { branches = end; seen = λ q. end })
    g_cases n (case token x body cs) p h =
        g_next r _ (g_node x p.0 h) (λ a u t f. g_next r _ (g_condition r (λ z. (f z).holds) n token (λ z. (f z).value.own.answer)) (λ _ u₁ t₁ f₁.
        g_next r _ (g_block body p.1 (λ z. (f₁ z).holds)) (λ b u₂ t₂ f₂. g_next r _ (g_cases n cs p.2 (λ z. (f₂ z).holds)) (λ bs u₃ t₃ f₃.
        g_return r (λ z. (f₃ z).holds) (λ z.
        let z₂ = before r t₃ z in
        let z₁ = before r t₂ z₂ in
        record {
          branches = and (record { answer = answer-later r (f₃ z) (f₂ z₂).value.answer }) (f₃ z).value.branches;
          seen = λ q.
              seen-both r
              (seen-both r (seen-later r (f₃ z) (seen-later r (f₂ z₂) (seen-later r (f₁ z₁) (whole x (f (before r t₁ z₁)).value q)))) (seen-later r (f₃ z) ((f₂ z₂).value.seen q)))
              ((f₃ z).value.seen q);
        })))))

    pub g_values : (vs : Values) → ProperValues (Below r) (NameAt r) vs → {s : World} → Claimed r s → Gives r (ValuesOk (visited_in_values vs)) s (values r.ctx vs s)
    g_values no_value p {s} h = g_return r h (λ z. record { pairs = no-typed r s.types; seen = λ q. end })
    g_values (value name x vs) p h =
        g_next r _ (g_node x p.1 h) (λ a u t f. g_next r _ (g_value r (λ z. (f z).holds) (λ z. (f z).value.own.answer)) (λ w u₁ t₁ f₁.
        g_next r _ (g_values vs p.2 (λ z. (f₁ z).holds)) (λ ps u₂ t₂ f₂.
        g_return r (λ z. (f₂ z).holds) (λ z.
        let z₁ = before r t₂ z in
        record {
          pairs = more-typed r p.0 (typed_grow r (f₂ z).grown (f₁ z₁).value) (f₂ z).value.pairs;
          seen = λ q. seen-both r (seen-later r (f₂ z) (seen-later r (f₁ z₁) (whole x (f (before r t₁ z₁)).value q))) ((f₂ z).value.seen q);
        }))))

    g_array : (n slot token : ℕ) (xs : Nodes) → slot < r.ctx.void → ProperAll (Below r) (NameAt r) xs → {s : World} → Claimed r s
        → Gives r (NodeOk r slot [] (visited_among xs)) s (array r.ctx n slot token xs s)
    g_array n slot token done o p h = node-poison r (g_report r h n (λ l z. empty_array-well token))
    g_array n slot token (then x xs) o p h =
        g_next r _ (g_node x p.0 h) (λ a u t f. more-node (λ z q. whole x (f z).value q)
        (g_members n slot xs false o p.1 (λ z. (f z).holds) (λ z. (f z).value.own.answer) (λ z e. absurd (false≢true e))))

    g_members : (n slot : ℕ) (xs : Nodes) (b : Bool) {a : Answer} → slot < r.ctx.void → ProperAll (Below r) (NameAt r) xs
        → {s : World} → Claimed r s → (Silent r s → AnswerOk r s a) → (Silent r s → b ≡ true → OfNames r)
        → Gives r (NodeOk r slot [] (visited_among xs)) s (members r.ctx n slot a b xs s)
    g_members n slot done b o p h k l = g_keep r (λ z q. end) (g_array_of r h n slot o k b l)
    g_members n slot (then x xs) b o p h k l =
        g_next r _ (g_node x p.0 h) (λ y u t f. g_next r _ (g_member r n (span_of x) (λ z. (f z).holds) (λ z. answer-later r (f z) (k (before r t z))) (λ z. (f z).value.own.answer)) (λ m v t₁ g.
        more-node (λ z q. seen-later r (g z) (whole x (f (before r t₁ z)).value q))
        (g_go_on m b _ (λ z. (g z).holds) (λ z. (g z).value) (λ z. l (before r t (before r t₁ z))) (λ c lc.
        g_members n slot xs c o p.1 (λ z. (g z).holds) (λ z. let z₁ = before r t₁ z in answer-later r (g z) (answer-later r (f z₁) (k (before r t z₁)))) lc))))
