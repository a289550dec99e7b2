-- Node::Array put together of the visits of its members and its end: what each asks for, and one law for each way out of the code. Assumes
-- nothing.
use Rattle.std.specs.Prelude.{ℕ, ◌+◌, ◌*◌, ◌-◌, ◌<◌, ◌≤◌, ◌≡◌, refl, Bool, false, get_or, Option, Some, None, Ok, Err}
use Rattle.std.proofs.Common.{sym, ◌∙◌, arith}
use Rattle.std.proofs.Math.Path.{ap}
use mathlib.Core.List.{List, [], ◌++◌}
use Rattle.tok.specs.Text.{Texts}
use Rattle.tok.specs.Step.{◌>>=◌}
use Rattle.tok.specs.declared.Span.{Span}
use Rattle.ast.specs.Image.{node_count, record_kind, record_length}
use Rattle.ast.specs.Node.{Nodes, Array, then, tree_of, nodes_from}
use Rattle.ast.specs.Span.{span_of}
use Rattle.image_laws.specs.RecordWords.{ArrayWords}
use Rattle.err.specs.Message.{empty_array}
use Rattle.rules.specs.declared.Answer.{Answer}
use Rattle.rules.specs.declared.Answer.TheVariants.{Poison}
use Rattle.rules.specs.World.{Walk}
use Rattle.rules.specs.Steps.{poison}
use Rattle.rules.specs.Rules.{node, array, members, array_of}
use Rattle.rules.specs.Visited.{visited_among}
use Rattle.accepts.proofs.Fresh.{visited_from, Fresh, Apart, fresh-first, fresh-rest, member_apart}
use Rattle.places.specs.NodesAt.{NodeReady, counts_of, record_room, node-array, words-array}
use Rattle.room_laws.specs.Room.{room, rooms, rows, rows_all}
use Rattle.onerun.specs.Claim.{AnswerOk}
use Rattle.onerun.specs.Logic.{g_next, g_return}
use Rattle.onerun.proofs.Scope.{Any}
use Rattle.state.specs.declared.Refusal.{Refusal}
use Rattle.visit.specs.declared.State.{State}
use Rattle.visit.specs.Whole.{Lent, Visit, whole, visited}
use Rattle.visit.specs.Within.{Visits}
use Rattle.visiting.specs.Then.{visits-most}
use Rattle.visiting.specs.Leads.{Beginning, Leads, leads-less, leads-then, leads-stop, leads-return}
use Rattle.ready.specs.Ready.{walk_run, Ready, NodeVisit, node-ready}
use Rattle.ready.specs.Passes.{Passes, ready-less, ready-then, ready-step, passes_answer, visit_passes}
use Rattle.ready.specs.After.{after-node, member-gives}
use Rattle.ready.specs.Parts.{nodes-turn}
use Rattle.ready.specs.Unvisited.{array-fresh, nodes-fresh, visit-apart}
use Rattle.walking.specs.Kinds.{Is}
use Rattle.walking.specs.Visited.{ctx_in, NodeVisited, ClassVisit, nodes_at}
use Rattle.members.specs.Turns.{turn_of, member_turn, rest_of, members-turn}

-- ── A turn ──

-- a rule that goes on as another does
leads_as : {o : Beginning} {m : Walk Answer} (m' : Walk Answer) {r w : ℕ} {st : State} {b : Lent} → m (whole o.library st b) ≡ m' (whole o.library st b) → Leads o m r w st b → Leads o m' r w st b
leads_as m' e l = record { onto = λ b' v x. l.onto b' v (record { step = e ∙ x.step; keeps = x.keeps }) }

-- what a visit asks for holds again after a turn
turn_passes : {T : Texts} {image places words : List ℕ} {r w : ℕ} {st st₁ : State} {b b₁ : Lent} (n : ℕ) (span : Span) {first second : Answer} (poisoned : Bool) {q : Option Bool}
    → Ready T image places words r w st b
    → AnswerOk (walk_run T image words) (whole words st b) first → AnswerOk (walk_run T image words) (whole words st b) second
    → Visits (member_turn (ctx_in T image words) n span first second poisoned) 0 0 words st b b₁ (Ok (q, st₁)) → Passes T image words (Any (walk_run T image words)) 0 0 st b st₁ b₁ q
unfolding member_turn
turn_passes {T} {image} {words = words} n span poisoned y o k x =
    visit_passes x (g_next (walk_run T image words) _ (member-gives y n span o k) (λ m u t f. g_return (walk_run T image words) (λ i. (f i).holds) (λ i. tt)))

-- a turn touches no slot
turn-apart : (T : Texts) (image : List ℕ) (n : ℕ) (span : Span) (first second : Answer) (poisoned : Bool) {words : List ℕ} {st st₁ : State} {b b₁ : Lent} {q : Option Bool}
    → Visits (member_turn (ctx_in T image words) n span first second poisoned) 0 0 words st b b₁ (Ok (q, st₁)) → Apart [] b.slots b₁.slots
unfolding member_turn visited
turn-apart T image n span first second poisoned {words} {st} {b = b} x = member_apart (ctx_in T image words) n span first second (λ m. turn_of m poisoned) (whole words st b) x.step

-- ── The members that are left ──

-- all of the rule
abbrev pub array_from : (T : Texts) (image words : List ℕ) (n : ℕ) (st : State) (b : Lent) → Beginning
array_from T image words n st b = record { rule = node (ctx_in T image words) (tree_of image n); room = room (tree_of image n); rows = rows (tree_of image n); library = words; st = st; b = b }

-- `left` members from word `place` on, after a first one that answered
pub record Turning (T : Texts) (image places words : List ℕ) (n slot place left : ℕ) (st₀ : State) (b₀ : Lent) (first : Answer) (poisoned : Bool) (st : State) (b : Lent) : Type 0 where
  pub leads : Leads (array_from T image words n st₀ b₀) (members (ctx_in T image words) n slot first poisoned (nodes_at image place left)) (rooms (nodes_at image place left))
      (rows_all (nodes_at image place left)) st b
  pub ready : Ready T image places words (rooms (nodes_at image place left)) (rows_all (nodes_at image place left)) st b
  pub fresh : Fresh (visited_among (nodes_at image place left)) b.slots
  pub answer : AnswerOk (walk_run T image words) (whole words st b) first

module _ {T : Texts} {image places words : List ℕ} {n slot place left : ℕ} {st₀ : State} {b₀ : Lent} {first : Answer} {poisoned : Bool} {st : State} {b : Lent}
    (t : Turning T image places words n slot place left st₀ b₀ first poisoned st b) where
  -- no member is left
  pub array-ended : left ≡ 0 → {b' : Lent} {v : Visit Answer} → Visits (array_of (ctx_in T image words) n slot first poisoned) 0 0 words st b b' v → NodeVisited T image words n st₀ b₀ b' v
  unfolding members nodes_from
  array-ended e {b'} {v} x = t.leads.onto b' v (rw e (visits-most (omega arith) (omega arith) (record { step = x.step; keeps = x.keeps })))

  module _ (p : left ≡ 0 → ⊥) {part : ℕ} (ep : part ≡ get_or image place 0) where
    -- those after it
    abbrev others : Nodes
    others = nodes_at image (place + 1) (left - 1)

    all-nodes : nodes_at image place left ≡ then (tree_of image part) others
    all-nodes = nodes-turn image place (omega (arith, p)) ∙ ap (λ i. then (tree_of image i) others) (sym ep)

    member-ready : Ready T image places words (room (tree_of image part) + rooms others) (rows (tree_of image part) + rows_all others) st b
    unfolding rooms rows_all
    member-ready = rw all-nodes at t.ready

    member-fresh : Fresh (visited_from (tree_of image part) ++ visited_among others) b.slots
    member-fresh = rw ep (nodes-fresh image place (omega (arith, p)) t.fresh)

    pub member-visit : part < node_count image → NodeVisit T image places words part st b
    member-visit l = record { below = l; ready = ready-less (omega arith) (omega arith) member-ready; fresh = fresh-first _ _ member-fresh }

    abbrev rest-after : Answer → Walk Answer
    rest-after a = ◌>>=◌ (member_turn (ctx_in T image words) n (span_of (tree_of image part)) first a poisoned) (rest_of (ctx_in T image words) n slot first poisoned others)

    member-leads : Leads (array_from T image words n st₀ b₀) (◌>>=◌ (node (ctx_in T image words) (tree_of image part)) rest-after) (room (tree_of image part) + rooms others)
        (rows (tree_of image part) + rows_all others) st b
    unfolding rooms rows_all
    member-leads =
        leads_as (◌>>=◌ (node (ctx_in T image words) (tree_of image part)) rest-after)
        (members-turn (ctx_in T image words) n slot first poisoned others (tree_of image part) (whole words st b))
        (rw all-nodes at t.leads)

    module _ {b₁ : Lent} where
      -- its visit is refused
      pub member-stopped : {e : Refusal} → NodeVisited T image words part st b b₁ (Err e) → NodeVisited T image words n st₀ b₀ b₁ (Err e)
      member-stopped x = leads-stop rest-after member-leads x

      module _ (below : part < node_count image) {a : Answer} {st₁ : State} (x : NodeVisited T image words part st b b₁ (Ok (a, st₁))) where
        abbrev turn : Walk (Option Bool)
        turn = member_turn (ctx_in T image words) n (span_of (tree_of image part)) first a poisoned

        abbrev members-after : Option Bool → Walk Answer
        members-after = rest_of (ctx_in T image words) n slot first poisoned others

        turn-leads : Leads (array_from T image words n st₀ b₀) (rest-after a) (0 + rooms others) (0 + rows_all others) st₁ b₁
        turn-leads = leads-less (omega arith) (omega arith) (leads-then rest-after member-leads x)

        -- there is no room for the diagnostic
        pub turn-stopped : {b₂ : Lent} {e : Refusal} → Visits turn 0 0 words st₁ b₁ b₂ (Err e) → NodeVisited T image words n st₀ b₀ b₂ (Err e)
        turn-stopped z = leads-stop members-after turn-leads z

        -- it differs
        pub member-differs : {b₂ : Lent} {st₂ : State} {o : Option Bool} → Visits turn 0 0 words st₁ b₁ b₂ (Ok (o, st₂)) → o ≡ None → NodeVisited T image words n st₀ b₀ b₂ (Ok (Poison, st₂))
        unfolding rest_of
        member-differs z is = leads-return Poison (leads-then members-after turn-leads (rw is at z))

        -- the next one's turn
        pub member-passed : {b₂ : Lent} {st₂ : State} {q : Bool} → Visits turn 0 0 words st₁ b₁ b₂ (Ok (Some q, st₂)) → Turning T image places words n slot (place + 1) (left - 1) st₀ b₀ first q st₂ b₂
        unfolding rest_of
        member-passed z =
            let passed = after-node member-ready below x in
            let ready₁ = ready-then member-ready passed in
            let turned = turn_passes n (span_of (tree_of image part)) poisoned ready₁ (passes_answer passed t.answer) passed.after.value.own.answer z in
            record {
              leads = leads-then members-after turn-leads z;
              ready = ready-step ready₁ turned;
              fresh = fresh-rest [] _ (fresh-rest _ _ member-fresh (visit-apart (ctx_in T image words) (tree_of image part) x))
                  (turn-apart T image n (span_of (tree_of image part)) first a poisoned z);
              answer = passes_answer turned (passes_answer passed t.answer);
            }

-- as a loop counts them
pub some_left : {i count : ℕ} → i < count → count - i ≡ 0 → ⊥
some_left h e = omega arith

pub none_left_lem : {i count : ℕ} → count ≤ i → count - i ≡ 0
none_left_lem h = omega arith

-- What a loop over the members keeps, whose turn i is: wherever the members before led to at its start, those so far lead to here.
pub record Turned (T : Texts) (image places words : List ℕ) (n slot q count : ℕ) (first : Answer) (i₀ : ℕ) (poisoned₀ : Bool) (st₀ : State) (b₀ : Lent) (i : ℕ) (poisoned : Bool) (st : State)
    (b : Lent) : Type 0 where
  pub on : (o : State) (b' : Lent) → Turning T image places words n slot (q + i₀) (count - i₀) o b' first poisoned₀ st₀ b₀
      → Turning T image places words n slot (q + i) (count - i) o b' first poisoned st b

module _ {T : Texts} {image places words : List ℕ} {n slot q count : ℕ} {first : Answer} {i₀ : ℕ} {poisoned₀ : Bool} {st₀ : State} {b₀ : Lent} where
  pub turned-start : Turned T image places words n slot q count first i₀ poisoned₀ st₀ b₀ i₀ poisoned₀ st₀ b₀
  turned-start = record { on = λ o b' t. t }

  module _ {i : ℕ} {poisoned : Bool} {st : State} {b : Lent} (t : Turned T image places words n slot q count first i₀ poisoned₀ st₀ b₀ i poisoned st b) (h : i < count) {part : ℕ}
      (ep : part ≡ get_or image (q + i) 0)
      {b₁ : Lent} (below : part < node_count image) {a : Answer} {st₁ : State} (x : NodeVisited T image words part st b b₁ (Ok (a, st₁))) {b₂ : Lent} where
    pub turned-next : {p : Bool} {st₂ : State} {o : Option Bool} → Visits (member_turn (ctx_in T image words) n (span_of (tree_of image part)) first a poisoned) 0 0 words st₁ b₁ b₂ (Ok (o, st₂))
        → o ≡ Some p
        → Turned T image places words n slot q count first i₀ poisoned₀ st₀ b₀ (i + 1) p st₂ b₂
    turned-next {p} {st₂} z is = record { on = λ o b' s. again (member-passed (t.on o b' s) (some_left h) ep below x (rw is at z)) }
      where
        again : {o : State} {b' : Lent} → Turning T image places words n slot (q + i + 1) (count - i - 1) o b' first p st₂ b₂
            → Turning T image places words n slot (q + (i + 1)) (count - (i + 1)) o b' first p st₂ b₂
        again s =
            let f : q + (i + 1) ≡ q + i + 1 = omega arith in
            let g : count - (i + 1) ≡ count - i - 1 = omega arith in
            rw (f, g) s

-- ── Node::Array ──

module _ {T : Texts} {image places words : List ℕ} {n : ℕ} {st : State} {b : Lent} (y : ClassVisit (Is 13) T image places words n st b) {at l : ℕ}
    (ea : at ≡ get_or places n 0) (long : l ≡ record_length image at) where
  there : NodeReady image places n
  there = node-ready y.visit

  kind : record_kind image at ≡ 13
  kind = ap (record_kind image) ea ∙ y.kind

  facts : ArrayWords (counts_of there) image n at
  facts = words-array there ea refl refl kind

  tree : tree_of image n ≡ Array n (get_or image (at + 1) 0) (get_or image (at + 2) 0) (nodes_at image (at + 3) (l - 3))
  tree = node-array there ea refl refl kind ∙ ap (λ j. Array n (get_or image (at + 1) 0) (get_or image (at + 2) 0) (nodes_at image (at + 3) (j - 3))) (sym long)

  -- the record's words
  pub array-length : 3 ≤ l
  array-length = rw long facts.long

  pub array-inside : at + l ≤ 8192
  array-inside = rw long (record_room there ea)

  pub array-low : at ≤ 8192
  array-low = omega (arith, array-inside)

  -- "A part's number is smaller than its owner's"
  pub member-under : {i part : ℕ} → i < l - 3 → part ≡ get_or image (at + 3 + i) 0 → part < n
  member-under {i} h ep =
      let u = facts.members.each i (rw (← long) h) in
      let z : at + 3 + 1 * i ≡ at + 3 + i = omega arith in
      rw (ep, ← z) u.under

  pub member_below : {i part : ℕ} → i < l - 3 → part ≡ get_or image (at + 3 + i) 0 → part < node_count image
  member_below h ep = omega (arith, member-under h ep, y.visit.below)

  pub member-there : {i part : ℕ} → i < l - 3 → part ≡ get_or image (at + 3 + i) 0 → NodeReady image places part
  member-there h ep = record { readable = there.readable; below = member_below h ep }

  -- ── The ways out ──

  pub array-empty : l - 3 ≡ 0 → {b' : Lent} {v : Visit Answer} → Visits (poison n (empty_array (get_or image (at + 2) 0))) 0 0 words st b b' v → NodeVisited T image words n st b b' v
  unfolding node array nodes_from
  array-empty e x = rw (tree, e) (visits-most (omega arith) (omega arith) (record { step = x.step; keeps = x.keeps }))

  module _ (p : l - 3 ≡ 0 → ⊥) {part : ℕ} (ep : part ≡ get_or image (at + 3) 0) where
    abbrev rest : Nodes
    rest = nodes_at image (at + 3 + 1) (l - 3 - 1)

    tree-first : tree_of image n ≡ Array n (get_or image (at + 1) 0) (get_or image (at + 2) 0) (then (tree_of image part) rest)
    tree-first =
        tree
        ∙ ap (Array n (get_or image (at + 1) 0) (get_or image (at + 2) 0)) (nodes-turn image (at + 3) (omega (arith, p)) ∙ ap (λ i. then (tree_of image i) rest) (sym ep))

    pub first_under : part < n
    first_under = member-under {i = 0} (omega (arith, p)) (let z : at + 3 + 0 ≡ at + 3 = omega arith in rw z ep)

    pub first_below : part < node_count image
    first_below = omega (arith, first_under, y.visit.below)

    first-ready : Ready T image places words (room (tree_of image part) + rooms rest) (rows (tree_of image part) + rows_all rest) st b
    unfolding room rows
    first-ready = rw tree-first at y.visit.ready

    first-fresh : Fresh (visited_from (tree_of image part) ++ visited_among rest) b.slots
    unfolding visited_among
    first-fresh = array-fresh y.visit tree-first

    pub first-visit : NodeVisit T image places words part st b
    first-visit = record { below = first_below; ready = ready-less (omega arith) (omega arith) first-ready; fresh = fresh-first _ _ first-fresh }

    abbrev after-first : Answer → Walk Answer
    after-first first = members (ctx_in T image words) n (get_or image (at + 1) 0) first false rest

    first-leads : Leads (array_from T image words n st b) (◌>>=◌ (node (ctx_in T image words) (tree_of image part)) after-first) (room (tree_of image part) + rooms rest)
        (rows (tree_of image part) + rows_all rest) st b
    unfolding node array room rows
    first-leads = record { onto = λ b' v x. rw tree-first (record { step = x.step; keeps = x.keeps }) }

    module _ {b₁ : Lent} where
      pub first-stopped : {e : Refusal} → NodeVisited T image words part st b b₁ (Err e) → NodeVisited T image words n st b b₁ (Err e)
      first-stopped x = leads-stop after-first first-leads x

      -- the turn of the member after it
      pub first-passed : {first : Answer} {st₁ : State} → NodeVisited T image words part st b b₁ (Ok (first, st₁))
          → Turning T image places words n (get_or image (at + 1) 0) (at + 3 + 1) (l - 3 - 1) st b first false st₁ b₁
      first-passed x = record {
        leads = leads-then after-first first-leads x;
        ready = ready-then first-ready (after-node first-ready first_below x);
        fresh = fresh-rest _ _ first-fresh (visit-apart (ctx_in T image words) (tree_of image part) x);
        answer = (after-node first-ready first_below x).after.value.own.answer;
      }
