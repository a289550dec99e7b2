-- Node::Call put together of the visits of its arguments and its end: what each asks for, and one law for each way out of the code. Assumes
-- nothing.
use Rattle.state.specs.declared.Refusal.{Refusal}
use Rattle.std.specs.Prelude.{ℕ, ◌+◌, ◌*◌, ◌-◌, ◌<◌, ◌≤◌, ◌≡◌, Bool, true, false, ◌||◌, List, ◌++◌, get_or, Ok, Err}
use Rattle.std.proofs.Math.Path.{refl, ap}
use Rattle.std.proofs.Common.{sym, ◌∙◌}
use native.Mathlib.Omega.{arith}
use Rattle.tok.specs.Word.{kind_of}
use Rattle.tok.specs.Text.{Texts}
use Rattle.tok.specs.Step.{◌>>=◌}
use Rattle.ast.specs.Image.{node_count, record_length}
use Rattle.ast.specs.Node.{Nodes, Call, then, tree_of, nodes_from}
use Rattle.image_laws.specs.RecordWords.{CallWords}
use Rattle.rules.specs.declared.Answer.{Answer}
use Rattle.rules.specs.World.{Ctx, Walk}
use Rattle.rules.specs.Steps.{is_poison}
use Rattle.rules.specs.Rules.{node, visit_all}
use Rattle.rules.specs.Visited.{visited_among}
use Rattle.accepts.proofs.Fresh.{visited_from, Fresh, fresh-first, fresh-rest}
use Rattle.rules.specs.Calls.{call}
use Rattle.onerun.specs.Claim.{NameAt}
use Rattle.onerun.proofs.Functions.{Below}
use Rattle.onerun.specs.Proper.{ProperCallee, Proper}
use Rattle.places.specs.NodesAt.{counts_of, record_room, node_call, words-call}
use Rattle.room_laws.specs.Room.{room, rooms, call_room, rows, rows_all}
use Rattle.call_args.specs.Given.{given_from}
use Rattle.visit.specs.declared.State.{State}
use Rattle.visit.specs.Whole.{Lent, whole, Visit}
use Rattle.visit.specs.Within.{Visits}
use Rattle.visiting.specs.Then.{visits-most}
use Rattle.visiting.specs.Leads.{Beginning, Leads, leads-then, leads-stop}
use Rattle.visiting.specs.Turns.{visits_from, visits-turn, visits-end}
use Rattle.ready.specs.Ready.{walk_run, Ready, NodeVisit, node-ready}
use Rattle.ready.specs.Passes.{ready-less, ready-then}
use Rattle.ready.specs.After.{after-node}
use Rattle.ready.specs.Parts.{nodes-turn, call-room, call-words}
use Rattle.ready.specs.Unvisited.{call-fresh, nodes-fresh, visit-apart}
use Rattle.walking.specs.Kinds.{Is}
use Rattle.walking.specs.Visited.{ctx_in, NodeVisited, ClassVisit, nodes_at}
use Rattle.calls.specs.Callees.{callee_at, is_through_field, call_end, CallAt, FieldCall, call-parts}

-- ── The arguments that are left ──

-- all of the rule
abbrev pub call_from : (T : Texts) (image words : List ℕ) (n : ℕ) (st : State) (b : Lent) → Beginning
call_from T image words n st b = record { rule = node (ctx_in T image words) (tree_of image n); room = room (tree_of image n); rows = rows (tree_of image n); library = words; st = st; b = b }

-- the call at word `at` once its arguments are visited
abbrev pub end_at : (T : Texts) (image words : List ℕ) (n at count : ℕ) (poisoned : Bool) → Walk Answer
end_at T image words n at count poisoned = call_end (ctx_in T image words) n (get_or image (at + 1) 0) (callee_at image at) (given_from image (at + 3) count) poisoned

-- what it asks for then: a word of scratch for each argument
pub record Resolvable (T : Texts) (image places words : List ℕ) (n at count : ℕ) (st : State) (b : Lent) : Type 0 where
  pub call : CallAt image places at
  pub node : call.node ≡ n
  pub counted : count ≡ record_length image at - 3
  pub other : is_through_field (callee_at image at) ≡ false
  pub ready : Ready T image places words count 0 st b

-- Of `count` arguments, `left` from word `place` on are left.
pub record Arguing (T : Texts) (image places words : List ℕ) (n at count place left : ℕ) (st₀ : State) (b₀ : Lent) (poisoned : Bool) (st : State) (b : Lent) : Type 0 where
  pub leads : Leads (call_from T image words n st₀ b₀) (visits_from (ctx_in T image words) poisoned (nodes_at image place left) (end_at T image words n at count))
      (rooms (nodes_at image place left) + count) (rows_all (nodes_at image place left)) st b
  pub ready : Ready T image places words (rooms (nodes_at image place left) + count) (rows_all (nodes_at image place left)) st b
  pub fresh : Fresh (visited_among (nodes_at image place left)) b.slots

-- a rule that goes on as another does
leads_as : {o : Beginning} {m : Walk Answer} (m' : Walk Answer) {r w : ℕ} {st : State} {b : Lent} → m (whole o.library st b) ≡ m' (whole o.library st b) → Leads o m r w st b → Leads o m' r w st b
leads_as m' e l = record { onto = λ b' v x. l.onto b' v (record { step = e ∙ x.step; keeps = x.keeps }) }

leads-room : {o : Beginning} {m : Walk Answer} {r w r' : ℕ} {st : State} {b : Lent} → r ≡ r' → Leads o m r w st b → Leads o m r' w st b
leads-room e l = rw (← e) l

module _ {T : Texts} {image places words : List ℕ} {n at count place left : ℕ} {st₀ : State} {b₀ : Lent} {poisoned : Bool} {st : State} {b : Lent}
    (t : Arguing T image places words n at count place left st₀ b₀ poisoned st b) where
  -- none is left
  pub arguments-ready : left ≡ 0 → Ready T image places words count 0 st b
  arguments-ready e = ready-less (omega arith) (omega arith) t.ready

  pub arguments-done : left ≡ 0 → {b' : Lent} {v : Visit Answer} → Visits (end_at T image words n at count poisoned) count 0 words st b b' v → NodeVisited T image words n st₀ b₀ b' v
  unfolding nodes_from
  arguments-done e {b'} {v} x =
      t.leads.onto b' v
      (rw e (visits-most (omega arith) (omega arith) (record { step = visits-end (ctx_in T image words) poisoned (end_at T image words n at count) (whole words st b) ∙ x.step; keeps = x.keeps })))

  module _ (p : left ≡ 0 → ⊥) {part : ℕ} (ep : part ≡ get_or image place 0) where
    -- those after it
    abbrev others : Nodes
    others = nodes_at image (place + 1) (left - 1)

    all-nodes : nodes_at image place left ≡ then (tree_of image part) others
    all-nodes = nodes-turn image place (omega (arith, p)) ∙ ap (λ i. then (tree_of image i) others) (sym ep)

    argument-ready : Ready T image places words (room (tree_of image part) + (rooms others + count)) (rows (tree_of image part) + rows_all others) st b
    unfolding rooms rows_all
    argument-ready = ready-less (omega (arith, ap rooms all-nodes)) (omega (arith, ap rows_all all-nodes)) t.ready

    argument-fresh : Fresh (visited_from (tree_of image part) ++ visited_among others) b.slots
    argument-fresh = rw ep (nodes-fresh image place (omega (arith, p)) t.fresh)

    pub argument-visit : part < node_count image → NodeVisit T image places words part st b
    argument-visit l = record { below = l; ready = ready-less (omega arith) (omega arith) argument-ready; fresh = fresh-first _ _ argument-fresh }

    abbrev rest-after : Answer → Walk Answer
    rest-after a = visits_from (ctx_in T image words) (poisoned || is_poison a) others (end_at T image words n at count)

    argument-leads : Leads (call_from T image words n st₀ b₀) (◌>>=◌ (node (ctx_in T image words) (tree_of image part)) rest-after)
        (room (tree_of image part) + (rooms others + count)) (rows (tree_of image part) + rows_all others) st b
    unfolding rooms rows_all
    argument-leads =
        let e : room (tree_of image part) + rooms others + count ≡ room (tree_of image part) + (rooms others + count) = omega arith in
        leads-room e
        (leads_as (◌>>=◌ (node (ctx_in T image words) (tree_of image part)) rest-after)
        (visits-turn (ctx_in T image words) poisoned (end_at T image words n at count) (tree_of image part) others (whole words st b))
        (rw all-nodes at t.leads))

    module _ {b₁ : Lent} where
      -- its visit is refused
      pub argument-stopped : {e : Refusal} → NodeVisited T image words part st b b₁ (Err e) → NodeVisited T image words n st₀ b₀ b₁ (Err e)
      argument-stopped x = leads-stop rest-after argument-leads x

      -- the next one's turn
      pub argument-passed : part < node_count image → {a : Answer} {st₁ : State} → NodeVisited T image words part st b b₁ (Ok (a, st₁)) → {q : Bool} → q ≡ (poisoned || is_poison a)
          → Arguing T image places words n at count (place + 1) (left - 1) st₀ b₀ q st₁ b₁
      argument-passed below x e =
          rw e (record {
            leads = leads-then rest-after argument-leads x;
            ready = ready-then argument-ready (after-node argument-ready below x);
            fresh = fresh-rest _ _ argument-fresh (visit-apart (ctx_in T image words) (tree_of image part) x);
          })

-- as a loop counts them
pub some_left : {i count : ℕ} → i < count → count - i ≡ 0 → ⊥
some_left h e = omega arith

pub none_left_lem : {i count : ℕ} → count ≤ i → count - i ≡ 0
none_left_lem h = omega arith

-- What a loop over the arguments keeps, whose turn i is: wherever the arguments before led to at its start, those so far lead to here.
pub record Argued (T : Texts) (image places words : List ℕ) (n at count i₀ : ℕ) (poisoned₀ : Bool) (st₀ : State) (b₀ : Lent) (i : ℕ) (poisoned : Bool) (st : State) (b : Lent) : Type 0 where
  pub on : (o : State) (b' : Lent) → Arguing T image places words n at count (at + 3 + i₀) (count - i₀) o b' poisoned₀ st₀ b₀
      → Arguing T image places words n at count (at + 3 + i) (count - i) o b' poisoned st b

module _ {T : Texts} {image places words : List ℕ} {n at count i₀ : ℕ} {poisoned₀ : Bool} {st₀ : State} {b₀ : Lent} where
  pub argued-start : Argued T image places words n at count i₀ poisoned₀ st₀ b₀ i₀ poisoned₀ st₀ b₀
  argued-start = record { on = λ o b' t. t }

  module _ {i : ℕ} {poisoned : Bool} {st : State} {b : Lent} (t : Argued T image places words n at count i₀ poisoned₀ st₀ b₀ i poisoned st b) (h : i < count)
      {part : ℕ} (ep : part ≡ get_or image (at + 3 + i) 0) {b₁ : Lent} (below : part < node_count image) {a : Answer} {st₁ : State} (x : NodeVisited T image words part st b b₁ (Ok (a, st₁))) where
    pub argued-next : {p : Bool} → p ≡ (poisoned || is_poison a) → Argued T image places words n at count i₀ poisoned₀ st₀ b₀ (i + 1) p st₁ b₁
    argued-next {p} e = record { on = λ o b' s. again (argument-passed (t.on o b' s) (some_left h) ep below x e) }
      where
        again : {o : State} {b' : Lent} → Arguing T image places words n at count (at + 3 + i + 1) (count - i - 1) o b' p st₁ b₁
            → Arguing T image places words n at count (at + 3 + (i + 1)) (count - (i + 1)) o b' p st₁ b₁
        again s =
            let f : at + 3 + (i + 1) ≡ at + 3 + i + 1 = omega arith in
            let g : count - (i + 1) ≡ count - i - 1 = omega arith in
            rw (f, g) s

-- ── Node::Call ──

module _ {T : Texts} {image places words : List ℕ} {n : ℕ} {st : State} {b : Lent} (y : ClassVisit (Is 7) T image places words n st b) {at : ℕ} (ea : at ≡ get_or places n 0) where
  pub call_at : CallAt image places at
  call_at = record { node = n; ready = node-ready y.visit; place = ea; kind = ap (λ a. kind_of (get_or image a 0)) ea ∙ y.kind }

  facts : CallWords (counts_of (node-ready y.visit)) image n at
  facts = words-call (node-ready y.visit) ea refl refl call_at.kind

  pub call-low : at ≤ 8192
  call-low = omega (arith, record_room (node-ready y.visit) ea)

  module _ {l : ℕ} (long : l ≡ record_length image at) where
    tree : tree_of image n ≡ Call n (get_or image (at + 1) 0) (tree_of image (get_or image (at + 2) 0)) (nodes_at image (at + 3) (l - 3))
    tree =
        node_call (node-ready y.visit) ea refl refl call_at.kind
        ∙ ap (λ j. Call n (get_or image (at + 1) 0) (tree_of image (get_or image (at + 2) 0)) (nodes_at image (at + 3) (j - 3))) (sym long)

    -- the record's words
    pub call_length : 3 ≤ l
    call_length = rw long facts.long

    pub call-inside : at + l ≤ 8192
    call-inside = rw long (record_room (node-ready y.visit) ea)

    -- "A part's number is smaller than its owner's"
    pub argument-under : {i part : ℕ} → i < l - 3 → part ≡ get_or image (at + 3 + i) 0 → part < n
    argument-under {i} h ep =
        let u = facts.args.each i (rw (← long) h) in
        let z : at + 3 + 1 * i ≡ at + 3 + i = omega arith in
        rw (ep, ← z) u.under

    pub argument-below : {i part : ℕ} → i < l - 3 → part ≡ get_or image (at + 3 + i) 0 → part < node_count image
    argument-below h ep = omega (arith, argument-under h ep, y.visit.below)

    -- "target (Ident or Field)"
    callee_proper : ProperCallee (Below (walk_run T image words)) (NameAt (walk_run T image words)) (callee_at image at)
    unfolding Proper
    callee_proper =
        let here = Call n (get_or image (at + 1) 0) (tree_of image (get_or image (at + 2) 0)) (nodes_at image (at + 3) (l - 3)) in
        let p : Proper (Below (walk_run T image words)) (NameAt (walk_run T image words)) here = rw tree at (y.visit.ready.given.proper n y.visit.below) in
        p.1

    -- all are left
    all_left : is_through_field (callee_at image at) ≡ false → Arguing T image places words n at (l - 3) (at + 3) (l - 3) st b false st b
    unfolding node room rows
    all_left o =
        let c = ctx_in T image words in
        let given = given_from image (at + 3) (l - 3) in
        let visits = visit_all c (nodes_at image (at + 3) (l - 3)) in
        let run = walk_run T image words in
        let e : call_room (nodes_at image (at + 3) (l - 3)) ≡ l - 3 = call-words image (l - 3) (at + 3) in
        record {
          leads = record {
            onto = λ b' v x. rw tree (record {
              step = call-parts c n (get_or image (at + 1) 0) (callee_at image at) given visits (whole words st b) o (Below run) (NameAt run) callee_proper ∙ x.step;
              keeps = rw e x.keeps;
            });
          };
          ready = rw e at (call-room y.visit tree);
          fresh = call-fresh y.visit tree;
        }

    pub arguing_first : is_through_field (callee_at image at) ≡ false → Arguing T image places words n at (l - 3) (at + 3 + 0) (l - 3 - 0) st b false st b
    arguing_first o =
        let f : at + 3 + 0 ≡ at + 3 = omega arith in
        let g : l - 3 - 0 ≡ l - 3 = omega arith in
        rw (f, g) (all_left o)

    pub resolvable : is_through_field (callee_at image at) ≡ false → {st₁ : State} {b₁ : Lent} → Ready T image places words (l - 3) 0 st₁ b₁ → Resolvable T image places words n at (l - 3) st₁ b₁
    unfolding call_at
    resolvable o r = record { call = call_at; node = refl; counted = ap (λ j. j - 3) long; other = o; ready = r }

  -- A call through a field.
  pub field-call : is_through_field (callee_at image at) ≡ true → FieldCall image places at
  field-call h = record { call = call_at; through = h }

  pub call-field : {b' : Lent} {v : Visit Answer}
      → ((c : Ctx) (slot : ℕ) (given : List _) (visits : Walk Bool) → Visits (call c n slot (callee_at image at) given visits) 0 0 words st b b' v) → NodeVisited T image words n st b b' v
  unfolding node
  call-field x =
      let count = record_length image at - 3 in
      let visits = visit_all (ctx_in T image words) (nodes_at image (at + 3) count) in
      let z = x (ctx_in T image words) (get_or image (at + 1) 0) (given_from image (at + 3) count) visits in
      visits-most {r = 0} {w = 0} (omega arith) (omega arith) (rw (node_call (node-ready y.visit) ea refl refl call_at.kind) (record { step = z.step; keeps = z.keeps }))
