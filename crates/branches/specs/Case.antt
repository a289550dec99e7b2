-- A case of a Match, put together of its visits: what each call asks for, and one law for each way out of the code. Assumes nothing.
use Rattle.state.specs.declared.Refusal.{Refusal}
use Rattle.visit.specs.Within.{Visits}
use Rattle.std.specs.Prelude.{ℕ, ◌+◌, ◌*◌, ◌-◌, ◌<◌, ◌≡◌, List, [], ◌++◌, get_or, Ok, Err}
use Rattle.std.proofs.Math.Path.{refl}
use Rattle.std.proofs.Common.{arith}
use Rattle.tok.specs.Text.{Texts}
use Rattle.tok.specs.Step.{ok, ◌>>◌}
use Rattle.ast.specs.Image.{word_at, node_count}
use Rattle.ast.specs.Node.{tree_of}
use Rattle.accepts.proofs.Fresh.{visited_from, Fresh, Apart, fresh-first, fresh-rest, condition-apart}
use Rattle.onerun.specs.Claim.{AnswerOk}
use Rattle.image_laws.specs.RecordWords.{Under}
use Rattle.places.specs.NodesAt.{NodeReady}
use Rattle.rules.specs.declared.Answer.{Answer}
use Rattle.rules.specs.World.{Walk}
use Rattle.rules.specs.Visited.{visited_among}
use Rattle.rules.specs.Rules.{condition, block}
use Rattle.onerun.specs.Logic.{Gives, g_next}
use Rattle.onerun.proofs.Functions.{BlockOk}
use Rattle.onerun.proofs.Rules.{g_condition}
use Rattle.onerun.proofs.Nodes.{g_block}
use Rattle.room_laws.specs.Room.{room, rooms, rows, rows_all}
use Rattle.spans.specs.Ready.{NodesReady}
use Rattle.visit.specs.declared.State.{State}
use Rattle.visit.specs.Whole.{Lent, whole, Visit}
use Rattle.visiting.specs.Blocks.{left_of, leave_of}
use Rattle.visiting.specs.Leads.{Beginning, Leads, leads-begin, leads-less, leads-then, leads-stop}
use Rattle.ready.specs.Ready.{walk_run, Ready, NodeVisit}
use Rattle.ready.specs.Passes.{Passes, ready-then, ready-step, visit_passes}
use Rattle.ready.specs.After.{nodes-proper, node-gives, after-node, after-condition, node-answer}
use Rattle.ready.specs.Parts.{node-visit}
use Rattle.ready.specs.Unvisited.{came_ok, visit-apart}
use Rattle.walking.specs.Visited.{ctx_in, NodeVisited, ListVisit, ListVisited, case_body, case_rule, CaseVisit, CaseVisited}
use Rattle.walking.specs.Blocks.{block-visits}
use Rattle.branches.specs.Branches.{body_answer}
use Rattle.branches.specs.Told.{rule-parts, body-told}

-- a case, and nothing else, touches slots of its own nodes alone
pub case-apart : (T : Texts) (image words : List ℕ) (n at : ℕ) {st st₁ : State} {b b₁ : Lent} {a : Answer} → CaseVisited T image words n at st b b₁ (Ok (a, st₁))
    → Apart (visited_from (tree_of image (word_at image (at + 1))) ++ visited_among (case_body image at)) b.slots b₁.slots
case-apart T image words n at {st} {b = b} x =
    rule-parts (ctx_in T image words) n (word_at image at) (tree_of image (word_at image (at + 1))) (case_body image at) (whole words st b) (came_ok x)

module _ {T : Texts} {image places words : List ℕ} {n at : ℕ} {st : State} {b : Lent} (h : CaseVisit T image places words n at st b) where
  test_below : word_at image (at + 1) < node_count image
  test_below = omega (arith, h.test.under, h.below)

  body-nodes : NodesReady image places n (at + 3) (word_at image (at + 2))
  body-nodes = record { ready = record { readable = h.ready.given.readable; below = h.below }; nodes = h.body; room = h.inside }

  -- what holds after it
  case-gives : Gives (walk_run T image words) (BlockOk (walk_run T image words) (visited_among (case_body image at))) (whole words st b)
      (case_rule (ctx_in T image words) n (word_at image at) (tree_of image (word_at image (at + 1))) (case_body image at) (whole words st b))
  unfolding case_rule
  case-gives =
      g_next (walk_run T image words) _ (node-gives h.ready test_below) (λ a u t f.
      g_next (walk_run T image words) _ (g_condition (walk_run T image words) (λ z. (f z).holds) n (word_at image at) (λ z. (f z).value.own.answer)) (λ _ u₁ t₁ f₁.
      g_block (walk_run T image words) (case_body image at) (nodes-proper h.ready.given body-nodes) (λ z. (f₁ z).holds)))

  pub after-case : {b₁ : Lent} {a : Answer} {st₁ : State} → CaseVisited T image words n at st b b₁ (Ok (a, st₁))
      → Passes T image words (BlockOk (walk_run T image words) (visited_among (case_body image at))) (room (tree_of image (word_at image (at + 1))) + rooms (case_body image at))
      (rows (tree_of image (word_at image (at + 1))) + rows_all (case_body image at)) st b st₁ b₁ a
  after-case x = visit_passes x case-gives

  -- what it answered is told by its body's last slot
  pub case-told : {b₁ : Lent} {a : Answer} {st₁ : State} → CaseVisited T image words n at st b b₁ (Ok (a, st₁)) → a ≡ body_answer image b₁.slots (at + 3) (word_at image (at + 2))
  case-told {b₁} {a = a} {st₁ = st₁} x = by (word_at image (at + 2)) refl (after-case x).after.value.answer
    where
      rule-is : case_rule (ctx_in T image words) n (word_at image at) (tree_of image (word_at image (at + 1))) (case_body image at) (whole words st b) ≡ ok a (whole words st₁ b₁)
      rule-is = came_ok x

      last-ready : (m : ℕ) → word_at image (at + 2) ≡ m → 0 < m → NodeReady image places (word_at image (at + 3 + (m - 1)))
      last-ready m e l =
          let z : at + 3 + 1 * (m - 1) ≡ at + 3 + (m - 1) = omega arith in
          let u : Under n image (at + 3 + (m - 1)) = rw z at (h.body.each (m - 1) (omega arith)) in
          record { readable = h.ready.given.readable; below = omega (arith, u.under, h.below) }

      by : (m : ℕ) → word_at image (at + 2) ≡ m → AnswerOk (walk_run T image words) (whole words st₁ b₁) a → a ≡ body_answer image b₁.slots (at + 3) m
      by m e o = body-told T image words n at m (whole words st b) (whole words st₁ b₁) (rw e at h.fresh) (rw e at rule-is) (λ l. last-ready m e l) o

  -- ── The condition's visit ──

  pub test-visit : {part : ℕ} → part ≡ get_or image (at + 1) 0 → NodeVisit T image places words part st b
  test-visit e = rw e (node-visit (rooms (case_body image at)) (rows_all (case_body image at)) test_below h.ready (fresh-first _ _ h.fresh))

  pub test-under : {part : ℕ} → part ≡ get_or image (at + 1) 0 → part < n
  test-under e = rw e h.test.under

  -- the case's rule, at its beginning
  abbrev all : Beginning
  all = record {
    rule = case_rule (ctx_in T image words) n (word_at image at) (tree_of image (word_at image (at + 1))) (case_body image at);
    room = room (tree_of image (word_at image (at + 1))) + rooms (case_body image at);
    rows = rows (tree_of image (word_at image (at + 1))) + rows_all (case_body image at);
    library = words;
    st = st;
    b = b;
  }

  abbrev onward : Answer → Walk Answer
  onward a = condition (ctx_in T image words) n (word_at image at) a >> block (ctx_in T image words) (case_body image at)

  module _ {part : ℕ} {b₁ : Lent} (e : part ≡ get_or image (at + 1) 0) where
    tested : {v : Visit Answer} → NodeVisited T image words part st b b₁ v → NodeVisited T image words (word_at image (at + 1)) st b b₁ v
    tested x = rw e at x

    pub test-stops : {e : Refusal} → NodeVisited T image words part st b b₁ (Err e) → CaseVisited T image words n at st b b₁ (Err e)
    unfolding case_rule
    test-stops x = leads-stop onward (leads-begin all) (tested x)

    module _ {a : Answer} {st₁ : State} (x : NodeVisited T image words part st b b₁ (Ok (a, st₁))) where
      to-condition : Leads all (onward a) (rooms (case_body image at)) (rows_all (case_body image at)) st₁ b₁
      unfolding case_rule
      to-condition = leads-then onward (leads-begin all) (tested x)

      pub condition-stops : {b₂ : Lent} {e : Refusal} → Visits (condition (ctx_in T image words) n (word_at image at) a) 0 0 words st₁ b₁ b₂ (Err e) → CaseVisited T image words n at st b b₂ (Err e)
      condition-stops y = leads-stop (λ _. block (ctx_in T image words) (case_body image at)) to-condition y

      module _ {b₂ : Lent} {begun : State} (y : Visits (condition (ctx_in T image words) n (word_at image at) a) 0 0 words st₁ b₁ b₂ (Ok (tt, begun))) {count : ℕ}
          (ec : count ≡ get_or image (at + 2) 0) where
        ready-tested : Ready T image places words (rooms (case_body image at)) (rows_all (case_body image at)) st₁ b₁
        ready-tested = ready-then h.ready (after-node h.ready test_below (tested x))

        ready-begun : Ready T image places words (rooms (case_body image at)) (rows_all (case_body image at)) begun b₂
        ready-begun = ready-step ready-tested (after-condition ready-tested n (word_at image at) (node-answer (after-node h.ready test_below (tested x))) y)

        body-fresh : Fresh (visited_among (case_body image at)) b₂.slots
        body-fresh = fresh-rest [] _ (fresh-rest _ _ h.fresh (visit-apart (ctx_in T image words) (tree_of image (word_at image (at + 1))) (tested x)))
            (condition-apart (ctx_in T image words) n (word_at image at) a (whole words st₁ b₁) (came_ok y))

        -- ── The body's ──

        pub body-visit : ListVisit T image places words n (at + 3) count begun b₂
        body-visit = rw ec (record { below = omega (arith, h.below); nodes = h.body; inside = h.inside; ready = ready-begun; fresh = body-fresh })

        to-body : Leads all (block (ctx_in T image words) (case_body image at)) (rooms (case_body image at)) (rows_all (case_body image at)) begun b₂
        to-body = leads-then (λ _. block (ctx_in T image words) (case_body image at)) {r₂ = rooms (case_body image at)} {w₂ = rows_all (case_body image at)}
            (leads-less (omega arith) (omega arith) to-condition) y

        in-body : {b₃ : Lent} {u : Visit Answer} → ListVisited T image words (at + 3) count begun b₂ b₃ u → CaseVisited T image words n at st b b₃ (leave_of u begun)
        in-body {b₃} {u} z = to-body.onto b₃ (leave_of u begun) (block-visits (ctx_in T image words) (case_body image at) (rw ec at z))

        pub body-stops : {b₃ : Lent} {e : Refusal} → ListVisited T image words (at + 3) count begun b₂ b₃ (Err e) → CaseVisited T image words n at st b b₃ (Err e)
        unfolding leave_of
        body-stops z = in-body z

        -- the names in scope of before its body are there again
        pub case-ends : {b₃ : Lent} {answer : Answer} {end last : State} → ListVisited T image words (at + 3) count begun b₂ b₃ (Ok (answer, end)) → last ≡ left_of end begun
            → CaseVisited T image words n at st b b₃ (Ok (answer, last))
        unfolding leave_of
        case-ends z e = rw e (in-body z)
