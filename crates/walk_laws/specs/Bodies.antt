-- Node::Fn as a visit: what its parts ask for, and one law for each way out of the code. Assumes nothing.
use Rattle.state.specs.declared.Refusal.{Refusal}
use Rattle.std.specs.Prelude.{ℕ, ◌+◌, ◌-◌, ◌*◌, ◌≤◌, ◌<◌, ◌≡◌, refl, List, [], ◌∷◌, length, get_or, Ok, Err, Some, None, Option}
use Rattle.std.proofs.Common.{sym, subst, ◌∙◌, arith}
use Rattle.std.proofs.Math.Path.{ap}
use Rattle.tok.specs.Text.{Texts}
use Rattle.tok.specs.Word.{kind_of, payload_of}
use Rattle.ast.specs.Image.{word_at, node_count, slot_count, record_length}
use Rattle.ast.specs.TypeExpr.{type_of, args_from}
use Rattle.ast.specs.Node.{Nodes, read_fn, tree_of}
use Rattle.image_laws.specs.RecordWords.{FnWords}
use Rattle.places.specs.NodesAt.{NodeReady, counts_of, record_room, node-fn, words-fn}
use Rattle.rules.specs.declared.Answer.{Answer}
use Rattle.rules.specs.declared.Answer.TheVariants.{Known, Poison}
use Rattle.rules.specs.World.{Walk}
use Rattle.rules.specs.Rules.{block, node}
use Rattle.rules.specs.Visited.{visited_below, visited_among}
use Rattle.accepts.proofs.Fresh.{Fresh, fresh-rest}
use Rattle.room_laws.specs.Room.{room, rooms, rows, rows_all}
use Rattle.parameters.specs.Arguments.{length-args}
use Rattle.visit.specs.declared.State.{State}
use Rattle.visit.specs.Whole.{Lent, Visit}
use Rattle.visit.specs.Within.{Keeps, Visits}
use Rattle.visit.specs.Free.{free-less}
use Rattle.visiting.specs.Blocks.{left_of}
use Rattle.visiting.specs.Then.{visits-most}
use Rattle.visiting.specs.Blocks.{inner_of}
use Rattle.ready.specs.Ready.{Ready, NodeVisit, node-ready}
use Rattle.ready.specs.Passes.{ready-less, ready-then}
use Rattle.ready.specs.Parts.{fn-room}
use Rattle.ready.specs.Unvisited.{begin-apart}
use Rattle.ready.specs.After.{fn-proper, after-begin, ready-inner}
use Rattle.bodies.specs.Bodies.{slot_at, name_at, return_at, count_at, args_at, fn_at, end_at, BeginReady, EndReady, KeepsBegun, due, Begins}
use Rattle.bodies.specs.BodyLaws.{fn-met, fn-refused as begin-refused, body-stops, fn-visited}
use Rattle.walking.specs.Kinds.{Is}
use Rattle.walking.specs.Visited.{ctx_in, nodes_at, ClassVisit, ListVisit, ListVisited, NodeVisited}

-- its body's nodes
abbrev pub body_at : (image : List ℕ) → (at : ℕ) → Nodes
body_at image at = nodes_at image (at + 5 + 2 * count_at image at) (record_length image at - (5 + 2 * count_at image at))

module _ {T : Texts} {image places words : List ℕ} {n at : ℕ} {st : State} {b : Lent} (h : ClassVisit (Is 5) T image places words n st b) (e : at ≡ get_or places n 0) where
  is-fn : tree_of image n ≡ read_fn (tree_of image) image n at
  is-fn = node-fn (node-ready h.visit) e refl refl (rw e h.kind)

  facts : FnWords (counts_of (node-ready h.visit)) image n at
  facts = words-fn (node-ready h.visit) e refl refl (rw e h.kind)

  many : length (args_at image at) ≡ count_at image at
  many = length-args image (at + 5) (count_at image at)

  room-is : room (tree_of image n) ≡ 2 * count_at image at + rooms (body_at image at)
  unfolding room
  room-is = ap room is-fn ∙ ap (λ x. 2 * x + rooms (body_at image at)) many

  rows_is : rows (tree_of image n) ≡ 3 + 2 * count_at image at + rows_all (body_at image at)
  unfolding rows
  rows_is = ap rows is-fn ∙ ap (λ x. 3 + 2 * x + rows_all (body_at image at)) many

  all_room : Ready T image places words (2 * count_at image at + rooms (body_at image at)) (3 + 2 * count_at image at + rows_all (body_at image at)) st b
  all_room = ready-less (omega (arith, room-is)) (omega (arith, rows_is)) h.visit.ready

  pub fn-inside : at + 5 ≤ 8192
  fn-inside = omega (arith, record_room (node-ready h.visit) e, facts.long)

  -- there are words for the arguments, and the body's after them
  pub body-inside : {long count : ℕ} → long ≡ record_length image at → count ≡ count_at image at → 5 + 2 * count ≤ long
  body-inside el ec = omega (arith, facts.long, el, ec)

  pub body_end : {long count : ℕ} → long ≡ record_length image at → count ≡ count_at image at → at + 5 + 2 * count + (long - (5 + 2 * count)) ≤ 8192
  body_end el ec = omega (arith, record_room (node-ready h.visit) e, facts.long, el, ec)

  pub begin-ready : BeginReady image places at st b.functions b.scratch
  begin-ready = record {
    arguments = record { readable = (node-ready h.visit).readable; pairs = facts.args; room = omega (arith, record_room (node-ready h.visit) e, facts.long) };
    ret = record { readable = (node-ready h.visit).readable; below = facts.ret.under };
    slots = omega (arith, facts.slots, (node-ready h.visit).readable.accepted.most-slots);
    free = free-less all_room.free (omega arith);
    rows = record { after = omega (arith, all_room.rows.after) };
    inside = fn-inside;
  }

  pub end-ready : EndReady image places at
  end-ready = record { ret = record { readable = (node-ready h.visit).readable; below = facts.ret.under }; inside = fn-inside }

  -- the rule of the node is Fn's
  fn-node : {b' : Lent} {v : Visit Answer}
      → Visits (fn_at (ctx_in T image words) image at n (block (ctx_in T image words) (body_at image at))) (2 * count_at image at + rooms (body_at image at))
      (3 + 2 * count_at image at + rows_all (body_at image at)) words st b b' v
      → NodeVisited T image words n st b b' v
  unfolding node
  fn-node {b'} {v} x =
      let y : Visits (node (ctx_in T image words) (tree_of image n)) (2 * count_at image at + rooms (body_at image at))
      (3 + 2 * count_at image at + rows_all (body_at image at)) words st b b' v = rw is-fn x in
      visits-most (omega (arith, room-is)) (omega (arith, rows_is)) y

  -- ── The ways out ──

  abbrev begins : (b₁ : Lent) → Visit (Option ℕ) → Type 0
  begins b₁ r = Begins (ctx_in T image words) image at n words st b b₁ r

  -- the name was met, or it was refused
  pub fn-ends : {b₁ : Lent} {st₁ : State} {r : Option ℕ} → begins b₁ (Ok (r, st₁)) → r ≡ None → NodeVisited T image words n st b b₁ (Ok (Poison, st₁))
  fn-ends x e = fn-node (visits-most (omega arith) (omega arith) (fn-met (ctx_in T image words) image at n words (rw e at x) (block (ctx_in T image words) (body_at image at))))

  pub fn-refused : {b₁ : Lent} {e : Refusal} → begins b₁ (Err e) → NodeVisited T image words n st b b₁ (Err e)
  fn-refused x = fn-node (begin-refused (ctx_in T image words) image at n words x (block (ctx_in T image words) (body_at image at)) _ _)

  module _ {b₁ : Lent} {ret : ℕ} {st₁ : State} {r : Option ℕ} (x : begins b₁ (Ok (r, st₁))) (is : r ≡ Some ret) where
    due_then : begins b₁ (Ok (Some ret, st₁))
    due_then = rw is at x

    body-room : KeepsBegun (ctx_in T image words) image at n words st b b₁ (Ok (Some ret, st₁)) → Ready T image places words (rooms (body_at image at)) (rows_all (body_at image at)) st₁ b₁
    body-room (due y) = ready-then (ready-inner all_room) (after-begin (ready-inner all_room) n _ (fn-proper h.visit.ready.given h.visit.below is-fn) y)

    body-fresh : KeepsBegun (ctx_in T image words) image at n words st b b₁ (Ok (Some ret, st₁)) → Fresh (visited_among (body_at image at)) b₁.slots
    unfolding visited_below
    body-fresh (due y) =
        fresh-rest (read_fn (tree_of image) image n at ∷ []) (visited_among (body_at image at)) (rw is-fn at h.visit.fresh)
        (begin-apart (ctx_in T image words) n (slot_at image at) (name_at image at) (return_at image at) (args_at image at) (body_at image at) y)

    -- the body's nodes are parts of the Fn
    pub body-visit : {count long : ℕ} → count ≡ count_at image at → long ≡ record_length image at → ListVisit T image places words n (at + 5 + 2 * count) (long - (5 + 2 * count)) st₁ b₁
    body-visit ec el = rw (ec, el) (record {
      below = omega (arith, h.visit.below);
      nodes = facts.body;
      inside = omega (arith, record_room (node-ready h.visit) e, facts.long);
      ready = body-room due_then.keeps;
      fresh = body-fresh due_then.keeps;
    })

    module _ {count long : ℕ} {b₂ : Lent} (ec : count ≡ count_at image at) (el : long ≡ record_length image at) where
      in_body : {v : Visit Answer} → ListVisited T image words (at + 5 + 2 * count) (long - (5 + 2 * count)) st₁ b₁ b₂ v
          → ListVisited T image words (at + 5 + 2 * count_at image at) (record_length image at - (5 + 2 * count_at image at)) st₁ b₁ b₂ v
      in_body y = rw (ec, el) at y

      pub fn-stops : {e : Refusal} → ListVisited T image words (at + 5 + 2 * count) (long - (5 + 2 * count)) st₁ b₁ b₂ (Err e) → NodeVisited T image words n st b b₂ (Err e)
      fn-stops y = fn-node (body-stops (ctx_in T image words) image at n words due_then (body_at image at) (in_body y) refl _ _)

      pub fn-done : {computed : Answer} {st₂ : State} {b₃ : Lent} {v₃ : Visit Answer} → ListVisited T image words (at + 5 + 2 * count) (long - (5 + 2 * count)) st₁ b₁ b₂ (Ok (computed, st₂))
          → Visits (end_at (ctx_in T image words) image at n ret computed) 0 0 words (left_of st₂ st) b₂ b₃ v₃ → NodeVisited T image words n st b b₃ v₃
      fn-done y z = fn-node (fn-visited (ctx_in T image words) image at n words due_then (body_at image at) (in_body y) refl z)
