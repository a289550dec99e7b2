-- Node::Unary, Node::Let and Node::Field, put together of the visit of their operand and of what comes after: what the calls ask for, and
-- one law for each return. Assumes nothing.
use Rattle.state.specs.declared.Refusal.{Refusal}
use Rattle.std.specs.Prelude.{ℕ, ◌+◌, ◌≤◌, ◌<◌, ◌≡◌, List, get_or, Ok, Err}
use Rattle.std.proofs.Math.Path.{refl, ap}
use Rattle.std.proofs.Common.{sym, ◌∙◌, arith}
use Rattle.std.proofs.Math.Decide.{ℕ_discrete}
use Rattle.tok.specs.Text.{Texts}
use Rattle.ast.specs.Image.{word_at, record_kind}
use Rattle.ast.specs.Node.{tree_of, read_unary, read_let, read_field}
use Rattle.places.specs.NodesAt.{NodeReady, node-unary, words-unary, node_let, words_let, node-field, words-field}
use Rattle.rules.specs.declared.Answer.{Answer}
use Rattle.rules.specs.World.{Ctx, World}
use Rattle.rules.specs.Rules.{node}
use Rattle.rules.specs.Visited.{visited_below}
use Rattle.accepts.proofs.Fresh.{visited_from}
use Rattle.room_laws.specs.Room.{room, rows}
use Rattle.visit.specs.declared.State.{State}
use Rattle.visit.specs.Whole.{Lent, whole, Visit}
use Rattle.visit.specs.Within.{Visits}
use Rattle.visiting.specs.Then.{visits-stop, visits-then, visits-most}
use Rattle.visiting.specs.Operands.{Visiting}
use Rattle.ready.specs.Ready.{Ready, NodeVisit, node-ready}
use Rattle.ready.specs.Passes.{ready-then, ready-less}
use Rattle.ready.specs.After.{after-node}
use Rattle.ready.specs.Unvisited.{below-fresh}
use Rattle.ready.specs.Asked.{let_bindable}
use Rattle.walking.specs.Kinds.{OneOperand, is_field}
use Rattle.walking.specs.Visited.{ctx_in, NodeVisited, ClassVisit}
use Rattle.operands.specs.Ends.{operand_at, one_end, one_room}
use Rattle.operands.specs.Ready.{OneReady}
use Rattle.operands.specs.Parts.{at-unary, at_let, at_field, one_rule, one-unary, one_let, one_field, room-unary, room_let, room-field}

-- what the laws below need of the node, whichever of the three it is
record OneNode (c : Ctx) (image : List ℕ) (n at : ℕ) : Type 0 where
  under : operand_at image at < n
  rule : (w : World) → node c (tree_of image n) w ≡ one_rule c (tree_of image) image n at w
  room : room (tree_of image n) ≡ room (tree_of image (operand_at image at)) + one_room image at
  rows : rows (tree_of image n) ≡ rows (tree_of image (operand_at image at)) + 0
  below : visited_below (tree_of image n) ≡ visited_from (tree_of image (operand_at image at))

module _ (c : Ctx) {image places : List ℕ} {n at : ℕ} (r : NodeReady image places n) (e : at ≡ get_or places n 0) where
  unary-node : record_kind image at ≡ 3 → OneNode c image n at
  unfolding room rows visited_below
  unary-node q =
      let t : tree_of image n ≡ read_unary (tree_of image) image n at = node-unary r e refl refl q in
      let i : operand_at image at ≡ word_at image (at + 4) = at-unary image at q in
      record {
        under = rw i (words-unary r e refl refl q).right.under;
        rule = λ w. ap (λ x. node c x w) t ∙ one-unary c (tree_of image) image n at q w;
        room = omega (arith, ap room t, ap (λ i. room (tree_of image i)) i, room-unary image at q);
        rows = omega (arith, ap rows t, ap (λ i. rows (tree_of image i)) i);
        below = ap visited_below t ∙ ap (λ i. visited_from (tree_of image i)) (sym i);
      }

  let_node : record_kind image at ≡ 4 → OneNode c image n at
  unfolding room rows visited_below
  let_node q =
      let t : tree_of image n ≡ read_let (tree_of image) image n at = node_let r e refl refl q in
      let i : operand_at image at ≡ word_at image (at + 3) = at_let image at q in
      record {
        under = rw i (words_let r e refl refl q).right.under;
        rule = λ w. ap (λ x. node c x w) t ∙ one_let c (tree_of image) image n at q w;
        room = omega (arith, ap room t, ap (λ i. room (tree_of image i)) i, room_let image at q);
        rows = omega (arith, ap rows t, ap (λ i. rows (tree_of image i)) i);
        below = ap visited_below t ∙ ap (λ i. visited_from (tree_of image i)) (sym i);
      }

  field-node : record_kind image at ≡ 8 → OneNode c image n at
  unfolding room rows visited_below
  field-node q =
      let t : tree_of image n ≡ read_field (tree_of image) image n at = node-field r e refl refl q in
      let i : operand_at image at ≡ word_at image (at + 2) = at_field image at q in
      record {
        under = rw i (words-field r e refl refl q).target.under;
        rule = λ w. ap (λ x. node c x w) t ∙ one_field c (tree_of image) image n at q w;
        room = omega (arith, ap room t, ap (λ i. room (tree_of image i)) i, room-field image at q);
        rows = omega (arith, ap rows t, ap (λ i. rows (tree_of image i)) i);
        below = ap visited_below t ∙ ap (λ i. visited_from (tree_of image i)) (sym i);
      }

  one-node : OneOperand (record_kind image at) → OneNode c image n at
  one-node h = elim (ℕ_discrete (record_kind image at) 3) [
    | yes q ↦ unary-node q
    | no a ↦ elim (ℕ_discrete (record_kind image at) 4) [
      | yes q ↦ let_node q
      | no d ↦ field-node (is_field (record_kind image at) h a d)
    ]
  ]

module _ {T : Texts} {image places words : List ℕ} {n : ℕ} {st : State} {b : Lent} {at : ℕ} (pre : ClassVisit OneOperand T image places words n st b) (ea : at ≡ get_or places n 0) where
  abbrev there : NodeReady image places n
  there = node-ready pre.visit

  is_one : OneNode (ctx_in T image words) image n at
  is_one = one-node (ctx_in T image words) there ea (rw ea pre.kind)

  pub operand-under : {i : ℕ} → i ≡ operand_at image at → i < n
  operand-under e = rw e is_one.under

  both : Ready T image places words (room (tree_of image (operand_at image at)) + one_room image at) (rows (tree_of image (operand_at image at)) + 0) st b
  both = ready-less (omega (arith, is_one.room)) (omega (arith, is_one.rows)) pre.visit.ready

  pub operand-visit : {i : ℕ} → i ≡ operand_at image at → NodeVisit T image places words i st b
  operand-visit {i} e =
      let l : i < n = operand-under e in
      record { below = omega (arith, there.below); ready = rw e (ready-less (omega arith) (omega arith) both); fresh = rw (e, ← is_one.below) (below-fresh pre.visit) }

  module _ {i : ℕ} (ei : i ≡ operand_at image at) {b₁ : Lent} where
    visited : {v : Visit Answer} → NodeVisited T image words i st b b₁ v → Visiting (ctx_in T image words) words (tree_of image (operand_at image at)) st b b₁ v
    visited x = rw ei at x

    pub operand-stops : {e : Refusal} → NodeVisited T image words i st b b₁ (Err e) → NodeVisited T image words n st b b₁ (Err e)
    operand-stops x =
        let y = visits-stop (λ a. one_end (ctx_in T image words) image n at a) (visited x) (room (tree_of image n)) (rows (tree_of image n)) in
        record { step = is_one.rule (whole words st b) ∙ y.step; keeps = y.keeps }

    module _ {a : Answer} {end : State} (x : NodeVisited T image words i st b b₁ (Ok (a, end))) where
      left : Ready T image places words (one_room image at) 0 end b₁
      left =
          let l = is_one.under in
          ready-then both (after-node both (omega (arith, there.below)) (visited x))

      pub end-ready : OneReady image at end b₁.scratch
      end-ready = record {
        binds = λ q. let_bindable left there ea (words_let there ea refl refl q) refl (omega (arith, room_let image at q));
      }

      pub one-ends : {b₂ : Lent} {v₂ : Visit Answer} → Visits (one_end (ctx_in T image words) image n at a) (one_room image at) 0 words end b₁ b₂ v₂ → NodeVisited T image words n st b b₂ v₂
      one-ends z =
          let y = visits-most {r' = room (tree_of image n)} {w' = rows (tree_of image n)} (omega (arith, is_one.room))
          (omega (arith, is_one.rows)) (visits-then (λ a. one_end (ctx_in T image words) image n at a) (visited x) z) in
          record { step = is_one.rule (whole words st b) ∙ y.step; keeps = y.keeps }
