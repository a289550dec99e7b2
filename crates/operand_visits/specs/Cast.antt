-- Node::Cast, put together of its type, the visit of its operand and what comes after: what the calls ask for, and one law for each
-- return. Assumes nothing.
use Rattle.state.specs.declared.Refusal.{Refusal}
use Rattle.std.specs.Prelude.{ℕ, ◌+◌, ◌≤◌, ◌<◌, ◌≡◌, refl, get_or, Ok, Err}
use mathlib.Core.List.{List, []}
use Rattle.std.proofs.Common.{arith}
use Rattle.tok.specs.Text.{Texts}
use Rattle.tok.specs.Step.{◌>>=◌}
use Rattle.ast.specs.Image.{word_at, record_kind}
use Rattle.ast.specs.Node.{tree_of, read_cast}
use Rattle.image_laws.specs.RecordWords.{CastWords}
use Rattle.places.specs.NodesAt.{NodeReady, counts_of, node-cast, words-cast}
use Rattle.rules.specs.declared.Answer.{Answer}
use Rattle.rules.specs.World.{Walk}
use Rattle.rules.specs.Rules.{node}
use Rattle.accepts.proofs.Fresh.{visited_from, Fresh, fresh-rest}
use Rattle.room_laws.specs.Room.{room, rows}
use Rattle.visit.specs.declared.State.{State}
use Rattle.visit.specs.Whole.{Lent, Visit}
use Rattle.visit.specs.Within.{Visits}
use Rattle.visiting.specs.Then.{visits-stop, visits-then, visits-most}
use Rattle.visiting.specs.Leads.{Beginning, Whole, Leads, leads-begin, leads-less, leads-then, leads-stop}
use Rattle.visiting.specs.Operands.{Visiting}
use Rattle.ready.specs.Ready.{Ready, NodeVisit, node-ready}
use Rattle.ready.specs.Passes.{visit_passes, ready-step}
use Rattle.ready.specs.After.{type-gives}
use Rattle.ready.specs.Parts.{cast-room}
use Rattle.ready.specs.Unvisited.{cast-fresh, type-apart}
use Rattle.ready.specs.Asked.{cast-type}
use Rattle.walking.specs.Kinds.{Is}
use Rattle.walking.specs.Visited.{ctx_in, NodeVisited, ClassVisit}
use Rattle.operands.specs.Ends.{cast_type, cast_end}
use Rattle.type_expr.specs.Ready.{TypeReady}

module _ {T : Texts} {image places words : List ℕ} {n : ℕ} {st : State} {b : Lent} {at : ℕ} (pre : ClassVisit (Is 9) T image places words n st b) (ea : at ≡ get_or places n 0) where
  abbrev there : NodeReady image places n
  there = node-ready pre.visit

  kind-is : record_kind image at ≡ 9
  kind-is = rw ea pre.kind

  tree_is : tree_of image n ≡ read_cast (tree_of image) image n at
  tree_is = node-cast there ea refl refl kind-is

  words_are : CastWords (counts_of there) image n at
  words_are = words-cast there ea refl refl kind-is

  pub cast-ready : TypeReady image places (word_at image (at + 4))
  cast-ready = cast-type there ea words_are refl

  pub operand-under : {i : ℕ} → i ≡ get_or image (at + 3) 0 → i < n
  operand-under e = rw e words_are.left.under

  rooms : Ready T image places words (room (tree_of image (word_at image (at + 3)))) (rows (tree_of image (word_at image (at + 3)))) st b
  rooms = cast-room pre.visit tree_is

  -- the rule: the type, then what is left of it
  abbrev left : (to : ℕ) → Walk Answer
  left to = ◌>>=◌ (node (ctx_in T image words) (tree_of image (word_at image (at + 3)))) (λ a. cast_end (ctx_in T image words) image n at to a)

  abbrev start : Beginning
  start = record {
    rule = ◌>>=◌ (cast_type (ctx_in T image words) image n at) left;
    room = room (tree_of image (word_at image (at + 3)));
    rows = rows (tree_of image (word_at image (at + 3)));
    library = words;
    st = st;
    b = b;
  }

  as_read : {b' : Lent} {v : Visit Answer} → Whole start b' v → Visiting (ctx_in T image words) words (read_cast (tree_of image) image n at) st b b' v
  unfolding node room rows cast_type cast_end
  as_read x = record { step = x.step; keeps = x.keeps }

  as_node_lem : {b' : Lent} {v : Visit Answer} → Whole start b' v → NodeVisited T image words n st b b' v
  as_node_lem x = rw tree_is (as_read x)

  module _ {b₀ : Lent} where
    pub type-stops : {e : Refusal} → Visits (cast_type (ctx_in T image words) image n at) 0 0 words st b b₀ (Err e) → NodeVisited T image words n st b b₀ (Err e)
    type-stops g = as_node_lem (leads-stop left (leads-begin start) g)

    module _ {to : ℕ} {begun : State} (g : Visits (cast_type (ctx_in T image words) image n at) 0 0 words st b b₀ (Ok (to, begun))) where
      begun-ready : Ready T image places words (room (tree_of image (word_at image (at + 3)))) (rows (tree_of image (word_at image (at + 3)))) begun b₀
      unfolding cast_type
      begun-ready = ready-step rooms (visit_passes g (type-gives rooms n (word_at image (at + 4)) cast-ready.below))

      begun_fresh : Fresh (visited_from (tree_of image (word_at image (at + 3)))) b₀.slots
      unfolding cast_type
      begun_fresh = fresh-rest [] _ (cast-fresh pre.visit tree_is) (type-apart (ctx_in T image words) n _ g)

      pub operand-visit : {i : ℕ} → i ≡ get_or image (at + 3) 0 → NodeVisit T image places words i begun b₀
      operand-visit {i} e =
          let l : i < n = operand-under e in
          record { below = omega (arith, there.below); ready = rw e begun-ready; fresh = rw e begun_fresh }

      leads : Leads start (left to) (room (tree_of image (word_at image (at + 3)))) (rows (tree_of image (word_at image (at + 3)))) begun b₀
      leads = leads-then left (leads-less (omega arith) (omega arith) (leads-begin start)) g

      module _ {i : ℕ} (ei : i ≡ get_or image (at + 3) 0) {b₁ : Lent} where
        visited : {v : Visit Answer} → NodeVisited T image words i begun b₀ b₁ v → Visiting (ctx_in T image words) words (tree_of image (word_at image (at + 3))) begun b₀ b₁ v
        visited x = rw ei at x

        pub operand-stops : {e : Refusal} → NodeVisited T image words i begun b₀ b₁ (Err e) → NodeVisited T image words n st b b₁ (Err e)
        operand-stops {e} x = as_node_lem (leads.onto b₁ (Err e) (visits-stop (λ a. cast_end (ctx_in T image words) image n at to a) (visited x) _ _))

        pub cast_ends : {a : Answer} {end : State} {b₂ : Lent} {v₂ : Visit Answer} → NodeVisited T image words i begun b₀ b₁ (Ok (a, end))
            → Visits (cast_end (ctx_in T image words) image n at to a) 0 0 words end b₁ b₂ v₂ → NodeVisited T image words n st b b₂ v₂
        cast_ends {b₂ = b₂} {v₂ = v₂} x z = as_node_lem (leads.onto b₂ v₂ (visits-most (omega arith) (omega arith) (visits-then (λ a. cast_end (ctx_in T image words) image n at to a) (visited x) z)))
