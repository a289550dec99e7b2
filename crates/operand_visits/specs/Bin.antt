-- Node::Bin, put together of the visits of its sides and of what comes after: what the calls ask for, and one law for each return.
-- Assumes nothing.
use Rattle.state.specs.declared.Refusal.{Refusal}
use Rattle.std.specs.Prelude.{ℕ, ◌+◌, ◌≤◌, ◌<◌, ◌≡◌, refl, List, ◌++◌, get_or, Ok, Err}
use Rattle.std.proofs.Common.{arith}
use Rattle.tok.specs.Text.{Texts}
use Rattle.ast.specs.Image.{word_at, record_kind}
use Rattle.ast.specs.Node.{tree_of, read_bin}
use Rattle.image_laws.specs.RecordWords.{BinWords}
use Rattle.places.specs.NodesAt.{NodeReady, counts_of, node-bin, words-bin}
use Rattle.rules.specs.declared.Answer.{Answer}
use Rattle.rules.specs.Rules.{node}
use Rattle.room_laws.specs.Room.{room, rows}
use Rattle.accepts.proofs.Fresh.{visited_from, Fresh, fresh-first, fresh-rest}
use Rattle.visit.specs.declared.State.{State}
use Rattle.visit.specs.Whole.{Lent, Visit}
use Rattle.visit.specs.Within.{Visits}
use Rattle.visiting.specs.Then.{visits-then, visits-most}
use Rattle.visiting.specs.Operands.{Visiting, bin-left-stops, bin-right-stops}
use Rattle.ready.specs.Ready.{Ready, NodeVisit, node-ready}
use Rattle.ready.specs.Passes.{ready-then}
use Rattle.ready.specs.After.{after-node}
use Rattle.ready.specs.Parts.{node-visit, bin-room}
use Rattle.ready.specs.Unvisited.{bin-fresh, visit-apart}
use Rattle.walking.specs.Kinds.{Is}
use Rattle.walking.specs.Visited.{ctx_in, NodeVisited, ClassVisit}
use Rattle.operands.specs.Ends.{bin_end}

module _ {T : Texts} {image places words : List ℕ} {n : ℕ} {st : State} {b : Lent} {at : ℕ} (pre : ClassVisit (Is 2) T image places words n st b) (ea : at ≡ get_or places n 0) where
  abbrev there : NodeReady image places n
  there = node-ready pre.visit

  kind-is : record_kind image at ≡ 2
  kind-is = rw ea pre.kind

  tree_is : tree_of image n ≡ read_bin (tree_of image) image n at
  tree_is = node-bin there ea refl refl kind-is

  words_are : BinWords (counts_of there) image n at
  words_are = words-bin there ea refl refl kind-is

  pub left-under : {i : ℕ} → i ≡ get_or image (at + 4) 0 → i < n
  left-under e = rw e words_are.left.under

  pub right-under : {i : ℕ} → i ≡ get_or image (at + 5) 0 → i < n
  right-under e = rw e words_are.right.under

  rooms : Ready T image places words (room (tree_of image (word_at image (at + 4))) + room (tree_of image (word_at image (at + 5))))
      (rows (tree_of image (word_at image (at + 4))) + rows (tree_of image (word_at image (at + 5)))) st b
  rooms = bin-room pre.visit tree_is

  sides : Fresh (visited_from (tree_of image (word_at image (at + 4))) ++ visited_from (tree_of image (word_at image (at + 5)))) b.slots
  sides = bin-fresh pre.visit tree_is

  pub left-visit : {i : ℕ} → i ≡ get_or image (at + 4) 0 → NodeVisit T image places words i st b
  left-visit {i} e =
      let l : i < n = left-under e in
      node-visit (room (tree_of image (word_at image (at + 5)))) (rows (tree_of image (word_at image (at + 5)))) (omega (arith, there.below)) (rw e rooms) (rw e (fresh-first _ _ sides))

  module _ {i : ℕ} (ei : i ≡ get_or image (at + 4) 0) {b₁ : Lent} where
    left-visited : {v : Visit Answer} → NodeVisited T image words i st b b₁ v → Visiting (ctx_in T image words) words (tree_of image (word_at image (at + 4))) st b b₁ v
    left-visited x = rw ei at x

    pub left-stops : {e : Refusal} → NodeVisited T image words i st b b₁ (Err e) → NodeVisited T image words n st b b₁ (Err e)
    left-stops x = rw tree_is (bin-left-stops _ _ _ _ _ _ (tree_of image (word_at image (at + 5))) (left-visited x))

    module _ {l : Answer} {st₁ : State} (x : NodeVisited T image words i st b b₁ (Ok (l, st₁))) where
      pub right-visit : {j : ℕ} → j ≡ get_or image (at + 5) 0 → NodeVisit T image places words j st₁ b₁
      right-visit {j} e =
          let k : word_at image (at + 4) < n = left-under refl in
          let l : j < n = right-under e in
          let p = after-node rooms (omega (arith, there.below)) (left-visited x) in
          let f = fresh-rest _ _ sides (visit-apart (ctx_in T image words) (tree_of image (word_at image (at + 4))) (left-visited x)) in
          record { below = omega (arith, there.below); ready = rw e (ready-then rooms p); fresh = rw e f }

      module _ {j : ℕ} (ej : j ≡ get_or image (at + 5) 0) {b₂ : Lent} where
        right-visited : {v : Visit Answer} → NodeVisited T image words j st₁ b₁ b₂ v → Visiting (ctx_in T image words) words (tree_of image (word_at image (at + 5))) st₁ b₁ b₂ v
        right-visited y = rw ej at y

        pub right-stops : {e : Refusal} → NodeVisited T image words j st₁ b₁ b₂ (Err e) → NodeVisited T image words n st b b₂ (Err e)
        right-stops y = rw tree_is (bin-right-stops _ _ _ _ _ _ _ (left-visited x) (right-visited y))

        ends : {r : Answer} {st₂ : State} {b₃ : Lent} {v₃ : Visit Answer} → NodeVisited T image words j st₁ b₁ b₂ (Ok (r, st₂))
            → Visits (bin_end (ctx_in T image words) image n at l r) 0 0 words st₂ b₂ b₃ v₃
            → Visiting (ctx_in T image words) words (read_bin (tree_of image) image n at) st b b₃ v₃
        unfolding node room rows bin_end
        ends y z = visits-then _ (left-visited x) (visits-most (omega arith) (omega arith) (visits-then _ (right-visited y) z))

        pub bin-ends : {r : Answer} {st₂ : State} {b₃ : Lent} {v₃ : Visit Answer} → NodeVisited T image words j st₁ b₁ b₂ (Ok (r, st₂))
            → Visits (bin_end (ctx_in T image words) image n at l r) 0 0 words st₂ b₂ b₃ v₃ → NodeVisited T image words n st b b₃ v₃
        bin-ends y z = rw tree_is (ends y z)
