-- Nodes one after the other, as a loop visits them: its invariant, with a law for its beginning, each turn and its ends. Assumes nothing.
use Rattle.state.specs.declared.Refusal.{Refusal}
use Rattle.std.specs.Prelude.{ℕ, ◌+◌, ◌-◌, ◌*◌, ◌≤◌, ◌<◌, ◌≡◌, refl, List, ◌++◌, get_or, Ok, Err}
use Rattle.std.proofs.Common.{sym, ap, ◌∙◌}
use native.Mathlib.Omega.{arith}
use Rattle.tok.specs.Text.{Texts}
use Rattle.ast.specs.Image.{node_count, slot_count}
use Rattle.ast.specs.Node.{Nodes, done, then, tree_of, nodes_from}
use Rattle.image_laws.specs.Many.{Each}
use Rattle.image_laws.specs.RecordWords.{Under}
use Rattle.rules.specs.declared.Answer.{Answer}
use Rattle.rules.specs.declared.Answer.TheVariants.{Known, Poison}
use Rattle.rules.specs.Rules.{last}
use Rattle.rules.specs.Visited.{visited_among}
use Rattle.accepts.proofs.Fresh.{visited_from, Fresh, fresh-first, fresh-rest}
use Rattle.room_laws.specs.Room.{room, rooms, rows, rows_all}
use Rattle.visit.specs.declared.State.{State}
use Rattle.visit.specs.Whole.{Lent}
use Rattle.visiting.specs.Blocks.{left_of}
use Rattle.visiting.specs.Blocks.{leave_of}
use Rattle.visiting.specs.Leads.{Beginning, Leads, leads-begin, leads-then, leads-stop, leads-return}
use Rattle.ready.specs.Ready.{Ready, NodeVisit}
use Rattle.ready.specs.Passes.{ready-less, ready-then}
use Rattle.ready.specs.Parts.{node-visit, nodes-turn, nodes-room}
use Rattle.ready.specs.Unvisited.{nodes-fresh, visit-apart}
use Rattle.ready.specs.After.{after-node}
use Rattle.walking.specs.Visited.{ctx_in, nodes_at, ListVisit, ListVisited, NodeVisited}

-- the list's rule, at its beginning
abbrev pub listing : Texts → (image words : List ℕ) → (at k : ℕ) → State → Lent → Beginning
listing T image words at k st b =
    record {
      rule = last (ctx_in T image words) (Known (slot_count image)) (nodes_at image at k);
      room = rooms (nodes_at image at k);
      rows = rows_all (nodes_at image at k);
      library = words;
      st = st;
      b = b;
    }

-- all k nodes from word `at` on; and one less is left
pub whole-left : (at k : ℕ) → at + k - at ≡ k
whole-left at k = omega arith

pub one-less : (k i : ℕ) → k - (i + 1) ≡ k - i - 1
one-less k i = omega arith

-- `left` nodes are left, from word `place` on; the one before them answered `answer`
pub record Turn (T : Texts) (image places words : List ℕ) (owner at k : ℕ) (st : State) (b : Lent) (place left : ℕ) (answer : Answer) (here : State) (b' : Lent) : Type 0 where
  pub leads : Leads (listing T image words at k st b) (last (ctx_in T image words) answer (nodes_at image place left))
      (rooms (nodes_at image place left)) (rows_all (nodes_at image place left)) here b'
  pub visit : ListVisit T image places words owner place left here b'

pub turn-begin : {T : Texts} {image places words : List ℕ} {owner at k void : ℕ} {st : State} {b : Lent} → ListVisit T image places words owner at k st b → void ≡ get_or image 3 0
    → Turn T image places words owner at k st b at k (Known void) st b
turn-begin v e = rw e (record { leads = leads-begin _; visit = v })

module _ {T : Texts} {image places words : List ℕ} {owner at k : ℕ} {st : State} {b : Lent} {place left : ℕ} {answer : Answer} {here : State} {b' : Lent}
    (h : Turn T image places words owner at k st b place left answer here b') where
  pub place_inside : place + left ≤ 8192
  place_inside = h.visit.inside

  module _ (l : 0 < left) {part : ℕ} (e : part ≡ get_or image place 0) where
    pub part-under : part < owner
    part-under = rw e (each_first₁ h.visit.nodes)
      where
        first : (k : ℕ) → 0 < k → Each (Under owner image) 1 place k → get_or image place 0 < owner
        first k l e = let z : place + 1 * 0 ≡ place = omega arith in rw z at (e.each 0 l).under

        each_first₁ : Each (Under owner image) 1 place left → get_or image place 0 < owner
        each_first₁ x = first left l x

    part-below : part < node_count image
    part-below = omega (arith, part-under, h.visit.below)

    others : Each (Under owner image) 1 (place + 1) (left - 1)
    others = record { each = λ i m. let z : place + 1 * (i + 1) ≡ place + 1 + 1 * i = omega arith in rw z at (h.visit.nodes.each (i + 1) (omega (arith, m))) }

    first-room : Ready T image places words (room (tree_of image part) + rooms (nodes_at image (place + 1) (left - 1)))
        (rows (tree_of image part) + rows_all (nodes_at image (place + 1) (left - 1))) here b'
    first-room = rw e (ready-less (omega arith) (omega arith) (nodes-room place l 0 0 (ready-less (omega arith) (omega arith) h.visit.ready)))

    all-fresh : Fresh (visited_from (tree_of image (get_or image place 0)) ++ visited_among (nodes_at image (place + 1) (left - 1))) b'.slots
    all-fresh = nodes-fresh image place l h.visit.fresh

    pub turn-visit : NodeVisit T image places words part here b'
    turn-visit = node-visit _ _ part-below first-room (rw e (fresh-first _ _ all-fresh))

    onward : Leads (listing T image words at k st b) (last (ctx_in T image words) answer (then (tree_of image part) (nodes_at image (place + 1) (left - 1))))
        (rooms (then (tree_of image part) (nodes_at image (place + 1) (left - 1)))) (rows_all (then (tree_of image part) (nodes_at image (place + 1) (left - 1)))) here b'
    onward = rw (e, ← (nodes-turn image place l)) h.leads

    module _ {b'' : Lent} where
      pub turn-stops : {e : Refusal} → NodeVisited T image words part here b' b'' (Err e) → ListVisited T image words at k st b b'' (Err e)
      unfolding last
      turn-stops x = leads-stop (λ a. last (ctx_in T image words) a (nodes_at image (place + 1) (left - 1))) onward x

      pub turn-next : {a : Answer} {next : State} → NodeVisited T image words part here b' b'' (Ok (a, next)) → Turn T image places words owner at k st b (place + 1) (left - 1) a next b''
      unfolding last rooms rows_all
      turn-next x = record {
        leads = leads-then (λ a. last (ctx_in T image words) a (nodes_at image (place + 1) (left - 1))) onward x;
        visit = record {
          below = h.visit.below;
          nodes = others;
          inside = omega (arith, h.visit.inside);
          ready = ready-then first-room (after-node first-room part-below x);
          fresh = fresh-rest _ _ all-fresh (visit-apart (ctx_in T image words) (tree_of image (get_or image place 0)) (rw e at x));
        };
      }

  pub turn_end : left ≤ 0 → ListVisited T image words at k st b b' (Ok (answer, here))
  unfolding last nodes_from
  turn_end l = let z : left ≡ 0 = omega arith in leads-return answer (rw z at h.leads)
