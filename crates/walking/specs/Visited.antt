-- What the functions that visit ask for, and what they say: the rule, over all six buffers (docs/WALK.md, "Contracts"). Definitions.
use Rattle.std.specs.Prelude.{ℕ, ◌+◌, ◌≤◌, ◌<◌, ◌≡◌, List, ◌++◌, get_or}
use Rattle.tok.specs.Text.{Texts}
use Rattle.tok.specs.Word.{kind_of}
use Rattle.tok.specs.Step.{◌>>=◌, ◌>>◌}
use Rattle.library.specs.Package.{packages_of}
use Rattle.ast.specs.Image.{node_count, slot_count, word_at}
use Rattle.ast.specs.Node.{Node, Nodes, Values, tree_of, nodes_from, values_from}
use Rattle.image_laws.specs.Many.{Each}
use Rattle.image_laws.specs.RecordWords.{Under}
use Rattle.rules.specs.declared.Answer.{Answer}
use Rattle.rules.specs.declared.Answer.TheVariants.{Known}
use Rattle.rules.specs.World.{Ctx, Walk}
use Rattle.rules.specs.Rules.{node, block, last, condition}
use Rattle.rules.specs.Visited.{visited_among}
use Rattle.accepts.proofs.Fresh.{visited_from, Fresh}
use Rattle.state.specs.Context.{ctx}
use Rattle.room_laws.specs.Room.{room, rooms, rows, rows_all}
use Rattle.visit.specs.declared.State.{State}
use Rattle.visit.specs.Whole.{Lent, Visit}
use Rattle.visit.specs.Within.{Visits}
use Rattle.ready.specs.Ready.{Ready, NodeVisit}

-- what stays during the walk, as the rules have it
abbrev pub ctx_in : Texts → (image words : List ℕ) → Ctx
ctx_in T image words = ctx T (packages_of words) (slot_count image)

-- ── A node ──

abbrev pub NodeVisited : Texts → (image words : List ℕ) → (n : ℕ) → State → (b b' : Lent) → Visit Answer → Type 0
NodeVisited T image words n st b b' v = Visits (node (ctx_in T image words) (tree_of image n)) (room (tree_of image n)) (rows (tree_of image n)) words st b b' v

-- a node whose kind has a property
pub record ClassVisit (Class : ℕ → Type 0) (T : Texts) (image places words : List ℕ) (n : ℕ) (st : State) (b : Lent) : Type 0 where
  pub visit : NodeVisit T image places words n st b
  pub kind : Class (kind_of (get_or image (get_or places n 0) 0))

-- ── Nodes one after the other: those whose numbers stand from word `at` on ──

abbrev pub nodes_at : (image : List ℕ) → (at k : ℕ) → Nodes
nodes_at image at k = nodes_from (tree_of image) image at k

pub record ListVisit (T : Texts) (image places words : List ℕ) (owner at k : ℕ) (st : State) (b : Lent) : Type 0 where
  -- roots are below the node count
  pub below : owner ≤ node_count image
  pub nodes : Each (Under owner image) 1 at k
  pub inside : at + k ≤ 8192
  pub ready : Ready T image places words (rooms (nodes_at image at k)) (rows_all (nodes_at image at k)) st b
  pub fresh : Fresh (visited_among (nodes_at image at k)) b.slots

abbrev pub ListVisited : Texts → (image words : List ℕ) → (at k : ℕ) → State → (b b' : Lent) → Visit Answer → Type 0
ListVisited T image words at k st b b' v =
    Visits (last (ctx_in T image words) (Known (slot_count image)) (nodes_at image at k)) (rooms (nodes_at image at k)) (rows_all (nodes_at image at k)) words st b b' v

-- ── A case of a Match, which stands at word `at`: token, condition, body count, body ──

abbrev pub case_body : (image : List ℕ) → (at : ℕ) → Nodes
case_body image at = nodes_at image (at + 3) (word_at image (at + 2))

-- the condition, then the body
unfoldable pub case_rule : Ctx → (n token : ℕ) → Node → Nodes → Walk Answer
case_rule c n token x body = do
  a ← node c x
  condition c n token a
  block c body

pub record CaseVisit (T : Texts) (image places words : List ℕ) (n at : ℕ) (st : State) (b : Lent) : Type 0 where
  pub below : n < node_count image
  pub test : Under n image (at + 1)
  pub body : Each (Under n image) 1 (at + 3) (word_at image (at + 2))
  pub inside : at + 3 + word_at image (at + 2) ≤ 8192
  pub ready : Ready T image places words (room (tree_of image (word_at image (at + 1))) + rooms (case_body image at))
      (rows (tree_of image (word_at image (at + 1))) + rows_all (case_body image at)) st b
  pub fresh : Fresh (visited_from (tree_of image (word_at image (at + 1))) ++ visited_among (case_body image at)) b.slots

abbrev pub CaseVisited : Texts → (image words : List ℕ) → (n at : ℕ) → State → (b b' : Lent) → Visit Answer → Type 0
CaseVisited T image words n at st b b' v =
    Visits (case_rule (ctx_in T image words) n (word_at image at) (tree_of image (word_at image (at + 1))) (case_body image at))
    (room (tree_of image (word_at image (at + 1))) + rooms (case_body image at)) (rows (tree_of image (word_at image (at + 1))) + rows_all (case_body image at)) words st b b' v

-- ── The values of a Record: pairs of a name and a node from word `at` on ──

abbrev pub values_at : (image : List ℕ) → (at k : ℕ) → Values
values_at image at k = values_from (tree_of image) image at k
