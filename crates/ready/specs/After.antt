-- What the run claims of each rule that a visit is made of, from what the visit asks for; and the steps whose contract is a function's of
-- the walk. Assumes nothing.
use Prim.Native.Nat.{ℕ, zero, suc, ◌+◌, ◌*◌, ◌≤◌, ◌<◌}
use Rattle.std.proofs.Common.{arith}
use Rattle.std.specs.Prelude.{◌≡◌, List, get_or, Ok}
use Rattle.tok.specs.Text.{Texts}
use Rattle.tok.specs.declared.Span.{Span}
use Rattle.ast.specs.Image.{word_at, node_count, type_count, root_count, slot_count}
use Rattle.ast.specs.TypeExpr.{TypeExpr, Arg, type_of}
use Rattle.ast.specs.Node.{Node, Nodes, Fn, nodes_from, tree_of}
use Rattle.image_laws.specs.Many.{Each}
use Rattle.image_laws.specs.RecordWords.{Under}
use Rattle.trees.specs.SameWords.{each_first, each-rest}
use Rattle.rules.specs.declared.Answer.{Answer}
use Rattle.rules.specs.declared.Answer.TheVariants.{Known}
use Rattle.rules.specs.World.{World}
use Rattle.rules.specs.Steps.{type_from_expr}
use Rattle.rules.specs.Rules.{condition, member, value_type, block, last, visit_all, node}
use Rattle.rules.specs.Visited.{visited_among}
use Rattle.laws.specs.SlotsOf.{ArgSlots}
use Rattle.onerun.specs.Claim.{Run, end, NameAt, Good, AnswerOk}
use Rattle.onerun.specs.Claim as C
use Rattle.onerun.specs.Grows.{typed_grow}
use Rattle.onerun.specs.Logic.{before, Gives, g_next, g_return}
use Rattle.onerun.proofs.Seen.{NodeOk}
use Rattle.onerun.proofs.Scope.{Any, holds-env, g_enter}
use Rattle.onerun.specs.Proper.{ProperType, ProperArgs, Proper, ProperAll}
use Rattle.onerun.proofs.Arguments.{params_grow}
use Rattle.onerun.proofs.Rules.{MemberOk, g_value, g_condition, g_member}
use Rattle.onerun.proofs.Functions.{Below, BlockOk, signature-ok, g_fn_arguments, g_type_from}
use Rattle.onerun.proofs.Nodes.{Visited, ArgumentsOk, g_node, g_block, g_last, g_all}
use Rattle.state.specs.Store.{env_up}
use Rattle.spans.specs.Ready.{NodesReady}
use Rattle.visit.specs.declared.State.{State}
use Rattle.visit.specs.Whole.{Lent, whole}
use Rattle.visit.specs.Within.{Visits}
use Rattle.room_laws.specs.Room.{room, rows}
use Rattle.visiting.specs.Blocks.{inner_of}
use Rattle.visiting.specs.Operands.{Visiting}
use Rattle.functions.specs.Defined.{fn_begin}
use Rattle.ready.specs.Ready.{walk_run, Given, Ready}
use Rattle.ready.specs.Passes.{Passes, visit_passes}

-- ── The trees of lists ──

module _ {T : Texts} {image places words : List ℕ} (given : Given T image places words) where
  -- k nodes from word `at` on, numbered below `owner`: roots are below the node count
  pub list-proper : (owner : ℕ) → owner ≤ node_count image → (k at : ℕ) → Each (Under owner image) 1 at k
      → ProperAll (Below (walk_run T image words)) (NameAt (walk_run T image words)) (nodes_from (tree_of image) image at k)
  unfolding ProperAll nodes_from
  list-proper owner l zero at e = tt
  list-proper owner l (suc k) at e =
      (given.proper (word_at image at) (omega (arith, (each_first (Under owner image) e).under)), list-proper owner l k (at + 1) (each-rest (Under owner image) e))

  pub nodes-proper : {owner at k : ℕ} → NodesReady image places owner at k → ProperAll (Below (walk_run T image words)) (NameAt (walk_run T image words)) (nodes_from (tree_of image) image at k)
  nodes-proper {owner} {at} {k} h = list-proper owner (omega (arith, h.ready.below)) k at h.nodes

  -- a root
  pub root_below : (i : ℕ) → i < root_count image → get_or image (4 + i) 0 < node_count image
  root_below i l = let e : 4 + 1 * i ≡ 4 + i = omega arith in rw e at (given.readable.accepted.roots.each i l).under

-- what Node::Fn has for its arguments and return type
pub record FnProper (T : Texts) (image words : List ℕ) (slot : ℕ) (e : TypeExpr) (xs : List Arg) (ys : Nodes) : Type 0 where
  pub ret : ProperType (Below (walk_run T image words)) (NameAt (walk_run T image words)) e
  pub args : ProperArgs (Below (walk_run T image words)) (NameAt (walk_run T image words)) xs
  pub slots : ArgSlots (Below (walk_run T image words)) (slot + 1) xs
  pub body : ProperAll (Below (walk_run T image words)) (NameAt (walk_run T image words)) ys

pub fn-proper : {T : Texts} {image places words : List ℕ} → Given T image places words → {n m slot name : ℕ} {ret : TypeExpr} {args : List Arg} {body : Nodes}
    → n < node_count image → tree_of image n ≡ Fn m slot name ret args body → FnProper T image words slot ret args body
unfolding Proper
fn-proper {T} {image} {places} {words} given {n} {m} {slot} {name} {ret} {args} {body} l e =
    let p : Proper (Below (walk_run T image words)) (NameAt (walk_run T image words)) (Fn m slot name ret args body) = rw e at (given.proper n l) in
    record { ret = p.2; args = p.3; slots = p.4; body = p.5 }

-- ── What is claimed of a rule ──

module _ {T : Texts} {image places words : List ℕ} {r w : ℕ} {st : State} {b : Lent} (y : Ready T image places words r w st b) where
  -- the run whose claim the walk relies on, and the world that a function of the walk is called in
  abbrev run : Run
  run = walk_run T image words

  abbrev here : World
  here = whole words st b

  pub node-gives : {n : ℕ} → n < node_count image
      → Gives run (Visited run (tree_of image n)) here
      (node run.ctx (tree_of image n) here)
  node-gives {n} l = g_node run (tree_of image n) (y.given.proper n l) (λ z. y.holds)

  pub block-gives : (xs : Nodes) → ProperAll (Below run) (NameAt run) xs
      → Gives run (BlockOk run (visited_among xs)) here (block run.ctx xs here)
  block-gives xs p = g_block run xs p (λ z. y.holds)

  pub last-gives : (xs : Nodes) {a : Answer} → ProperAll (Below run) (NameAt run) xs → AnswerOk run here a
      → Gives run (BlockOk run (visited_among xs)) here (last run.ctx a xs here)
  last-gives xs p k = g_last run xs p (λ z. y.holds) (λ z. k)

  pub all-gives : (xs : Nodes) → ProperAll (Below run) (NameAt run) xs
      → Gives run (ArgumentsOk run xs) here (visit_all run.ctx xs here)
  all-gives xs p = g_all run xs p (λ z. y.holds)

  pub condition-gives : (n token : ℕ) {a : Answer} → AnswerOk run here a
      → Gives run (Any run) here (condition run.ctx n token a here)
  condition-gives n token k = g_condition run (λ z. y.holds) n token (λ z. k)

  pub member-gives : (n : ℕ) (span : Span) {a x : Answer} → AnswerOk run here a → AnswerOk run here x
      → Gives run (λ _ m. MemberOk run m) here (member run.ctx n span a x here)
  member-gives n span k l = g_member run n span (λ z. y.holds) (λ z. k) (λ z. l)

  pub value-gives : {a : Answer} → AnswerOk run here a
      → Gives run (λ u x. Good run u.types x) here (value_type a here)
  value-gives k = g_value run (λ z. y.holds) (λ z. k)

  pub type-gives : (n t : ℕ) → t < type_count image
      → Gives run (λ u x. Good run u.types x) here
      (type_from_expr run.ctx n (type_of image t) here)
  type-gives n t l = g_type_from run n (type_of image t) (y.given.types t l) (λ z. y.holds)

  -- Node::Fn up to its body, in the state that hides the names outside
  pub begin-gives : (n slot name : ℕ) (ret : TypeExpr) (args : List Arg) (body : Nodes) → FnProper T image words slot ret args body
      → Gives run (λ u x. Good run u.types x) here
      (fn_begin run.ctx n (slot + 1) name ret args here)
  unfolding fn_begin
  begin-gives n slot name ret args body p =
      g_next run _ (g_fn_arguments run n (slot + 1) args p.args p.slots (λ z. y.holds)) (λ ps u₁ t₁ x₁.
      g_next run _ (g_type_from run n ret p.ret (λ z. (x₁ z).holds)) (λ word u₂ t₂ x₂.
      g_next run _
      (g_enter run name ps word (λ z. (x₂ z).holds)
      (λ z. record { sig = signature-ok run (params_grow run (x₂ z).grown (x₁ (before run t₂ z)).value.params) (x₂ z).value }))
      (λ _ u₃ t₃ x₃.
      g_return run (λ z. (x₃ z).holds) (λ z. typed_grow run (x₃ z).grown (x₂ (before run t₃ z)).value))))

  -- ── After a function of the walk ──

  -- a node's visit
  pub after-node : {n : ℕ} {b₁ : Lent} {a : Answer} {st₁ : State} → n < node_count image → Visiting run.ctx words (tree_of image n) st b b₁ (Ok (a, st₁))
      → Passes T image words (Visited run (tree_of image n)) (room (tree_of image n)) (rows (tree_of image n)) st b st₁ b₁ a
  after-node l x = visit_passes x (node-gives l)

  -- a block, and the nodes that are left of one
  pub after_block : {owner at k r₁ w₁ : ℕ} {b₁ : Lent} {a : Answer} {st₁ : State} → NodesReady image places owner at k
      → Visits (block run.ctx (nodes_from (tree_of image) image at k)) r₁ w₁ words st b b₁ (Ok (a, st₁))
      → Passes T image words (BlockOk run (visited_among (nodes_from (tree_of image) image at k))) r₁ w₁ st b st₁ b₁ a
  after_block h x = visit_passes x (block-gives _ (nodes-proper y.given h))

  pub after_last : {owner at k r₁ w₁ : ℕ} {x₀ : Answer} {b₁ : Lent} {a : Answer} {st₁ : State} → owner ≤ node_count image → Each (Under owner image) 1 at k
      → AnswerOk run here x₀
      → Visits (last run.ctx x₀ (nodes_from (tree_of image) image at k)) r₁ w₁ words st b b₁ (Ok (a, st₁))
      → Passes T image words (BlockOk run (visited_among (nodes_from (tree_of image) image at k))) r₁ w₁ st b st₁ b₁ a
  after_last {owner} {at} {k} l e o x = visit_passes x (last-gives _ (list-proper y.given owner l k at e) o)

  pub after-condition : (n token : ℕ) {r₁ w₁ : ℕ} {x₀ : Answer} {b₁ : Lent} {st₁ : State} → AnswerOk run here x₀
      → Visits (condition run.ctx n token x₀) r₁ w₁ words st b b₁ (Ok (tt, st₁))
      → Passes T image words (Any run) r₁ w₁ st b st₁ b₁ (tt {0})
  after-condition n token o x = visit_passes x (condition-gives n token o)

  -- Node::Fn up to its body
  pub after-begin : (n name : ℕ) {slot word r₁ w₁ : ℕ} {ret : TypeExpr} {args : List Arg} {body : Nodes} {b₁ : Lent} {st₁ : State} → FnProper T image words slot ret args body
      → Visits (fn_begin run.ctx n (slot + 1) name ret args) r₁ w₁ words st b b₁ (Ok (word, st₁))
      → Passes T image words (λ u x. Good run u.types x) r₁ w₁ st b st₁ b₁ word
  after-begin n name {slot} {ret = ret} {args = args} {body = body} p x = visit_passes x (begin-gives n slot name ret args body p)

  -- ── Answers ──

  -- slot V has a type: the answer before the first node of the roots, and of an empty block
  pub void-answer : AnswerOk run here (Known (slot_count image))
  void-answer = C.known y.holds.voids

-- a node's answer, and a block's
pub node-answer : {T : Texts} {image words : List ℕ} {slot : ℕ} {args : List ℕ} {ys : List Node} {r w : ℕ} {st st₁ : State} {b b₁ : Lent} {a : Answer}
    → Passes T image words (NodeOk (walk_run T image words) slot args ys) r w st b st₁ b₁ a
    → AnswerOk (walk_run T image words) (whole words st₁ b₁) a
node-answer p = p.after.value.own.answer

pub block-answer : {T : Texts} {image words : List ℕ} {ys : List Node} {r w : ℕ} {st st₁ : State} {b b₁ : Lent} {a : Answer}
    → Passes T image words (BlockOk (walk_run T image words) ys) r w st b st₁ b₁ a
    → AnswerOk (walk_run T image words) (whole words st₁ b₁) a
block-answer p = p.after.value.answer

-- ── "A function body sees only its arguments" ──

pub ready-inner : {T : Texts} {image places words : List ℕ} {r w : ℕ} {st : State} {b : Lent} → Ready T image places words r w st b → Ready T image places words r w (inner_of st) b
unfolding env_up
ready-inner {T} {image} {places} {words} y = record {
  given = y.given;
  holds = holds-env (walk_run T image words) end y.holds;
  free = record { between = omega (arith, y.free.between); few = y.free.few; ends = y.free.ends; long = y.free.long };
  rows = record { after = y.rows.after };
  long = y.long;
}
