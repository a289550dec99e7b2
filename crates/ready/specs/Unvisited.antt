-- Slots of a node's parts have no type yet before their visits, by its kind; and a visit leaves those of other nodes alone. Assumes nothing.
use Rattle.std.specs.Prelude.{ℕ, ◌+◌, ◌-◌, ◌<◌, ◌≡◌, refl, List, [], ◌∷◌, ◌++◌, get_or, Ok}
use Rattle.tok.specs.Text.{Texts}
use Rattle.tok.specs.Step.{ok}
use Rattle.ast.specs.TypeExpr.{TypeExpr, Arg}
use Rattle.ast.specs.Node.{Node, Nodes, Cases, Values, Bin, Unary, Let, Fn, Match, Call, Field, Cast, Record, Array, then, case, value, nodes_from, cases_from, values_from, tree_of}
use Rattle.rules.specs.declared.Answer.{Answer}
use Rattle.rules.specs.World.{Ctx, World, Walk}
use Rattle.rules.specs.Steps.{type_from_expr}
use Rattle.rules.specs.Rules.{node, block, last}
use Rattle.rules.specs.Visited.{visited_below, visited_among, visited_in_cases, visited_in_values}
use Rattle.laws.specs.SlotsOf.{ArgSlots}
use Rattle.laws.specs.Keeps.{Keeps}
use Rattle.laws.specs.RulesKeep.{in_next, in_return, in_type_from, in_fn_arguments, in_enter}
use Rattle.laws.specs.Still.{Still, Any, Other, still_kept, still-enters}
use Rattle.accepts.proofs.OtherSlots.{fn-args}
use Rattle.accepts.proofs.Fresh.{visited_from, Fresh, Apart, fresh-below, none_is, rule-apart, type-from-apart, node-apart, block_apart, last_apart}
use Rattle.functions.specs.Defined.{fn_begin}
use Rattle.visit.specs.declared.State.{State}
use Rattle.visit.specs.Whole.{Lent, whole, visited}
use Rattle.visit.specs.Within.{Visits}
use Rattle.ready.specs.Ready.{NodeVisit}
use Rattle.ready.specs.Parts.{nodes-turn, values-turn, cases-turn}

-- Node::Fn up to its body leaves a slot alone that is none of its arguments'
fn_leaves : (a : ℕ) (c : Ctx) (n slot name : ℕ) (ret : TypeExpr) (args : List Arg) → ArgSlots (Other a) slot args → (s : World) → Keeps (Still a) Any s (fn_begin c n slot name ret args s)
unfolding fn_begin
fn_leaves a c n slot name ret args h =
    in_next (still_kept a) _ (in_fn_arguments (still_kept a) c n slot args h) λ ps.
    in_next (still_kept a) _ (in_type_from (still_kept a) c n ret) λ word.
    in_next (still_kept a) _ (in_enter (still_kept a) (still-enters a) name ps word) λ _.
    in_return (still_kept a) word

-- ── By kind ──

module _ {T : Texts} {image places words : List ℕ} {n : ℕ} {st : State} {b : Lent} (v : NodeVisit T image places words n st b) where
  pub below-fresh : Fresh (visited_below (tree_of image n)) b.slots
  below-fresh = fresh-below (tree_of image n) (visited_below (tree_of image n)) v.fresh

  below : {x : Node} → tree_of image n ≡ x → Fresh (visited_below x) b.slots
  below {x} e = let h : Fresh (visited_from x) b.slots = rw e at v.fresh in fresh-below x (visited_below x) h

  pub bin-fresh : {m slot token op : ℕ} {x y : Node} → tree_of image n ≡ Bin m slot token op x y → Fresh (visited_from x ++ visited_from y) b.slots
  unfolding visited_below
  bin-fresh e = below e

  pub unary-fresh : {m slot token op : ℕ} {x : Node} → tree_of image n ≡ Unary m slot token op x → Fresh (visited_from x) b.slots
  unfolding visited_below
  unary-fresh e = below e

  pub let_fresh : {m slot name : ℕ} {x : Node} → tree_of image n ≡ Let m slot name x → Fresh (visited_from x) b.slots
  unfolding visited_below
  let_fresh e = below e

  pub match-fresh : {m slot token : ℕ} {cs : Cases} {d : Nodes} → tree_of image n ≡ Match m slot cs token d → Fresh (visited_in_cases cs ++ visited_among d) b.slots
  unfolding visited_below
  match-fresh e = below e

  pub call-fresh : {m slot : ℕ} {target : Node} {args : Nodes} → tree_of image n ≡ Call m slot target args → Fresh (visited_among args) b.slots
  unfolding visited_below
  call-fresh e = below e

  pub field-fresh : {m slot name : ℕ} {x : Node} → tree_of image n ≡ Field m slot x name → Fresh (visited_from x) b.slots
  unfolding visited_below
  field-fresh e = below e

  pub cast-fresh : {m slot token : ℕ} {x : Node} {t : TypeExpr} → tree_of image n ≡ Cast m slot token x t → Fresh (visited_from x) b.slots
  unfolding visited_below
  cast-fresh e = below e

  pub record_fresh : {m slot token : ℕ} {fs : Values} → tree_of image n ≡ Record m slot token fs → Fresh (visited_in_values fs) b.slots
  unfolding visited_below
  record_fresh e = below e

  pub array-fresh : {m slot token : ℕ} {ms : Nodes} → tree_of image n ≡ Array m slot token ms → Fresh (visited_among ms) b.slots
  unfolding visited_below
  array-fresh e = below e

-- ── The first of a list, and the others ──

module _ (image : List ℕ) (at : ℕ) {k : ℕ} (l : 0 < k) {slots : List ℕ} where
  pub nodes-fresh : Fresh (visited_among (nodes_from (tree_of image) image at k)) slots
      → Fresh (visited_from (tree_of image (get_or image at 0)) ++ visited_among (nodes_from (tree_of image) image (at + 1) (k - 1))) slots
  unfolding visited_among
  nodes-fresh h = rw (nodes-turn image at l) at h

  pub values-fresh : Fresh (visited_in_values (values_from (tree_of image) image at k)) slots
      → Fresh (visited_from (tree_of image (get_or image (at + 1) 0)) ++ visited_in_values (values_from (tree_of image) image (at + 2) (k - 1))) slots
  unfolding visited_in_values
  values-fresh h = rw (values-turn image at l) at h

  pub cases_fresh : (ys : List Node) → Fresh (visited_in_cases (cases_from (tree_of image) image at k) ++ ys) slots
      → Fresh ((visited_from (tree_of image (get_or image (at + 1) 0)) ++ visited_among (nodes_from (tree_of image) image (at + 3) (get_or image (at + 2) 0)) ++ visited_in_cases
      (cases_from (tree_of image) image (at + 3 + get_or image (at + 2) 0) (k - 1))) ++ ys) slots
  unfolding visited_in_cases
  cases_fresh ys h = rw (cases-turn image at l) at h

-- ── After a visit, or another step of the walk ──

pub came_ok : {A : Type 0} {m : Walk A} {r w : ℕ} {words : List ℕ} {st st₁ : State} {b b₁ : Lent} {a : A} → Visits m r w words st b b₁ (Ok (a, st₁)) → m (whole words st b) ≡ ok a (whole words st₁ b₁)
unfolding visited
came_ok y = y.step

module _ (c : Ctx) {r w : ℕ} {words : List ℕ} {st st₁ : State} {b b₁ : Lent} {a : Answer} where
  pub visit-apart : (x : Node) → Visits (node c x) r w words st b b₁ (Ok (a, st₁)) → Apart (visited_from x) b.slots b₁.slots
  visit-apart x y = node-apart c x (whole words st b) (came_ok y)

  pub last-visits-apart : (first : Answer) (xs : Nodes) → Visits (last c first xs) r w words st b b₁ (Ok (a, st₁)) → Apart (visited_among xs) b.slots b₁.slots
  last-visits-apart first xs y = last_apart c first xs (whole words st b) (came_ok y)

  pub block-visits-apart : (xs : Nodes) → Visits (block c xs) r w words st b b₁ (Ok (a, st₁)) → Apart (visited_among xs) b.slots b₁.slots
  block-visits-apart xs y = block_apart c xs (whole words st b) (came_ok y)

module _ (c : Ctx) (n : ℕ) {r w : ℕ} {words : List ℕ} {st st₁ : State} {b b₁ : Lent} {word : ℕ} where
  -- a type expression's type touches no slot
  pub type-apart : (e : TypeExpr) → Visits (type_from_expr c n e) r w words st b b₁ (Ok (word, st₁)) → Apart [] b.slots b₁.slots
  type-apart e y = type-from-apart c n e (whole words st b) (came_ok y)

  -- Node::Fn up to its body: its arguments' slots
  pub begin-apart : (slot name : ℕ) (ret : TypeExpr) (args : List Arg) (body : Nodes) → Visits (fn_begin c n (slot + 1) name ret args) r w words st b b₁ (Ok (word, st₁))
      → Apart (Fn n slot name ret args body ∷ []) b.slots b₁.slots
  begin-apart slot name ret args body y =
      rule-apart (λ a z. fn_leaves a c n (slot + 1) name ret args (fn-args (Other a) n slot name ret args body [] (none_is a (Fn n slot name ret args body ∷ []) z))) (whole words st b) (came_ok y)
