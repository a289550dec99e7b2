-- Slots of nodes that are still to be visited: each is owned by one of them and has no type yet. A visit leaves all other slots alone, so this
-- holds of what is left; and a node's own slot then tells whether it was poisoned. Definitions and laws. Assumes nothing.
use Rattle.std.specs.Prelude.{ℕ, zero, suc, ◌+◌, ◌≤◌, ◌≡◌, List, [], ◌∷◌, ◌++◌, length, get_or}
use Rattle.std.proofs.Common.{arith, ◌∙◌}
use Rattle.std.proofs.Math.Decide.{ℕ_discrete}
use Rattle.tok.specs.declared.Span.{Span}
use Rattle.tok.specs.Step.{ok, next, return}
use Rattle.ast.specs.TypeExpr.{TypeExpr}
use Rattle.ast.specs.Node.{Node, Nodes, Atom, Ident, Bin, Unary, Let, Fn, Match, Call, Field, Cast, Import, Extern, Record, Array, Absent, done, then, slot_of}
use Rattle.ast.specs.Claims.{count_from}
use Rattle.rules.specs.declared.Answer.{Answer}
use Rattle.rules.specs.World.{Ctx, World, Walk}
use Rattle.rules.specs.Steps.{Done, type_from_expr}
use Rattle.rules.specs.declared.Member.{Member}
use Rattle.rules.specs.Rules.{member, condition, node, block, last}
use Rattle.rules.specs.Visited.{visited_below, visited_among, visited_in_cases, slots_of}
use Rattle.laws.specs.SlotsOf.{PartsOf, last_node, LastOf}
use Rattle.laws.specs.Keeps.{Keeps}
use Rattle.laws.specs.RulesKeep.{in_next, in_return, in_condition, in_member, in_type_from, in_node, in_block, in_last}
use Rattle.laws.specs.Grow.{kept-ok}
use Rattle.laws.specs.Still.{Still, Any, Other, still_kept, still-enters}
use Rattle.laws.specs.Told.{Reads, Tells, told-node, told-block}
use Rattle.accepts.specs.Count.{total, total-append, one_same, one-other, count}
use Rattle.accepts.proofs.Once.{own-slot}
use Rattle.accepts.proofs.OtherSlots as O
use Rattle.accepts.proofs.OtherSlots.{owned}

-- a node that is visited, and what is visited below it
abbrev pub visited_from : Node → List Node
visited_from x = x ∷ visited_below x

pub record Fresh (xs : List Node) (slots : List ℕ) : Type 0 where
  pub once : (a : ℕ) → owned a xs ≤ 1
  pub none : (a : ℕ) → 1 ≤ owned a xs → get_or slots a 0 ≡ 0

-- slots that none of some nodes owns are as they were
pub record Apart (xs : List Node) (before after : List ℕ) : Type 0 where
  pub same : (a : ℕ) → owned a xs ≡ 0 → get_or after a 0 ≡ get_or before a 0

-- ── Some after others ──

module _ (xs ys : List Node) where
  both : (a : ℕ) → owned a (xs ++ ys) ≡ owned a xs + owned a ys
  both a = total-append (λ x. count a (slots_of x)) xs ys

  pub fresh-first : {slots : List ℕ} → Fresh (xs ++ ys) slots → Fresh xs slots
  fresh-first h = record { once = λ a. omega (arith, both a, h.once a); none = λ a l. h.none a (omega (arith, both a)) }

  -- THE LAW: after the visits of those before them, the others' slots have no type still
  pub fresh-rest : {slots after : List ℕ} → Fresh (xs ++ ys) slots → Apart xs slots after → Fresh ys after
  fresh-rest h k = record {
    once = λ a. omega (arith, both a, h.once a);
    none = λ a l. k.same a (omega (arith, both a, h.once a)) ∙ h.none a (omega (arith, both a));
  }

  pub apart-then : {slots between after : List ℕ} → Apart xs slots between → Apart ys between after → Apart (xs ++ ys) slots after
  apart-then h k = record { same = λ a z. k.same a (omega (arith, both a)) ∙ h.same a (omega (arith, both a)) }

-- the nodes below one
pub fresh-below : (x : Node) (xs : List Node) {slots : List ℕ} → Fresh (x ∷ xs) slots → Fresh xs slots
unfolding total
fresh-below x xs h = record { once = λ a. omega (arith, h.once a); none = λ a l. h.none a (omega arith) }

-- ── A rule leaves other slots alone ──

-- no slot of theirs is a
pub none_is : (a : ℕ) (xs : List Node) → owned a xs ≡ 0 → O.Holds (Other a) xs
none_is a xs z = record { holds = λ slot l e. let k : 1 ≤ owned a xs = rw e l in omega arith }

module _ {A : Type 0} {m : Walk A} {xs : List Node} (h : (a : ℕ) → owned a xs ≡ 0 → (s : World) → Keeps (Still a) Any s (m s)) where
  pub rule-apart : (s : World) {u : World} {v : A} → m s ≡ ok v u → Apart xs s.slots u.slots
  rule-apart s e = record { same = λ a z. (kept-ok (h a z s) e).still }

pub node-apart : (c : Ctx) (x : Node) (s : World) {u : World} {v : Answer} → node c x s ≡ ok v u → Apart (visited_from x) s.slots u.slots
node-apart c x s e = rule-apart (λ a z. in_node (still_kept a) (still-enters a) c x (O.slots-hold (Other a) x (none_is a (visited_from x) z))) s e

pub block_apart : (c : Ctx) (xs : Nodes) (s : World) {u : World} {v : Answer} → block c xs s ≡ ok v u → Apart (visited_among xs) s.slots u.slots
block_apart c xs s e = rule-apart (λ a z. in_block (still_kept a) (still-enters a) c xs (O.among-hold (Other a) xs (none_is a (visited_among xs) z))) s e

pub last_apart : (c : Ctx) (b : Answer) (xs : Nodes) (s : World) {u : World} {v : Answer} → last c b xs s ≡ ok v u → Apart (visited_among xs) s.slots u.slots
last_apart c b xs s e = rule-apart (λ a z. in_last (still_kept a) (still-enters a) c b xs (O.among-hold (Other a) xs (none_is a (visited_among xs) z))) s e

-- what touches no slot: a condition's test, a member compared with the first, a type expression's type
pub condition-apart : (c : Ctx) (n token : ℕ) (a : Answer) (s : World) {u : World} {v : Done} → condition c n token a s ≡ ok v u → Apart [] s.slots u.slots
condition-apart c n token b s e = rule-apart (λ a z. in_condition (still_kept a) c n token b) s e

pub member_apart : {A : Type 0} (c : Ctx) (n : ℕ) (span : Span) (first second : Answer) (f : Member → A) (s : World) {u : World} {v : A}
    → next (member c n span first second s) (λ m. return (f m)) ≡ ok v u → Apart [] s.slots u.slots
member_apart c n span first second f s e =
    rule-apart (λ a z. in_next (still_kept a) _ (in_member (still_kept a) c n span first second) λ m. in_return (still_kept a) (f m)) s e

pub type-from-apart : (c : Ctx) (n : ℕ) (e : TypeExpr) (s : World) {u : World} {v : ℕ} → type_from_expr c n e s ≡ ok v u → Apart [] s.slots u.slots
type-from-apart c n x s e = rule-apart (λ a z. in_type_from (still_kept a) c n x) s e

-- ── A node's own slot tells ──

counted-from : (s n first : ℕ) → 1 ≤ count s (count_from first n) → first ≤ s
unfolding total count_from
counted-from s zero first h = absurd (omega arith)
counted-from s (suc n) first h = elim (ℕ_discrete s first) [
  | yes e ↦ omega arith
  | no d ↦ let k = counted-from s n (first + 1) (omega (arith, one-other s first d)) in omega arith
]

-- no visited part of a node owns its slot
parts-other : (x : Node) → O.Holds (Other (slot_of x)) (visited_below x) → PartsOf (Other (slot_of x)) x
unfolding PartsOf slot_of visited_below
parts-other (Atom n slot token k) h = tt
parts-other (Ident n slot name) h = tt
parts-other (Bin n slot token op l r) h = (
  O.slots-hold (Other slot) l (O.left (Other slot) (visited_from l) (visited_from r) h),
  O.slots-hold (Other slot) r (O.right (Other slot) (visited_from l) (visited_from r) h),
)
parts-other (Unary n slot token op r) h = O.slots-hold (Other slot) r h
parts-other (Let n slot name r) h = O.slots-hold (Other slot) r h
parts-other (Fn n slot name ret args body) h =
    (O.args-hold (Other slot) (slot + 1) args (λ s l e. let k = counted-from s (length args) (slot + 1) l in omega arith), O.among-hold (Other slot) body h)
parts-other (Match n slot cs token d) h =
    (O.cases-hold (Other slot) cs (O.left (Other slot) (visited_in_cases cs) (visited_among d) h), O.among-hold (Other slot) d (O.right (Other slot) (visited_in_cases cs) (visited_among d) h))
parts-other (Call n slot target args) h = O.among-hold (Other slot) args h
parts-other (Field n slot target name) h = O.slots-hold (Other slot) target h
parts-other (Cast n slot token l t) h = O.slots-hold (Other slot) l h
parts-other (Import n slot token paths) h = tt
parts-other (Extern n slot token name fs) h = tt
parts-other (Record n slot token fs) h = O.values-hold (Other slot) fs h
parts-other (Array n slot token ms) h = O.among-hold (Other slot) ms h
parts-other (Absent n) h = tt

own-once : (x : Node) (xs : List Node) → owned (slot_of x) (x ∷ xs) ≤ 1 → owned (slot_of x) xs ≡ 0
unfolding total
own-once x xs h = omega (arith, own-slot (slot_of x) x, one_same (slot_of x))

pub node-tells : (c : Ctx) (x : Node) (s : World) → Fresh (visited_from x) s.slots → Tells (Reads x) (slot_of x) 0 (node c x s)
node-tells c x s h =
    told-node c x 0 (parts-other x (none_is (slot_of x) (visited_below x) (own-once x (visited_below x) (h.once (slot_of x))))) s
    (h.none (slot_of x) (O.own-owned x (visited_below x)))

-- of nodes one after the other the last one's slot is its own
pub end-owned : (x : Node) (xs : Nodes) → 1 ≤ owned (slot_of (last_node x xs)) (visited_among (then x xs))
unfolding last_node visited_among
end-owned x done = omega (arith, O.own-owned x (visited_below x), total-append (λ y. count (slot_of x) (slots_of y)) (visited_from x) [])
end-owned x (then y ys) =
    let a : ℕ = slot_of (last_node y ys) in
    omega (arith, end-owned y ys, total-append (λ z. count a (slots_of z)) (visited_from x) (visited_among (then y ys)))

last-other : (x : Node) (xs : Nodes) → owned (slot_of (last_node x xs)) (visited_among (then x xs)) ≤ 1 → LastOf (Other (slot_of (last_node x xs))) x xs
unfolding last_node visited_among LastOf
last-other x done h =
    parts-other x (none_is (slot_of x) (visited_below x) (own-once x (visited_below x) (omega (arith, total-append (λ y. count (slot_of x) (slots_of y)) (visited_from x) []))))
last-other x (then y ys) h =
    let a : ℕ = slot_of (last_node y ys) in
    let t = total-append (λ z. count a (slots_of z)) (visited_from x) (visited_among (then y ys)) in
    let l = end-owned y ys in
    (O.slots-hold (Other a) x (none_is a (visited_from x) (omega arith)), last-other y ys (omega arith))

pub block-tells : (c : Ctx) (x : Node) (xs : Nodes) (s : World) → Fresh (visited_among (then x xs)) s.slots → Tells (Reads (last_node x xs)) (slot_of (last_node x xs)) 0 (block c (then x xs) s)
block-tells c x xs s h =
    told-block c x xs 0 (last-other x xs (h.once (slot_of (last_node x xs)))) s (h.none (slot_of (last_node x xs)) (end-owned x xs))
