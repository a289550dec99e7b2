-- What is yet to be visited: no slot is owned twice in it, none of its slots has a type, its kinds and operators are document 01's. It stays so
-- while other nodes are visited, which write their own slots alone. Assumes nothing.
use Prim.Native.Nat.{ℕ, ◌+◌, ◌≤◌, ◌<◌}
use Rattle.std.proofs.Common.{arith, subst, ◌∙◌, get_or-set_other}
use Rattle.std.specs.Prelude.{◌≡◌, refl, get_or}
use mathlib.Core.List.{List, [], ◌∷◌, ◌++◌, append_assoc}
use Rattle.ast.specs.declared.NodeKind.{NodeKind}
use Rattle.ast.specs.declared.NodeKind.TheVariants as kind
use Rattle.ast.specs.Kinds.{kind_of_node}
use Rattle.ast.specs.KindLaws.{NodeNumber, node-number}
use Rattle.ast.specs.Image.{node_count, node_place, record_kind}
use Rattle.ast.specs.TypeExpr.{TypeExpr, Arg}
use Rattle.ast.specs.Node.{Node, Nodes, Cases, Atom, Ident, Bin, Unary, Let, Fn, Match, Call, Field, Cast, Import, Extern, Record, Array, Absent, done, then, slot_of, tree_of}
use Rattle.image_laws.proofs.NodesRead.{atom-words, bin-words}
use Rattle.image_laws.proofs.Accepted.{Accepted}
use Rattle.trees.specs.Trees.{tree-atom, tree-ident, tree-bin, tree-unary, tree_let, tree-fn, tree-match, tree-call, tree-field, tree-cast, tree_import, tree-extern, tree_record, tree-array}
use Rattle.tok.specs.Step.{Step, Refusal}
use Rattle.rules.specs.World.{Ctx, Log, World}
use Rattle.rules.specs.Steps.{on_log}
use Rattle.rules.specs.Rules.{node, block, cases}
use Rattle.rules.specs.Visited.{visited_below, visited_among, visited_in_cases, slots_of, arguments_of}
use Rattle.rules.specs.Promises.{Every}
use Rattle.laws.specs.SlotsOf.{ArgSlots, SlotsOf, SlotsOfAll}
use Rattle.laws.specs.Keeps.{Keeps, StepsKeep, Enters, logs-all}
use Rattle.laws.specs.RulesKeep as K
use Rattle.accepts.specs.Count.{total, total-append, one_same, count}
use Rattle.accepts.proofs.Once.{own-slot}
use Rattle.accepts.proofs.OtherSlots.{owned, among-hold}
use Rattle.accepts.proofs.OtherSlots as O

-- "0 Atom: token, type kind 2 to 5"; "Operators: 0 to 8"
unfoldable pub Fits : Node → Type 0
Fits (Atom n slot token k) = (2 ≤ k) × (k ≤ 5)
Fits (Bin n slot token op l r) = op ≤ 8
Fits (Ident n slot name) = Unit {0}
Fits (Unary n slot token op r) = Unit {0}
Fits (Let n slot name r) = Unit {0}
Fits (Fn n slot name ret args body) = Unit {0}
Fits (Match n slot cs token d) = Unit {0}
Fits (Call n slot target args) = Unit {0}
Fits (Field n slot target name) = Unit {0}
Fits (Cast n slot token l t) = Unit {0}
Fits (Import n slot token paths) = Unit {0}
Fits (Extern n slot token name fs) = Unit {0}
Fits (Record n slot token fs) = Unit {0}
Fits (Array n slot token ms) = Unit {0}
Fits (Absent n) = Unit {0}

-- every node of an accepted image
module _ {text image : List ℕ} (a : Accepted text image) (n : ℕ) (l : n < node_count image) where
  by_kind : (x : NodeKind) → NodeNumber x (record_kind image (node_place image n)) → Fits (tree_of image n)
  unfolding Fits
  by_kind kind.Atom e = let w = atom-words (a.node n l) e in rw (tree-atom a n l e) (w.least, w.most)
  by_kind kind.Ident e = rw (tree-ident a n l e) tt
  by_kind kind.Bin e = let w = bin-words (a.node n l) e in rw (tree-bin a n l e) (omega (arith, w.operator.under))
  by_kind kind.Unary e = rw (tree-unary a n l e) tt
  by_kind kind.Let e = rw (tree_let a n l e) tt
  by_kind kind.Fn e = rw (tree-fn a n l e) tt
  by_kind kind.Match e = rw (tree-match a n l e) tt
  by_kind kind.Call e = rw (tree-call a n l e) tt
  by_kind kind.Field e = rw (tree-field a n l e) tt
  by_kind kind.Cast e = rw (tree-cast a n l e) tt
  by_kind kind.Import e = rw (tree_import a n l e) tt
  by_kind kind.Extern e = rw (tree-extern a n l e) tt
  by_kind kind.Record e = rw (tree_record a n l e) tt
  by_kind kind.Array e = rw (tree-array a n l e) tt
  by_kind kind.None e = absurd (let h = (a.node n l).words.kind in omega arith)

  pub fits : Fits (tree_of image n)
  fits =
      let k : ℕ = record_kind image (node_place image n) in
      by_kind (kind_of_node k) (node-number k refl)

-- ── What is yet to be visited, in order ──

pub record Ready (s : World) (xs : List Node) : Type 0 where
  pub once : (slot : ℕ) → owned slot xs ≤ 1
  pub unset : (slot : ℕ) → 1 ≤ owned slot xs → get_or s.slots slot 0 ≡ 0
  pub fit : Every Fits xs

every-left : (xs ys : List Node) → Every Fits (xs ++ ys) → Every Fits xs
unfolding Every
every-left [] ys e = tt
every-left (x ∷ xs) ys e = (e.0, every-left xs ys e.1)

every-right : (xs ys : List Node) → Every Fits (xs ++ ys) → Every Fits ys
unfolding Every
every-right [] ys e = e
every-right (x ∷ xs) ys e = every-right xs ys e.1

owned-both : (slot : ℕ) (xs ys : List Node) → owned slot (xs ++ ys) ≡ owned slot xs + owned slot ys
owned-both slot xs ys = total-append (λ x. count slot (slots_of x)) xs ys

module _ {s : World} where
  pub ready-left : (xs ys : List Node) → Ready s (xs ++ ys) → Ready s xs
  ready-left xs ys h = record {
    once = λ q. omega (arith, h.once q, owned-both q xs ys);
    unset = λ q l. h.unset q (omega (arith, owned-both q xs ys));
    fit = every-left xs ys h.fit;
  }

  pub ready_assoc : (xs ys zs : List Node) → Ready s ((xs ++ ys) ++ zs) → Ready s (xs ++ (ys ++ zs))
  ready_assoc xs ys zs h = subst (Ready s) (append_assoc xs ys zs) h

  pub ready-below : (x : Node) (xs : List Node) → Ready s (x ∷ xs) → Ready s xs
  unfolding total Every
  ready-below x xs h = record {
    once = λ q. omega (arith, h.once q);
    unset = λ q l. h.unset q (omega arith);
    fit = h.fit.1;
  }

  -- the slot of the first has no type
  pub ready-own : (x : Node) (xs : List Node) → Ready s (x ∷ xs) → get_or s.slots (slot_of x) 0 ≡ 0
  unfolding total
  ready-own x xs h = h.unset (slot_of x) (omega (arith, own-slot (slot_of x) x, one_same (slot_of x)))

  pub ready-fits : (x : Node) (xs : List Node) → Ready s (x ∷ xs) → Fits x
  unfolding Every
  ready-fits x xs h = h.fit.0

-- ── Other nodes' slots ──

-- no slot that these nodes own
abbrev pub Free : List Node → ℕ → Type 0
Free ys slot = 1 ≤ owned slot ys → ⊥

-- the slots that these nodes own are left
pub record Leaves (ys : List Node) (s u : World) : Type 0 where
  pub left : (slot : ℕ) → 1 ≤ owned slot ys → get_or u.slots slot 0 ≡ get_or s.slots slot 0

abbrev pub Any : ℕ → Type 0
Any k = Unit {0}

pub leaves_kept : (ys : List Node) → StepsKeep (Leaves ys) Any (Free ys)
leaves_kept ys = record {
  same = λ s. record { left = λ q l. refl };
  trans = λ {s} {t} {u} x y. record { left = λ q l. y.left q l ∙ x.left q l };
  slot = λ i w s p. record { left = λ q l. get_or-set_other s.slots i q w 0 (λ e. p (subst (λ (k : ℕ). 1 ≤ owned k ys) e l)) };
  type = λ texts k new s e d. record { left = λ q l. refl };
  told = λ d s e. record { left = λ q l. refl };
  binds = λ l s. record { left = λ q l. refl };
  frame = λ {s} {u} h. record { left = h.left };
  alone = λ {s} {u} h. record { left = h.left };
  holds = λ p s. record { left = λ q l. refl };
  logs = λ l s. record { left = λ q l. refl };
  types_full = tt;
  too_deep = tt;
  told_full = tt;
}

pub leaves_enters : (ys : List Node) → Enters (Leaves ys)
leaves_enters ys = record { enters = λ name ps ret s. record { left = λ q l. refl } }

-- a step of the log leaves them
pub log_leaves : (ys : List Node) {A : Type 0} (m : Step Log Refusal A) (s : World) → Keeps (Leaves ys) Any s (on_log m s)
log_leaves ys m s = K.in_on_log (leaves_kept ys) m (λ l. logs-all (λ _. tt) (m l)) s

-- what is left is still to be visited
pub ready-then : (xs ys : List Node) {s u : World} → Ready s (xs ++ ys) → Leaves ys s u → Ready u ys
ready-then xs ys h k = record {
  once = λ q. omega (arith, h.once q, owned-both q xs ys);
  unset = λ q l. k.left q l ∙ h.unset q (omega (arith, owned-both q xs ys));
  fit = every-right xs ys h.fit;
}

free : (xs ys : List Node) {s : World} → Ready s (xs ++ ys) → O.Holds (Free ys) xs
free xs ys h = record { holds = λ q l k. omega (arith, h.once q, owned-both q xs ys) }

free-end : (xs ys : List Node) {s : World} → Ready s (xs ++ ys) → O.Holds (Free ys) (xs ++ [])
unfolding total
free-end xs ys h = record { holds = λ q l k. omega (arith, h.once q, owned-both q xs ys, owned-both q xs []) }

module _ (c : Ctx) (ys : List Node) where
  pub node_leaves : (x : Node) (s : World) → Ready s ((x ∷ visited_below x) ++ ys) → Keeps (Leaves ys) Any s (node c x s)
  unfolding visited_among SlotsOfAll
  node_leaves x s h = K.in_node (leaves_kept ys) (leaves_enters ys) c x (among-hold (Free ys) (then x done) (free-end (x ∷ visited_below x) ys h)).0 s

  pub block_leaves : (xs : Nodes) (s : World) → Ready s (visited_among xs ++ ys) → Keeps (Leaves ys) Any s (block c xs s)
  block_leaves xs s h = K.in_block (leaves_kept ys) (leaves_enters ys) c xs (among-hold (Free ys) xs (free (visited_among xs) ys h)) s

  -- a Match's cases: its own slot is none of those either
  pub cases-leave : (n m slot token : ℕ) (cs : Cases) (d : Nodes) (s : World) → Ready s (Match m slot cs token d ∷ (visited_in_cases cs ++ ys)) → Keeps (Leaves ys) Any s (cases c n cs s)
  unfolding visited_among visited_below SlotsOfAll SlotsOf slot_of arguments_of total
  cases-leave n m slot token cs d s h =
      K.in_cases (leaves_kept ys) (leaves_enters ys) c n cs
      (among-hold (Free ys) (then (Match m slot cs token done) done)
      (record { holds = λ q l k. omega (arith, h.once q, owned-both q (visited_in_cases cs) ys, owned-both q (visited_in_cases cs) [], owned-both q (visited_in_cases cs ++ []) []) })).0.1 s

-- an Fn's arguments' slots are none of its body's
pub arguments-free : (n slot name : ℕ) (ret : TypeExpr) (args : List Arg) (body : Nodes) (ys : List Node) {s : World} → Ready s (Fn n slot name ret args body ∷ ys) → ArgSlots (Free ys) (slot + 1) args
unfolding visited_among visited_below SlotsOfAll SlotsOf slot_of arguments_of total
arguments-free n slot name ret args body ys h =
    (among-hold (Free ys) (then (Fn n slot name ret args done) done) (record { holds = λ q l k. omega (arith, h.once q) })).0.1
