-- A node's slot tells what it answered, and the last one's what a body did: the answers that image and slots give are those of the rules.
-- Assumes nothing.
use Prim.Native.Nat.{ℕ, zero, suc, ◌+◌, ◌-◌, ◌<◌}
use Rattle.std.specs.Prelude.{◌≡◌, Bool, true, false, cond, List, [], ◌++◌, get_or, eqb}
use Rattle.std.proofs.Math.Path.{refl}
use Rattle.std.proofs.Common.{eqb-true, eq-eqb, ne_eqb}
use native.Mathlib.Omega.{arith}
use Rattle.tok.specs.Word.{kind_of}
use Rattle.tok.specs.Text.{Texts}
use Rattle.tok.specs.Step.{Result, ok, refused, Refusal, next}
use Rattle.ast.specs.Image.{node_count, node_place, record_kind, word_at}
use Rattle.ast.specs.Node.{Node, Nodes, tree_of, nodes_from, done, then, slot_of}
use Rattle.places.specs.NodesAt.{NodeReady}
use Rattle.image_laws.proofs.Accepted.{Accepted}
use Rattle.trees.specs.Trees.{tree-atom, tree-ident, tree-bin, tree-unary, tree_let, tree-fn, tree-match, tree-call, tree-field, tree-cast, tree_import, tree-extern, tree_record, tree-array}
use Rattle.laws.specs.SlotsOf.{last_node}
use Rattle.laws.specs.Told.{Reads, Tells, knows, poisons, unknown, tells-next}
use Rattle.rules.specs.declared.Answer.{Answer}
use Rattle.rules.specs.declared.Answer.TheVariants.{Known, Poison}
use Rattle.rules.specs.World.{Ctx, World, Walk}
use Rattle.rules.specs.Rules.{condition, node, block}
use Rattle.rules.specs.Visited.{visited_among}
use Rattle.accepts.proofs.Fresh.{visited_from, Fresh, Apart, fresh-rest, apart-then, node-apart, block_apart, condition-apart, block-tells}
use Rattle.onerun.specs.Claim.{Run, AnswerOk}
use Rattle.onerun.specs.Claim as C
use Rattle.ready.specs.Ready.{walk_run}
use Rattle.walking.specs.Visited.{ctx_in, nodes_at, case_rule}
use Rattle.branches.specs.Branches.{answer_of, is_field, node_answer, body_answer, last-is}

-- ── A Field, by its kind ──

module _ {text image : List ℕ} (a : Accepted text image) (n : ℕ) (l : n < node_count image) where
  pub field-reads : record_kind image (node_place image n) ≡ 8 → Reads (tree_of image n)
  unfolding Reads
  field-reads e = rw (tree-field a n l e) tt

  by_kind : (k : ℕ) → record_kind image (node_place image n) ≡ k → Reads (tree_of image n) → k ≡ 8
  unfolding Reads
  by_kind zero e h = absurd (rw (tree-atom a n l e) at h)
  by_kind (suc zero) e h = absurd (rw (tree-ident a n l e) at h)
  by_kind (suc (suc zero)) e h = absurd (rw (tree-bin a n l e) at h)
  by_kind (suc (suc (suc zero))) e h = absurd (rw (tree-unary a n l e) at h)
  by_kind (suc (suc (suc (suc zero)))) e h = absurd (rw (tree_let a n l e) at h)
  by_kind (suc (suc (suc (suc (suc zero))))) e h = absurd (rw (tree-fn a n l e) at h)
  by_kind (suc (suc (suc (suc (suc (suc zero)))))) e h = absurd (rw (tree-match a n l e) at h)
  by_kind (suc (suc (suc (suc (suc (suc (suc zero))))))) e h = absurd (rw (tree-call a n l e) at h)
  by_kind (suc (suc (suc (suc (suc (suc (suc (suc zero)))))))) e h = refl
  by_kind (suc (suc (suc (suc (suc (suc (suc (suc (suc zero))))))))) e h = absurd (rw (tree-cast a n l e) at h)
  by_kind (suc (suc (suc (suc (suc (suc (suc (suc (suc (suc zero)))))))))) e h = absurd (rw (tree_import a n l e) at h)
  by_kind (suc (suc (suc (suc (suc (suc (suc (suc (suc (suc (suc zero))))))))))) e h = absurd (rw (tree-extern a n l e) at h)
  by_kind (suc (suc (suc (suc (suc (suc (suc (suc (suc (suc (suc (suc zero)))))))))))) e h = absurd (rw (tree_record a n l e) at h)
  by_kind (suc (suc (suc (suc (suc (suc (suc (suc (suc (suc (suc (suc (suc zero))))))))))))) e h = absurd (rw (tree-array a n l e) at h)
  by_kind (suc (suc (suc (suc (suc (suc (suc (suc (suc (suc (suc (suc (suc (suc k)))))))))))))) e h = absurd (let q = (a.node n l).words.kind in omega arith)

  pub reads-field : Reads (tree_of image n) → is_field image n ≡ true
  reads-field h = eq-eqb (record_kind image (node_place image n)) 8 (by_kind (record_kind image (node_place image n)) refl h)

  pub is-reads : is_field image n ≡ true → Reads (tree_of image n)
  is-reads e = field-reads (eqb-true (record_kind image (node_place image n)) 8 e)

-- ── One node ──

module _ {F : Type 0} {slot : ℕ} {field : Bool} (there : F → field ≡ true) (back : field ≡ true → F) (r : Run) where
  no-unknown : (w : ℕ) → (F → kind_of w ≡ 11 → ⊥) → (k f : Bool) → eqb (kind_of w) 11 ≡ k → field ≡ f → Known slot ≡ cond k (cond f Poison (Known slot)) (Known slot)
  no-unknown w h true true q e = absurd (h (back e) (eqb-true (kind_of w) 11 q))
  no-unknown w h true false q e = refl
  no-unknown w h false f q e = refl

  -- THE LAW of a node whose slot had no type before
  pub answer-told : {x : Answer} {u : World} → Tells F slot 0 (ok x u) → AnswerOk r u x → x ≡ answer_of (get_or u.slots slot 0) field slot
  unfolding answer_of
  answer-told {u = u} (knows k) (C.known e) = rw (ne_eqb (get_or u.slots slot 0) 0 e.other) (no-unknown (get_or u.slots slot 0) k _ _ refl refl)
  answer-told (poisons e) o = rw e refl
  answer-told (unknown f e) o = rw (e, there f) refl

-- ── A case ──

-- an empty body answers slot V
data Only (x : Answer) : Result World Refusal Answer → Type 0 where
  only : {s : World} → Only x (ok x s)
  no_answer : {e : Refusal} → Only x (refused e)

only_next : {x : Answer} {A : Type 0} (r : Result World Refusal A) (f : A → Walk Answer) → ((a : A) (s : World) → Only x (f a s)) → Only x (next r f)
only_next (ok a s) f h = h a s
only_next (refused e) f h = no_answer

answer-is : {x y : Answer} {u : World} → Only x (ok y u) → y ≡ x
answer-is only = refl

pub empty-told : (c : Ctx) (n token : ℕ) (x : Node) (s : World) {a : Answer} {u : World} → case_rule c n token x done s ≡ ok a u → a ≡ Known c.void
unfolding case_rule block
empty-told c n token x s e = answer-is (rw e at (only_next {x = Known c.void} (node c x s) _ (λ b t. only_next (condition c n token b t) _ (λ _ v. only {s = v}))))

pub case-tells : (c : Ctx) (n token : ℕ) (x y : Node) (ys : Nodes) (s : World) → Fresh (visited_from x ++ visited_among (then y ys)) s.slots
    → Tells (Reads (last_node y ys)) (slot_of (last_node y ys)) 0 (case_rule c n token x (then y ys) s)
unfolding case_rule
case-tells c n token x y ys s h =
    tells-next (node c x s) _ (λ a t e. tells-next (condition c n token a t) _ (λ d u q.
    block-tells c y ys u (fresh-rest [] (visited_among (then y ys)) (fresh-rest (visited_from x) (visited_among (then y ys)) h (node-apart c x s e)) (condition-apart c n token a t q))))

-- all of a case touches slots of its own nodes alone
ok-next : {A B : Type 0} (r : Result World Refusal A) (f : A → Walk B) {b : B} {u : World} → next r f ≡ ok b u → (P : World → Type 0) → ((a : A) (t : World) → r ≡ ok a t → f a t ≡ ok b u → P u) → P u
ok-next (ok a t) f e P h = h a t refl e
ok-next (refused x) f e P h = absurd (no_ok e)
  where
    no_ok : {e : Refusal} {B : Type 0} {b : B} {u : World} → ◌≡◌ {A = Result World Refusal B} (refused e) (ok b u) → ⊥
    no_ok e = let z : ◌≡◌ {A = ℕ} 0 1 = cc in omega arith

pub rule-parts : (c : Ctx) (n token : ℕ) (x : Node) (body : Nodes) (s : World) {a : Answer} {u : World} → case_rule c n token x body s ≡ ok a u
    → Apart (visited_from x ++ visited_among body) s.slots u.slots
unfolding case_rule
rule-parts c n token x body s {u = u} e =
    ok-next (node c x s) _ e (λ v. Apart (visited_from x ++ visited_among body) s.slots v.slots) (λ b t p q.
    ok-next (condition c n token b t) _ q (λ v. Apart (visited_from x ++ visited_among body) s.slots v.slots) (λ d v i j.
    apart-then (visited_from x) (visited_among body) (node-apart c x s p) (apart-then [] (visited_among body) (condition-apart c n token b t i) (block_apart c body v j))))

-- ── The answer of a body of m nodes ──

module _ (T : Texts) (image words : List ℕ) (n at : ℕ) where
  abbrev tested : Node
  tested = tree_of image (word_at image (at + 1))

  pub body-told : (m : ℕ) {a : Answer} (s u : World) {places : List ℕ} → Fresh (visited_from tested ++ visited_among (nodes_at image (at + 3) m)) s.slots
      → case_rule (ctx_in T image words) n (word_at image at) tested (nodes_at image (at + 3) m) s ≡ ok a u
      → (0 < m → NodeReady image places (word_at image (at + 3 + (m - 1)))) → AnswerOk (walk_run T image words) u a → a ≡ body_answer image u.slots (at + 3) m
  unfolding body_answer node_answer nodes_from
  body-told zero s u f e l o = empty-told (ctx_in T image words) n (word_at image at) tested s e
  body-told (suc k) {a} s u {places} f e l o =
      let z : suc k - 1 ≡ k = omega arith in
      let r : NodeReady image places (word_at image (at + 3 + k)) = rw z at (l (omega arith)) in
      let y : Node = tree_of image (word_at image (at + 3)) in
      let ys : Nodes = nodes_from (tree_of image) image (at + 3 + 1) k in
      let t : Tells (Reads (last_node y ys)) (slot_of (last_node y ys)) 0 (ok a u) = rw e at (case-tells (ctx_in T image words) n (word_at image at) tested y ys s f) in
      answer-told (reads-field r.readable.accepted _ r.below) (is-reads r.readable.accepted _ r.below) (walk_run T image words) (rw (last-is image (at + 3) k) at t) o
