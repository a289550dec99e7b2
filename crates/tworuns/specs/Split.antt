-- The walk of more roots goes on where the walk of the first ones ends. By induction on the roots. Assumes nothing.
use Rattle.std.specs.Prelude.{ℕ, zero, suc, ◌+◌, ◌≡◌, refl, List}
use Rattle.std.proofs.Common.{zero-add, add-zero, arith, ap}
use Rattle.tok.specs.Step.{Result, ok, refused, Refusal, next}
use Rattle.ast.specs.Image.{word_at}
use Rattle.ast.specs.Node.{Node, Nodes, done, then, nodes_from}
use Rattle.rules.specs.declared.Answer.{Answer}
use Rattle.rules.specs.declared.Answer.TheVariants.{Known}
use Rattle.rules.specs.World.{Ctx, World}
use Rattle.rules.specs.Steps.{Done}
use Rattle.rules.specs.Rules.{node, last}
use Rattle.rules.specs.Walk.{copy_pool, measure}
use Rattle.tworuns.specs.Walk.{over}

unfoldable pub joined : Nodes → Nodes → Nodes
joined done ys = ys
joined (then x xs) ys = then x (joined xs ys)

pub nodes-joined : (go : ℕ → Node) (image : List ℕ) (at n k : ℕ) → nodes_from go image at (n + k) ≡ joined (nodes_from go image at n) (nodes_from go image (at + n) k)
unfolding nodes_from joined
nodes-joined go image at zero k = rw (zero-add k, add-zero at)
nodes-joined go image at (suc n) k =
    let e : suc n + k ≡ suc (n + k) = omega arith in
    let f : at + suc n ≡ at + 1 + n = omega arith in
    rw (e, f) (ap (then (go (word_at image at))) (nodes-joined go image (at + 1) n k))

abbrev Res : Type 0
Res = Result World Refusal Answer

last-joined : (c : Ctx) (xs ys : Nodes) (a : Answer) (s : World) → last c a (joined xs ys) s ≡ next (last c a xs s) (λ b. last c b ys)
unfolding last joined
last-joined c done ys a s = refl
last-joined c (then x xs) ys a s = go (node c x s) (λ b t. last-joined c xs ys b t)
  where
    go : (r : Res) → ((b : Answer) (t : World) → last c b (joined xs ys) t ≡ next (last c b xs t) (λ d. last c d ys))
        → next r (λ b. last c b (joined xs ys)) ≡ next (next r (λ b. last c b xs)) (λ b. last c b ys)
    go (ok b t) h = h b t
    go (refused e) h = refl

-- the answer before the first of the nodes does not matter where the last one's is dropped
pub last-dropped : (c : Ctx) (a b : Answer) (xs : Nodes) (s : World) → ◌≡◌ {A = Result World Refusal Done} (next (last c a xs s) (λ _ t. ok tt t)) (next (last c b xs s) (λ _ t. ok tt t))
unfolding last
last-dropped c a b done s = refl
last-dropped c a b (then x xs) s = refl

-- the walk of the first roots, and of all
pub data Split (c : Ctx) (new : Nodes) : Result World Refusal Done → Result World Refusal Done → Type 0 where
  goes : {u : World} (a : Answer) → Split c new (ok tt u) (next (last c a new u) (λ _ t. ok tt t))
  stays : {e : Refusal} → Split c new (refused e) (refused e)

pub split-is : {c : Ctx} {new : Nodes} {x y : Result World Refusal Done} → Split c new x y → y ≡ next x (λ _ u. next (last c (Known c.void) new u) (λ _ t. ok tt t))
split-is {c} {new} (goes {u = u} a) = last-dropped c a (Known c.void) new u
split-is stays = refl

pub over-split : (c : Ctx) (n : ℕ) (pool words : List ℕ) (old new : Nodes) (s : World) → Split c new (over c n pool words old s) (over c n pool words (joined old new) s)
unfolding over
over-split c n pool words old new s = copied (copy_pool n pool s)
  where
    visited : (r : Res) → Split c new (next r (λ _ t. ok tt t)) (next (next r (λ b. last c b new)) (λ _ t. ok tt t))
    visited (ok a u) = goes a
    visited (refused e) = stays

    measured : (r : Result World Refusal Done)
        → Split c new (next r (λ _ u. next (last c (Known c.void) old u) (λ _ t. ok tt t))) (next r (λ _ u. next (last c (Known c.void) (joined old new) u) (λ _ t. ok tt t)))
    measured (ok x u) = rw (last-joined c old new (Known c.void) u) (visited (last c (Known c.void) old u))
    measured (refused e) = stays

    copied : (r : Result World Refusal Done)
        → Split c new (next r (λ _ t. next (measure c n words t) (λ _ u. next (last c (Known c.void) old u) (λ _ t. ok tt t))))
        (next r (λ _ t. next (measure c n words t) (λ _ u. next (last c (Known c.void) (joined old new) u) (λ _ t. ok tt t))))
    copied (ok x t) = measured (measure c n words t)
    copied (refused e) = stays
