-- A member of an Array after the first: whether the visits go on after it. Definitions and laws. Assumes nothing.
use Rattle.std.specs.Prelude.{ℕ, ◌≡◌, Bool, true, Option, Some, None}
use Rattle.std.proofs.Math.Path.{refl}
use Rattle.tok.specs.Step.{Result, ok, refused, Refusal, next, return, ◌>>=◌}
use Rattle.tok.specs.declared.Span.{Span}
use Rattle.ast.specs.Node.{Node, Nodes, then}
use Rattle.ast.specs.Span.{span_of}
use Rattle.rules.specs.declared.Answer.{Answer}
use Rattle.rules.specs.declared.Answer.TheVariants.{Poison}
use Rattle.rules.specs.World.{Ctx, World, Walk}
use Rattle.rules.specs.declared.Member.{Member}
use Rattle.rules.specs.declared.Member.TheVariants.{Alike as alike, Silent as silent, Differs as differs}
use Rattle.rules.specs.Rules.{member, go_on, node, members}

-- "a member that differs ends the array's visits"; else whether one is poisoned so far
unfoldable pub turn_of : Member → (poisoned : Bool) → Option Bool
turn_of alike poisoned = Some poisoned
turn_of silent poisoned = Some true
turn_of differs poisoned = None

unfoldable pub member_turn : Ctx → (n : ℕ) → Span → (first second : Answer) → (poisoned : Bool) → Walk (Option Bool)
member_turn c n span first second poisoned = do
  m ← member c n span first second
  return (turn_of m poisoned)

-- ── The rule is its turns ──

module _ (c : Ctx) (n slot : ℕ) (first : Answer) (poisoned : Bool) (xs : Nodes) where
  -- the members that are left after one
  unfoldable pub rest_of : Option Bool → Walk Answer
  rest_of None = return Poison
  rest_of (Some q) = members c n slot first q xs

  go_on_lem : (m : Member) (s : World) → go_on m poisoned (λ q. members c n slot first q xs) s ≡ rest_of (turn_of m poisoned) s
  unfolding go_on turn_of rest_of
  go_on_lem alike s = refl
  go_on_lem silent s = refl
  go_on_lem differs s = refl

  after-member : (r : Result World Refusal Member) → next r (λ m. go_on m poisoned (λ q. members c n slot first q xs)) ≡ next (next r (λ m. return (turn_of m poisoned))) rest_of
  after-member (ok m s) = go_on_lem m s
  after-member (refused e) = refl

  after-visit : (span : Span) (r : Result World Refusal Answer)
      → next r (λ a t. next (member c n span first a t) (λ m. go_on m poisoned (λ q. members c n slot first q xs))) ≡ next r (λ a. ◌>>=◌ (member_turn c n span first a poisoned) rest_of)
  unfolding member_turn
  after-visit span (ok a s) = after-member (member c n span first a s)
  after-visit span (refused e) = refl

  -- THE LAW
  pub members-turn : (x : Node) (s : World) → members c n slot first poisoned (then x xs) s ≡ next (node c x s) (λ a. ◌>>=◌ (member_turn c n (span_of x) first a poisoned) rest_of)
  unfolding members
  members-turn x s = after-visit (span_of x) (node c x s)
