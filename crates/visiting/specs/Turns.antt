-- The rules of lists as a loop has them: one element is visited, and the rest of the list goes on with what is known so far. Definitions
-- and laws, each by the rule's own equation. Assumes nothing.
use Rattle.std.specs.Prelude.{ℕ, ◌≡◌, refl, Bool, true, false, ◌||◌, List, [], ◌∷◌, ◌++◌}
use Rattle.std.proofs.Common.{sym, ◌∙◌, append_assoc, append-nil}
use Rattle.std.proofs.Math.Path.{ap}
use Rattle.tok.specs.Step.{Result, ok, refused, Refusal, next, ◌>>=◌, ◌>>◌}
use Rattle.ast.specs.Node.{Node, Nodes, Cases, Values, done, then, no_case, case, no_value, value}
use Rattle.rules.specs.World.{Ctx, World, Walk}
use Rattle.rules.specs.Steps.{is_poison}
use Rattle.rules.specs.Rules.{condition, value_type, Branch, node, block, visit_all, cases, values}

-- steps that go on alike go on alike after a step
pub next-alike : {A B : Type 0} (r : Result World Refusal A) {f g : A → Walk B} → ((a : A) (s : World) → f a s ≡ g a s) → next r f ≡ next r g
next-alike (ok a s) h = h a s
next-alike (refused e) h = refl

-- one step after another, and a third after both
pub next-next : {A B C : Type 0} (r : Result World Refusal A) (f : A → Walk B) (g : B → Walk C) → next (next r f) g ≡ next r (λ a s. next (f a s) g)
next-next (ok a s) f g = refl
next-next (refused e) f g = refl

-- ── A call's arguments ──

-- those that are left, where it is known whether one before them was poisoned
abbrev pub visits_from : {A : Type 0} → Ctx → (poisoned : Bool) → Nodes → (Bool → Walk A) → Walk A
visits_from c p xs k = λ s. next (visit_all c xs s) (λ rest. k (p || rest))

or_assoc : (p q r : Bool) → (p || (q || r)) ≡ ((p || q) || r)
or_assoc true q r = refl
or_assoc false q r = refl

or-false : (p : Bool) → (p || false) ≡ p
or-false true = refl
or-false false = refl

module _ {A : Type 0} (c : Ctx) (p : Bool) (k : Bool → Walk A) where
  pub visits-all : (xs : Nodes) (s : World) → next (visit_all c xs s) k ≡ visits_from c false xs k s
  visits-all xs s = refl

  pub visits-turn : (x : Node) (xs : Nodes) (s : World) → visits_from c p (then x xs) k s ≡ next (node c x s) (λ a. visits_from c (p || is_poison a) xs k)
  unfolding visit_all
  visits-turn x xs s =
      next-next (node c x s) _ _
      ∙ next-alike (node c x s) (λ a t. next-next (visit_all c xs t) _ _ ∙ next-alike (visit_all c xs t) (λ rest u. ap (λ b. k b u) (or_assoc p (is_poison a) rest)))

  pub visits-end : (s : World) → visits_from c p done k s ≡ k p s
  unfolding visit_all
  visits-end s = ap (λ b. k b s) (or-false p)

-- ── A match's cases ──

-- those that are left, after branches that are known
abbrev pub cases_from : {A : Type 0} → Ctx → (n : ℕ) → List Branch → Cases → (List Branch → Walk A) → Walk A
cases_from c n before cs k = λ s. next (cases c n cs s) (λ rest. k (before ++ rest))

module _ {A : Type 0} (c : Ctx) (n : ℕ) (before : List Branch) (k : List Branch → Walk A) where
  pub cases-turn : (token : ℕ) (x : Node) (body : Nodes) (cs : Cases) (s : World) → cases_from c n before (case token x body cs) k s
      ≡ next (node c x s) (λ a. condition c n token a >> (◌>>=◌ (block c body) (λ b. cases_from c n (before ++ (record { token = token; answer = b } ∷ [])) cs k)))
  unfolding cases
  cases-turn token x body cs s =
      next-next (node c x s) _ _
      ∙ next-alike (node c x s) (λ a t. next-next (condition c n token a t) _ _
      ∙ next-alike (condition c n token a t) (λ _ u. next-next (block c body u) _ _
      ∙ next-alike (block c body u) (λ b v. next-next (cases c n cs v) _ _
      ∙ next-alike (cases c n cs v) (λ rest w. ap (λ bs. k bs w) (sym (append_assoc before (record { token = token; answer = b } ∷ []) rest))))))

  pub cases_end_lem : (s : World) → cases_from c n before no_case k s ≡ k before s
  unfolding cases
  cases_end_lem s = ap (λ bs. k bs s) (append-nil before)

-- ── A record's values ──

-- those that are left, after pairs that are known
abbrev pub values_from : {A : Type 0} → Ctx → (before : List ℕ) → Values → (List ℕ → Walk A) → Walk A
values_from c before vs k = λ s. next (values c vs s) (λ rest. k (before ++ rest))

module _ {A : Type 0} (c : Ctx) (before : List ℕ) (k : List ℕ → Walk A) where
  pub values-turn : (name : ℕ) (x : Node) (vs : Values) (s : World)
      → values_from c before (value name x vs) k s ≡ next (node c x s) (λ a. ◌>>=◌ (value_type a) (λ w. values_from c (before ++ (name ∷ w ∷ [])) vs k))
  unfolding values
  values-turn name x vs s =
      next-next (node c x s) _ _
      ∙ next-alike (node c x s) (λ a t. next-next (value_type a t) _ _
      ∙ next-alike (value_type a t) (λ w u. next-next (values c vs u) _ _
      ∙ next-alike (values c vs u) (λ rest v. ap (λ ps. k ps v) (sym (append_assoc before (name ∷ w ∷ []) rest)))))

  pub values-end : (s : World) → values_from c before no_value k s ≡ k before s
  unfolding values
  values-end s = ap (λ ps. k ps s) (append-nil before)
