-- The nodes visited so far: where no diagnostic was raised, each slot that one of them owns has a type, and keeps one. Assumes nothing.
use Rattle.std.specs.Prelude.{ℕ, List, [], ◌++◌}
use Rattle.tok.specs.Step.{Result, Refusal, next, return}
use Rattle.ast.specs.Node.{Node}
use Rattle.rules.specs.declared.Answer.{Answer}
use Rattle.rules.specs.declared.Answer.TheVariants.{Poison}
use Rattle.rules.specs.World.{World}
use Rattle.rules.specs.Steps.{Done}
use Rattle.rules.specs.Visited.{slots_of, all_slots}
use Rattle.onerun.specs.Claim.{Run, All, end, and, OfNames, Recorded}
use Rattle.onerun.specs.Grows.{all_map}
use Rattle.onerun.specs.Logic.{Silent, before, After, Gives, g_next, g_return, g_map, Own, own-poison}
use Rattle.onerun.proofs.Report.{Raised}

module _ (r : Run) where
  -- some slots, each with a type
  abbrev pub AllRecorded : World → List ℕ → Type 0
  AllRecorded u slots = All (Recorded r u) slots

  abbrev pub Seen : World → List Node → Type 0
  Seen u ys = All (λ y. AllRecorded u (slots_of y)) ys

  pub slots-later : {A : Type 0} {Q : World → A → Type 0} {s u : World} {a : A} {slots : List ℕ} → After r Q s u a → AllRecorded s slots → AllRecorded u slots
  slots-later h x = all_map (λ slot e. h.recorded slot e) x

  pub seen-later : {A : Type 0} {Q : World → A → Type 0} {s u : World} {a : A} {ys : List Node} → After r Q s u a → Seen s ys → Seen u ys
  seen-later h x = all_map (λ y e. slots-later h e) x

  pub seen-both : {u : World} {xs ys : List Node} → Seen u xs → Seen u ys → Seen u (xs ++ ys)
  seen-both end h = h
  seen-both (and x xs) h = and x (seen-both xs h)

  slots-both : {u : World} {xs ys : List ℕ} → AllRecorded u xs → AllRecorded u ys → AllRecorded u (xs ++ ys)
  slots-both end h = h
  slots-both (and x xs) h = and x (slots-both xs h)

  -- all the slots that they own
  pub seen-slots : {u : World} {ys : List Node} → Seen u ys → AllRecorded u (all_slots ys)
  unfolding all_slots
  seen-slots end = end
  seen-slots (and x xs) = slots-both x (seen-slots xs)

  -- the answer of a rule, the slots of its arguments (an Fn's), and the nodes visited by then
  pub record NodeOk (slot : ℕ) (args : List ℕ) (ys : List Node) (u : World) (a : Answer) : Type 0 where
    pub own : Own r slot u a
    pub arguments : r.clean → AllRecorded u args
    pub seen : r.clean → Seen u ys

  pub g_keep-fn : {slot : ℕ} {args : List ℕ} {ys : List Node} {s : World} {x : Result World Refusal Answer} → (Silent r s → r.clean → AllRecorded s args) → (Silent r s → r.clean → Seen s ys)
      → Gives r (Own r slot) s x → Gives r (NodeOk slot args ys) s x
  g_keep-fn k h g =
      g_map r (λ u a t f z. record { own = (f z).value; arguments = λ q. slots-later (f z) (k (before r t z) q); seen = λ q. seen-later (f z) (h (before r t z) q) }) g

  pub g_keep : {slot : ℕ} {ys : List Node} {s : World} {x : Result World Refusal Answer} → (Silent r s → r.clean → Seen s ys) → Gives r (Own r slot) s x → Gives r (NodeOk slot [] ys) s x
  g_keep h g = g_keep-fn (λ z q. end) h g

  -- after a diagnostic, or where it is names that are claimed
  pub names-node : {slot : ℕ} {args : List ℕ} {ys : List Node} {u : World} → OfNames r → NodeOk slot args ys u Poison
  names-node l = record { own = own-poison r l; arguments = λ q. absurd (l q); seen = λ q. absurd (l q) }

  pub node-poison : {slot : ℕ} {args : List ℕ} {ys : List Node} {s : World} {x : Result World Refusal Done} → Gives r (Raised r) s x → Gives r (NodeOk slot args ys) s (next x (λ _. return Poison))
  node-poison g = g_next r _ g (λ a u t p. g_return r (λ z. (p z).holds) (λ z. names-node (p z).value))
