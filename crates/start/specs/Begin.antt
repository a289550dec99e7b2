-- The walk up to its roots: what `walk_first` does before it, over all six buffers (document 01, "Answers that end the check"). Definitions, and
-- that the walk begins so. Assumes nothing.
use Rattle.std.specs.Prelude.{ℕ, min, ◌≡◌, refl, cond, List, length, leb, IfOk, ⊤}
use Rattle.tok.specs.Step.{Result, ok, refused, Refusal, next, ◌>>◌}
use Rattle.ptype.specs.Add.{write}
use Rattle.library.specs.Package.{pool_of}
use Rattle.ast.specs.Image.{node_count, slot_count}
use Rattle.ast.specs.Node.{first_roots}
use Rattle.refusals.specs.Inputs.{Inputs}
use Rattle.refuse.specs.Answer.{inputs_of, buffers_of}
use Rattle.rules.specs.declared.Answer.TheVariants.{Known}
use Rattle.rules.specs.World.{World, Walk}
use Rattle.rules.specs.Steps.{Done, skip}
use Rattle.rules.specs.Rules.{last}
use Rattle.rules.specs.Walk.{ctx_of, empty_slots, start_of, copy_pool, measure, walk_first}
use Rattle.tworuns.specs.Accepted.{library_types}
use Rattle.state.specs.World.{no_more}
use Rattle.visit.specs.declared.State.{State}
use Rattle.visit.specs.Whole.{Visit, lent, visited}

-- the pool copied, and every library type measured
unfoldable pub beginning : Inputs → Walk Done
beginning i = do
  copy_pool (node_count i.image) (pool_of i.library)
  measure (ctx_of i) (node_count i.image) (library_types i.library)

-- the state before the first root: so many types are used; nothing is in scope, no package is held, no own function is met
abbrev pub first_state : (pool : ℕ) → State
first_state pool = record {
  used = record { types = pool; told = record { diagnostics = 0; bytes = 0 }; kept = record {} };
  names = record { base = 0; depth = 0 };
  held = 8192;
  packages = 0;
  functions = 0;
}

-- "The types buffer begins with the library pool": where it fits
unfoldable pub with_pool : (pool types : List ℕ) → List ℕ
with_pool pool types = cond (leb (length pool) (min (length types) 8192)) (write types 0 pool) types

-- Slots s and types t came in, s' and t' are they now, r is the answer; the texts and the other buffers may be any.
pub record Starts (image words s t s' t' : List ℕ) (r : Visit ⊤) : Type 0 where
  pub step : (script text f d m e : List ℕ)
      → beginning (inputs_of script image text words) (start_of (inputs_of script image text words) (buffers_of s f t d m e)) ≡ visited words (lent s' f t' d m e no_more) r
  pub state : IfOk r (λ x. x.1 ≡ first_state (length (pool_of words)))
  pub slots : s' ≡ empty_slots (slot_count image) s
  pub types : t' ≡ with_pool (pool_of words) t

-- The walk of some roots begins so, and then visits them.
next-next : {A B C : Type 0} (r : Result World Refusal A) (f : A → Walk B) (g : B → Walk C) → next (next r f) g ≡ next r (λ a s. next (f a s) g)
next-next (ok a s) f g = refl
next-next (refused e) f g = refl

pub walk_begins : (i : Inputs) (k : ℕ) (s : World)
    → walk_first i k s ≡ next (beginning i s) (λ _ w. next (last (ctx_of i) (Known (slot_count i.image)) (first_roots i.image k) w) (λ _. skip))
unfolding walk_first beginning
walk_begins i k s = rw (next-next (copy_pool (node_count i.image) (pool_of i.library) s) (λ _. measure (ctx_of i) (node_count i.image) (library_types i.library))
    (λ _ w. next (last (ctx_of i) (Known (slot_count i.image)) (first_roots i.image k) w) (λ _. skip)))
