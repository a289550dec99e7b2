-- What visiting leaves alone in scratch, and how much it takes: names in scope are added after those there, packages held before those
-- there. Laws of it. Assumes nothing.
use Rattle.std.specs.Prelude.{ℕ, ◌+◌, ◌*◌, ◌≤◌, ◌≡◌, refl, List, take, length, Ok, Err}
use Rattle.std.proofs.Common.{sym, ap, ◌∙◌, arith, take-take}
use Rattle.rules.specs.World.{Walk}
use Rattle.state.specs.declared.Refusal.{Refusal}
use Rattle.state.specs.declared.Used.{Used}
use Rattle.state.specs.World.{More}
use Rattle.visit.specs.declared.State.{State}
use Rattle.visit.specs.Whole.{Lent, lent, Visit, function_words, whole, visited}
use Rattle.visit.specs.Reach.{held_reach}

-- the state with other used counts
abbrev pub with_used : State → Used → State
with_used st u = record { used = u; names = st.names; held = st.held; packages = st.packages; functions = st.functions }

-- the words of scratch below those of the next name in scope
abbrev pub top : State → ℕ
top st = 2 * (st.names.base + st.names.depth)

-- From one state to a later one, with at most `room` words of scratch and `rows` words of the functions buffer.
pub record Within (room rows : ℕ) (st : State) (b : Lent) (st' : State) (b' : Lent) : Type 0 where
  pub base : st'.names.base ≡ st.names.base
  pub deeper : st.names.depth ≤ st'.names.depth
  pub taken : top st' + st.held ≤ top st + st'.held + room
  pub written : function_words st' b' ≤ function_words st b + rows
  pub names : take (top st) b'.scratch ≡ take (top st) b.scratch
  pub held : held_reach b'.scratch st'.held st'.packages ≡ held_reach b.scratch st.held st.packages
  pub packages : st'.packages + st'.held ≤ st.packages + st.held
  pub scratch : length b'.scratch ≡ length b.scratch
  pub functions : length b'.functions ≡ length b.functions

-- nothing done
pub within_same : (st : State) (b : Lent) → Within 0 0 st b st b
within_same st b = record { base = refl; deeper = omega arith; taken = omega arith; written = omega arith; names = refl; held = refl; packages = omega arith; scratch = refl; functions = refl }

take_below : (l l' : List ℕ) {n m : ℕ} → m ≤ n → take n l ≡ take n l' → take m l ≡ take m l'
take_below l l' {n} {m} h e = sym (take-take m n l h) ∙ ap (take m) e ∙ take-take m n l' h

pub within-then : {r₁ r₂ w₁ w₂ : ℕ} {s₁ s₂ s₃ : State} {b₁ b₂ b₃ : Lent}
    → Within r₁ w₁ s₁ b₁ s₂ b₂ → Within r₂ w₂ s₂ b₂ s₃ b₃ → Within (r₁ + r₂) (w₁ + w₂) s₁ b₁ s₃ b₃
within-then {s₁ = s₁} {s₂ = s₂} {b₂ = b₂} {b₃ = b₃} p q =
    let e = p.base in
    let l : top s₁ ≤ top s₂ = omega (arith, p.base, p.deeper) in
    record {
      base = q.base ∙ p.base;
      deeper = omega (arith, p.deeper, q.deeper);
      taken = omega (arith, p.taken, q.taken);
      written = omega (arith, p.written, q.written);
      names = take_below b₃.scratch b₂.scratch l q.names ∙ p.names;
      held = q.held ∙ p.held;
      packages = omega (arith, p.packages, q.packages);
      scratch = q.scratch ∙ p.scratch;
      functions = q.functions ∙ p.functions;
    }

-- It does not go by what else was used, nor by the other buffers: it is the same seen from a state before or after, between which no more than
-- these changed. And it holds with as much room as was asked for, or more.
pub within-from : {r w r' w' : ℕ} {s₁ s₂ : State} {b₁ b₂ : Lent} {u : Used} {s t d m : List ℕ} {o : More} → Within r w s₁ b₁ s₂ b₂ → r ≤ r' → w ≤ w'
    → Within r' w' (with_used s₁ u) (lent s b₁.functions t d m b₁.scratch o) s₂ b₂
within-from p h k = record {
  base = p.base;
  deeper = p.deeper;
  taken = omega (arith, p.taken);
  written = omega (arith, p.written);
  names = p.names;
  held = p.held;
  packages = p.packages;
  scratch = p.scratch;
  functions = p.functions;
}

pub within-most : {r w r' w' : ℕ} {s₁ s₂ : State} {b₁ b₂ : Lent} → Within r w s₁ b₁ s₂ b₂ → r ≤ r' → w ≤ w' → Within r' w' s₁ b₁ s₂ b₂
within-most p h k = within-from p h k

-- Where it ended without a refusal, it kept within that.
pub data Keeps {A : Type 0} (room rows : ℕ) (st : State) (b b' : Lent) : Visit A → Type 0 where
  goes : {a : A} {st' : State} → Within room rows st b st' b' → Keeps room rows st b b' (Ok (a, st'))
  stops : {e : Refusal} → Keeps room rows st b b' (Err e)

-- The contract of every function that visits, or takes a step of the walk: buffers b and state st came in, b' are the buffers now, r the answer.
pub record Visits {A : Type 0} (rule : Walk A) (room rows : ℕ) (library : List ℕ) (st : State) (b b' : Lent) (r : Visit A) : Type 0 where
  pub step : rule (whole library st b) ≡ visited library b' r
  pub keeps : Keeps room rows st b b' r
