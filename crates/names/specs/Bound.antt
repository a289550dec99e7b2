-- One more name in scope, and the end of a let. Definitions; laws of it. Assumes nothing.
use Rattle.std.specs.Prelude.{ℕ, ◌+◌, ◌*◌, ◌^◌, ◌≤◌, ◌≡◌, refl, List, [], ◌∷◌, length}
use Rattle.std.proofs.Common.{arith}
use Rattle.tok.specs.Word.{kind_of}
use Rattle.tok.specs.Step.{◌>>=◌, ◌>>◌}
use Rattle.ptype.specs.Words.{void_word}
use Rattle.ptype.specs.Add.{write}
use Rattle.laws.specs.Writes.{front-write, length-write}
use Rattle.ast.specs.Node.{Node, Let}
use Rattle.rules.specs.declared.Answer.{Answer}
use Rattle.rules.specs.World.{Ctx, World, Walk}
use Rattle.rules.specs.Steps.{env_insert, set_known}
use Rattle.rules.specs.Rules.{let_binding, node}
use Rattle.state.specs.declared.Used.{Used}
use Rattle.state.specs.Store.{held_from}
use Rattle.scope.specs.declared.Binding.{Binding}
use Rattle.scope.specs.declared.Binding.TheVariants.{Bound, Poisoned}
use Rattle.visit.specs.declared.State.{State}
use Rattle.state.specs.World.{More}
use Rattle.visit.specs.Whole.{lent}
use Rattle.visit.specs.Within.{top, Within}
use Rattle.visit.specs.Free.{Free, free-top}
use Rattle.visit.specs.StoreLaws.{write-alike, held-past, reach-past}

-- the words of a name and its type; where the binding is poisoned, the name has kind 13 in place of 12
unfoldable pub local_words : (name : ℕ) → Binding → List ℕ
local_words name (Bound w) = name ∷ w ∷ []
local_words name Poisoned = (name + 2 ^ 28) ∷ 0 ∷ []

-- the state with one more name in scope
abbrev pub one_more : State → Used → State
one_more st u = record { used = u; names = record { base = st.names.base; depth = st.names.depth + 1 }; held = st.held; packages = st.packages; functions = st.functions }

-- there is room for a name, and its word is a name's
pub record Bindable (st : State) (scratch : List ℕ) (name : ℕ) : Type 0 where
  pub free : Free 2 st scratch
  pub kind : kind_of name ≡ 12

-- the end of Node::Let, of what its right side answered
unfoldable pub let_end : (n slot name : ℕ) → Answer → Walk Answer
let_end n slot name r = do
  binding ← let_binding n name r
  env_insert name binding
  set_known slot void_word

pub let_parts_lem : (c : Ctx) (n slot name : ℕ) (right : Node) (w : World) → node c (Let n slot name right) w ≡ ◌>>=◌ (node c right) (let_end n slot name) w
unfolding node let_end
let_parts_lem c n slot name right w = refl

-- two words after the last name leave all else as it was
module _ {st : State} {e : List ℕ} (free : Free 2 st e) where
  pub few-names : st.names.base + st.names.depth ≤ 4096
  few-names = omega (arith, free-top free)

  pub fits : 2 * (st.names.base + st.names.depth) + 2 ≤ length e
  fits = omega (arith, free-top free, free.long)

  pub packages-kept : (x w : ℕ) (library : List ℕ) → held_from library (write e (2 * (st.names.base + st.names.depth)) (x ∷ w ∷ [])) st.held st.packages ≡ held_from library e st.held st.packages
  packages-kept x w library =
      held-past e (write e (top st) (x ∷ w ∷ [])) (write-alike e (top st) st.held (x ∷ w ∷ []) (omega (arith, free.between))) library st.held st.packages (omega arith)

  pub within-bound : (x w : ℕ) (u : Used) (s f t d m s' t' d' m' : List ℕ) (o : More)
      → Within 2 0 st (lent s f t d m e o) (one_more st u) (lent s' f t' d' m' (write e (2 * (st.names.base + st.names.depth)) (x ∷ w ∷ [])) o)
  within-bound x w u s f t d m s' t' d' m' o = record {
    base = refl;
    deeper = omega arith;
    taken = omega arith;
    written = omega arith;
    names = front-write e (top st) (top st) (x ∷ w ∷ []) (omega arith);
    held = reach-past e (write e (top st) (x ∷ w ∷ [])) (write-alike e (top st) st.held (x ∷ w ∷ []) (omega (arith, free.between))) st.held st.packages (omega arith);
    packages = omega arith;
    scratch = length-write e (top st) (x ∷ w ∷ []);
    functions = refl;
  }
