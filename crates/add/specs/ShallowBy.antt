-- Whether types are at most 32 deep by what is marked of their field lists (crate `ptype`, `gauge`), and the marks after it, as the code has them.
-- Definitions.
use Rattle.std.specs.Prelude.{ℕ, ◌≡◌, Bool, true, cond, List, [], ◌∷◌, leb}
use Rattle.tok.specs.Text.{Texts}
use Rattle.ptype.specs.Marks.{Depths}
use Rattle.ptype.specs.Gauge.{gauge}
use Rattle.add.specs.Pool.{is_type}

-- an answer, and the marks after it was found
pub record ShallowFound : Type 0 where
  pub answer : Bool
  pub known : List ℕ

abbrev pub shallow_found : Bool → List ℕ → ShallowFound
shallow_found b known = record { answer = b; known = known }

-- of one type
unfoldable pub shallow_by : (types : List ℕ) → (w : ℕ) → (known : List ℕ) → ShallowFound
shallow_by types w known = shallow_found (leb (gauge types 33 w known).depth 32) (gauge types 33 w known).known

-- and of others, if it is
abbrev pub if_shallow : ShallowFound → (List ℕ → ShallowFound) → ShallowFound
if_shallow a go = cond a.answer (go a.known) a

-- of the types among some words, up to the first that is deeper
unfoldable pub all_shallow_by : (types words known : List ℕ) → ShallowFound
all_shallow_by types [] known = shallow_found true known
all_shallow_by types (w ∷ ws) known = cond (is_type w) (if_shallow (shallow_by types w known) (all_shallow_by types ws)) (all_shallow_by types ws known)

-- That is so where the marks are right; and they stay right.
pub record RightAnswer (types known : List ℕ) (b : Texts → Bool) (a : ShallowFound) : Type 0 where
  pub answer : Depths types known → (t : Texts) → a.answer ≡ b t
  pub marks : Depths types known → Depths types a.known
