-- What a word means in the used part of the types buffer, and how a buffer grows. Definitions.
use Rattle.std.specs.Prelude.{◌≡◌, List, [], ◌∷◌, ℕ, ◌≤◌}
use Rattle.tok.specs.Text.{Texts, name_bytes}
use Rattle.ptype.specs.Ty.{Ty, Fields, no_field, field, depth_of}
use Rattle.ptype.specs.Words.{ty_of}
use Rattle.ptype.specs.Inside.{Within, Agree}
use Rattle.ptype.specs.Add.{Buffer}

-- The word w means the type t: it refers only into the used words, all the way down, and the type is at most 32 deep.
pub record Means (texts : Texts) (b : Buffer) (w : ℕ) (t : Ty) : Type 0 where
  pub within : (deep : ℕ) → Within b.words b.used deep w
  pub is : ty_of texts b.words w ≡ t
  pub shallow : depth_of t ≤ 32

-- pairs, name and type of each, that mean the fields
pub data PairsMean (texts : Texts) (b : Buffer) : (pairs : List ℕ) → Fields → Type 0 where
  none : PairsMean texts b [] no_field
  pair : {name w : ℕ} {t : Ty} {pairs : List ℕ} {fs : Fields} → Means texts b w t → PairsMean texts b pairs fs
      → PairsMean texts b (name ∷ w ∷ pairs) (field (name_bytes texts name) t fs)

-- A buffer to which words were added: those that were used stay as they are.
pub record Grown (b b' : Buffer) : Type 0 where
  pub front : Agree b.used b.words b'.words
  pub more : b.used ≤ b'.used
