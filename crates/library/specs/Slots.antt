-- The slots that stand in a library type, at any depth (document 01, "Words": "Slots stand only under flag 1; a slot of the
-- return type stands in some argument"). Definitions.
use Rattle.std.specs.Prelude.{ℕ, ◌+◌, Bool, true, false, ◌&&◌, ◌||◌, not, List, [], ◌∷◌, ◌++◌, eqb}
use Rattle.tok.specs.Text.{same_bytes}
use Rattle.ptype.specs.Ty.{Ty, Fields, plain, wrap, rec, named, no_field, field, contains_slot}
use Rattle.ptype.specs.Words.{unfolded}
use Rattle.library.specs.Pool.{Pool}

-- The type of a word. Pool words refer to smaller indices only, so that no type is deeper than P + 1.
unfoldable pub pool_ty : Pool → (w : ℕ) → Ty
pool_ty p w = unfolded p.texts p.words (p.size + 1) w

-- the names of the slots in a type
unfoldable mutual
  pub slot_names : Ty → List (List ℕ)
  slot_names (plain k) = []
  slot_names (wrap k t) = slot_names t
  slot_names (rec fs) = slot_names_in fs
  slot_names (named k n) = elim (eqb k 10) [ true ↦ n ∷ [] | false ↦ [] ]

  pub slot_names_in : Fields → List (List ℕ)
  slot_names_in no_field = []
  slot_names_in (field n t fs) = slot_names t ++ slot_names_in fs

unfoldable pub no_slot : Pool → (w : ℕ) → Bool
no_slot p w = not (contains_slot (pool_ty p w))

unfoldable pub slot_names_of : Pool → List ℕ → List (List ℕ)
slot_names_of p [] = []
slot_names_of p (w ∷ ws) = slot_names (pool_ty p w) ++ slot_names_of p ws

-- a name is among others
unfoldable pub name_among : List ℕ → List (List ℕ) → Bool
name_among n [] = false
name_among n (x ∷ xs) = same_bytes n x || name_among n xs

unfoldable pub all_among : List (List ℕ) → List (List ℕ) → Bool
all_among [] others = true
all_among (n ∷ ns) others = name_among n others && all_among ns others

-- "a slot of the return type stands in some argument"
unfoldable pub return_stands : Pool → (args : List ℕ) → (ret : ℕ) → Bool
return_stands p args ret = all_among (slot_names (pool_ty p ret)) (slot_names_of p args)
