-- Slots and Unknown in the signatures of an accepted library, said of the trees that the walk reads, which are at most 32 deep after the
-- library is measured: no Unknown, slots only under flag 1, and those of the return type in some argument. By induction on the levels.
-- Assumes nothing.
use Prim.Native.Nat.{ℕ, ◌+◌, ◌≤◌}
use Rattle.std.specs.Prelude.{◌≡◌, true, false}
use mathlib.Core.List.{List, [], ◌∷◌, ◌++◌}
use Rattle.tok.specs.Text.{Texts}
use Rattle.ptype.specs.Ty.{contains_unknown, contains_slot, depth_of}
use Rattle.ptype.specs.Words.{ty_of}
use Rattle.ptype.proofs.DepthLaws as depth
use Rattle.library.specs.Package.{Signature}
use Rattle.library.specs.Slots.{slot_names, name_among}
use Rattle.library.specs.PoolTrees as trees
use Rattle.rules.specs.Walk.{param_types}
use Rattle.rules.specs.Promises.{Every}

-- a type that was measured: "type depth 32"
pub record Measured (t : Texts) (pool : List ℕ) (w : ℕ) : Type 0 where
  pub low : depth_of (ty_of t pool w) ≤ 32

-- the names of the slots in some types
unfoldable pub slots_in : Texts → (pool : List ℕ) → List ℕ → List (List ℕ)
slots_in t pool [] = []
slots_in t pool (w ∷ ws) = slot_names (ty_of t pool w) ++ slots_in t pool ws

-- What the types of a library signature are.
pub record SignatureTypes (t : Texts) (pool : List ℕ) (s : Signature) : Type 0 where
  -- "Unknown is not allowed."
  pub known : Every (λ w. contains_unknown (ty_of t pool w) ≡ false) (s.ret ∷ param_types s.params)
  -- "Slots stand only under flag 1"
  pub flat : s.with_slots ≡ false → Every (λ w. contains_slot (ty_of t pool w) ≡ false) (s.ret ∷ param_types s.params)
  -- "a slot of the return type stands in some argument"
  pub stand : (name : List ℕ) → name_among name (slot_names (ty_of t pool s.ret)) ≡ true → name_among name (slots_in t pool (param_types s.params)) ≡ true
