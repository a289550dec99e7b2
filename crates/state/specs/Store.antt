-- What the walk keeps in scratch: the names in scope from its front on, the packages held from word 8,192 down. Definitions.
use Rattle.std.specs.Prelude.{ℕ, zero, suc, ◌+◌, ◌*◌, ◌-◌, ◌^◌, Bool, cond, List, [], ◌∷◌, get_or, eqb, ltb}
use Rattle.std.proofs.Math.Option.{Option, none, some}
use Rattle.tok.specs.Word.{kind_of}
use Rattle.library.specs.Package.{Package, pkg}
use Rattle.library.specs.PackagesRead.{package_at}
use Rattle.rules.specs.World.{Local}
use Rattle.state.specs.Signatures.{entries_from}

-- A name in scope has two words, its name and its type. Where the binding is poisoned, the name has kind 13 in place of 12.
abbrev pub poisoned : (w : ℕ) → Bool
poisoned w = eqb (kind_of w) 13

abbrev pub local_name : (w : ℕ) → ℕ
local_name w = cond (poisoned w) (w - 2 ^ 28) w

abbrev pub local_type : (w type : ℕ) → Option ℕ
local_type w type = cond (poisoned w) none (some type)

unfoldable pub local_at : List ℕ → (at : ℕ) → Local
local_at scratch at = record { name = local_name (get_or scratch at 0); type = local_type (get_or scratch at 0) (get_or scratch (at + 1) 0) }

-- `depth` names from name number `base` on, newest first
unfoldable pub env_up : List ℕ → (base depth : ℕ) → List Local
env_up scratch base zero = []
env_up scratch base (suc k) = local_at scratch (2 * (base + k)) ∷ env_up scratch base k

-- the package of an Extern: name, function count, entries
unfoldable pub extern_at : List ℕ → (at : ℕ) → Package
extern_at scratch at = pkg (get_or scratch at 0) (entries_from scratch 0 (at + 2) (get_or scratch (at + 1) 0))

-- A package held, at a word. A word below 8,192 is the place of a library package; else it tells, above 8,192, how many words an Extern's
-- package takes with this word.
unfoldable pub held_at : (library scratch : List ℕ) → (at : ℕ) → Package
held_at library scratch at = cond (ltb (get_or scratch at 0) 8192) (package_at library (get_or scratch at 0)) (extern_at scratch (at + 1))

abbrev pub held_size : (w : ℕ) → ℕ
held_size w = cond (ltb w 8192) 1 (w - 8192)

-- k packages held from a word on, newest first, and the word after them
unfoldable pub held_from : (library scratch : List ℕ) → (at k : ℕ) → List Package
held_from library scratch at zero = []
held_from library scratch at (suc k) = held_at library scratch at ∷ held_from library scratch (at + held_size (get_or scratch at 0)) k

unfoldable pub held_end : (scratch : List ℕ) → (at k : ℕ) → ℕ
held_end scratch at zero = at
held_end scratch at (suc k) = held_end scratch (at + held_size (get_or scratch at 0)) k
