-- Signatures and entries by their place in a word list: entries of the functions buffer ("name, argument count, pairs, return type"), of an
-- Extern's package, and of the library, where a flag stands after the name. Definitions.
use Rattle.std.specs.Prelude.{ℕ, zero, suc, ◌+◌, ◌*◌, Bool, ◌&&◌, List, [], ◌∷◌, get_or, eqb}
use Rattle.library.specs.Package.{Signature, signature, Function, function, params_from}

-- the signature whose argument count stands at a word: "argument count, name and type for each argument, return type"
unfoldable pub signature_at : List ℕ → (at : ℕ) → (with_slots : Bool) → Signature
signature_at words at f = signature (params_from words (at + 1) (get_or words at 0)) (get_or words (at + 1 + 2 * get_or words at 0) 0) f

-- An entry at a word, with `flags` words between its name and its argument count: 1 in the library, else 0.
abbrev pub slotted : List ℕ → (flags at : ℕ) → Bool
slotted words flags at = eqb flags 1 && eqb (get_or words (at + 1) 0) 1

unfoldable pub entry_at : List ℕ → (flags at : ℕ) → Function
entry_at words flags at = function (get_or words at 0) (signature_at words (at + 1 + flags) (slotted words flags at))

abbrev pub entry_end : List ℕ → (flags at : ℕ) → ℕ
entry_end words flags at = at + 3 + flags + 2 * get_or words (at + 1 + flags) 0

-- k entries from a word on, in order
unfoldable pub entries_from : List ℕ → (flags at k : ℕ) → List Function
entries_from words flags at zero = []
entries_from words flags at (suc k) = entry_at words flags at ∷ entries_from words flags (entry_end words flags at) k
