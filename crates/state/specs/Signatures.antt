-- Functions by their place in a word list, past those that the library's words have too. Definitions.
use Rattle.std.specs.Prelude.{ℕ, zero, suc, List, [], ◌∷◌}
use Rattle.library.specs.Package.{Function}
pub use Rattle.library.specs.Signatures.{slotted, entry_end}
unfoldable pub use Rattle.library.specs.Signatures.{signature_at, entry_at, entries_from}

-- the word after k entries
unfoldable pub entries_end : List ℕ → (flags at k : ℕ) → ℕ
entries_end words flags at zero = at
entries_end words flags at (suc k) = entries_end words flags (entry_end words flags at) k

-- the same, newest first, before those given
unfoldable pub entries_back : List ℕ → (flags at k : ℕ) → List Function → List Function
entries_back words flags at zero fs = fs
entries_back words flags at (suc k) fs = entries_back words flags (entry_end words flags at) k (entry_at words flags at ∷ fs)

-- own functions, of which the functions buffer holds k entries: "calls visited from there on find the new one"
unfoldable pub own_in : (functions : List ℕ) → (k : ℕ) → List Function
own_in functions k = entries_back functions 0 0 k []
