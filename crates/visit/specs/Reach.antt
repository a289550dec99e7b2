-- How far the packages held reach in scratch. Definitions.
use Rattle.std.specs.Prelude.{ℕ, zero, suc, ◌+◌, max, cond, List, get_or, ltb}
use Rattle.state.specs.Signatures.{entries_end}
use Rattle.state.specs.Store.{held_size}

-- The word after those that a package held is read from (`held_at`): one word of a library package, up to its last entry of an Extern's
abbrev pub package_reach : (scratch : List ℕ) → (at : ℕ) → ℕ
package_reach scratch at = cond (ltb (get_or scratch at 0) 8192) (at + 1) (entries_end scratch 0 (at + 3) (get_or scratch (at + 2) 0))

-- and k of them from a word on (`held_from`). What stands from there on is free for other use.
unfoldable pub held_reach : (scratch : List ℕ) → (at k : ℕ) → ℕ
held_reach scratch at zero = at
held_reach scratch at (suc k) = max (package_reach scratch at) (held_reach scratch (at + held_size (get_or scratch at 0)) k)
