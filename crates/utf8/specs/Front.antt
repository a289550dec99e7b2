-- What the program's loop takes off a string in one turn. A definition.
use Rattle.std.specs.Prelude.{ℕ, ◌≤◌, ◌≡◌, ◌&&◌, List, ltb, length, drop}
use Rattle.utf8.specs.Rfc3629.{well_formed}

-- t begins with a character of n octets, and is well formed exactly where the rest is; or n is 0, and t is not well formed
pub record Front (t : List ℕ) (n : ℕ) : Type 0 where
  pub within : n ≤ length t
  pub well : well_formed t ≡ (ltb 0 n && well_formed (drop n t))
