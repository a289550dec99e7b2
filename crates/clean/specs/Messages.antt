-- "names are read, and messages written, only as UTF-8 well formed by it [RFC 3629]": every message and primary message of every answer.
-- Assumes nothing.
use Rattle.std.specs.Prelude.{ℕ, ◌≡◌, true}
use Rattle.utf8.specs.Rfc3629.{well_formed}
use Rattle.rules.specs.Check.{Ended}
use Rattle.rules.specs.Promises.{message_of, primary_of}

-- the k-th message and primary message of an answer
pub record ReadWell (e : Ended) (k : ℕ) : Type 0 where
  pub message : well_formed (message_of e k) ≡ true
  pub primary : well_formed (primary_of e k) ≡ true
