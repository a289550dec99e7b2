-- The type words of a call's arguments. Definitions.
use Rattle.std.specs.Prelude.{ℕ, ◌≤◌, List, map, length, get_or}
use Rattle.rules.specs.Calls.{Provided}
use Rattle.spans.specs.Ready.{NodesReady}

-- the words of the arguments' slots
abbrev pub words_in : (slots : List ℕ) → List Provided → List ℕ
words_in slots given = map (λ a. get_or slots a.slot 0) given

-- The arguments are nodes of an accepted image, parts of some node, and the lent part has room for a word of each.
pub record Gatherable (image places : List ℕ) (args count : ℕ) (provided : List ℕ) : Type 0 where
  pub owner : ℕ
  pub nodes : NodesReady image places owner args count
  pub room : count ≤ length provided
