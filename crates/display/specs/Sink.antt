-- What texts are written to: the laws that each sink meets. A definition.
use Rattle.std.specs.Prelude.{ℕ, List, ◌++◌, Result, Ok, Err, ⊤}
use Rattle.display.specs.declared.Full.{Full}

-- A text written after another is both, one after the other; and behind one that had no room nothing more is written.
pub record SinkLaws (S : Type 0) (wrote : S → S → Result ⊤ Full → List ℕ → Type 0) : Type 0 where
  pub more : {a b c : S} {x : ⊤} {r : Result ⊤ Full} {s t : List ℕ} → wrote a b (Ok x) s → wrote b c r t → wrote a c r (s ++ t)
  pub stop : {a b : S} {x : Full} {s : List ℕ} (t : List ℕ) → wrote a b (Err x) s → wrote a b (Err x) (s ++ t)

-- Of the text s, begun at a, the text s' is still to be written, at a': whoever writes s' has written s.
pub record Owes {S : Type 0} (wrote : S → S → Result ⊤ Full → List ℕ → Type 0) (a : S) (s : List ℕ) (a' : S) (s' : List ℕ) : Type 0 where
  pub ends : {b : S} {r : Result ⊤ Full} → wrote a' b r s' → wrote a b r s
