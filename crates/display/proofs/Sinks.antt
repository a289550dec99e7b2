-- Writing to a sink: where a `?` leaves, and what a loop still owes. Assumes nothing.
use Rattle.std.specs.Prelude.{ℕ, List, ◌++◌, Result, Ok, Err, ⊤}
use mathlib.Core.Path.{◌≡◌}
use Rattle.std.specs.Result.{IsErrAnd}
use Rattle.std.proofs.lemmas.Result.{err_from_is_err_and}
use Rattle.display.specs.declared.Full.{Full}
use Rattle.display.specs.Sink.{SinkLaws, Owes}

module _ {S : Type 0} {wrote : S → S → Result ⊤ Full → List ℕ → Type 0} (laws : SinkLaws S wrote) where
  -- the same text in other words
  pub as_text : {a b : S} {r : Result ⊤ Full} {s t : List ℕ} → s ≡ t → wrote a b r t → wrote a b r s
  as_text e p = rw e p

  -- where a piece had no room a `?` leaves, and the text ends there
  pub leaves : {a b : S} {x : Full} {r : Result ⊤ Full} {s t : List ℕ} (Q : Full → Type 0) → IsErrAnd r Q → t ≡ s → wrote a b (Err x) s → wrote a b r t
  leaves {r = r} Q h e p =
      let f = err_from_is_err_and r h in
      rw (f.1, e) p

  -- before the first turn of a loop all is owed; a turn writes the front of it
  pub owes-all : {a : S} {s t : List ℕ} → s ≡ t → Owes wrote a s a t
  owes-all e = record { ends = λ p. as_text e p }

  pub owes-less : {a b c : S} {x : ⊤} {s s' t u : List ℕ} → Owes wrote a s b s' → s' ≡ t ++ u → wrote b c (Ok x) t → Owes wrote a s c u
  owes-less h e p = record { ends = λ q. h.ends (as_text e (laws.more p q)) }
