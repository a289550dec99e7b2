-- What `map_err` makes of a fault: a cause with its place. Assumes nothing.
use Prim.Native.Nat.{ℕ}
use mathlib.Core.Path.{◌≡◌, refl}
use mathlib.Core.Option.{none, some}
use Rattle.std.specs.Prelude.{Result, Ok, Err, ⊤, MatchResult, IsErrAnd}
use Rattle.reader.specs.declared.Fault.{Fault}
use Rattle.reader.specs.Reading.{offending}
use Rattle.refuse.specs.declared.Cause.{Cause}

-- the fault that was found, and the cause that it became
pub record Caused (make : ℕ → Cause) (r : Result ⊤ Fault) (cause : Cause) : Type 0 where
  pub place : ℕ
  pub found : offending r ≡ some place
  pub is : cause ≡ make place

module _ (make : ℕ → Cause) {post : Fault → Cause → Type 0} (makes : (f : Fault) (cause : Cause) → post f cause → cause ≡ make f.0) where
  pub passed : (r : Result ⊤ Fault) {m : Result ⊤ Cause} {x : ⊤} → MatchResult r (λ y. m ≡ Ok y) (λ f. IsErrAnd m (post f)) → m ≡ Ok x → offending r ≡ none
  passed (Ok y) s e = refl
  passed (Err f) s e = absurd (rw e at s)

  pub caused : (r : Result ⊤ Fault) {m : Result ⊤ Cause} (cause : Cause) → MatchResult r (λ y. m ≡ Ok y) (λ f. IsErrAnd m (post f)) → m ≡ Err cause
      → Caused make r cause
  caused (Ok y) cause s e = cc
  caused (Err f) cause s e = record { place = f.0; found = refl; is = makes f cause (rw e at s) }
