-- Laws of steps: a step that is answered after another one follows an answer of that one. By cases on the result. Assumes nothing.
use Rattle.std.specs.Prelude.{◌≡◌, refl, Bool, true, false, ℕ}
use Rattle.std.proofs.Common.{arith}
use Rattle.tok.specs.Step.{Result, ok, refused, Step, next, refuse, when}

-- two steps, answered
pub next-ok : {S E A B : Type 0} (r : Result S E A) (f : A → Step S E B) (b : B) (s : S) → next r f ≡ ok b s → (a : A) × (s' : S) × (r ≡ ok a s') × (f a s' ≡ ok b s)
next-ok (ok a s') f b s e = (a, s', refl, e)
next-ok (refused x) f b s e =
    let z : ◌≡◌ {A = ℕ} 0 1 = cc in
    absurd (omega arith)

-- a step that is refused unless a test holds, answered
pub when-ok : {S E A : Type 0} (q : Bool) (m : Step S E A) (x : E) (s : S) (a : A) (s' : S) → when q m (refuse x) s ≡ ok a s' → (q ≡ true) × (m s ≡ ok a s')
unfolding when
when-ok true m x s a s' e = (refl, e)
when-ok false m x s a s' e =
    let z : ◌≡◌ {A = ℕ} 0 1 = cc in
    absurd (omega arith)

-- what holds of an answer holds of it however it is written
pub of-answer : {S E A : Type 0} (P : A → S → Type 0) {a a' : A} {s s' : S} → ◌≡◌ {A = Result S E A} (ok a s) (ok a' s') → P a s → P a' s'
of-answer P {a} {a'} {s} {s'} e h =
    let p : a ≡ a' = cc in
    let q : s ≡ s' = cc in
    rw (← p, ← q) h
