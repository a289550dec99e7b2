-- Laws of measuring: a list of words is measured part by part. By induction on the list. Assumes nothing.
use Rattle.std.specs.Prelude.{◌≡◌, refl, Bool, true, false, ◌&&◌, cond, List, [], ◌∷◌, ◌++◌, ℕ}
use Rattle.std.proofs.Common.{sym}
use Rattle.std.proofs.Math.Bool.{and_assoc}
use Rattle.tok.specs.Text.{Texts}
use Rattle.tok.specs.Step.{ok, refused, refusal, next, when}
use Rattle.ptype.specs.Add.{Buffer}
use Rattle.add.specs.Parts.{shallow}
use Rattle.add.specs.Pool.{measure, all_shallow}

pub shallow-append : (t : Texts) (types xs ys : List ℕ) → all_shallow t types (xs ++ ys) ≡ (all_shallow t types xs && all_shallow t types ys)
unfolding all_shallow
shallow-append t types [] ys = refl
shallow-append t types (x ∷ xs) ys = rw (shallow-append t types xs ys) (sym (and_assoc (shallow t types x) (all_shallow t types xs) (all_shallow t types ys)))

-- Words measured in two parts: the second is measured where the first is not refused.
pub measure-append : (t : Texts) (n : ℕ) (xs ys : List ℕ) (b : Buffer) → measure t n (xs ++ ys) b ≡ next (measure t n xs b) (λ _. measure t n ys)
unfolding measure when
measure-append t n xs ys b = rw (shallow-append t b.words xs ys) (go (all_shallow t b.words xs))
  where
    go : (q : Bool) → when (q && all_shallow t b.words ys) (λ s. ok (tt {0}) s) (λ _. refused (refusal 8 n)) b
        ≡ next (when q (λ s. ok (tt {0}) s) (λ _. refused (refusal 8 n)) b) (λ _. measure t n ys)
    go true = refl
    go false = refl

-- Words measured by a test of them all.
pub measure-all : (t : Texts) (n : ℕ) (words : List ℕ) (b : Buffer) {q : Bool} → q ≡ all_shallow t b.words words → measure t n words b ≡ cond q (ok (tt {0}) b) (refused (refusal 8 n))
unfolding measure when
measure-all t n words b {q} h = rw (← h) (go q)
  where
    go : (q : Bool) → when q (λ s. ok (tt {0}) s) (λ _. refused (refusal 8 n)) b ≡ cond q (ok (tt {0}) b) (refused (refusal 8 n))
    go true = refl
    go false = refl
