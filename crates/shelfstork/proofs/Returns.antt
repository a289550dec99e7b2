-- The numbers told are those of the check's answer. By cases. Assumes nothing.
use Rattle.std.specs.Prelude.{ℕ, ◌≡◌, refl, List, Ok, Err}
use Rattle.std.proofs.Common.{sym, ap, ◌∙◌}
use Rattle.refusals.specs.Inputs.{Inputs, Buffers}
use Rattle.rules.specs.Check.{Ended, check_of}
use Rattle.ending.specs.Ended.{Checked, ended_of, checked_of}
use Rattle.ending.specs.Numbers.{told, numbers_of}
use Rattle.shelfstork.specs.Told.{Tells}

numbers-are : (r : Checked) (b : Buffers) → numbers_of r ≡ told (ended_of r b)
unfolding numbers_of
numbers-are (Ok c) b = refl
numbers-are (Err x) b = refl

after_is : (r : Checked) (b : Buffers) → b ≡ (ended_of r b).after
after_is (Ok c) b = refl
after_is (Err x) b = refl

pub tells : {i : Inputs} {b b' : Buffers} {answer : List ℕ} (r : Checked) → (check_of i b ≡ ended_of r b') × (r ≡ checked_of (check_of i b)) → answer ≡ numbers_of r → Tells i b b' answer
tells {b' = b'} r (e, _) q = record {
  numbers = q ∙ numbers-are r b' ∙ ap told (sym e);
  after = after_is r b' ∙ ap (λ x. x.after) (sym e);
}
