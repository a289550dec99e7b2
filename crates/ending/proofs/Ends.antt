-- The two ways to an answer: a cause of refusal found before the walk, or the walk and what is left after it. By cases. Assumes nothing.
use Rattle.std.specs.Prelude.{ℕ, ◌≡◌, refl, List, length, replicate, Err}
use Rattle.std.proofs.Common.{sym, ap, ◌∙◌, subst}
use Rattle.std.proofs.Math.Option.{none}
use Rattle.tok.specs.Step.{Result, ok, refused, Refusal}
use Rattle.refusals.specs.Inputs.{Inputs, Buffers}
use Rattle.refusals.specs.Refusals.{refusal_of}
use Rattle.refuse.specs.declared.Cause.{Cause}
use Rattle.refuse.specs.declared.Cause.TheVariants.{Scratch, Library, Image, Claims, Depth, Room}
use Rattle.refuse.specs.Answer.{refusal_in, buffers_of}
use Rattle.rules.specs.World.{World}
use Rattle.rules.specs.Steps.{Done}
use Rattle.rules.specs.Walk.{walk_of}
use Rattle.rules.specs.Check.{zeros, zeroed, end_of, unless_refused, check_of}
use Rattle.state.specs.World.{no_more}
use Rattle.visit.specs.Whole.{lent}
use Rattle.ending.specs.Ended.{Checked, RootsAnswered, ended_of, checked_of, EndsAs, before_of, over_of, WalkEnds}

-- ── Before the walk ──

-- a cause that was found is the answer, and every buffer is as it was
pub refused-before : (i : Inputs) (b : Buffers) (cause : Cause) → refusal_in (Err cause) ≡ refusal_of i b
    → (check_of i b ≡ ended_of (Err (before_of cause)) b) × (Err (before_of cause) ≡ checked_of (check_of i b))
unfolding check_of unless_refused before_of
refused-before i b Scratch h = rw (← h) (refl, refl)
refused-before i b (Library p) h = rw (← h) (refl, refl)
refused-before i b (Image p) h = rw (← h) (refl, refl)
refused-before i b (Claims p) h = rw (← h) (refl, refl)
refused-before i b (Depth p) h = rw (← h) (refl, refl)
refused-before i b Room h = rw (← h) (refl, refl)

-- ── After it ──

zeros_as_long : (l l' : List ℕ) → length l ≡ length l' → zeros l ≡ zeros l'
zeros_as_long l l' p = ap (λ n. replicate n 0) p

-- of the buffers before it, an end takes only the lengths
end_as_long : (s f t d m e s' f' t' d' m' e' : List ℕ) → length s ≡ length s' → length f ≡ length f' → length t ≡ length t'
    → length d ≡ length d' → length m ≡ length m' → length e ≡ length e'
    → (x : Result World Refusal Done) → end_of (buffers_of s f t d m e) x ≡ end_of (buffers_of s' f' t' d' m' e') x
unfolding end_of zeroed
end_as_long s f t d m e s' f' t' d' m' e' p₁ p₂ p₃ p₄ p₅ p₆ (ok a w) = rw p₆
end_as_long s f t d m e s' f' t' d' m' e' p₁ p₂ p₃ p₄ p₅ p₆ (refused r) = rw (p₁, p₂, p₃, p₄, p₅, p₆)

accepted-is : (i : Inputs) (b : Buffers) → refusal_of i b ≡ none → check_of i b ≡ end_of b (walk_of i b)
unfolding check_of unless_refused
accepted-is i b h = rw h

module _ {i : Inputs} {s f t d m e s' f' t' d' m' e' : List ℕ} {v : RootsAnswered} (w : WalkEnds i (buffers_of s f t d m e) (lent s' f' t' d' m' e' no_more) v) where
  pub accepted-ends : {after : Buffers} {r : Checked} → refusal_of i (buffers_of s f t d m e) ≡ none
      → length s' ≡ length s → length f' ≡ length f → length t' ≡ length t → length d' ≡ length d → length m' ≡ length m → length e' ≡ length e
      → EndsAs (end_of (buffers_of s' f' t' d' m' e') (over_of i.library (lent s' f' t' d' m' e' no_more) v)) after r → EndsAs (check_of i (buffers_of s f t d m e)) after r
  accepted-ends {after} {r} h p₁ p₂ p₃ p₄ p₅ p₆ q = subst (λ x. EndsAs x after r) (sym (
      accepted-is i (buffers_of s f t d m e) h ∙ ap (end_of (buffers_of s f t d m e)) w.step
      ∙ sym (end_as_long s' f' t' d' m' e' s f t d m e p₁ p₂ p₃ p₄ p₅ p₆ (over_of i.library (lent s' f' t' d' m' e' no_more) v)))) q
