-- What is left in the buffers where the walk has ended. By cases. Assumes nothing.
use Rattle.std.specs.Prelude.{ℕ, ◌≤◌, ◌≡◌, refl, List, length, Ok, Err}
use borrow.Author.Tests.{ne_eqb}
use Rattle.refusals.specs.Inputs.{Buffers}
use Rattle.refuse.specs.Answer.{buffers_of}
use Rattle.rules.specs.declared.Answer.{Answer}
use Rattle.rules.specs.Check.{Ended, zeros, zeroed, end_of}
use Rattle.state.specs.Signatures.{entries_end}
use Rattle.state.specs.World.{no_more}
use Rattle.visit.specs.declared.State.{State}
use Rattle.visit.specs.Whole.{lent, visited}
use Rattle.ending.specs.declared.AnswerCounts.{AnswerCounts}
use Rattle.ending.specs.declared.Refused.{Refused}
use Rattle.ending.specs.Ended.{RootsAnswered, EndsAs, counts_of, over_of, EndsWell}

-- the entries lie in the functions buffer, by the answer
pub entries-inside : (f : List ℕ) {v : RootsAnswered} {a : Answer} {st : State} → EndsWell f v → v ≡ Ok (a, st) → entries_end f 0 0 st.functions ≤ length f
unfolding EndsWell
entries-inside f h p = rw p at h

module _ (words s f t d m e : List ℕ) where
  abbrev finished : RootsAnswered → Ended
  finished v = end_of (buffers_of s f t d m e) (over_of words (lent s f t d m e no_more) v)

  pub finish-answered : {v : RootsAnswered} {a : Answer} {st : State} {c : AnswerCounts} {e' : List ℕ} → v ≡ Ok (a, st) → c ≡ counts_of f st → e' ≡ zeros e
      → EndsAs (finished v) (buffers_of s f t d m e') (Ok c)
  unfolding end_of visited
  finish-answered p q z = rw (p, q, z) (record { means = refl; only = refl })

  pub finish-refused : {v : RootsAnswered} {r : Refused} {b' : Buffers} → EndsWell f v → v ≡ Err r → b' ≡ zeroed (buffers_of s f t d m e) → EndsAs (finished v) b' (Err r)
  unfolding end_of EndsWell
  finish-refused {r = r} h p z =
      let k : r.number ≡ 0 → ⊥ = rw p at h in
      rw (p, z) (record { means = refl; only = rw (ne_eqb r.number 0 k) refl })
