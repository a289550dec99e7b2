-- The text of candidates: of one by where its signature begins, of all turn by turn. Assumes nothing.
use Prim.Native.Nat.{ℕ, ◌+◌, ◌-◌, ◌≤◌, ◌<◌, min}
use mathlib.Core.Path.{◌≡◌, sym}
use mathlib.Core.List.{List, [], ◌++◌, map}
use native.Mathlib.Numerals.{add-one}
use native.Mathlib.Omega.{arith}
use lib.ListN.{length, get_or, take, drop, length-drop, drop_of_length-le}
use lib.Seq.{take_all, drop-cons}
use Rattle.facts.specs.Tests.{by_order}
use Rattle.tok.specs.Text.{Texts, text}
use Rattle.display.specs.Joined.{joined, sig, separated}
use Rattle.display.specs.JoinedLaws.{joined_after, joined-start, joined-turn, joined_end}
use Rattle.display.specs.Signature.{arg_types, args_of}
use Rattle.err_calls.specs.Candidates.{candidate_at, candidates_at}

module _ (t : Texts) (types words : List ℕ) where
  -- ---- one candidate
  -- the rest of the words was lent
  pub candidate_rest :
      (at : ℕ) {i : ℕ} → i ≡ min at (length words) → sig (candidate_at t types words at) ≡ sig (arg_types (args_of t types (take (length words - i) (drop i words))))
  unfolding candidate_at
  candidate_rest at {i} e =
      rw (take_all (length words - i) (drop i words) (simp length-drop (omega arith)))
      (by_order at (length words)
      (λ h. let j : i ≡ at = omega arith in rw j)
      (λ h. rw (drop_of_length-le words {i = at} (omega arith), drop_of_length-le words {i = i} (omega arith))))

  -- ---- the loop: i candidates are written, the others are owed
  abbrev pub owed : (starts : List ℕ) → (i : ℕ) → List ℕ
  owed starts i = joined_after i (text " | ") (map sig (candidates_at t types words (drop i starts)))

  pub candidates-start : (starts : List ℕ) → joined (text " | ") (map sig (candidates_at t types words starts)) ≡ owed starts 0
  candidates-start starts = sym (joined-start _ _)

  pub candidates-turn :
      (starts : List ℕ) {i : ℕ} → i < length starts →
      owed starts i ≡ separated i (text " | ") ++ sig (candidate_at t types words (get_or starts i 0)) ++ owed starts (i + 1)
  candidates-turn starts {i} h =
      let next = sig (candidate_at t types words (get_or starts i 0)) in
      let others = map sig (candidates_at t types words (drop (i + 1) starts)) in
      rw (drop-cons starts i 0 h, add-one) (rw add-one at (joined-turn i (text " | ") next others))

  pub candidates-end : (starts : List ℕ) {i : ℕ} → length starts ≤ i → owed starts i ≡ []
  candidates-end starts {i} h = rw (drop_of_length-le starts {i = i} h) (joined_end i (text " | "))
