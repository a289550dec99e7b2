-- Types asked of by marks: one law for each way out of the code; and what the answer means where the marks are right. Assumes nothing.
use Prim.Native.Nat.{ℕ, suc, ◌+◌, ◌≤◌, ◌<◌}
use mathlib.Core.Path.{◌≡◌, refl, sym, ap, subst, ◌∙◌}
use mathlib.Core.Bool.{Bool, true, false, cond, ◌&&◌}
use mathlib.Core.List.{List, [], ◌∷◌}
use native.Mathlib.Numerals.{add-one}
use lib.Dec.{leb}
use lib.ListN.{length, get_or, drop, replicate, drop_of_length-le}
use lib.Seq.{drop-cons}
use Rattle.tok.specs.Text.{Texts}
use Rattle.ptype.specs.Ty.{depth_of}
use Rattle.ptype.specs.Words.{ty_of}
use Rattle.ptype.specs.Marks.{Depths}
use Rattle.ptype.proofs.MarkLaws.{no-marks}
use Rattle.ptype.specs.Gauge.{Gauged, gauged, gauge, Right}
use Rattle.ptype.proofs.GaugeLaws.{type-right}
use Rattle.add.specs.Parts.{shallow}
use Rattle.add.specs.Pool.{is_type, pool_types, all_shallow}
use Rattle.add.specs.ShallowBy.{ShallowFound, shallow_found, shallow_by, if_shallow, all_shallow_by, RightAnswer}

-- ── As the code has it ──

module _ (types : List ℕ) where
  pub one-asked : (w : ℕ) (known : List ℕ) {d : ℕ} {known' : List ℕ} → gauge types 33 w known ≡ gauged d known' → shallow_by types w known ≡ shallow_found (leb d 32) known'
  unfolding shallow_by
  one-asked w known e = ap (λ m. shallow_found (leb m.depth 32) m.known) e

  -- no type
  pub word-other : (w : ℕ) (known : List ℕ) {y : Bool} → y ≡ is_type w → y ≡ false → all_shallow_by types (w ∷ []) known ≡ shallow_found true known
  unfolding all_shallow_by
  word-other w known hy e = rw (← hy, e) refl

  last : (a : ShallowFound) → if_shallow a (all_shallow_by types []) ≡ a
  unfolding all_shallow_by
  last a = by a.answer a.known
    where
      by : (b : Bool) (known : List ℕ) → if_shallow (shallow_found b known) (all_shallow_by types []) ≡ shallow_found b known
      by true known = refl
      by false known = refl

  pub word-asked : (w : ℕ) (known : List ℕ) {y q : Bool} {known' : List ℕ} → y ≡ is_type w → y ≡ true → shallow_by types w known ≡ shallow_found q known'
      → all_shallow_by types (w ∷ []) known ≡ shallow_found q known'
  unfolding all_shallow_by
  word-asked w known hy e h = rw (← hy, e) (last (shallow_by types w known) ∙ h)

  -- one word, and then the others
  first_then : (w : ℕ) (ws known : List ℕ) {a : ShallowFound} → all_shallow_by types (w ∷ []) known ≡ a → all_shallow_by types (w ∷ ws) known ≡ if_shallow a (all_shallow_by types ws)
  unfolding all_shallow_by
  first_then w ws known {a} = by (is_type w)
    where
      by : (y : Bool) → cond y (if_shallow (shallow_by types w known) (all_shallow_by types [])) (all_shallow_by types [] known) ≡ a
          → cond y (if_shallow (shallow_by types w known) (all_shallow_by types ws)) (all_shallow_by types ws known) ≡ if_shallow a (all_shallow_by types ws)
      by true e = ap (λ x. if_shallow x (all_shallow_by types ws)) (sym (last (shallow_by types w known)) ∙ e)
      by false e = ap (λ x. if_shallow x (all_shallow_by types ws)) e

  module _ (pool : List ℕ) (i : ℕ) (known : List ℕ) where
    pub turn_end : length pool ≤ i → all_shallow_by types (drop i pool) known ≡ shallow_found true known
    unfolding all_shallow_by
    turn_end h = rw (drop_of_length-le pool h) refl

    module _ {q : Bool} {known' : List ℕ} (h : i < length pool) (e : all_shallow_by types (get_or pool i 0 ∷ []) known ≡ shallow_found q known') where
      turn_is : all_shallow_by types (drop i pool) known ≡ if_shallow (shallow_found q known') (all_shallow_by types (drop (i + 1) pool))
      turn_is = rw (drop-cons pool i 0 h, add-one) (first_then (get_or pool i 0) (drop (suc i) pool) known e)

      pub turn-next : q ≡ true → all_shallow_by types (drop i pool) known ≡ all_shallow_by types (drop (i + 1) pool) known'
      turn-next y = turn_is ∙ ap (λ b. if_shallow (shallow_found b known') (all_shallow_by types (drop (i + 1) pool))) y

      pub turn-stop : q ≡ false → all_shallow_by types (drop i pool) known ≡ shallow_found false known'
      turn-stop n = turn_is ∙ ap (λ b. if_shallow (shallow_found b known') (all_shallow_by types (drop (i + 1) pool))) n

-- ── Where the marks are right ──

module _ (types : List ℕ) where
  pub one_sure : (w : ℕ) (known : List ℕ) {a : ShallowFound} → shallow_by types w known ≡ a → RightAnswer types known (λ t. shallow t types w) a
  unfolding shallow_by
  one_sure w known e = subst (RightAnswer types known (λ t. shallow t types w)) e is
    where
      m : Gauged
      m = gauge types 33 w known

      r : Right types known (λ t. depth_of (ty_of t types w)) m
      r = type-right types w known refl

      is : RightAnswer types known (λ t. shallow t types w) (shallow_by types w known)
      is = record { answer = λ d t. ap (λ n. leb n 32) (r.depth d t); marks = r.marks }

  both : {known : List ℕ} {s g : Texts → Bool} (go : List ℕ → ShallowFound) (b : Bool) (k : List ℕ) → RightAnswer types known s (shallow_found b k) → RightAnswer types k g (go k)
      → RightAnswer types known (λ t. s t && g t) (if_shallow (shallow_found b k) go)
  both go true k h r = record { answer = λ d t. rw (← h.answer d t) (r.answer (h.marks d) t); marks = λ d. r.marks (h.marks d) }
  both go false k h r = record { answer = λ d t. rw (← h.answer d t) refl; marks = h.marks }

  all_sure : (words known : List ℕ) → RightAnswer types known (λ t. all_shallow t types (pool_types words)) (all_shallow_by types words known)
  unfolding all_shallow_by all_shallow pool_types
  all_sure [] known = record { answer = λ d t. refl; marks = λ d. d }
  all_sure (w ∷ ws) known = by (is_type w) (all_sure ws)
    where
      by : (y : Bool) → ((k : List ℕ) → RightAnswer types k (λ t. all_shallow t types (pool_types ws)) (all_shallow_by types ws k))
          → RightAnswer types known (λ t. all_shallow t types (cond y (w ∷ pool_types ws) (pool_types ws)))
          (cond y (if_shallow (shallow_by types w known) (all_shallow_by types ws)) (all_shallow_by types ws known))
      by true h = both (all_shallow_by types ws) (shallow_by types w known).answer (shallow_by types w known).known (one_sure w known refl) (h (shallow_by types w known).known)
      by false h = h known

  -- no marks at first
  pub all-fresh : (words : List ℕ) (n : ℕ) {r : Bool} {known' : List ℕ} → all_shallow_by types words (replicate n 0) ≡ shallow_found r known'
      → ((t : Texts) → r ≡ all_shallow t types (pool_types words)) × Depths types known'
  all-fresh words n e =
      let s = subst (RightAnswer types (replicate n 0) (λ t. all_shallow t types (pool_types words))) e (all_sure words (replicate n 0)) in
      (s.answer (no-marks types n), s.marks (no-marks types n))
