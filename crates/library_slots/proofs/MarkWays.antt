-- Marking as the code does it, one law for each way out. Assumes nothing.
use Prim.Native.Nat.{ℕ, zero, suc, ◌+◌, ◌*◌, ◌-◌, ◌≤◌, ◌<◌, min}
use native.Mathlib.Decide.{dec_le}
use mathlib.Core.Path.{◌≡◌, refl, sym, ap, ◌∙◌}
use mathlib.Core.Bool.{Bool, true, false, cond}
use mathlib.Core.List.{List, [], ◌∷◌, ◌++◌}
use native.Mathlib.Omega.{arith}
use lib.ListN.{length, get_or, set, length-set}
use lib.Seq.{set_out}
use Rattle.library.specs.SlotMarks.{mark_fields, mark_inside, mark_all, spread, types_in}
use Rattle.library.specs.SlotReach.{length-mark_inside}

-- The loop over a list's fields: `left` of them are left, the next at index i.
pub record FieldsToMark (before marks : List Bool) (at n i left : ℕ) : Type 0 where
  pub place : i + 2 * left ≡ at + 2 * n
  pub long : length marks ≡ length before
  pub rest : mark_fields before at n ≡ mark_fields marks i left

pub to_mark : {marks : List Bool} {at n i left : ℕ} → i ≡ at → left ≡ n → FieldsToMark marks marks at n i left
to_mark e f = record { place = omega arith; long = refl; rest = rw (e, f) refl }

marked_next : (marks : List Bool) (i n : ℕ) → mark_fields marks i (suc n) ≡ mark_fields (set marks i true) (i + 2) n
unfolding mark_fields
marked_next marks i n = refl

nothing-past : (n : ℕ) (marks : List Bool) (i : ℕ) → length marks ≤ i → mark_fields marks i n ≡ marks
unfolding mark_fields
nothing-past zero marks i l = refl
nothing-past (suc n) marks i l = rw (set_out marks i true l) (nothing-past n marks (i + 2) (omega arith))

module _ {before marks : List Bool} {at n i left : ℕ} (h : FieldsToMark before marks at n i left) where
  pub to_mark_less : {marks' : List Bool} {i' left' : ℕ} → left ≡ suc left' → i' ≡ i + 2 → marks' ≡ set marks i true → FieldsToMark before marks' at n i' left'
  to_mark_less {left' = left'} s f e = record {
    place = omega (arith, h.place);
    long = ap length e ∙ length-set marks i true ∙ h.long;
    rest = h.rest ∙ ap (mark_fields marks i) s ∙ marked_next marks i left' ∙ rw (e, f) refl;
  }

  -- past the end of the marks nothing is set
  marked-past : length marks ≤ i → marks ≡ mark_fields before at n
  marked-past l = sym (h.rest ∙ nothing-past left marks i l)

  all-marked : left ≤ 0 → marks ≡ mark_fields before at n
  unfolding mark_fields
  all-marked l =
      let s : left ≡ 0 = omega arith in
      sym (h.rest ∙ ap (mark_fields marks i) s)

  -- no field is left among the marks
  pub marked-over : min (at + 2 * n) (length marks) ≤ i → marks ≡ mark_fields before at n
  marked-over l = elim (dec_le (length marks) i) [
    | yes p ↦ marked-past p
    | no d ↦ all-marked (omega (arith, h.place))
  ]

-- one step of the spread keeps the number of marks
pub length_from : (types : List ℕ) (marks marks' : List Bool) (i : ℕ)
    → marks' ≡ cond (get_or marks i false) (mark_inside types (get_or types i 0) marks) marks → length marks' ≡ length marks
length_from types marks marks' i e = ap length e ∙ by (get_or marks i false)
  where
    by : (b : Bool) → length (cond b (mark_inside types (get_or types i 0) marks) marks) ≡ length marks
    by true = length-mark_inside types (get_or types i 0) marks
    by false = refl

spread-next : (types : List ℕ) (i : ℕ) (marks : List Bool)
    → spread types (suc i) marks ≡ spread types i (cond (get_or marks i false) (mark_inside types (get_or types i 0) marks) marks)
unfolding spread
spread-next types i marks = refl

pub spread-less : (types : List ℕ) (before marks marks' : List Bool) (n i : ℕ) → spread types n before ≡ spread types i marks → 0 < i
    → marks' ≡ cond (get_or marks (i - 1) false) (mark_inside types (get_or types (i - 1) 0) marks) marks → spread types n before ≡ spread types (i - 1) marks'
spread-less types before marks marks' n i h l e =
    let s : i ≡ suc (i - 1) = omega arith in
    h ∙ ap (λ k. spread types k marks) s ∙ spread-next types (i - 1) marks ∙ ap (spread types (i - 1)) (sym e)

pub spread-done : (types : List ℕ) (before marks : List Bool) (n i : ℕ) → spread types n before ≡ spread types i marks → i ≤ 0 → marks ≡ spread types n before
unfolding spread
spread-done types before marks n i h l =
    let s : i ≡ 0 = omega arith in
    sym (h ∙ ap (λ k. spread types k marks) s)

-- ── Pairs ──

-- a pair comes off, and its second word is its type
pub types-next : (left pair rest : List ℕ) → left ≡ pair ++ rest → length pair ≡ 2 → types_in left ≡ get_or pair 1 0 ∷ types_in rest
unfolding types_in
types-next left [] rest e l = absurd (omega arith)
types-next left (n ∷ []) rest e l = absurd (omega arith)
types-next left (n ∷ t ∷ []) rest e l = rw e refl
types-next left (n ∷ t ∷ x ∷ xs) rest e l = absurd (omega arith)

pub types-end : (left : List ℕ) → length left < 2 → types_in left ≡ []
unfolding types_in
types-end [] l = refl
types-end (n ∷ []) l = refl
types-end (n ∷ t ∷ xs) l = absurd (omega arith)

-- The loop over the pairs: those of `left` are left.
pub record TypesToMark (types : List ℕ) (before marks : List Bool) (pairs left : List ℕ) : Type 0 where
  pub long : length marks ≡ length before
  pub rest : mark_all types (types_in pairs) before ≡ mark_all types (types_in left) marks

module _ {types : List ℕ} {before marks : List Bool} {pairs left : List ℕ} (h : TypesToMark types before marks pairs left) where
  pub types_more : (pair rest : List ℕ) {marks' : List Bool} → left ≡ pair ++ rest → length pair ≡ 2 → marks' ≡ mark_inside types (get_or pair 1 0) marks
      → TypesToMark types before marks' pairs rest
  unfolding mark_all
  types_more pair rest e l f = record {
    long = ap length f ∙ length-mark_inside types _ marks ∙ h.long;
    rest = h.rest ∙ ap (λ ts. mark_all types ts marks) (types-next left pair rest e l) ∙ rw f refl;
  }

  pub types-done : length left < 2 → marks ≡ mark_all types (types_in pairs) before
  unfolding mark_all
  types-done l = sym (h.rest ∙ rw (types-end left l) refl)
