-- The greatest depth of a node's parts as the code finds it, one law for each way out. Assumes nothing.
use Prim.Native.Nat.{ℕ, ◌+◌, ◌*◌, ◌-◌, ◌^◌, ◌≤◌, ◌<◌, max}
use mathlib.Core.Path.{◌≡◌, refl, sym, ap, ◌∙◌}
use mathlib.Core.List.{List, [], ◌∷◌, ◌++◌}
use native.Mathlib.Omega.{arith}
use native.Mathlib.Nat.{zero-max, max-zero}
use lib.ListN.{length, get_or}
use Rattle.ast.specs.Image.{word_at}
use Rattle.ast.specs.Depth.{deepest}
use Rattle.image_laws.specs.OutlineAt.{parts_from, case_parts}
use Rattle.node_parts.specs.Lists.{parts_next, parts_none, cases_next, cases_none, CasePlace, CasesLeft, cases-first, cases_step}

max_assoc : (a b c : ℕ) → max (max a b) c ≡ max a (max b c)
max_assoc a b c = omega arith

deepest-append : (depths xs ys : List ℕ) → deepest depths (xs ++ ys) ≡ max (deepest depths xs) (deepest depths ys)
unfolding deepest
deepest-append depths [] ys = sym (zero-max (deepest depths ys))
deepest-append depths (x ∷ xs) ys = ap (max (get_or depths x 0)) (deepest-append depths xs ys) ∙ sym (max_assoc (get_or depths x 0) (deepest depths xs) (deepest depths ys))

deepest-none : (depths : List ℕ) → deepest depths [] ≡ 0
unfolding deepest
deepest-none depths = refl

deepest-next : (depths : List ℕ) (x : ℕ) (xs : List ℕ) → deepest depths (x ∷ xs) ≡ max (get_or depths x 0) (deepest depths xs)
unfolding deepest
deepest-next depths x xs = refl

-- ── The numbers in a run of words ──

-- `left` numbers are left, the next in word i; d is the greatest depth of those before
pub record ToMeasure (words depths : List ℕ) (step from count i left d : ℕ) : Type 0 where
  pub place : i + 2 * left ≤ from + 2 * count
  pub rest : deepest depths (parts_from words step from count) ≡ max d (deepest depths (parts_from words step i left))

pub to-measure : {words depths : List ℕ} {step from count : ℕ} → ToMeasure words depths step from count from count 0
to-measure {words} {depths} {step} {from} {count} = record { place = omega arith; rest = sym (zero-max (deepest depths (parts_from words step from count))) }

module _ {words depths : List ℕ} {step from count i left d : ℕ} (h : ToMeasure words depths step from count i left d) where
  pub run_more : {w e d' later : ℕ} → 0 < left → left ≡ later + 1 → step ≤ 2 → w ≡ word_at words i → e ≡ get_or depths w 0 → d' ≡ max d e → ToMeasure words depths step from count (i + step) later d'
  run_more {w} {e} {d'} {later} l el s ew ee ed =
      let one : later ≡ left - 1 = omega arith in
      let others : List ℕ = parts_from words step (i + step) (left - 1) in
      rw one record {
        place = let p = h.place in omega arith;
        rest = h.rest
            ∙ ap (λ xs. max d (deepest depths xs)) (parts_next words step i left l)
            ∙ ap (max d) (deepest-next depths (word_at words i) others)
            ∙ sym (max_assoc d (get_or depths (word_at words i) 0) (deepest depths others))
            ∙ ap (λ v. max v (deepest depths others)) (ap (max d) (sym (ee ∙ ap (λ x. get_or depths x 0) ew)) ∙ sym ed);
      }

  pub run_end : left ≤ 0 → d ≡ deepest depths (parts_from words step from count)
  run_end l = sym (h.rest ∙ ap (λ xs. max d (deepest depths xs)) (parts_none words step i left l) ∙ ap (max d) (deepest-none depths) ∙ max-zero d)

-- ── The cases of a Match ──

pub record CasesToMeasure (words depths : List ℕ) (end from count at k d : ℕ) : Type 0 where
  pub left : CasesLeft words count at k
  pub rest : deepest depths (case_parts words end from count) ≡ max d (deepest depths (case_parts words end at k))

pub cases-to-measure : {words depths : List ℕ} {end from count : ℕ} → from ≤ length words + 3 → CasesToMeasure words depths end from count from count 0
cases-to-measure {words} {depths} {end} {from} {count} h = record { left = cases-first words count from h; rest = sym (zero-max (deepest depths (case_parts words end from count))) }

pub cases-placed : {words depths : List ℕ} {end from count at k d : ℕ} → CasesToMeasure words depths end from count at k d
    → CasePlace words count at k × CasesToMeasure words depths end from count at k d
cases-placed h = (h.left.place, h)

module _ {words depths : List ℕ} {end from count at k d : ℕ} (h : CasesToMeasure words depths end from count at k d) where
  case-rest : (0 < k) → deepest depths (case_parts words end at k)
      ≡ max (get_or depths (word_at words (at + 1)) 0)
      (max (deepest depths (parts_from words 1 (at + 3) (word_at words (at + 2)))) (deepest depths (case_parts words end (at + 3 + word_at words (at + 2)) (k - 1))))
  case-rest l =
      ap (deepest depths) (cases_next words end at k l)
      ∙ deepest-next depths _ _
      ∙ ap (max (get_or depths (word_at words (at + 1)) 0)) (deepest-append depths _ _)

  pub case-more : {c e d₁ n b d₂ later : ℕ} → 0 < k → k ≡ later + 1 → c ≡ word_at words (at + 1) → e ≡ get_or depths c 0 → d₁ ≡ max d e → n ≡ word_at words (at + 2) → n < 2 ^ 32
      → b ≡ deepest depths (parts_from words 1 (at + 3) n) → d₂ ≡ max d₁ b → CasesToMeasure words depths end from count (at + 3 + n) later d₂
  case-more {c} {e} {d₁} {n} {b} {d₂} {later} l el ec ee e₁ en s eb e₂ =
      let one : later ≡ k - 1 = omega arith in
      rw one record {
        left = cases_step h.left l en s;
        rest = rw (e₂, e₁, eb, ee, ec, en) (h.rest ∙ ap (max d) (case-rest l) ∙ regroup d (get_or depths (word_at words (at + 1)) 0) _ _);
      }
    where
      regroup : (a b c d : ℕ) → max a (max b (max c d)) ≡ max (max (max a b) c) d
      regroup a b c d = omega arith

  pub default_end : {n b r : ℕ} → k ≤ 0 → n ≡ end - (at + 1) → b ≡ deepest depths (parts_from words 1 (at + 1) n) → r ≡ max d b → r ≡ deepest depths (case_parts words end from count)
  default_end {n} {b} {r} l en eb er =
      er ∙ ap (max d) (eb ∙ ap (λ m. deepest depths (parts_from words 1 (at + 1) m)) en) ∙ sym (h.rest ∙ ap (λ xs. max d (deepest depths xs)) (cases_none words end at k l))
