-- Marking as the code does it, one law for each way out. Assumes nothing.
use Prim.Native.Nat.{ℕ, zero, suc, ◌+◌, ◌*◌, ◌-◌, ◌^◌, ◌≤◌, ◌<◌}
use mathlib.Core.Bool.{Bool, true, false, ◌||◌, true≢false, or_assoc}
use mathlib.Core.Path.{◌≡◌, refl, sym, ap, ◌∙◌}
use mathlib.Core.List.{List, [], ◌∷◌, ◌++◌}
use native.Mathlib.Nat.{not-suc-le-zero}
use native.Mathlib.Omega.{arith}
use lib.ListN.{length, get_or, set, length-set, get_or-eq_default}
use lib.Seq.{set_out}
use Rattle.ast.specs.Image.{word_at}
use Rattle.ast.specs.Claims.{count_from}
use Rattle.image_laws.specs.OutlineAt.{parts_from, case_parts}
use Rattle.node_parts.specs.Lists.{parts_next, parts_none, cases_next, cases_none, CasePlace, CasesLeft, cases-first, cases_step}
use Rattle.claims.specs.Marks.{mark_all, marked, Marking}

-- ── One list after another ──

marked_append : (m : List Bool) (xs ys : List ℕ) → marked m (xs ++ ys) ≡ (marked m xs || marked (mark_all m xs) ys)
unfolding marked mark_all
marked_append m [] ys = refl
marked_append m (x ∷ xs) ys = rw (marked_append (set m x true) xs ys) (sym (or_assoc (get_or m x false) (marked (set m x true) xs) (marked (mark_all (set m x true) xs) ys)))

mark_all-append : (m : List Bool) (xs ys : List ℕ) → mark_all m (xs ++ ys) ≡ mark_all (mark_all m xs) ys
unfolding mark_all
mark_all-append m [] ys = refl
mark_all-append m (x ∷ xs) ys = mark_all-append (set m x true) xs ys

module _ {m : List Bool} {xs : List ℕ} {a : List Bool} {b : Bool} (h : Marking m xs a b) where
  -- a number that is marked already ends all
  pub stop : (ys : List ℕ) → b ≡ true → Marking m (xs ++ ys) a true
  stop ys t =
      record {
        found = sym (marked_append m xs ys ∙ rw (sym h.found ∙ t) refl);
        kept = λ e. absurd (true≢false e);
        long = h.long;
      }

  pub more : {ys : List ℕ} {after : List Bool} {r : Bool} → b ≡ false → Marking a ys after r → Marking m (xs ++ ys) after r
  more {ys} f k =
      record {
        found = k.found ∙ ap (λ l. marked l ys) (h.kept f) ∙ sym (marked_append m xs ys ∙ rw (sym h.found ∙ f) refl);
        kept = λ e. k.kept e ∙ ap (λ l. mark_all l ys) (h.kept f) ∙ sym (mark_all-append m xs ys);
        long = k.long ∙ h.long;
      }

pub no_number : (m : List Bool) → Marking m [] m false
unfolding marked mark_all
no_number m = record { found = refl; kept = λ _. refl; long = refl }

-- ── One number ──

module _ (m : List Bool) (x : ℕ) where
  one-by : (b : Bool) → get_or m x false ≡ b → marked m (x ∷ []) ≡ b
  unfolding marked
  one-by true e = rw e refl
  one-by false e = rw e refl

  pub past : length m ≤ x → Marking m (x ∷ []) m false
  unfolding mark_all
  past h =
      record {
        found = sym (one-by false (get_or-eq_default m false h));
        kept = λ _. sym (set_out m x true h);
        long = refl;
      }

  pub again : get_or m x false ≡ true → Marking m (x ∷ []) m true
  again e = record { found = sym (one-by true e); kept = λ e. absurd (true≢false e); long = refl }

  pub first : get_or m x false ≡ false → Marking m (x ∷ []) (set m x true) false
  unfolding mark_all
  first e = record { found = sym (one-by false e); kept = λ _. refl; long = length-set m x true }

-- ── The numbers in a run of words ──

-- `left` numbers are left, the next in word i
pub record ToMark (words : List ℕ) (step from count : ℕ) (before marks : List Bool) (i left : ℕ) : Type 0 where
  pub long : length marks ≡ length before
  pub place : i + 2 * left ≤ from + 2 * count
  pub rest : (after : List Bool) (r : Bool) → Marking marks (parts_from words step i left) after r → Marking before (parts_from words step from count) after r

pub to_mark : {words : List ℕ} {step from count : ℕ} {marks : List Bool} → ToMark words step from count marks marks from count
to_mark = record { long = refl; place = omega arith; rest = λ after r m. m }

module _ {words : List ℕ} {step from count : ℕ} {before marks : List Bool} {i left : ℕ} (h : ToMark words step from count before marks i left) where
  module _ {w : ℕ} {marks' : List Bool} {b : Bool} (l : 0 < left) (e : w ≡ word_at words i) (m : Marking marks (w ∷ []) marks' b) where
    pub run-stop : b ≡ true → Marking before (parts_from words step from count) marks' true
    run-stop t = h.rest marks' true (rw (parts_next words step i left l, ← e) (stop m _ t))

    pub run_more : {later : ℕ} → left ≡ later + 1 → step ≤ 2 → b ≡ false → ToMark words step from count before marks' (i + step) later
    run_more {later} e₁ s f =
        let one : later ≡ left - 1 = omega arith in
        rw one record {
          long = m.long ∙ h.long;
          place = let p = h.place in omega arith;
          rest = λ after r k. h.rest after r (rw (parts_next words step i left l, ← e) (more m f k));
        }

  pub run_end : left ≤ 0 → Marking before (parts_from words step from count) marks false
  run_end l = h.rest marks false (rw (parts_none words step i left l) (no_number marks))

-- ── Numbers one after the other ──

count_next : (x left : ℕ) → 0 < left → count_from x left ≡ x ∷ count_from (x + 1) (left - 1)
unfolding count_from
count_next x zero l = absurd (not-suc-le-zero l)
count_next x (suc k) l = let e : suc k - 1 ≡ k = omega arith in rw e refl

count_none : (x left : ℕ) → left ≤ 0 → count_from x left ≡ []
unfolding count_from
count_none x zero l = refl
count_none x (suc k) l = absurd (not-suc-le-zero l)

pub record CountToMark (from count : ℕ) (before marks : List Bool) (x left : ℕ) : Type 0 where
  pub long : length marks ≡ length before
  pub place : x + left ≤ from + count
  pub rest : (after : List Bool) (r : Bool) → Marking marks (count_from x left) after r → Marking before (count_from from count) after r

pub count-to_mark : {from count : ℕ} {marks : List Bool} → CountToMark from count marks marks from count
count-to_mark = record { long = refl; place = omega arith; rest = λ after r m. m }

module _ {from count : ℕ} {before marks : List Bool} {x left : ℕ} (h : CountToMark from count before marks x left) where
  module _ {marks' : List Bool} {b : Bool} (l : 0 < left) (m : Marking marks (x ∷ []) marks' b) where
    pub count-stop : b ≡ true → Marking before (count_from from count) marks' true
    count-stop t = h.rest marks' true (rw (count_next x left l) (stop m _ t))

    pub count-more : {later : ℕ} → left ≡ later + 1 → b ≡ false → CountToMark from count before marks' (x + 1) later
    count-more {later} e f =
        let one : later ≡ left - 1 = omega arith in
        rw one record {
          long = m.long ∙ h.long;
          place = let p = h.place in omega arith;
          rest = λ after r k. h.rest after r (rw (count_next x left l) (more m f k));
        }

  pub count-end : left ≤ 0 → Marking before (count_from from count) marks false
  count-end l = h.rest marks false (rw (count_none x left l) (no_number marks))

-- ── The cases of a Match ──

-- k cases are left, the next at word `at`
pub record CasesToMark (words : List ℕ) (end from count : ℕ) (before marks : List Bool) (at k : ℕ) : Type 0 where
  pub long : length marks ≡ length before
  pub left : CasesLeft words count at k
  pub rest : (after : List Bool) (r : Bool) → Marking marks (case_parts words end at k) after r → Marking before (case_parts words end from count) after r

pub cases-to_mark : {words : List ℕ} {end from count : ℕ} {marks : List Bool} → from ≤ length words + 3 → CasesToMark words end from count marks marks from count
cases-to_mark h = record { long = refl; left = cases-first _ _ _ h; rest = λ after r m. m }

pub cases-placed : {words : List ℕ} {end from count : ℕ} {before marks : List Bool} {at k : ℕ} → CasesToMark words end from count before marks at k
    → CasePlace words count at k × CasesToMark words end from count before marks at k
cases-placed h = (h.left.place, h)

module _ {words : List ℕ} {end from count : ℕ} {before marks : List Bool} {at k : ℕ} (h : CasesToMark words end from count before marks at k) where
  module _ {c : ℕ} {marks₁ : List Bool} {b₁ : Bool} (l : 0 < k) (ec : c ≡ word_at words (at + 1)) (m₁ : Marking marks (c ∷ []) marks₁ b₁) where
    pub condition-stop : b₁ ≡ true → Marking before (case_parts words end from count) marks₁ true
    condition-stop t = h.rest marks₁ true (rw (cases_next words end at k l, ← ec) (stop m₁ _ t))

    module _ {n : ℕ} {marks₂ : List Bool} {b₂ : Bool} (f₁ : b₁ ≡ false) (en : n ≡ word_at words (at + 2)) (m₂ : Marking marks₁ (parts_from words 1 (at + 3) n) marks₂ b₂) where
      pub body-stop : b₂ ≡ true → Marking before (case_parts words end from count) marks₂ true
      body-stop t = h.rest marks₂ true (rw (cases_next words end at k l, ← ec, ← en) (more m₁ f₁ (stop m₂ _ t)))

      pub case-more : {later : ℕ} → k ≡ later + 1 → n < 2 ^ 32 → b₂ ≡ false → CasesToMark words end from count before marks₂ (at + 3 + n) later
      case-more {later} e s f₂ =
          let one : later ≡ k - 1 = omega arith in
          rw one record {
            long = m₂.long ∙ m₁.long ∙ h.long;
            left = cases_step h.left l en s;
            rest = λ after r m. h.rest after r (rw (cases_next words end at k l, ← ec, ← en) (more m₁ f₁ (more m₂ f₂ m)));
          }

  pub default_end : {n : ℕ} {after : List Bool} {r : Bool} → k ≤ 0 → n ≡ end - (at + 1) → Marking marks (parts_from words 1 (at + 1) n) after r
      → Marking before (case_parts words end from count) after r
  default_end l e m = h.rest _ _ (rw (cases_none words end at k l, ← e) m)
