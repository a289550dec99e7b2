-- The rules of Match and Extern, whose lists hold lists, by place. Assumes nothing.
use Prim.Native.Nat.{ℕ, zero, suc, ◌+◌, ◌*◌, ◌-◌, ◌≤◌}
use Rattle.std.specs.Prelude.{true, ◌≡◌, List, []}
use Rattle.std.proofs.Math.Bool.{and-eq-true_iff}
use native.Mathlib.Omega.{arith}
use Rattle.std.proofs.Math.Dec.{leb}
use borrow.Author.Tests.{leb-true, eqb-true}
use Rattle.reader.specs.Reading.{standing}
use Rattle.reader.specs.Reads.{Within, Reads, reads, reads_then, reads_to, reads-show, reads-next}
use Rattle.ast.specs.Image.{word_at, record_length}
use Rattle.ast.specs.Outline.{Outline, Counts, Here, typed_name}
use Rattle.ast.specs.NodeRecords.{cases, match, good_extern_count, extern_functions, good_function_count, extern}
use Rattle.image_laws.specs.OutlineAt.{case_parts, match_parts}
use Rattle.image_laws.specs.RecordWords.{CasesWords, default_words, case_words, MatchWords, FunctionsWords, no_functions, function_words, ExternWords}
use Rattle.image_laws.proofs.RecordLaws.{named-at, named, under, parts-give, pairs-give, here_at, Rest}

-- ── Match ──

module _ (h : Here) (image : List ℕ) (end : ℕ) where
  cases-give : (k left at least : ℕ) → at + left ≡ end → 3 * k + 1 ≤ left → Within image at
      → Reads image (case_parts image end at k) end (CasesWords h.counts image h.number end at k) (cases h k left (standing image at least))
  unfolding cases case_parts
  cases-give zero left at least e room w =
      let p : left - 1 ≡ end - (at + 1) = omega arith in
      reads_then _ (named-at h.counts.text image at least)
      λ l₁ w₁ t. rw p
      (reads_to end (λ _. omega arith)
      (reads-show (λ _ b. default_words t (omega arith) b) (parts-give h.number image (end - (at + 1)) (at + 1) l₁ w₁)))
  cases-give (suc k) left at least e room w =
      let b : ℕ = word_at image (at + 2) in
      reads_then _ (named-at h.counts.text image at least)
      λ l₁ w₁ t. reads_then _ (under h.number image at 1 l₁)
      λ l₂ w₂ q. reads_then _ (reads-next (λ m. leb (m + 3 * k + 1) (left - 3)) _ image at 2 l₂)
      λ l₃ w₃ g. reads_then _ (parts-give h.number image b (at + 3) l₃ w₃)
      λ l₄ w₄ body.
      (let fits : b + 3 * k + 1 ≤ left - 3 = leb-true _ _ g in
      reads_then _ (cases-give k (left - 3 - b) (at + 3 + b) l₄ (omega arith) (omega arith) w₄)
      λ l₅ w₅ others. reads l₅ w₅ (case_words t q body others))

module _ (c : Counts) (before : List Outline) (image : List ℕ) (n at : ℕ) where
  pub match-gives : 4 ≤ record_length image at → Rest c before image n at match 0 (match_parts image at) (MatchWords c image n at)
  unfolding match
  match-gives long least =
      let k : ℕ = word_at image (at + 2) in
      reads_then _ (reads-next (λ m. leb (3 * m + 1) (record_length image at - 2 - 1)) _ image at 2 least)
      λ l₁ w₁ g.
      (let fits : 3 * k + 1 ≤ record_length image at - 2 - 1 = leb-true _ _ g in
      reads_then _ (cases-give (here_at c before image n at) image (at + record_length image at) k (record_length image at - 2 - 1) (at + 3) l₁ (omega arith) fits w₁)
      λ l₂ w₂ cs. reads l₂ w₂ (record { long = long; cases = cs }))

-- ── Extern ──

-- k functions fit into `left` words: three words each at least, and none are left over
abbrev Fit : (k left : ℕ) → Type 0
Fit zero left = left ≡ 0
Fit (suc k) left = 3 * suc k ≤ left

extern-fit : (others left k : ℕ) → good_extern_count others left k ≡ true → (2 * k ≤ left) × Fit others (left - 2 * k)
unfolding good_extern_count
extern-fit zero left k e = let p : 2 * k ≡ left = eqb-true _ _ e in (omega arith, omega arith)
extern-fit (suc others) left k e = let p : 2 * k + 3 * suc others ≤ left = leb-true _ _ e in (omega arith, omega arith)

function-fit : (left k : ℕ) → good_function_count left k ≡ true → Fit k left
unfolding good_function_count
function-fit left zero e = eqb-true left 0 ((and-eq-true_iff (leb (3 * 0) left) _).0 e).1
function-fit left (suc k) e = leb-true _ _ ((and-eq-true_iff (leb (3 * suc k) left) _).0 e).0

fit-first : (k left : ℕ) → Fit (suc k) left → 3 ≤ left
fit-first k left f = omega arith

module _ (h : Here) (image : List ℕ) (end : ℕ) where
  functions-give : (k left at least : ℕ) → at + left ≡ end → Fit k left → Within image at
      → Reads image tt end (FunctionsWords h.counts image end at k) (extern_functions h k left (standing image at least))
  unfolding extern_functions typed_name
  functions-give zero left at least e fit w =
      reads_to end (λ _. omega arith) (reads least w (no_functions (omega arith)))
  functions-give (suc k) left at least e fit w =
      let a : ℕ = word_at image (at + 2) in
      let c : Counts = h.counts in
      reads_then _ (named-at c.text image at least)
      λ l₁ w₁ m. reads_then _ (under c.types image at 1 l₁)
      λ l₂ w₂ y. reads_then _ (reads-next (good_extern_count k (left - 3)) _ image at 2 l₂)
      λ l₃ w₃ g. reads_then _ (pairs-give c.text c.types image a (at + 3) l₃ w₃)
      λ l₄ w₄ args.
      (let fits = extern-fit k (left - 3) a g in
      let first : 3 ≤ left = fit-first k left fit in
      reads-show (λ _ others. function_words m y args others) (functions-give k (left - 3 - 2 * a) (at + 3 + 2 * a) l₄ (omega arith) fits.1 w₄))

module _ (c : Counts) (before : List Outline) (image : List ℕ) (n at : ℕ) where
  pub extern-gives : 5 ≤ record_length image at → Rest c before image n at extern 0 [] (ExternWords c image n at)
  unfolding extern
  extern-gives long least =
      let k : ℕ = word_at image (at + 4) in
      reads_then _ (named c.text image at 2 least)
      λ l₁ w₁ t. reads_then _ (named c.text image at 3 l₁)
      λ l₂ w₂ m. reads_then _ (reads-next (good_function_count (record_length image at - 2 - 3)) _ image at 4 l₂)
      λ l₃ w₃ g. reads_then _
      (functions-give (here_at c before image n at) image (at + record_length image at) k (record_length image at - 2 - 3) (at + 5) l₃ (omega arith) (function-fit _ _ g) w₃)
      λ l₄ w₄ fs. reads l₄ w₄ (record { long = long; token = t; name = m; functions = fs })
