-- How loops go through lists in an image: the next number of a run, the next case of a Match, the next node. Assumes nothing.
use Rattle.std.specs.Prelude.{ℕ, zero, suc, ◌+◌, ◌*◌, ◌-◌, ◌^◌, ◌≤◌, ◌<◌, ◌≡◌, refl, List, [], ◌∷◌, ◌++◌, length}
use Rattle.std.proofs.Common.{ap, ◌∙◌, not-suc-le-zero, arith}
use Rattle.std.proofs.Math.Decide.{dec_lt}
use Rattle.std.proofs.Math.Nat.{mul-suc, mul-zero}
use Rattle.std.proofs.Math.ListN.{get_or-eq_default}
use Rattle.ast.specs.Image.{word_at, root_count, record_after, node_place, record_length}
use Rattle.image_laws.specs.OutlineAt.{parts_from, case_parts, outline_at, outlines_from}
use Rattle.image_laws.proofs.Places.{node-next}
use Rattle.node_parts.specs.declared.Run.{Run}
use Rattle.node_parts.specs.Runs.{place_of}

-- ── The numbers in a run of words ──

pub parts_next : (words : List ℕ) (step i left : ℕ) → 0 < left → parts_from words step i left ≡ word_at words i ∷ parts_from words step (i + step) (left - 1)
unfolding parts_from
parts_next words step i zero l = absurd (not-suc-le-zero l)
parts_next words step i (suc k) l = let e : suc k - 1 ≡ k = omega arith in rw e refl

pub parts_none : (words : List ℕ) (step i left : ℕ) → left ≤ 0 → parts_from words step i left ≡ []
unfolding parts_from
parts_none words step i zero l = refl
parts_none words step i (suc k) l = absurd (not-suc-le-zero l)

pub place-first : (r : Run) → place_of r 0 ≡ r.from
place-first r = rw mul-zero (omega arith)

pub place-next : (r : Run) (k : ℕ) → place_of r k + r.step ≡ place_of r (k + 1)
place-next r k = let e : k + 1 ≡ suc k = omega arith in rw (e, mul-suc) (omega arith)

-- ── The cases of a Match ──

pub cases_next : (words : List ℕ) (end at k : ℕ) → 0 < k
    → case_parts words end at k ≡ word_at words (at + 1) ∷ (parts_from words 1 (at + 3) (word_at words (at + 2)) ++ case_parts words end (at + 3 + word_at words (at + 2)) (k - 1))
unfolding case_parts
cases_next words end at zero l = absurd (not-suc-le-zero l)
cases_next words end at (suc k) l = let e : suc k - 1 ≡ k = omega arith in rw e refl

pub cases_none : (words : List ℕ) (end at k : ℕ) → k ≤ 0 → case_parts words end at k ≡ parts_from words 1 (at + 1) (end - (at + 1))
unfolding case_parts
cases_none words end at zero l = refl
cases_none words end at (suc k) l = absurd (not-suc-le-zero l)

-- Of `count` cases k are left, and the next stands at a place that can be counted in 64 bits: a body that is not empty has its count in the
-- image, and past the end a case has three words.
abbrev pub CasePlace : (words : List ℕ) (count at k : ℕ) → Type 0
CasePlace words count at k = at + 3 * k ≤ length words + 2 ^ 33 + 3 * count

-- of `count` cases k are left, the next at word `at`
pub record CasesLeft (words : List ℕ) (count at k : ℕ) : Type 0 where
  pub few : k ≤ count
  pub place : CasePlace words count at k

pub cases-first : (words : List ℕ) (count from : ℕ) → from ≤ length words + 3 → CasesLeft words count from count
cases-first words count from h = record { few = omega arith; place = omega arith }

pub cases_step : {words : List ℕ} {count at k n : ℕ} → CasesLeft words count at k → 0 < k → n ≡ word_at words (at + 2) → n < 2 ^ 32
    → CasesLeft words count (at + 3 + n) (k - 1)
cases_step {words} {count} {at} {k} {n} h l e s =
    let f = h.few in
    let p = h.place in
    record {
      few = omega arith;
      place = elim (dec_lt (at + 2) (length words)) [
        | yes i ↦ omega arith
        | no o ↦ let z : n ≡ 0 = e ∙ get_or-eq_default words 0 (omega arith) in omega arith
      ];
    }

-- ── The nodes ──

pub outlines-next : (image : List ℕ) (i n : ℕ) → i < n → outlines_from image i (n - i) ≡ outline_at image i ∷ outlines_from image (i + 1) (n - (i + 1))
unfolding outlines_from
outlines-next image i n l = let e : n - i ≡ suc (n - (i + 1)) = omega arith in rw e refl

pub outlines-none : (image : List ℕ) (i n : ℕ) → n ≤ i → outlines_from image i (n - i) ≡ []
unfolding outlines_from
outlines-none image i n l = let e : n - i ≡ 0 = omega arith in rw e refl

-- node i is next, at word `at`
pub record NodesLeft (image : List ℕ) (n at i : ℕ) : Type 0 where
  pub few : i ≤ n
  pub place : at ≡ node_place image i

pub nodes-first : (image : List ℕ) (n r : ℕ) → r ≡ root_count image → NodesLeft image n (4 + r) 0
unfolding node_place record_after
nodes-first image n r e = record { few = omega arith; place = ap (λ k. 4 + k) e }

pub nodes-step : {image : List ℕ} {n at i at' : ℕ} → NodesLeft image n at i → i < n → at' ≡ at + record_length image at → NodesLeft image n at' (i + 1)
nodes-step {image} {i = i} h l e = record { few = omega arith; place = e ∙ ap (λ p. p + record_length image p) h.place ∙ node-next image i }
