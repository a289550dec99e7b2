-- Refusal 4: in an image that passes it no node is claimed twice, as part or root, and no slot is owned twice; said as sums over all nodes.
-- Assumes nothing.
use Rattle.std.specs.Prelude.{ℕ, zero, suc, ◌+◌, ◌≤◌, ◌≡◌, refl, Bool, true, false, ◌||◌}
use Rattle.std.proofs.Common.{arith, zero-add, add-one, ap, ◌∙◌}
use Rattle.std.proofs.Math.Option.{Option, none, some}
use mathlib.Core.List.{List, [], ◌∷◌, ◌++◌}
use Rattle.facts.specs.Tests.{no-some}
use Rattle.ast.specs.Image.{node_count}
use Rattle.ast.specs.Outline.{Outline}
use Rattle.ast.specs.Claims.{twice, slots_owned, claims_twice, claims_from, claims_fault}
use Rattle.ast.specs.Room.{entry_words, function_words}
use Rattle.image_laws.specs.OutlineAt.{outline_at, outlines_from, outlines_in}
use Rattle.image_laws.proofs.Places.{outlines-more}
use Rattle.accepts.specs.Count.{total, total-append, up_to, one, count, twice-count}

-- how often a node stands among the parts of a node, and a slot among those that it owns
abbrev pub in_parts : (m : ℕ) → Outline → ℕ
in_parts m o = count m o.parts

abbrev pub in_owned : (slot : ℕ) → Outline → ℕ
in_owned slot o = count slot (slots_owned o)

record Step (claimed owned : List ℕ) (o : Outline) (rest : Option ℕ) : Type 0 where
  parts : twice claimed o.parts ≡ false
  slots : twice owned (slots_owned o) ≡ false
  later : rest ≡ none

one-step : (claimed owned : List ℕ) (o : Outline) (i : ℕ) (rest : Option ℕ) (a b : Bool) → twice claimed o.parts ≡ a → twice owned (slots_owned o) ≡ b
    → ◌≡◌ {A = Option ℕ} (elim (a || b) [ true ↦ some i | false ↦ rest ]) none → Step claimed owned o rest
one-step claimed owned o i rest true b p q e = absurd (no-some e)
one-step claimed owned o i rest false true p q e = absurd (no-some e)
one-step claimed owned o i rest false false p q e = record { parts = p; slots = q; later = e }

at-end : (t : Bool) (i : ℕ) → ◌≡◌ {A = Option ℕ} (elim t [ true ↦ some i | false ↦ none ]) none → t ≡ false
at-end true i e = absurd (no-some e)
at-end false i e = refl

step : (claimed owned : List ℕ) (i : ℕ) (roots : List ℕ) (o : Outline) (os : List Outline) → claims_from claimed owned i roots (o ∷ os) ≡ none
    → Step claimed owned o (claims_from (o.parts ++ claimed) (slots_owned o ++ owned) (i + 1) roots os)
unfolding claims_from claims_twice
step claimed owned i roots o os e = one-step claimed owned o i _ _ _ refl refl e

claims-parts : (m : ℕ) (os : List Outline) (claimed owned : List ℕ) (i : ℕ) (roots : List ℕ) → claims_from claimed owned i roots os ≡ none → count m claimed ≤ 1
    → count m claimed + total (in_parts m) os + count m roots ≤ 1
unfolding claims_from total
claims-parts m [] claimed owned i roots e h = omega (arith, twice-count m claimed roots (at-end _ i e) h)
claims-parts m (o ∷ os) claimed owned i roots e h =
    let s = step claimed owned i roots o os e in
    let a = total-append (one m) o.parts claimed in
    let t = twice-count m claimed o.parts s.parts h in
    let k = claims-parts m os (o.parts ++ claimed) (slots_owned o ++ owned) (i + 1) roots s.later (omega arith) in
    omega arith

claims-slots : (slot : ℕ) (os : List Outline) (claimed owned : List ℕ) (i : ℕ) (roots : List ℕ) → claims_from claimed owned i roots os ≡ none → count slot owned ≤ 1
    → count slot owned + total (in_owned slot) os ≤ 1
unfolding claims_from total
claims-slots m [] claimed owned i roots e h = omega arith
claims-slots m (o ∷ os) claimed owned i roots e h =
    let s = step claimed owned i roots o os e in
    let a = total-append (one m) (slots_owned o) owned in
    let t = twice-count m owned (slots_owned o) s.slots h in
    let k = claims-slots m os (o.parts ++ claimed) (slots_owned o ++ owned) (i + 1) roots s.later (omega arith) in
    omega arith

-- ── Over the nodes of an image, by number ──

-- a sum over the outlines of the first k nodes
outlines_sum : (f : Outline → ℕ) (image : List ℕ) (k : ℕ) → total f (outlines_from image 0 k) ≡ up_to (λ n. f (outline_at image n)) k
unfolding outlines_from total up_to
outlines_sum f image zero = refl
outlines_sum f image (suc k) =
    let e : outlines_from image 0 (suc k) ≡ outlines_from image 0 k ++ (outline_at image k ∷ []) = rw (add-one k, zero-add k) at (outlines-more image 0 k) in
    let a = total-append f (outlines_from image 0 k) (outline_at image k ∷ []) in
    let h = outlines_sum f image k in
    let z : f (outline_at image k) + 0 ≡ f (outline_at image k) = omega arith in
    ap (λ (l : List Outline). total f l) e ∙ omega arith

module _ (image : List ℕ) (passes : claims_fault (outlines_in image).roots (outlines_in image).nodes ≡ none) where
  -- "a node claimed twice as part or root"
  pub claimed_once : (m : ℕ) → up_to (λ n. in_parts m (outline_at image n)) (node_count image) + count m (outlines_in image).roots ≤ 1
  unfolding claims_fault outlines_in total
  claimed_once m =
      omega (arith, claims-parts m (outlines_from image 0 (node_count image)) [] [] 0 (outlines_in image).roots passes (omega arith), outlines_sum (in_parts m) image (node_count image))

  -- "a slot owned twice"
  pub owned-once : (slot : ℕ) → up_to (λ n. in_owned slot (outline_at image n)) (node_count image) ≤ 1
  unfolding claims_fault outlines_in total
  owned-once slot =
      omega (arith, claims-slots slot (outlines_from image 0 (node_count image)) [] [] 0 (outlines_in image).roots passes (omega arith), outlines_sum (in_owned slot) image (node_count image))

-- refusal 6's sum
pub entries_sum : (image : List ℕ) → function_words (outlines_in image).nodes ≡ up_to (λ n. entry_words (outline_at image n)) (node_count image)
unfolding outlines_in total function_words
entries_sum image = same (outlines_from image 0 (node_count image)) ∙ outlines_sum entry_words image (node_count image)
  where
    same : (os : List Outline) → function_words os ≡ total entry_words os
    same [] = refl
    same (o ∷ os) = ap (λ (n : ℕ). entry_words o + n) (same os)
