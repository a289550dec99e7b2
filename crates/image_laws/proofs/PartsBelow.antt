-- The parts of an accepted node all have smaller numbers than it, and its slots lie below V, whatever its kind; and how lists of parts are
-- read by place. Assumes nothing.
use Prim.Native.Nat.{ℕ, zero, suc, ◌+◌, ◌*◌, ◌<◌}
use Rattle.std.specs.Prelude.{Bool, true, false, cond, ◌≡◌, List, [], ◌∷◌, ◌++◌, length, get_or, eqb}
use Rattle.std.proofs.Math.Path.{refl}
use Rattle.std.proofs.Common.{ap, ◌∙◌, le_of_suc-le-suc, not-suc-le-zero, mul-zero, mul-suc, add-zero, arith, eqb-true}
use Rattle.ast.specs.Image.{word_at, node_place, record_kind}
use Rattle.ast.specs.Outline.{Counts}
use Rattle.image_laws.specs.OutlineAt.{parts_from, case_parts, parts_by_kind, parts_at, arguments_at}
use Rattle.image_laws.specs.Many.{Each}
use Rattle.image_laws.specs.RecordWords.{Under, Pair, CasesWords, default_words, case_words}
use Rattle.image_laws.proofs.NodesRead.{NodeRead, bin-words, unary-words, let_words, fn-words, match-words, call-words, field-words, cast-words, record_words, array-words}

-- ── Lists of parts by place ──

pub parts-length : (image : List ℕ) (step k at : ℕ) → length (parts_from image step at k) ≡ k
unfolding parts_from
parts-length image step zero at = refl
parts-length image step (suc k) at = ap suc (parts-length image step k (at + step))

pub parts_get : (image : List ℕ) (step k at i : ℕ) → i < k → get_or (parts_from image step at k) i 0 ≡ word_at image (at + step * i)
unfolding parts_from
parts_get image step zero at i h = absurd (not-suc-le-zero h)
parts_get image step (suc k) at zero h = rw (mul-zero, add-zero) refl
parts_get image step (suc k) at (suc i) h =
    let e : at + step + step * i ≡ at + step * suc i = rw mul-suc (omega arith) in
    parts_get image step k (at + step) i (le_of_suc-le-suc h) ∙ ap (word_at image) e

-- ── "A part's number is smaller than its owner's." ──

-- all numbers of a list are below n
pub data Below (n : ℕ) : List ℕ → Type 0 where
  no-parts : Below n []
  part : {p : ℕ} {ps : List ℕ} → p < n → Below n ps → Below n (p ∷ ps)

below-append : {n : ℕ} {ps qs : List ℕ} → Below n ps → Below n qs → Below n (ps ++ qs)
below-append no-parts b = b
below-append (part h a) b = part h (below-append a b)

-- a list whose every word is below n, by place
list-below : (n : ℕ) (image : List ℕ) (step k at : ℕ) → ((i : ℕ) → i < k → word_at image (at + step * i) < n) → Below n (parts_from image step at k)
unfolding parts_from
list-below n image step zero at f = no-parts
list-below n image step (suc k) at f =
    let first : at + step * 0 ≡ at = rw mul-zero (omega arith) in
    part (rw first at (f 0 (omega arith)))
    (list-below n image step k (at + step)
    (λ i h. let e : at + step + step * i ≡ at + step * suc i = rw mul-suc (omega arith) in rw e (f (suc i) (omega arith))))

module _ {n : ℕ} {image : List ℕ} where
  pub each_below : {step at k : ℕ} → Each (Under n image) step at k → Below n (parts_from image step at k)
  each_below {step} {at} {k} e = list-below n image step k at (λ i h. (e.each i h).under)

  -- the values of a Record
  pairs_below : {text : List ℕ} {k : ℕ} (at : ℕ) → Each (Pair text n image) 2 (at + 3) k → Below n (parts_from image 2 (at + 4) k)
  pairs_below {text} {k} at e =
      list-below n image 2 k (at + 4) (λ i h. let p : at + 3 + 2 * i + 1 ≡ at + 4 + 2 * i = omega arith in rw p at (e.each i h).value.under)

  -- the cases of a Match
  cases-below : {c : Counts} {end at k : ℕ} → CasesWords c image n end at k → Below n (case_parts image end at k)
  unfolding case_parts
  cases-below (default_words t l b) = each_below b
  cases-below (case_words t q body others) = part q.under (below-append (each_below body) (cases-below others))

module _ {c : Counts} {image : List ℕ} {n : ℕ} (r : NodeRead c image n) where
  below_by : (k : ℕ) → record_kind image (node_place image n) ≡ k → Below n (parts_at image (node_place image n))
  unfolding parts_at parts_by_kind
  below_by zero e = rw (e, parts_at) (no-parts)
  below_by (suc zero) e = rw (e, parts_at) (no-parts)
  below_by (suc (suc zero)) e = rw (e, parts_at) (let w = bin-words r e in part w.left.under (part w.right.under no-parts))
  below_by (suc (suc (suc zero))) e = rw (e, parts_at) (part (unary-words r e).right.under no-parts)
  below_by (suc (suc (suc (suc zero)))) e = rw (e, parts_at) (part (let_words r e).right.under no-parts)
  below_by (suc (suc (suc (suc (suc zero))))) e = rw (e, parts_at) (each_below (fn-words r e).body)
  below_by (suc (suc (suc (suc (suc (suc zero)))))) e = rw (e, parts_at) (cases-below (match-words r e).cases)
  below_by (suc (suc (suc (suc (suc (suc (suc zero))))))) e = rw (e, parts_at) (let w = call-words r e in part w.target.under (each_below w.args))
  below_by (suc (suc (suc (suc (suc (suc (suc (suc zero)))))))) e = rw (e, parts_at) (part (field-words r e).target.under no-parts)
  below_by (suc (suc (suc (suc (suc (suc (suc (suc (suc zero))))))))) e = rw (e, parts_at) (part (cast-words r e).left.under no-parts)
  below_by (suc (suc (suc (suc (suc (suc (suc (suc (suc (suc zero)))))))))) e = rw (e, parts_at) (no-parts)
  below_by (suc (suc (suc (suc (suc (suc (suc (suc (suc (suc (suc zero))))))))))) e = rw (e, parts_at) (no-parts)
  below_by (suc (suc (suc (suc (suc (suc (suc (suc (suc (suc (suc (suc zero)))))))))))) e = rw (e, parts_at) (pairs_below (node_place image n) (record_words r e).values)
  below_by (suc (suc (suc (suc (suc (suc (suc (suc (suc (suc (suc (suc (suc zero))))))))))))) e = rw (e, parts_at) (each_below (array-words r e).members)
  below_by (suc (suc (suc (suc (suc (suc (suc (suc (suc (suc (suc (suc (suc (suc k)))))))))))))) e = absurd (let l = r.words.kind in omega arith)

  pub parts_below : Below n (parts_at image (node_place image n))
  parts_below = below_by (record_kind image (node_place image n)) refl

  -- ── "slots (an Fn's argument slots too) below V" ──

  slots-by : (b : Bool) → eqb (record_kind image (node_place image n)) 5 ≡ b
      → word_at image (node_place image n + 1) + cond b (word_at image (node_place image n + 4)) 0 < c.slots
  slots-by true e = (fn-words r (eqb-true (record_kind image (node_place image n)) 5 e)).slots
  slots-by false e = let l = r.words.slot.under in omega arith

  pub slots-below : word_at image (node_place image n + 1) + arguments_at image (node_place image n) < c.slots
  unfolding arguments_at
  slots-below = slots-by _ refl
