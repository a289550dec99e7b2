-- Where records stand, one after the other, and the outlines of nodes one after the other. Assumes nothing.
use Rattle.std.specs.Prelude.{ℕ, zero, suc, ◌+◌, ◌<◌, ◌≡◌, refl, List, [], ◌∷◌, ◌++◌, length, get_or}
use Rattle.std.proofs.Common.{sym, ap, ◌∙◌, le_of_suc-le-suc, not-suc-le-zero, add-zero, add-one, arith}
use Rattle.ast.specs.Image.{node_count, record_after, node_place, type_place, record_length}
use Rattle.ast.specs.NodeRecords.{no_node}
use Rattle.image_laws.specs.OutlineAt.{outline_at, outlines_from}

after_last : (image : List ℕ) (k at : ℕ) → record_after image (suc k) at ≡ record_after image k at + record_length image (record_after image k at)
unfolding record_after
after_last image zero at = refl
after_last image (suc k) at = after_last image k (at + record_length image at)

-- a record ends where the next begins
pub node-next : (image : List ℕ) (n : ℕ) → node_place image n + record_length image (node_place image n) ≡ node_place image (n + 1)
unfolding node_place
node-next image n = rw add-one (sym (after_last image n _))

pub type-next : (image : List ℕ) (t : ℕ) → type_place image t + record_length image (type_place image t) ≡ type_place image (t + 1)
unfolding type_place
type-next image t = rw add-one (sym (after_last image t _))

-- the types begin where the nodes end
pub type-first : (image : List ℕ) → type_place image 0 ≡ node_place image (node_count image)
unfolding type_place record_after
type-first image = refl

-- ── Outlines ──

pub outlines-more : (image : List ℕ) (n k : ℕ) → outlines_from image n (k + 1) ≡ outlines_from image n k ++ (outline_at image (n + k) ∷ [])
unfolding outlines_from
outlines-more image n zero = rw add-zero refl
outlines-more image n (suc k) =
    let e : n + 1 + k ≡ n + suc k = omega arith in
    rw (add-one (suc k)) (ap (λ l. outline_at image n ∷ l) (rw (add-one k, e) at (outlines-more image (n + 1) k)))

pub outlines-length : (image : List ℕ) (n k : ℕ) → length (outlines_from image n k) ≡ k
unfolding outlines_from
outlines-length image n zero = refl
outlines-length image n (suc k) = ap suc (outlines-length image (n + 1) k)

outlines_get : (image : List ℕ) (n k p : ℕ) → p < k → get_or (outlines_from image n k) p no_node ≡ outline_at image (n + p)
unfolding outlines_from
outlines_get image n zero p h = absurd (not-suc-le-zero h)
outlines_get image n (suc k) zero h = rw add-zero refl
outlines_get image n (suc k) (suc p) h =
    let e : n + 1 + p ≡ n + suc p = omega arith in
    outlines_get image (n + 1) k p (le_of_suc-le-suc h) ∙ ap (outline_at image) e

-- the nodes before node n, by number
pub outlines-known : (image : List ℕ) (n p : ℕ) → p < n → get_or (outlines_from image 0 n) p no_node ≡ outline_at image p
outlines-known image n p h = let e : 0 + p ≡ p = omega arith in outlines_get image 0 n p h ∙ ap (outline_at image) e
