-- The array tells the same as the list of depths: of at most 2,048 nodes the fault is that of refusal 5. Assumes nothing.
use Rattle.std.specs.Prelude.{ℕ, ◌+◌, ◌≤◌, ◌<◌, max, ◌≡◌, refl, List, [], ◌∷◌, ◌++◌, length, get_or, set, replicate, ltb}
use Rattle.std.proofs.Common.{sym, ap, ap₂, ◌∙◌, arith, length-set, length-append, get_or-set_same, get_or-set_other}
use Rattle.std.proofs.Math.Decide.{ℕ_discrete, dec_lt}
use Rattle.std.proofs.lemmas.List.{length-replicate, get_or-replicate}
use Rattle.std.proofs.Math.ListN.{get_or-eq_default, get_or-append}
use Rattle.std.proofs.Math.Seq.{get_or-append_seam}
use Rattle.ast.specs.Image.{node_count}
use Rattle.ast.specs.Outline.{Outline}
use Rattle.ast.specs.Depth.{deepest, depth_from, depth_fault}
use Rattle.image_laws.specs.OutlineAt.{outlines_in}
use Rattle.image_laws.proofs.Places.{outlines-length}
use Rattle.image_laws.proofs.Accepted.{Accepted}
use Rattle.node_parts.specs.Faults.{fault-same}
use Rattle.depth.specs.Depths.{depth_by, depth_of, depth_in}

-- the array holds the depths of i nodes, and zeros
record Holds (array depths : List ℕ) (i : ℕ) : Type 0 where
  long : length array ≡ 2048
  few : length depths ≡ i
  each : (p : ℕ) → get_or array p 0 ≡ get_or depths p 0

deepest-same : (array depths parts : List ℕ) → ((p : ℕ) → get_or array p 0 ≡ get_or depths p 0) → deepest array parts ≡ deepest depths parts
unfolding deepest
deepest-same array depths [] h = refl
deepest-same array depths (p ∷ ps) h = ap₂ max (h p) (deepest-same array depths ps h)

-- the list with one more
module _ (depths : List ℕ) (d i : ℕ) (e : length depths ≡ i) where
  before : (p : ℕ) → p < i → get_or (depths ++ (d ∷ [])) p 0 ≡ get_or depths p 0
  before p h = get_or-append depths (d ∷ []) 0 p (omega arith)

  last : get_or (depths ++ (d ∷ [])) i 0 ≡ d
  last = ap (λ k. get_or (depths ++ (d ∷ [])) k 0) (sym e) ∙ get_or-append_seam depths d [] 0

  after : (p : ℕ) → i < p → get_or depths p 0 ≡ get_or (depths ++ (d ∷ [])) p 0
  after p h =
      let l : length (depths ++ (d ∷ [])) ≤ p = rw (length-append depths (d ∷ [])) (omega arith) in
      let m : length depths ≤ p = omega arith in
      get_or-eq_default depths 0 m ∙ sym (get_or-eq_default (depths ++ (d ∷ [])) 0 l)

holds-each : {array depths : List ℕ} {i : ℕ} (d p : ℕ) → i < 2048 → Holds array depths i → get_or (set array i d) p 0 ≡ get_or (depths ++ (d ∷ [])) p 0
holds-each {array} {depths} {i} d p h a = elim (ℕ_discrete p i) [
  | yes e ↦ rw e (get_or-set_same array i d 0 (rw a.long h) ∙ sym (last depths d i a.few))
  | no n ↦ get_or-set_other array i p d 0 n ∙ a.each p ∙ elim (dec_lt p i) [
    | yes l ↦ sym (before depths d i a.few p l)
    | no g ↦ after depths d i a.few p (omega arith)
  ]
]

holds-next : {array depths : List ℕ} {i : ℕ} (d : ℕ) → i < 2048 → Holds array depths i → Holds (set array i d) (depths ++ (d ∷ [])) (i + 1)
holds-next {array} {depths} {i} d h a =
    record {
      long = length-set array i d ∙ a.long;
      few = length-append depths (d ∷ []) ∙ ap (λ n. n + 1) a.few;
      each = λ p. holds-each d p h a;
    }

depth_same : {array depths : List ℕ} (i : ℕ) (os : List Outline) → i + length os ≤ 2048 → Holds array depths i → depth_by array i os ≡ depth_from depths i os
unfolding depth_by depth_from
depth_same {array = array} {depths = depths} i [] h a = refl
depth_same {array = array} {depths = depths} i (o ∷ os) h a =
    let e : 1 + deepest array o.parts ≡ 1 + deepest depths o.parts = ap (λ d. 1 + d) (deepest-same array depths o.parts a.each) in
    fault-same _ _ i _ _ (ap (ltb 64) e)
    (ap (λ d. depth_by (set array i d) (i + 1) os) e
    ∙ depth_same {array = set array i (1 + deepest depths o.parts)} {depths = depths ++ ((1 + deepest depths o.parts) ∷ [])} (i + 1) os (omega arith)
    (holds-next (1 + deepest depths o.parts) (omega arith) a))

holds-none : Holds (replicate 2048 0) [] 0
holds-none =
    record {
      long = length-replicate {A = ℕ} 2048 0;
      few = refl;
      each = λ p. elim (dec_lt p 2048) [
        | yes h ↦ get_or-replicate 2048 p 0 0 h
        | no h ↦ let l : length (replicate {A = ℕ} 2048 0) ≤ p = rw (length-replicate {A = ℕ} 2048 0) (omega arith) in get_or-eq_default (replicate 2048 0) 0 l
      ];
    }

-- of an accepted image
pub depth-accepted : {text image : List ℕ} → Accepted text image → depth_in image ≡ depth_fault (outlines_in image).nodes
unfolding depth_in depth_of depth_fault outlines_in
depth-accepted {image = image} a =
    let l = a.most-nodes in
    depth_same 0 _ (rw (outlines-length image 0 (node_count image)) (omega arith)) holds-none
