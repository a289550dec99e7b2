-- The claims of all nodes as the code finds them, one law for each way out. Assumes nothing.
use Prim.Native.Nat.{ℕ, ◌+◌, ◌-◌, ◌≤◌, ◌<◌}
use mathlib.Core.Bool.{Bool, true, false, true≢false}
use mathlib.Core.Path.{◌≡◌, refl, sym, ap, ap₂, ◌∙◌}
use mathlib.Core.Option.{Option, none, some}
use mathlib.Core.List.{List, [], ◌∷◌}
use native.Mathlib.Omega.{arith}
use lib.ListN.{length}
use Rattle.std.specs.Prelude.{Result, Ok, Err, ⊤}
use Rattle.std.specs.Result.{is_err, result_or}
use Rattle.reader.specs.declared.Fault.{Fault}
use Rattle.reader.specs.Reading.{offending}
use Rattle.ast.specs.Image.{word_at, node_count, root_count, record_length}
use Rattle.ast.specs.Outline.{Outline}
use Rattle.ast.specs.Claims.{count_from, slots_owned}
use Rattle.image_laws.specs.OutlineAt.{parts_from, arguments_at, parts_at, outline_from, outline_at, outlines_from}
use Rattle.node_parts.specs.Lists.{outlines-next, outlines-none, NodesLeft, nodes-first, nodes-step}
use Rattle.node_parts.specs.Faults.{fault-same}
use Rattle.claims.specs.Marks.{mark_all, marked, claims_marked, claims_by, Marking, Claiming}

-- ── One node ──

module _ {image : List ℕ} {at : ℕ} {nodes slots nodes' : List Bool} {b : Bool} (m : Marking nodes (parts_at image at) nodes' b) where
  pub part-stop : b ≡ true → Claiming image at nodes slots nodes' slots true
  unfolding claims_marked
  part-stop t =
      record {
        found = sym (rw (sym m.found ∙ t) refl);
        parts = λ e. absurd (true≢false e);
        owned = λ e. absurd (true≢false e);
        long-nodes = m.long;
        long-slots = refl;
      }

  pub slots-more : {slot n : ℕ} {slots' : List Bool} {r : Bool} → b ≡ false → slot ≡ word_at image (at + 1) → n ≡ arguments_at image at
      → Marking slots (count_from slot (n + 1)) slots' r → Claiming image at nodes slots nodes' slots' r
  unfolding claims_marked slots_owned
  slots-more f es en s =
      let own : count_from _ (_ + 1) ≡ slots_owned (outline_from image at) = ap₂ (λ x y. count_from x (y + 1)) es en in
      record {
        found = s.found ∙ ap (marked slots) own ∙ sym (rw (sym m.found ∙ f) refl);
        parts = λ _. m.kept f;
        owned = λ e. s.kept e ∙ ap (mark_all slots) own;
        long-nodes = m.long;
        long-slots = s.long;
      }

-- ── All nodes ──

module _ (nodes slots : List Bool) (i : ℕ) (roots : List ℕ) where
  node-twice : (o : Outline) (os : List Outline) → claims_marked nodes slots o ≡ true → claims_by nodes slots i roots (o ∷ os) ≡ some i
  unfolding claims_by
  node-twice o os e = fault-same _ true i _ _ e refl

  node-once : (o : Outline) (os : List Outline) → claims_marked nodes slots o ≡ false
      → claims_by nodes slots i roots (o ∷ os) ≡ claims_by (mark_all nodes o.parts) (mark_all slots (slots_owned o)) (i + 1) roots os
  unfolding claims_by
  node-once o os e = fault-same _ false i _ _ e refl

  roots-twice : marked nodes roots ≡ true → claims_by nodes slots i roots [] ≡ some i
  unfolding claims_by
  roots-twice e = fault-same _ true i _ _ e refl

  roots-once : marked nodes roots ≡ false → claims_by nodes slots i roots [] ≡ none
  unfolding claims_by
  roots-once e = fault-same _ false i _ _ e refl

-- with roots, marks and the nodes from number i on
abbrev Left : (image roots : List ℕ) (nodes slots : List Bool) (n i : ℕ) → Option ℕ
Left image roots nodes slots n i = claims_by nodes slots i roots (outlines_from image i (n - i))

-- the nodes from number i on are left, the next at word `at`
pub record ToClaim (image roots : List ℕ) (n : ℕ) (nodes₀ slots₀ nodes slots : List Bool) (at i : ℕ) : Type 0 where
  pub long-nodes : length nodes ≡ length nodes₀
  pub long-slots : length slots ≡ length slots₀
  pub left : NodesLeft image n at i
  pub rest : claims_by nodes₀ slots₀ 0 roots (outlines_from image 0 n) ≡ Left image roots nodes slots n i

pub to_claim : (image roots : List ℕ) (n : ℕ) (nodes slots : List Bool) (r : ℕ) → r ≡ root_count image → ToClaim image roots n nodes slots nodes slots (4 + r) 0
to_claim image roots n nodes slots r e = record { long-nodes = refl; long-slots = refl; left = nodes-first image n r e; rest = let z : n - 0 ≡ n = omega arith in rw z refl }

module _ {image roots : List ℕ} {n : ℕ} {nodes₀ slots₀ nodes slots : List Bool} {at i : ℕ} (h : ToClaim image roots n nodes₀ slots₀ nodes slots at i) where
  module _ {nodes' slots' : List Bool} {b : Bool} (l : i < n) (c : Claiming image at nodes slots nodes' slots' b) where
    node-is : b ≡ claims_marked nodes slots (outline_at image i)
    unfolding outline_at
    node-is = c.found ∙ ap (λ p. claims_marked nodes slots (outline_from image p)) h.left.place

    pub claim_stop : b ≡ true → some i ≡ claims_by nodes₀ slots₀ 0 roots (outlines_from image 0 n)
    claim_stop t = sym (h.rest ∙ ap (claims_by nodes slots i roots) (outlines-next image i n l) ∙ node-twice nodes slots i roots _ _ (sym node-is ∙ t))

    parts_are : b ≡ false → nodes' ≡ mark_all nodes (outline_at image i).parts
    unfolding outline_at
    parts_are f = c.parts f ∙ ap (λ p. mark_all nodes (parts_at image p)) h.left.place

    slots-are : b ≡ false → slots' ≡ mark_all slots (slots_owned (outline_at image i))
    unfolding outline_at
    slots-are f = c.owned f ∙ ap (λ p. mark_all slots (slots_owned (outline_from image p))) h.left.place

    claim_rest : b ≡ false → Left image roots nodes slots n i ≡ Left image roots nodes' slots' n (i + 1)
    claim_rest f =
        ap (claims_by nodes slots i roots) (outlines-next image i n l)
        ∙ node-once nodes slots i roots _ _ (sym node-is ∙ f)
        ∙ ap₂ (λ x y. claims_by x y (i + 1) roots (outlines_from image (i + 1) (n - (i + 1)))) (sym (parts_are f)) (sym (slots-are f))

    pub claim_more : {at' : ℕ} → b ≡ false → at' ≡ at + record_length image at → ToClaim image roots n nodes₀ slots₀ nodes' slots' at' (i + 1)
    claim_more f e =
        record {
          long-nodes = c.long-nodes ∙ h.long-nodes;
          long-slots = c.long-slots ∙ h.long-slots;
          left = nodes-step h.left l e;
          rest = h.rest ∙ claim_rest f;
        }

  module _ {nodes' : List Bool} {b : Bool} (l : n ≤ i) (m : Marking nodes roots nodes' b) where
    all-through : Left image roots nodes slots n i ≡ claims_by nodes slots n roots []
    all-through = let e : i ≡ n = let f = h.left.few in omega arith in ap₂ (λ k os. claims_by nodes slots k roots os) e (outlines-none image i n l)

    pub roots-stop : b ≡ true → some n ≡ claims_by nodes₀ slots₀ 0 roots (outlines_from image 0 n)
    roots-stop t = sym (h.rest ∙ all-through ∙ roots-twice nodes slots n roots (sym m.found ∙ t))

    pub roots-end : b ≡ false → none ≡ claims_by nodes₀ slots₀ 0 roots (outlines_from image 0 n)
    roots-end f = sym (h.rest ∙ all-through ∙ roots-once nodes slots n roots (sym m.found ∙ f))

-- the counts are those of the image
pub whole : (image : List ℕ) (nodes slots : List Bool) {n r : ℕ} {o : Option ℕ} → n ≡ node_count image → r ≡ root_count image
    → o ≡ claims_by nodes slots 0 (parts_from image 1 4 r) (outlines_from image 0 n)
    → o ≡ claims_by nodes slots 0 (parts_from image 1 4 (root_count image)) (outlines_from image 0 (node_count image))
whole image nodes slots en er e = e ∙ ap₂ (λ k m. claims_by nodes slots 0 (parts_from image 1 4 m) (outlines_from image 0 k)) en er

-- ── Faults ──

module _ {E : Type 0} where
  pub none-twice : (r : Result ⊤ E) (f : Fault) {x : ⊤} → ◌≡◌ {A = Result ⊤ Fault} (Ok x) (result_or r (Err f)) → is_err r ≡ false
  none-twice (Ok y) f e = refl
  none-twice (Err t) f e = cc

  pub one-twice : (r : Result ⊤ E) (f g : Fault) → ◌≡◌ {A = Result ⊤ Fault} (Err g) (result_or r (Err f)) → (is_err r ≡ true) × (g ≡ f)
  one-twice (Ok y) f g e = cc
  one-twice (Err t) f g e = (refl, cc)

  -- the roots are the last
  pub roots-last : {image roots : List ℕ} {n : ℕ} {nodes₀ slots₀ nodes slots : List Bool} {at i : ℕ} → ToClaim image roots n nodes₀ slots₀ nodes slots at i
      → {nodes' : List Bool} → n ≤ i → (r : Result ⊤ E) → Marking nodes roots nodes' (is_err r)
      → offending (result_or r (Err (record { 0 = n }))) ≡ claims_by nodes₀ slots₀ 0 roots (outlines_from image 0 n)
  roots-last h l (Ok x) m = roots-end h l m refl
  roots-last h l (Err t) m = roots-stop h l m refl
