-- Marks tell the same as lists of what is claimed: on an accepted image the fault found by marks is that of refusal 4. Assumes nothing.
use Prim.Native.Nat.{ℕ, zero, suc, ◌+◌, ◌≤◌, ◌<◌}
use Rattle.std.specs.Prelude.{Bool, true, false, ◌≡◌, List, [], ◌∷◌, ◌++◌, length, get_or, set, replicate}
use Rattle.std.proofs.Math.Bool.{◌||◌, or_assoc}
use Rattle.std.proofs.Math.Path.{refl, ap₂}
use Rattle.std.proofs.Common.{sym, ◌∙◌, arith, get_or-set_same}
use Rattle.std.proofs.Math.Decide.{ℕ_discrete}
use Rattle.std.proofs.Math.ListN.{length-set}
use Rattle.std.proofs.lemmas.List.{length-replicate, get_or-replicate}
use Rattle.std.proofs.Math.Seq.{get_or-set_other}
use Rattle.std.proofs.Math.Dec.{eqb}
use borrow.Author.Tests.{eq-eqb, ne_eqb}
use Rattle.ast.specs.Image.{node_count}
use Rattle.ast.specs.Outline.{Outline}
use Rattle.ast.specs.Claims.{among, twice, count_from, slots_owned, claims_twice, claims_from, claims_fault}
use Rattle.image_laws.specs.OutlineAt.{outline_at, outlines_from, outlines_in}
use Rattle.image_laws.proofs.PartsBelow.{Below, no-parts, part, each_below, parts_below, slots-below}
use Rattle.image_laws.proofs.Accepted.{Accepted}
use Rattle.node_parts.specs.Faults.{fault-same}
use Rattle.claims.specs.Marks.{mark_all, marked, claims_marked, claims_by, claims_of, claims_in}

-- a mark for each number below `most` that is taken
pub record MarksOf (most : ℕ) (marks : List Bool) (taken : List ℕ) : Type 0 where
  pub long : length marks ≡ most
  pub each : (x : ℕ) → x < most → get_or marks x false ≡ among x taken

or_both : (a b c : Bool) → (a || (b || c)) ≡ (b || (a || c))
or_both true true c = refl
or_both true false c = refl
or_both false true c = refl
or_both false false c = refl

among-append : (x : ℕ) (xs ys : List ℕ) → among x (xs ++ ys) ≡ (among x xs || among x ys)
unfolding among
among-append x [] ys = refl
among-append x (y ∷ xs) ys = rw (among-append x xs ys) (sym (or_assoc (eqb x y) (among x xs) (among x ys)))

moved : (x y : ℕ) (xs taken : List ℕ) → among y (x ∷ (xs ++ taken)) ≡ among y (xs ++ (x ∷ taken))
unfolding among
moved x y xs taken = rw (among-append y xs taken, among-append y xs (x ∷ taken)) (or_both (eqb y x) (among y xs) (among y taken))

module _ {most : ℕ} where
  -- a number more
  marks_add : {marks : List Bool} {taken : List ℕ} (x : ℕ) → x < most → MarksOf most marks taken → MarksOf most (set marks x true) (x ∷ taken)
  unfolding among
  marks_add {marks} {taken} x h m =
      record {
        long = length-set marks x true ∙ m.long;
        each = λ y l. elim (ℕ_discrete y x) [
          | yes e ↦ rw (e, eq-eqb x x refl) (get_or-set_same marks x true false (rw m.long h))
          | no d ↦ get_or-set_other marks x y true false d ∙ m.each y l ∙ rw (ne_eqb y x d) refl
        ];
      }

  -- only what is taken matters, not how it is listed
  marks-same : {marks : List Bool} {taken other : List ℕ} → ((x : ℕ) → among x other ≡ among x taken) → MarksOf most marks taken → MarksOf most marks other
  marks-same s m = record { long = m.long; each = λ x l. m.each x l ∙ sym (s x) }

  marks-all : {xs : List ℕ} {marks : List Bool} {taken : List ℕ} → Below most xs → MarksOf most marks taken → MarksOf most (mark_all marks xs) (xs ++ taken)
  unfolding mark_all
  marks-all no-parts m = m
  marks-all {taken = taken} (part {p = x} {ps = xs} h b) m = marks-same (λ y. moved x y xs taken) (marks-all b (marks_add x h m))

  pub marked-twice : {xs : List ℕ} {marks : List Bool} {taken : List ℕ} → Below most xs → MarksOf most marks taken → marked marks xs ≡ twice taken xs
  unfolding marked twice
  marked-twice no-parts m = refl
  marked-twice {marks = marks} {taken} (part {p = x} {ps = xs} h b) m =
      ap₂ ◌||◌ (m.each x h) (marked-twice b (marks_add x h m))

-- ── All nodes, then the roots ──

-- a node whose parts are below N and whose slots are below V
pub record Small (o : Outline) : Type 0 where
  pub parts : Below 2048 o.parts
  pub slots : Below 4096 (slots_owned o)

pub data AllSmall : List Outline → Type 0 where
  no-nodes : AllSmall []
  node : {o : Outline} {os : List Outline} → Small o → AllSmall os → AllSmall (o ∷ os)

claims-same : {os : List Outline} {nodes slots : List Bool} {claimed owned : List ℕ} (i : ℕ) (roots : List ℕ) → Below 2048 roots → AllSmall os → MarksOf 2048 nodes claimed → MarksOf 4096 slots owned
    → claims_by nodes slots i roots os ≡ claims_from claimed owned i roots os
unfolding claims_by claims_from claims_marked claims_twice
claims-same i roots r no-nodes m s = fault-same _ _ i _ _ (marked-twice r m) refl
claims-same i roots r (node o os) m s =
    fault-same _ _ i _ _ (ap₂ ◌||◌ (marked-twice o.parts m) (marked-twice o.slots s)) (claims-same (i + 1) roots r os (marks-all o.parts m) (marks-all o.slots s))

-- no marks, and nothing taken
marks-none : (most : ℕ) → MarksOf most (replicate most false) []
unfolding among
marks-none most = record { long = length-replicate most false; each = λ x h. get_or-replicate most x false false h }

-- ── Of an accepted image ──

below_more : {n m : ℕ} {xs : List ℕ} → n ≤ m → Below n xs → Below m xs
below_more h no-parts = no-parts
below_more {n} {m} h (part {p = p} l b) = let e : p < m = omega arith in part e (below_more h b)

count-below : (most first k : ℕ) → first + k ≤ most → Below most (count_from first k)
unfolding count_from
count-below most first zero h = no-parts
count-below most first (suc k) h = let e : first < most = omega arith in part e (count-below most (first + 1) k (omega arith))

module _ {text image : List ℕ} (a : Accepted text image) where
  small-node : (n : ℕ) → n < node_count image → Small (outline_at image n)
  unfolding outline_at slots_owned
  small-node n h =
      let l = a.most-nodes in
      let v = a.most-slots in
      let s = slots-below (a.node n h) in
      record { parts = below_more (omega arith) (parts_below (a.node n h)); slots = count-below 4096 _ _ (omega arith) }

  small-nodes : (k n : ℕ) → n + k ≤ node_count image → AllSmall (outlines_from image n k)
  unfolding outlines_from
  small-nodes zero n h = no-nodes
  small-nodes (suc k) n h = node (small-node n (omega arith)) (small-nodes k (n + 1) (omega arith))

  -- marks find the fault of refusal 4
  pub claims-accepted : claims_in image ≡ claims_fault (outlines_in image).roots (outlines_in image).nodes
  unfolding claims_in claims_of claims_fault outlines_in
  claims-accepted =
      claims-same 0 _ (below_more a.most-nodes (each_below a.roots)) (small-nodes (node_count image) 0 (omega arith)) (marks-none 2048) (marks-none 4096)
