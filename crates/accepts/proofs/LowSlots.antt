-- Every slot that a visited node of an accepted image owns is below V. Assumes nothing but that the image is accepted.
use Rattle.std.specs.Prelude.{ℕ, zero, suc, ◌+◌, ◌≤◌, ◌<◌, List, [], ◌∷◌}
use Rattle.std.proofs.Common.{arith}
use Rattle.std.proofs.Math.Decide.{ℕ_discrete}
use Rattle.ast.specs.Image.{node_count, slot_count}
use Rattle.ast.specs.Node.{Node, roots_of, tree_of}
use Rattle.ast.specs.Claims.{count_from, slots_owned}
use Rattle.image_laws.specs.OutlineAt.{outline_at}
use Rattle.image_laws.proofs.PartsBelow.{slots-below}
use Rattle.image_laws.proofs.Accepted.{Accepted}
use Rattle.rules.specs.Visited.{visited_in, slots_of}
use Rattle.rules.specs.Promises.{Every}
use Rattle.laws.specs.SlotsOf.{SlotsOfAll}
use Rattle.accepts.specs.Count.{total, one-other, count}
use Rattle.accepts.proofs.OfImage.{of_image, tree-number}
use Rattle.accepts.specs.VisitedOf.{visited-every}
use Rattle.accepts.proofs.OtherSlots.{owned, among-hold}

-- a number that is counted among n from the first on
pub counted-low : (s n first : ℕ) → 1 ≤ count s (count_from first n) → s < first + n
unfolding total count_from
counted-low s zero first h = absurd (omega arith)
counted-low s (suc n) first h = elim (ℕ_discrete s first) [
  | yes e ↦ omega arith
  | no d ↦ let k = counted-low s n (first + 1) (omega (arith, one-other s first d)) in omega arith
]

-- Q holds of each slot that a node owns
record Owns (Q : ℕ → Type 0) (x : Node) : Type 0 where
  owns : (slot : ℕ) → 1 ≤ count slot (slots_of x) → Q slot

all-owned : (Q : ℕ → Type 0) (xs : List Node) → Every (Owns Q) xs → (slot : ℕ) → 1 ≤ owned slot xs → Q slot
unfolding total Every
all-owned Q [] e slot l = absurd (omega arith)
all-owned Q (x ∷ xs) e slot l = elim (ℕ_discrete (count slot (slots_of x)) 0) [
  | yes z ↦ all-owned Q xs e.1 slot (omega arith)
  | no z ↦ e.0.owns slot (omega arith)
]

module _ {text image : List ℕ} (a : Accepted text image) where
  low : (n : ℕ) → n < node_count image → Owns (λ slot. slot < slot_count image) (tree_of image n)
  unfolding slots_owned outline_at
  low n l = record {
    owns = λ slot h.
        let o = of_image a n l in
        let e = slots-below (a.node n l) in
        let k = counted-low slot _ _ (rw (o.slots, tree-number image n) at h) in
        omega arith;
  }

  pub owned-low : (slot : ℕ) → 1 ≤ owned slot (visited_in image) → slot < slot_count image
  owned-low = all-owned (λ slot. slot < slot_count image) (visited_in image) (visited-every a (Owns (λ slot. slot < slot_count image)) low)

  -- THE LAW
  pub low-slots : (Q : ℕ → Type 0) → ((slot : ℕ) → slot < slot_count image → Q slot) → SlotsOfAll Q (roots_of image)
  unfolding visited_in
  low-slots Q f = among-hold Q (roots_of image) (record { holds = λ slot l. f slot (owned-low slot l) })
