-- typemap.rs 63, "more than u32::MAX types": each type that the Rust allocates is for a slot that the node whose rule runs owns, a node's own or
-- an Fn's argument's, and one for slot V. There are at most V slots owned in all that is visited. Assumes nothing.
use Rattle.std.specs.Prelude.{ℕ, zero, suc, ◌+◌, ◌≤◌, ◌<◌, ◌≡◌, refl, List, [], ◌∷◌}
use Rattle.std.proofs.Common.{arith}
use Rattle.std.proofs.Math.Option.{none}
use Rattle.ast.specs.Image.{slot_count}
use Rattle.ast.specs.Node.{Node, slot_of}
use Rattle.ast.specs.Claims.{count_from}
use Rattle.refusals.specs.Inputs.{Inputs, Buffers}
use Rattle.refusals.specs.Refusals.{refusal_of}
use Rattle.rules.specs.Visited.{visited_in, arguments_of, slots_of, all_slots}
use Rattle.rules.specs.Promises.{Every}
use Rattle.accepts.specs.Count.{total, total-append, up_to, one_same, count, once_le}
use Rattle.accepts.proofs.Passed.{passed}
use Rattle.accepts.proofs.Once.{slots-count, slots-once}
use Rattle.stops.proofs.NoStop.{visited-low}

-- "An Fn owns its slot and one after it per argument": the types that a node's rule allocates at most
abbrev pub allocates : Node → ℕ
allocates x = arguments_of x + 1

from-long : (first n : ℕ) → total (λ (_ : ℕ). 1) (count_from first n) ≡ n
unfolding total count_from
from-long first zero = refl
from-long first (suc n) = omega (arith, from-long (first + 1) n)

slots-long : (xs : List Node) → total (λ (_ : ℕ). 1) (all_slots xs) ≡ total allocates xs
unfolding all_slots total
slots-long [] = refl
slots-long (x ∷ xs) = omega (arith, total-append (λ (_ : ℕ). 1) (slots_of x) (all_slots xs), from-long (slot_of x) (arguments_of x + 1), slots-long xs)

every-counted : (v : ℕ) (l : List ℕ) → ((slot : ℕ) → 1 ≤ count slot l → slot < v) → Every (λ slot. slot < v) l
unfolding Every total
every-counted v [] h = tt
every-counted v (x ∷ l) h = (h x (omega (arith, one_same x)), every-counted v l (λ slot k. h slot (omega arith)))

ones : (v : ℕ) → up_to (λ _. 1) v ≡ v
unfolding up_to
ones zero = refl
ones (suc v) = omega (arith, ones v)

-- THE LAW: at most V + 1 types, so at most 4,097
pub types-few : (i : Inputs) (b : Buffers) → refusal_of i b ≡ none → total allocates (visited_in i.image) + 1 ≤ 4097
types-few i b e =
    let p = passed i b e in
    let xs : List Node = visited_in i.image in
    let l : List ℕ = all_slots xs in
    omega (
      arith,
      slots-long xs,
      once_le (λ _. 1) (slot_count i.image) l (every-counted (slot_count i.image) l (λ slot k. visited-low p.image slot (omega (arith, slots-count slot xs))))
          (λ q. omega (arith, slots-count q xs, slots-once p.image p.claims q)),
      ones (slot_count i.image),
      p.image.most-slots,
    )
