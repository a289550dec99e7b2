-- `EachVisitedOnce`: after refusals 1 to 6 no node is visited twice and each owns its slots alone. How often a number is visited is how often
-- it is a root, and a visited part of a visited node; claims are made once; and parts have smaller numbers, so that by induction from the
-- largest number down each is visited at most once. Assumes nothing.
use Rattle.std.specs.Prelude.{ℕ, zero, suc, ◌+◌, ◌*◌, ◌≤◌, ◌<◌, ◌≡◌, refl}
use Rattle.std.proofs.Common.{arith, zero-mul, mul-zero, ◌∙◌}
use Rattle.std.proofs.Math.Decide.{dec_lt}
use Rattle.std.proofs.Math.Path.{ap}
use Rattle.std.proofs.Math.Option.{none}
use mathlib.Core.List.{List, [], ◌∷◌, map}
use Rattle.ast.specs.Image.{node_count, root_count, node_place}
use Rattle.ast.specs.Node.{Node, first_roots, roots_of, slot_of}
use Rattle.ast.specs.Claims.{count_from, claims_fault}
use Rattle.image_laws.specs.OutlineAt.{parts_at, outline_at, outlines_in}
use Rattle.image_laws.proofs.PartsBelow.{Below, no-parts, part, parts_below}
use Rattle.image_laws.proofs.Accepted.{Accepted}
use Rattle.refusals.specs.Inputs.{Inputs, Buffers}
use Rattle.refusals.specs.Refusals.{refusal_of}
use Rattle.rules.specs.Visited.{visited_in, number_of, arguments_of, slots_of, all_slots, visited_slots}
use Rattle.rules.specs.Promises.{Every, VisitedOnce}
use Rattle.accepts.specs.Count.{total, total-append, total-map, total_le, up_to, one, one-other, count, count-twice, once_le, count-high}
use Rattle.accepts.proofs.Passed.{passed}
use Rattle.accepts.specs.ClaimedOnce.{in_parts, in_owned, claimed_once, owned-once}
use Rattle.accepts.specs.VisitedParts.{visited_parts}
use Rattle.accepts.proofs.VisitedParts.{as_part, among_sum}
use Rattle.accepts.proofs.OfImage.{OfImage, of_image, nodes-numbers}
use Rattle.accepts.specs.VisitedOf.{visited-every}

-- how often some nodes own a slot
pub slots-count : (slot : ℕ) (xs : List Node) → count slot (all_slots xs) ≡ total (λ x. count slot (slots_of x)) xs
unfolding all_slots total
slots-count slot [] = refl
slots-count slot (x ∷ xs) = omega (arith, total-append (one slot) (slots_of x) (all_slots xs), slots-count slot xs)

-- a number at least as large as all of a list
below_none : (m n : ℕ) (ps : List ℕ) → Below n ps → n ≤ m → count m ps ≡ 0
unfolding total
below_none m n ps no-parts h = refl
below_none m n ps (part {p = p} {ps = qs} l b) h = omega (arith, one-other m p (λ e. omega arith), below_none m n qs b h)

module _ {text image : List ℕ} (a : Accepted text image) (passes : claims_fault (outlines_in image).roots (outlines_in image).nodes ≡ none) where
  -- the visited numbers
  abbrev pub visits : List ℕ
  visits = map number_of (visited_in image)

  pub of-visited : Every (OfImage image) (visited_in image)
  of-visited = visited-every a (OfImage image) (of_image a)

  every-number : (xs : List Node) → Every (OfImage image) xs → Every (λ p. p < node_count image) (map number_of xs)
  unfolding Every
  every-number [] e = tt
  every-number (x ∷ xs) e = (e.0.number, every-number xs e.1)

  low : Every (λ p. p < node_count image) visits
  low = every-number (visited_in image) of-visited

  -- how often m is visited
  visits_sum : (m : ℕ) → count m visits ≡ count m (outlines_in image).roots + as_part m (visited_in image)
  unfolding visited_in roots_of first_roots outlines_in
  visits_sum m =
      total-map (one m) number_of (visited_in image) ∙ (among_sum m (roots_of image) ∙ ap (λ (l : List ℕ). count m l + as_part m (visited_in image)) (nodes-numbers image (root_count image) 4))

  parts-visited : (m : ℕ) → as_part m (visited_in image) ≤ total (λ p. in_parts m (outline_at image p)) visits
  parts-visited m =
      omega (
        arith,
        total_le (OfImage image) (λ x. count m (visited_parts x)) (λ x. in_parts m (outline_at image (number_of x))) (λ x o. o.parts m) (visited_in image) of-visited,
        total-map (λ p. in_parts m (outline_at image p)) number_of (visited_in image),
      )

  -- "A part's number is smaller than its owner's."
  no_part : (m p : ℕ) → p < node_count image → p ≤ m → in_parts m (outline_at image p) ≡ 0
  unfolding outline_at
  no_part m p l h = below_none m p (parts_at image (node_place image p)) (parts_below (a.node p l)) h

  times : (c f : ℕ) → c ≤ 1 → c * f ≤ f
  times zero f h = rw (zero-mul f) (omega arith)
  times (suc zero) f h = omega arith
  times (suc (suc c)) f h = absurd (omega arith)

  none-times : (c f : ℕ) → f ≡ 0 → c * f ≤ f
  none-times c f e = rw (e, mul-zero c) (omega arith)

  -- from the largest number down
  once-from : (d m : ℕ) → node_count image ≤ m + d → count m visits ≤ 1
  once-from zero m h = omega (arith, count-high m (node_count image) visits low (omega arith))
  once-from (suc d) m h =
      omega (
        arith,
        visits_sum m,
        parts-visited m,
        claimed_once image passes m,
        once_le (λ p. in_parts m (outline_at image p)) (node_count image) visits low (λ p. owner p (λ q. once-from d p (omega arith))),
      )
    where
      owner : (p : ℕ) → (m < p → count p visits ≤ 1) → count p visits * in_parts m (outline_at image p) ≤ in_parts m (outline_at image p)
      owner p above = elim (dec_lt m p) [
        | yes q ↦ times (count p visits) (in_parts m (outline_at image p)) (above q)
        | no q ↦ elim (dec_lt p (node_count image)) [
          | yes l ↦ none-times (count p visits) (in_parts m (outline_at image p)) (no_part m p l (omega arith))
          | no l ↦ times (count p visits) (in_parts m (outline_at image p)) (omega (arith, count-high p (node_count image) visits low (omega arith)))
        ]
      ]

  -- THE LAW: no number is visited twice.
  pub visited-once : (m : ℕ) → count m visits ≤ 1
  visited-once m = once-from (node_count image) m (omega arith)

  -- what is counted node by node is counted no more often than over all nodes
  pub visited_le : (f : Node → ℕ) (g : ℕ → ℕ) → ((x : Node) → OfImage image x → f x ≤ g (number_of x)) → total f (visited_in image) ≤ up_to g (node_count image)
  visited_le f g h =
      omega (
        arith,
        total_le (OfImage image) f (λ x. g (number_of x)) h (visited_in image) of-visited,
        total-map g number_of (visited_in image),
        once_le g (node_count image) visits low (λ p. times (count p visits) (g p) (visited-once p)),
      )

  -- no slot is owned twice
  pub slots-once : (slot : ℕ) → total (λ x. count slot (slots_of x)) (visited_in image) ≤ 1
  slots-once slot =
      omega (
        arith,
        owned-once image passes slot,
        visited_le (λ x. count slot (slots_of x)) (λ p. in_owned slot (outline_at image p)) (λ x o. omega (arith, ap (λ (l : List ℕ). count slot l) o.slots)),
      )

-- a node's own slot is one of those that it owns
pub own-slot : (slot : ℕ) (x : Node) → one slot (slot_of x) ≤ count slot (slots_of x)
unfolding total count_from
own-slot slot x = first (arguments_of x)
  where
    first : (n : ℕ) → one slot (slot_of x) ≤ count slot (count_from (slot_of x) (n + 1))
    first n = let e : n + 1 ≡ suc n = omega arith in rw e (omega arith)

pub each-visited-once : (i : Inputs) (b : Buffers) → refusal_of i b ≡ none → VisitedOnce i.image
unfolding total visited_slots
each-visited-once i b e =
    let p = passed i b e in
    record {
      numbers = count-twice [] (map number_of (visited_in i.image)) (λ m. omega (arith, visited-once p.image p.claims m));
      slots = count-twice [] (visited_slots i.image) (λ m. omega (arith, slots-once p.image p.claims m, slots-count m (visited_in i.image)));
    }
