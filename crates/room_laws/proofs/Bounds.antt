-- For inputs that pass refusals 1 to 6: the walk takes at most 8,192 words of scratch, and no more words of the functions buffer than are
-- lent. No node is visited twice, and each takes no more than its record is long. Assumes nothing.
use Prim.Native.Nat.{ℕ, zero, suc, ◌+◌, ◌*◌, ◌≤◌, ◌<◌}
use native.Mathlib.Omega.{arith}
use Rattle.std.proofs.Common.{zero-mul}
use Rattle.std.specs.Prelude.{◌≡◌, List, [], ◌∷◌, map, length}
use Rattle.std.proofs.Math.Option.{none}
use Rattle.ast.specs.Image.{node_count, root_count, node_place, record_length}
use Rattle.ast.specs.Node.{Node, roots_of}
use Rattle.ast.specs.Room.{entry_words}
use Rattle.ast.specs.Claims.{claims_fault}
use Rattle.image_laws.specs.OutlineAt.{outline_at, outlines_in}
use Rattle.image_laws.proofs.Accepted.{Accepted}
use Rattle.refusals.specs.Inputs.{Inputs, Buffers}
use Rattle.rules.specs.Visited.{visited_in, number_of}
use Rattle.rules.specs.Promises.{Every}
use Rattle.accepts.specs.Count.{total-map, total_le, count, once_le}
use Rattle.accepts.specs.Passed.{Passed}
use Rattle.accepts.specs.ClaimedOnce.{entries_sum}
use Rattle.accepts.specs.VisitedParts.{entry_length}
use Rattle.accepts.proofs.OfImage.{tree-number}
use Rattle.accepts.specs.VisitedOf.{visited-every}
use Rattle.accepts.proofs.Once.{visits, visited-once, visited_le}
use Rattle.room_laws.specs.Room.{rooms, rows_all}
use Rattle.room_laws.specs.Sums.{own_room}
use Rattle.room_laws.proofs.Sums.{rooms_sum, rows_sum}
use Rattle.room_laws.proofs.Records.{own_room_lem, records_within}

-- a visited node: its number is below N, and it takes no more than its record is long
record Short (image : List ℕ) (x : Node) : Type 0 where
  number : number_of x < node_count image
  room : own_room x ≤ record_length image (node_place image (number_of x))

numbers-low : (image : List ℕ) (xs : List Node) → Every (Short image) xs → Every (λ p. p < node_count image) (map number_of xs)
unfolding Every
numbers-low image [] e = tt
numbers-low image (x ∷ xs) e = (e.0.number, numbers-low image xs e.1)

at-most-once : (c f : ℕ) → c ≤ 1 → c * f ≤ f
at-most-once zero f h = rw (zero-mul f) (omega arith)
at-most-once (suc zero) f h = omega arith
at-most-once (suc (suc c)) f h = absurd (omega arith)

module _ {text image : List ℕ} (a : Accepted text image) (passes : claims_fault (outlines_in image).roots (outlines_in image).nodes ≡ none) where
  short : Every (Short image) (visited_in image)
  short = visited-every a (Short image) (λ n l. record { number = rw (tree-number image n) l; room = rw (tree-number image n) (own_room_lem a n l) })

  -- with the counts and the roots it is no more than the image is long
  pub rooms-image : 4 + root_count image + rooms (roots_of image) ≤ length image
  unfolding visited_in
  rooms-image =
      let f : ℕ → ℕ = λ n. record_length image (node_place image n) in
      omega (
        arith,
        rooms_sum (roots_of image),
        total_le (Short image) own_room (λ x. f (number_of x)) (λ x s. s.room) (visited_in image) short,
        total-map f number_of (visited_in image),
        once_le f (node_count image) (visits a passes) (numbers-low image (visited_in image) short) (λ p. at-most-once (count p (visits a passes)) (f p) (visited-once a passes p)),
        records_within a,
      )

module _ (i : Inputs) (b : Buffers) (p : Passed i b) where
  -- THE LAW of scratch
  pub scratch-room : rooms (roots_of i.image) ≤ 8192
  scratch-room = omega (arith, rooms-image p.image p.claims, p.image.most-words)

  -- THE LAW of the functions buffer
  pub functions-room : rows_all (roots_of i.image) ≤ length b.functions
  unfolding visited_in
  functions-room =
      omega (
        arith,
        rows_sum (roots_of i.image),
        p.functions,
        entries_sum i.image,
        visited_le p.image p.claims entry_length (λ n. entry_words (outline_at i.image n)) (λ x o. omega (arith, o.entry)),
      )
