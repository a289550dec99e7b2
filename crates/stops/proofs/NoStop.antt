-- "after refusals 1 to 6": the walk with every stop of the Rust in its place, `already_checked` and the frames of the environment does what the
-- walk does, so that none of them is ever met. Assumes nothing.
use Rattle.std.specs.Prelude.{ℕ, ◌+◌, ◌≤◌, ◌<◌, ◌≡◌}
use Rattle.std.proofs.Common.{arith, sym, ◌∙◌}
use Rattle.std.proofs.Math.Decide.{ℕ_discrete}
use Rattle.std.proofs.Math.Path.{refl}
use Rattle.std.proofs.Math.Option.{none}
use mathlib.Core.List.{List, [], ◌∷◌}
use Rattle.tok.specs.Step.{Result, ok, refused, Refusal, next}
use Rattle.library.specs.Package.{pool_of}
use Rattle.ast.specs.Image.{node_count, root_count, slot_count}
use Rattle.ast.specs.Node.{Node, done, roots_of, tree_of}
use Rattle.ast.specs.Claims.{slots_owned}
use Rattle.image_laws.specs.OutlineAt.{outline_at}
use Rattle.image_laws.proofs.PartsBelow.{slots-below}
use Rattle.image_laws.proofs.Accepted.{Accepted}
use Rattle.refusals.specs.Inputs.{Inputs, Buffers, texts_in}
use Rattle.refusals.specs.Refusals.{refusal_of}
use Rattle.rules.specs.declared.Answer.{Answer}
use Rattle.rules.specs.declared.Answer.TheVariants.{Known}
use Rattle.rules.specs.World.{World, Walk}
use Rattle.rules.specs.Steps.{Done, skip}
use Rattle.rules.specs.Rules.{last}
use Rattle.rules.specs.Visited.{visited_in, slots_of}
use Rattle.rules.specs.Walk.{ctx_of, start_of, copy_pool, measure, walk_first, walk, walk_of}
use Rattle.rules.specs.Promises.{Every}
use Rattle.laws.specs.Keeps.{Keeps, kept, stopped}
use Rattle.laws.specs.RulesKeep as K
use Rattle.laws.specs.Grow.{Walked, walk_grows}
use Rattle.tworuns.specs.Walk.{over}
use Rattle.tworuns.specs.Accepted.{TypeOf, library_types, fresh_start}
use Rattle.library_laws.specs.Types.{library-types}
use Rattle.accepts.specs.Count.{total, count}
use Rattle.accepts.proofs.OfImage.{of_image, tree-number}
use Rattle.accepts.specs.VisitedOf.{visited-every}
use Rattle.accepts.proofs.Once.{slots-once}
use Rattle.accepts.proofs.OtherSlots.{owned}
use Rattle.accepts.proofs.LowSlots.{low-slots, counted-low}
use Rattle.accepts.specs.Passed.{Passed}
use Rattle.accepts.proofs.Passed.{passed}
use Rattle.onerun.specs.Claim.{NameAt}
use Rattle.onerun.specs.Proper.{ProperAll}
use Rattle.onerun.proofs.Walk.{Ends, ends, walk_ends}
use Rattle.clean.proofs.ProperTrees.{roots-proper}
use Rattle.clean.proofs.LibraryTypes.{library-ok}
use Rattle.clean.proofs.Walked.{script-name}
use Rattle.stops.specs.Guarded.{last_or_stop, walk_or_stop}
use Rattle.stops.specs.Ready.{Fits, fits, Ready, ready-then, Leaves, Any, leaves_kept}
use Rattle.stops.specs.Past.{run, quiet, next-same}
use Rattle.stops.proofs.Same.{same-last}

-- ── Before the walk no slot of the nodes to be visited has a type ──

record Low (v : ℕ) (x : Node) : Type 0 where
  low : (slot : ℕ) → 1 ≤ count slot (slots_of x) → slot < v

all-low : (v : ℕ) (xs : List Node) → Every (Low v) xs → (slot : ℕ) → 1 ≤ owned slot xs → slot < v
unfolding total Every
all-low v [] e slot l = absurd (omega arith)
all-low v (x ∷ xs) e slot l = elim (ℕ_discrete (count slot (slots_of x)) 0) [
  | yes z ↦ all-low v xs e.1 slot (omega arith)
  | no z ↦ e.0.low slot (omega arith)
]

node-low : {text image : List ℕ} (a : Accepted text image) (n : ℕ) → n < node_count image → Low (slot_count image) (tree_of image n)
unfolding slots_owned outline_at
node-low {text} {image} a n l = record {
  low = λ slot h.
      let o = of_image a n l in
      let e = slots-below (a.node n l) in
      let k = counted-low slot _ _ (rw (o.slots, tree-number image n) at h) in
      omega arith;
}

-- "slots (an Fn's argument slots too) below V"
pub visited-low : {text image : List ℕ} → Accepted text image → (slot : ℕ) → 1 ≤ owned slot (visited_in image) → slot < slot_count image
visited-low {text} {image} a = all-low (slot_count image) (visited_in image) (visited-every a (Low (slot_count image)) (node-low a))

module _ (i : Inputs) (b : Buffers) (p : Passed i b) where
  start-ready : Ready (start_of i b) (visited_in i.image)
  start-ready = record {
    once = slots-once p.image p.claims;
    unset = λ slot l. (fresh_start i b p.slots).empty slot (visited-low p.image slot l);
    fit = visited-every p.image Fits (fits p.image);
  }

  -- ── The walk ──

  roots : ProperAll (λ slot. slot < slot_count i.image) (NameAt (run (ctx_of i))) (roots_of i.image)
  unfolding ctx_of
  roots = roots-proper (texts_in i) p.image (NameAt (run (ctx_of i))) (λ at n l. script-name (texts_in i) i.image at n)

  -- the world once the pool is copied and the library's types are measured, before any root
  before-roots : Ends (run (ctx_of i)) done (over (ctx_of i) (node_count i.image) (pool_of i.library) (library_types i.library) done (start_of i b))
  unfolding ctx_of TypeOf ProperAll
  before-roots =
      walk_ends (run (ctx_of i)) (pool_of i.library) (node_count i.image) (library_types i.library) (library-types (texts_in i) i.library p.library)
      (library-ok (run (ctx_of i)) i.library p.library (λ f m. tt)) done tt (fresh_start i b p.slots)

  abbrev ys : List Node
  ys = visited_in i.image

  pool_leaves : Keeps (Leaves ys) Any (start_of i b) (copy_pool (node_count i.image) (pool_of i.library) (start_of i b))
  unfolding copy_pool
  pool_leaves = K.at-when (leaves_kept ys) _ _ _ (start_of i b) (λ _. kept (record { left = λ q l. refl })) (λ _. stopped tt)

  -- what is walked once the pool is copied and measured: nothing, the roots, and the roots with the stops
  abbrev void : Answer
  void = Known (slot_count i.image)

  abbrev nothing : Walk Answer
  nothing = last (ctx_of i) void done

  abbrev rooted : Walk Answer
  rooted = last (ctx_of i) void (roots_of i.image)

  abbrev guarded : Walk Answer
  guarded = last_or_stop (ctx_of i) 1 void (roots_of i.image)

  -- that walk, after a step of the world alone; and after the library's types are measured
  abbrev walked : Walk Answer → Done → Walk Done
  walked m _ u = next (m u) (λ _. skip)

  abbrev measured : Walk Answer → Done → Walk Done
  measured m _ t = next (measure (ctx_of i) (node_count i.image) (library_types i.library) t) (walked m)

  -- the roots, from the world that measuring left
  from-measured : {t : World} → Ready t ys → (y : Result World Refusal Done) → Keeps (Leaves ys) Any t y
      → Ends (run (ctx_of i)) done (next y (walked nothing)) → next y (walked guarded) ≡ next y (walked rooted)
  unfolding last visited_in ctx_of
  from-measured d (ok a u) (kept l) (ends h) = next-same (ctx_of i) _ (same-last (ctx_of i) 0 void (roots_of i.image) roots (ready-then [] ys d l) (h (quiet (ctx_of i))).holds)
  from-measured d (refused e) k h = refl

  from-copied : (y : Result World Refusal Done) → Keeps (Leaves ys) Any (start_of i b) y
      → Ends (run (ctx_of i)) done (next y (measured nothing)) → next y (measured guarded) ≡ next y (measured rooted)
  from-copied (ok a t) (kept l) h =
      from-measured (ready-then [] ys start-ready l) (measure (ctx_of i) (node_count i.image) (library_types i.library) t)
      (K.in_measure (leaves_kept ys) (ctx_of i) (node_count i.image) (library_types i.library) t) h
  from-copied (refused e) k h = refl

  walk_same : walk_or_stop i (start_of i b) ≡ walk_of i b
  unfolding walk_or_stop walk_of walk walk_first over roots_of ctx_of
  walk_same = from-copied (copy_pool (node_count i.image) (pool_of i.library) (start_of i b)) pool_leaves before-roots

-- THE THEOREM
pub no_stop : (i : Inputs) (b : Buffers) → refusal_of i b ≡ none → walk_or_stop i (start_of i b) ≡ walk_of i b
no_stop i b e = walk_same i b (passed i b e)

-- So it is refused with 7, 8 or 9 alone: with no stop's number.
refused_with_lem : {R : World → World → Type 0} {Q : ℕ → Type 0} {A : Type 0} {s : World} {x : Result World Refusal A} {r : Refusal} → Keeps R Q s x → x ≡ refused r → Q r.number
refused_with_lem {R} {Q} {A} {s} {x} {r} h e = go (rw e at h)
  where
    go : Keeps R Q s {A = A} (refused r) → Q r.number
    go (stopped q) = q

pub stops-never : (i : Inputs) (b : Buffers) → refusal_of i b ≡ none → (r : Refusal) → walk_or_stop i (start_of i b) ≡ refused r → Walked r.number
unfolding walk_of walk roots_of
stops-never i b e r h =
    let p = passed i b e in
    refused_with_lem (walk_grows (slot_count i.image) i b (root_count i.image) (low-slots p.image (λ slot. slot < slot_count i.image + 1) (λ slot l. omega arith))) (sym (no_stop i b e) ∙ h)
