-- `Extends`: what is read from the extended words. The old packages and roots are read as before, and new nodes own other slots than the
-- visited old ones, since in the extended image no slot is owned twice. Assumes nothing.
use Rattle.std.specs.Prelude.{ℕ, ◌+◌, ◌≤◌, ◌≡◌, List, ◌++◌, length}
use native.Mathlib.Omega.{arith}
use Rattle.std.proofs.Math.Path.{ap}
use Rattle.std.proofs.Common.{◌∙◌}
use Rattle.library.specs.Package.{packages_from}
use Rattle.ast.specs.Image.{root_count}
use Rattle.ast.specs.Node.{Nodes, tree_of, nodes_from, first_roots, roots_of}
use Rattle.refusals.specs.Inputs.{Inputs, Buffers}
use Rattle.rules.specs.Visited.{visited_among, visited_in, slots_of, visited_slots}
use Rattle.rules.specs.Promises.{MoreStatements}
use Rattle.laws.specs.SlotsOf.{SlotsOfAll}
use Rattle.tworuns.specs.Split.{nodes-joined}
use Rattle.tworuns.specs.Kept.{New}
use Rattle.tworuns.specs.Larger.{OwnedIn, here, further, roots_after, Extends}
use Rattle.library_laws.specs.Packages.{packages_extended}
use Rattle.accepts.specs.Count.{total, total-append, one, one_same, count}
use Rattle.accepts.specs.Passed.{Passed}
use Rattle.accepts.proofs.Passed.{passed}
use Rattle.accepts.proofs.Once.{slots-count, slots-once}
use Rattle.accepts.specs.LongerImage.{roots-more, roots_kept}
use Rattle.accepts.proofs.OtherSlots.{owned, visited-joined, among-hold}

-- a slot of a list is counted there
owned_in : {slot : ℕ} {slots : List ℕ} → OwnedIn slot slots → 1 ≤ count slot slots
unfolding total
owned_in {slot} (here {x = x} e) = let o : one slot x ≡ 1 = rw e (one_same slot) in omega arith
owned_in (further h) = omega (arith, owned_in h)

module _ {i i' : Inputs} {b b' : Buffers} (m : MoreStatements i i') (p : Passed i b) (p' : Passed i' b') where
  abbrev after : Nodes
  after = roots_after i'.image (root_count i.image) (length m.roots)

  -- what is visited in the extended image: what was visited before, and what the new roots lead to
  all-visited : visited_in i'.image ≡ visited_in i.image ++ visited_among after
  unfolding visited_in roots_of first_roots
  all-visited =
      ap (λ (n : ℕ). visited_among (nodes_from (tree_of i'.image) i'.image 4 n)) (roots-more m p.image p'.image)
      ∙ (ap visited_among (nodes-joined (tree_of i'.image) i'.image 4 (root_count i.image) (length m.roots))
      ∙ (visited-joined (first_roots i'.image (root_count i.image)) after ∙ ap (λ (xs : Nodes). visited_among xs ++ visited_among after) (roots_kept m p.image p'.image)))

  pub others : SlotsOfAll (New (λ slot. OwnedIn slot (visited_slots i.image))) after
  unfolding visited_slots
  others =
      among-hold (New (λ slot. OwnedIn slot (visited_slots i.image))) after
      (record {
        holds = λ slot l o.
            omega (
              arith,
              owned_in o,
              slots-count slot (visited_in i.image),
              slots-once p'.image p'.claims slot,
              ap (owned slot) all-visited,
              total-append (λ x. count slot (slots_of x)) (visited_in i.image) (visited_among after),
            );
      })

-- THE LAW
pub extends : Extends
unfolding Extends
extends i i' b b' mp ms e e' =
    let p = passed i b e in
    let p' = passed i' b' e' in
    record {
      more = packages_from i'.library (length i.library + length mp.pool) mp.count;
      packages = packages_extended i i' mp p.library;
      roots = roots_kept ms p.image p'.image;
      others = others ms p p';
    }
