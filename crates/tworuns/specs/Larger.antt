-- "Suppose further that any or all of this is done at once": packages after the library's last, statements after the script's last,
-- longer buffers. The walk of the old roots goes as before, and what follows keeps what it left. Assumes what refusals 1 to 6 leave
-- (`Accepts`), and that old packages and roots are read from the extended words as before (`Extends`).
use Prim.Native.Nat.{ℕ, ◌+◌, ◌-◌}
use Rattle.std.proofs.Math.Path.{◌≡◌}
use Rattle.std.proofs.Math.Option.{none}
use mathlib.Core.List.{List, ◌∷◌, ◌++◌}
use Rattle.std.proofs.Math.ListN.{length}
use Rattle.tok.specs.Step.{ok}
use Rattle.ast.specs.Image.{root_count}
use Rattle.ast.specs.Node.{Nodes, tree_of, nodes_from, first_roots, roots_of}
use Rattle.library.specs.Package.{Package, packages_of}
use Rattle.refusals.specs.Inputs.{Inputs, Buffers}
use Rattle.refusals.specs.Refusals.{refusal_of}
use Rattle.rules.specs.World.{World}
use Rattle.rules.specs.Visited.{visited_slots}
use Rattle.rules.specs.Walk.{walk_of}
use Rattle.rules.specs.Check.{end_of, check_of}
use Rattle.rules.specs.Promises.{MorePackages, MoreStatements}
use Rattle.laws.specs.SlotsOf.{SlotsOfAll}
use Rattle.tworuns.specs.Runs.{own}
use Rattle.tworuns.specs.Kept.{New}

-- a slot of those that are owned
pub data OwnedIn (slot : ℕ) : List ℕ → Type 0 where
  here : {x : ℕ} {xs : List ℕ} → x ≡ slot → OwnedIn slot (x ∷ xs)
  further : {x : ℕ} {xs : List ℕ} → OwnedIn slot xs → OwnedIn slot (x ∷ xs)

-- the roots after the first k
abbrev pub roots_after : (image : List ℕ) → (k more : ℕ) → Nodes
roots_after image k more = nodes_from (tree_of image) image (4 + k) more

-- What is read from the extended words: the old packages and roots as before, and new nodes own other slots than the visited old ones.
pub record Extended (i i' : Inputs) (newRoots : ℕ) : Type 0 where
  pub more : List Package
  pub packages : packages_of i'.library ≡ packages_of i.library ++ more
  pub roots : first_roots i'.image (root_count i.image) ≡ roots_of i.image
  pub others : SlotsOfAll (New (λ slot. OwnedIn slot (visited_slots i.image))) (roots_after i'.image (root_count i.image) newRoots)

unfoldable pub Extends : Type 0
Extends =
    (i i' : Inputs) (b b' : Buffers) → MorePackages i i' → (m : MoreStatements i i') → refusal_of i b ≡ none → refusal_of i' b' ≡ none
    → Extended i i' (length m.roots)

-- an answer is the walk's
pub record Ends (i : Inputs) (b : Buffers) : Type 0 where
  pub passed : refusal_of i b ≡ none
  pub world : World
  pub walked : walk_of i b ≡ ok tt world
  pub ended : check_of i b ≡ end_of b (ok tt world)
