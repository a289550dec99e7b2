-- What every visit of the walk asks for (docs/WALK.md, "Contracts"): an accepted image with its places and an accepted library, a world of
-- which the run's claim holds, and room for the tree. Definitions.
use Rattle.std.specs.Prelude.{ℕ, ◌≤◌, ◌<◌, ◌≡◌, true, List, [], ◌∷◌, ◌++◌, length}
use Rattle.std.proofs.lemmas.Bool.{false≢true}
use Rattle.tok.specs.Text.{Texts}
use Rattle.ptype.specs.Ty.{Ty}
use Rattle.ptype.specs.Slots.{Binding}
use Rattle.library.specs.Slots.{slot_names}
use Rattle.library.specs.Package.{packages_of}
use Rattle.library.specs.Accepted.{LibraryFine}
use Rattle.ast.specs.Image.{node_count, type_count, slot_count}
use Rattle.ast.specs.TypeExpr.{type_of}
use Rattle.ast.specs.Node.{tree_of}
use Rattle.accepts.proofs.Fresh.{visited_from, Fresh}
use Rattle.library_laws.specs.Bindings.{Held}
use Rattle.library_laws.specs.Room.{most_pairs}
use Rattle.onerun.specs.Claim.{Run, NameAt, Holds}
use Rattle.onerun.proofs.Functions.{Below}
use Rattle.onerun.specs.Proper.{ProperType, Proper}
use Rattle.state.specs.Context.{ctx}
use Rattle.places.specs.Readable.{Readable}
use Rattle.places.specs.NodesAt.{NodeReady}
use Rattle.visit.specs.declared.State.{State}
use Rattle.visit.specs.Whole.{Lent, whole}
use Rattle.visit.specs.Free.{Free, FreeRows}
use Rattle.room_laws.specs.Room.{room, rows}

-- the names of the slots in some types
unfoldable pub slots_among : List Ty → List (List ℕ)
slots_among [] = []
slots_among (x ∷ xs) = slot_names x ++ slots_among xs

-- However arguments of these types are bound, 4,096 pairs are enough.
pub record PairsFit (xs : List Ty) : Type 0 where
  pub most : (bs : List Binding) → Held (slots_among xs) bs → length bs ≤ most_pairs

-- The run whose claim the walk relies on: every recorded word means a type, diagnostics or not, and a call of a function with slots has
-- room for its bindings.
abbrev pub walk_run : Texts → (image words : List ℕ) → Run
walk_run T image words = record {
  ctx = ctx T (packages_of words) (slot_count image);
  clean = ⊥;
  sig = λ f xs. f.with_slots ≡ true → PairsFit xs;
  plain = λ ps ret xs e. absurd (false≢true e);
}

-- What stays during the walk: the image is accepted, with the places of its records; its trees and types own slots below V and have names
-- of the script; the library is accepted.
pub record Given (T : Texts) (image places words : List ℕ) : Type 0 where
  pub readable : Readable image places
  pub proper : (n : ℕ) → n < node_count image → Proper (Below (walk_run T image words)) (NameAt (walk_run T image words)) (tree_of image n)
  pub types : (t : ℕ) → t < type_count image → ProperType (Below (walk_run T image words)) (NameAt (walk_run T image words)) (type_of image t)
  pub library : LibraryFine T words

-- What a step of the walk asks for that takes at most r words of scratch and w words of the functions buffer.
pub record Ready (T : Texts) (image places words : List ℕ) (r w : ℕ) (st : State) (b : Lent) : Type 0 where
  pub given : Given T image places words
  pub holds : Holds (walk_run T image words) (whole words st b)
  pub free : Free r st b.scratch
  pub rows : FreeRows w st b.functions
  -- refusal 1: "scratch below 16,384 words"
  pub long : 16384 ≤ length b.scratch

-- What the visit of node n asks for.
pub record NodeVisit (T : Texts) (image places words : List ℕ) (n : ℕ) (st : State) (b : Lent) : Type 0 where
  pub below : n < node_count image
  pub ready : Ready T image places words (room (tree_of image n)) (rows (tree_of image n)) st b
  -- "a slot owned twice" is refused, and no node visited here was visited before: its slots have no type yet
  pub fresh : Fresh (visited_from (tree_of image n)) b.slots

-- the node's record can be read
pub node-ready : {T : Texts} {image places words : List ℕ} {n : ℕ} {st : State} {b : Lent} → NodeVisit T image places words n st b → NodeReady image places n
node-ready v = record { readable = v.ready.given.readable; below = v.below }
