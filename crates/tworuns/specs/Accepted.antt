-- What the theorems of two runs take from refusals 1 to 6: what inputs that pass them have. Definitions; and the world before the walk.
use Rattle.std.specs.Prelude.{ℕ, ◌+◌, ◌≤◌, ◌<◌, ◌≡◌, refl, List, [], ◌∷◌, ◌++◌, length, replicate}
use Rattle.std.proofs.Common.{zero-add, arith, sym, ◌∙◌, length-append}
use Rattle.std.proofs.Math.Path.{ap}
use Rattle.std.proofs.Math.Option.{none}
use Rattle.std.proofs.Math.ListN.{get_or, get_or-append}
use Rattle.std.proofs.lemmas.List.{length-replicate, get_or-replicate, get_or_at}
use Rattle.tok.specs.Text.{Texts}
use Rattle.tok.specs.Step.{ok}
use Rattle.ptype.specs.Words.{void_word}
use Rattle.ptype.specs.Add.{write}
use Rattle.ptype.specs.Inside.{Throughout, Lies}
use Rattle.ast.specs.Image.{node_count, slot_count}
use Rattle.ast.specs.Node.{first_roots, roots_of}
use Rattle.library.specs.Package.{pool_of, packages_of}
use Rattle.refusals.specs.Inputs.{Inputs, Buffers, texts_in}
use Rattle.refusals.specs.Refusals.{refusal_of}
use Rattle.rules.specs.World.{World}
use Rattle.rules.specs.Names.{package_names}
use Rattle.rules.specs.Walk.{ctx_of, empty_slots, start_of, pool_types, package_types, walk_first, walk_of}
use Rattle.rules.specs.Promises.{Every}
use Rattle.laws.specs.Writes.{length-write}
use Rattle.tworuns.specs.Sound.{SoundAll}
use Rattle.tworuns.specs.Pool.{TypeFine}
use Rattle.tworuns.specs.Walk.{over, Fresh}
use Rattle.tworuns.specs.Written.{get_d_written}

-- a type word that refers into the pool and has its names in their text, all the way down
unfoldable pub TypeOf : Texts → (pool : List ℕ) → ℕ → Type 0
TypeOf t pool w = Throughout (TypeFine t pool (length pool)) pool 33 w

-- the types that are measured: those of the pool, and of the packages
abbrev pub library_types : (library : List ℕ) → List ℕ
library_types library = pool_types (pool_of library) ++ package_types (packages_of library)

pub record Accepted (i : Inputs) (b : Buffers) : Type 0 where
  -- refusals 3 and 4: what is visited owns slots below V, and its names lie in the script text
  pub roots : SoundAll (λ slot. slot < slot_count i.image) (Lies (texts_in i)) (roots_of i.image)
  -- refusal 2: the library's types and names
  pub types : Every (TypeOf (texts_in i) (pool_of i.library)) (library_types i.library)
  pub names : Every (Lies (texts_in i)) (package_names (packages_of i.library))
  -- refusal 6: room for slot V, and for an entry of each Fn that is visited
  pub slot_room : slot_count i.image < length b.slots
  pub function_room : (s : World) → walk_of i b ≡ ok tt s → s.functions.used ≤ length b.functions

-- "Numbers 1 to 6 are tried .. before the walk": what passes them has all of this.
unfoldable pub Accepts : Type 0
Accepts = (i : Inputs) (b : Buffers) → refusal_of i b ≡ none → Accepted i b

-- the walk of the first k roots
pub walk-over : (i : Inputs) (k : ℕ) → walk_first i k ≡ over (ctx_of i) (node_count i.image) (pool_of i.library) (library_types i.library) (first_roots i.image k)
unfolding walk_first over ctx_of
walk-over i k = refl

-- the slots before the walk: "0 where none; slot V is Void"
module _ (v : ℕ) (slots : List ℕ) (room : v < length slots) where
  abbrev first : List ℕ
  first = replicate v 0 ++ (void_word ∷ [])

  long : length first ≡ v + 1
  long = length-append (replicate v 0) (void_word ∷ []) ∙ ap (λ (n : ℕ). n + 1) (length-replicate {A = ℕ} v 0)

  empty-at : (a : ℕ) → a < v + 1 → get_or (empty_slots v slots) a 0 ≡ get_or first a 0
  unfolding empty_slots
  empty-at a l =
      let e = long in
      ap (λ (n : ℕ). get_or (write slots 0 first) n 0) (sym (zero-add a)) ∙ get_d_written slots 0 first (omega arith) a (omega arith)

  empty-below : (a : ℕ) → a < v → get_or (empty_slots v slots) a 0 ≡ 0
  empty-below a l =
      let e : length (replicate {A = ℕ} v 0) ≡ v = length-replicate {A = ℕ} v 0 in
      empty-at a (omega arith) ∙ (get_or-append (replicate v 0) (void_word ∷ []) 0 a (omega arith) ∙ get_or-replicate v a 0 0 l)

  empty-void : get_or (empty_slots v slots) v 0 ≡ void_word
  empty-void = empty-at v (omega arith) ∙ get_or_at (replicate v 0) void_word [] 0 v (length-replicate {A = ℕ} v 0)

-- the world before the walk
pub fresh_start : (i : Inputs) (b : Buffers) → slot_count i.image < length b.slots → Fresh (slot_count i.image) (start_of i b)
unfolding start_of empty_slots
fresh_start i b room = record {
  empty = empty-below (slot_count i.image) b.slots room;
  voids = empty-void (slot_count i.image) b.slots room;
  room = rw (length-write) room;
  env = refl;
  packages = refl;
  own = refl;
  diagnostics = refl;
  messages = refl;
}
