-- What stays during the walk, of inputs that pass refusals 1 to 6; and what the first root's visit asks for. Assumes nothing.
use Rattle.std.specs.Prelude.{ℕ, ◌≤◌, ◌≡◌, refl, Bool, true, false, cond, List, [], ◌∷◌, map, length, ltb}
use native.Mathlib.Omega.{arith}
use Rattle.std.proofs.Math.Option.{Option, none, some}
use Rattle.std.proofs.Common.{ltb-false}
use Rattle.tok.specs.Text.{Texts}
use Rattle.tok.specs.Step.{ok, Refusal, next}
use Rattle.ptype.specs.Words.{ty_of}
use Rattle.library.specs.Package.{Param, Signature, pool_of, packages_of}
use Rattle.library.specs.Accepted.{library-fine}
use Rattle.ast.specs.Image.{node_count, slot_count}
use Rattle.ast.specs.Node.{roots_of}
use Rattle.refusals.specs.Inputs.{Inputs, Buffers, texts_in}
use Rattle.refusals.specs.Refusals.{scratch_words, scratch_fault, or_else, refusal_of}
use Rattle.rules.specs.Walk.{start_of, param_types, copy_pool, measure}
use Rattle.tworuns.specs.Accepted.{TypeOf, library_types, fresh_start}
use Rattle.library_laws.specs.Types.{library-types}
use Rattle.library_laws.specs.Slots.{slots_in}
use Rattle.library_laws.specs.Room.{RoomFor}
use Rattle.accepts.specs.Passed.{Passed}
use Rattle.accepts.proofs.Passed.{passed}
use Rattle.onerun.specs.Claim.{Holds, NameAt}
use Rattle.onerun.proofs.Walk.{begun-holds}
use Rattle.clean.proofs.ProperTrees.{type-proper, tree-proper}
use Rattle.clean.proofs.LibraryTypes.{library-ok}
use Rattle.clean.proofs.Walked.{script-name}
use Rattle.state.specs.declared.Used.{Used}
use Rattle.state.specs.Context.{ctx}
use Rattle.state.specs.Signatures.{entries_end}
use Rattle.places.specs.Places.{places_of}
use Rattle.places.specs.Placed.{image-placed}
use Rattle.visit.specs.declared.State.{State}
use Rattle.visit.specs.Whole.{Lent, whole}
use Rattle.visit.specs.Reach.{held_reach}
use Rattle.room_laws.specs.Room.{rooms, rows_all}
use Rattle.room_laws.proofs.Bounds.{scratch-room, functions-room}
use Rattle.ready.specs.Ready.{slots_among, PairsFit, walk_run, Given, Ready}
use Rattle.ready.specs.Given.{start_state}

-- ── What stays ──

-- THE LAW of what stays
pub given : (i : Inputs) (b : Buffers) → Passed i b → Given (texts_in i) i.image (places_of i.image) i.library
given i b p = record {
  readable = record { text = i.script; accepted = p.image; placed = image-placed p.image };
  proper = tree-proper (texts_in i) p.image (NameAt (walk_run (texts_in i) i.image i.library)) (λ at n l. script-name (texts_in i) i.image at n);
  types = type-proper (texts_in i) p.image (NameAt (walk_run (texts_in i) i.image i.library)) (λ at n l. script-name (texts_in i) i.image at n);
  library = library-fine (texts_in i) i.library p.library;
}

-- ── The beginning ──

-- the slots of a signature, by its types or by their trees
slots_same : (t : Texts) (pool : List ℕ) (ps : List Param) → slots_in t pool (param_types ps) ≡ slots_among (map (λ a. ty_of t pool a.type) ps)
unfolding slots_in param_types slots_among
slots_same t pool [] = refl
slots_same t pool (p ∷ ps) = rw (slots_same t pool ps) refl

pairs-fit : (t : Texts) (pool : List ℕ) (f : Signature) → RoomFor t pool f → PairsFit (map (λ a. ty_of t pool a.type) f.params)
pairs-fit t pool f m = record { most = λ bs h. m.most bs (rw (slots_same t pool f.params) h) }

-- "1: scratch below 16,384 words"
scratch-long : (i : Inputs) (b : Buffers) → refusal_of i b ≡ none → 16384 ≤ length b.scratch
unfolding refusal_of scratch_fault or_else
scratch-long i b e = by (ltb (length b.scratch) scratch_words) refl _ e
  where
    by : (t : Bool) → ltb (length b.scratch) scratch_words ≡ t → (later : Option Refusal) → or_else 1 (cond t (some 0) none) later ≡ none → 16384 ≤ length b.scratch
    by true q later e = let z : ◌≡◌ {A = ℕ} 0 1 = cc e in absurd (omega arith)
    by false q later e = ltb-false (length b.scratch) scratch_words q

module _ (i : Inputs) (b : Buffers) (e : refusal_of i b ≡ none) where
  -- Where the pool was copied and every type of the library measured, the claim holds.
  start-holds : (u : Used) (b' : Lent)
      → next (copy_pool (node_count i.image) (pool_of i.library) (start_of i b))
      (λ _. measure (ctx (texts_in i) (packages_of i.library) (slot_count i.image)) (node_count i.image) (library_types i.library))
      ≡ ok tt (whole i.library (start_state u) b')
      → Holds (walk_run (texts_in i) i.image i.library) (whole i.library (start_state u) b')
  unfolding TypeOf
  start-holds u b' q =
      let p = passed i b e in
      begun-holds (walk_run (texts_in i) i.image i.library) (pool_of i.library) (library_types i.library) (library-types (texts_in i) i.library p.library)
      (library-ok (walk_run (texts_in i) i.image i.library) i.library p.library (λ f m w. pairs-fit (texts_in i) (pool_of i.library) f m))
      (fresh_start i b p.slots) (node_count i.image) q

  -- THE LAW of the beginning: what the roots' visit asks for, in buffers as long as the lent ones
  pub ready-start : (u : Used) (b' : Lent)
      → next (copy_pool (node_count i.image) (pool_of i.library) (start_of i b))
      (λ _. measure (ctx (texts_in i) (packages_of i.library) (slot_count i.image)) (node_count i.image) (library_types i.library))
      ≡ ok tt (whole i.library (start_state u) b')
      → length b'.functions ≡ length b.functions → length b'.scratch ≡ length b.scratch
      → Ready (texts_in i) i.image (places_of i.image) i.library (rooms (roots_of i.image)) (rows_all (roots_of i.image)) (start_state u) b'
  unfolding held_reach entries_end
  ready-start u b' q ef es =
      let p = passed i b e in
      let s = scratch-long i b e in
      record {
        given = given i b p;
        holds = start-holds u b' q;
        free = record { between = omega (arith, scratch-room i b p); few = omega arith; ends = omega arith; long = omega arith };
        rows = record { after = omega (arith, functions-room i b p) };
        long = omega arith;
      }
