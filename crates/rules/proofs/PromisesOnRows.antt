-- The promises, computed on row (a), on a larger case of it and on a function: they can be met, and say what they should. Assumes nothing.
use Prim.Native.Nat.{ℕ, ◌*◌}
use mathlib.Core.Path.{◌≡◌, refl, sym, ap, ◌∙◌}
use mathlib.Core.List.{List, [], ◌∷◌}
use lib.ListN.{replicate, take, length}
use native.Mathlib.Omega.{arith}
use Rattle.tok.specs.Text.{text}
use Rattle.tok.specs.Step.{Result, ok, refused, Refusal}
use Rattle.refusals.specs.Inputs.{Inputs, Buffers, texts_in}
use Rattle.ast.specs.Image.{record_after, node_place}
use Rattle.rules.specs.Check.{Ended, end_of}
use Rattle.rules.specs.Run.{check_run, visited_run, slots_run, entries_run, walk_run, later_run}
use Rattle.rules.specs.World.{World}
use Rattle.rules.specs.Steps.{Done}
use Rattle.rules.specs.Walk.{walk_first, walk_later, start_of}
use Rattle.rules.specs.Visited.{visited_slots}
use Rattle.rules.specs.Promises.{type_in, entries_of, Every, AnsweredClean, HasConcreteType, MorePackages, MoreStatements, Kept, OldRootsSilent, fn_entries}
use Rattle.rules.specs.Functions.{head_of, fns_among}
use Rattle.rules.proofs.FunctionsOnRow.{functions-run}

-- row (a), `let a = 1`, and buffers just as long as it needs
small : Inputs
small = record {
  script = text "let a = 1";
  image = 2 ∷ 0 ∷ 1 ∷ 2 ∷ 1 ∷ 4 ∷ 0 ∷ 0xC0000801 ∷ 3 ∷ 0x40000004 ∷ 1 ∷ 0xC0000401 ∷ 0 ∷ [];
  library_text = [];
  library = 0 ∷ 0 ∷ [];
}

buffers : (slots others : ℕ) → Buffers
buffers v n = record {
  slots = replicate v 7;
  functions = replicate n 7;
  types = replicate n 7;
  diagnostics = replicate n 7;
  messages = replicate (100 * n) 7;
  scratch = replicate 16384 7;
}

-- one package `p` of no functions more, and one statement more, `[]`
large : Inputs
large = record {
  script = text "let a = 1\n[]";
  image = 3 ∷ 0 ∷ 2 ∷ 3 ∷ 1 ∷ 2 ∷ 4 ∷ 0 ∷ 0xC0000801 ∷ 3 ∷ 0x40000004 ∷ 1 ∷ 0xC0000401 ∷ 0 ∷ 0xD0000003 ∷ 2 ∷ 0xC0000A01 ∷ [];
  library_text = text "p";
  library = 0 ∷ 1 ∷ 0xC1000001 ∷ 0 ∷ [];
}

-- what the check ends in, of each
small_end : Ended
small_end = check_run small (buffers 3 0)

large_end : Ended
large_end = check_run large (buffers 6 10)

answered-clean : AnsweredClean small_end
unfolding small_end check_run small buffers text
answered-clean = record { answered = refl; clean = refl }

clean : Every (HasConcreteType small small_end) (slots_run small.image)
unfolding Every small_end check_run slots_run small buffers text
clean = (
  record { recorded = λ e. omega arith; no_unknown = refl; no_slot = refl },
  (record { recorded = λ e. omega arith; no_unknown = refl; no_slot = refl }, tt),
)

more-packages : MorePackages small large
unfolding small large text
more-packages = record { text = text "p"; pool = []; packages = 0xC1000001 ∷ 0 ∷ []; count = 1; longer_text = refl; longer = refl }

more-statements : MoreStatements small large
unfolding small large text record_after node_place
more-statements = record {
  text = text "\n[]";
  more_nodes = 1;
  more_types = 0;
  more_slots = 1;
  roots = 2 ∷ [];
  nodes = 0xD0000003 ∷ 2 ∷ 0xC0000A01 ∷ [];
  types = [];
  longer_text = refl;
  longer = refl;
  whole = refl;
}

-- the larger case is answered with one diagnostic, which the new statement raises
answered-larger : (large_end.number ≡ 0) × (large_end.diagnostics ≡ 1)
unfolding large_end check_run large buffers text
answered-larger = (refl, refl)

-- the computations are the definitions
slots-run : (image : List ℕ) → visited_slots image ≡ slots_run image
unfolding slots_run
slots-run image = refl

entries-run : (i : Inputs) (e : Ended) → entries_of i e ≡ entries_run i e
unfolding entries_run
entries-run i e = refl

walk-run : (i : Inputs) (k : ℕ) (s : World) → walk_first i k s ≡ walk_run i k s
unfolding walk_run
walk-run i k s = refl

later-run : (i : Inputs) (k : ℕ) (s : World) → walk_later i k s ≡ later_run i k s
unfolding later_run
later-run i k s = refl

-- what row (a) had is kept in the larger case
same-types : Every (λ slot. type_in large large_end slot ≡ type_in small small_end slot) (slots_run small.image)
unfolding Every small_end large_end check_run slots_run small large buffers text
same-types = (refl, (refl, tt))

-- the world after the old root's walk, in the larger case
world_of : Result World Refusal Done → World
world_of (ok a s) = s
world_of (refused r) = start_of large (buffers 6 10)

after_old_root : World
after_old_root = world_of (walk_run large 1 (start_of large (buffers 6 10)))

-- the walk of the new root goes on from there to the larger answer
new-root : large_end ≡ end_of (buffers 6 10) (later_run large 1 after_old_root)
unfolding large_end check_run later_run walk_run world_of after_old_root large buffers text
new-root = refl

silent : OldRootsSilent small large (buffers 6 10) large_end
unfolding walk_run world_of after_old_root small large buffers text
silent = record {
  world = after_old_root;
  walked = walk-run large 1 (start_of large (buffers 6 10));
  silent = refl;
  others = new-root ∙ ap (end_of (buffers 6 10)) (sym (later-run large 1 after_old_root));
}

same_entries : take (length (entries_run small small_end)) (entries_run large large_end) ≡ entries_run small small_end
unfolding entries_run small_end large_end check_run small large buffers text
same_entries = refl

-- row (a) has no Fn
old-entries : entries_run small small_end ≡ fn_entries (texts_in small) 0 (fns_among (visited_run small.image))
unfolding entries_run visited_run fns_among head_of fn_entries small_end check_run small buffers text
old-entries = refl

kept : Kept small large (buffers 6 10) small_end large_end
kept = record {
  types = rw (slots-run small.image) same-types;
  old_entries = rw (entries-run small small_end, functions-run small) old-entries;
  functions = rw (entries-run small small_end, entries-run large large_end) same_entries;
  diagnostics = silent;
}

-- ── An Fn and its argument ──

-- the Fn owns slots 1 and 2, its body slot 0
with_fn : Inputs
with_fn = record {
  script = text "fn f(a int) int { a }";
  image = 2 ∷ 2 ∷ 1 ∷ 3 ∷ 1 ∷ 0x10000003 ∷ 0 ∷ 0xC0001201 ∷ 0x50000008 ∷ 1 ∷ 0xC0000301 ∷ 1 ∷ 1 ∷ 0xC0000501 ∷ 0 ∷ 0 ∷ 3 ∷ 0xC0000703 ∷ 3 ∷ 3 ∷ 0xC0000C03 ∷ 3 ∷ [];
  library_text = [];
  library = 0 ∷ 0 ∷ [];
}

with_fn_end : Ended
with_fn_end = check_run with_fn (buffers 4 5)

fn-answered : AnsweredClean with_fn_end
unfolding with_fn_end check_run with_fn buffers text
fn-answered = record { answered = refl; clean = refl }

fn-slots : slots_run with_fn.image ≡ 1 ∷ 2 ∷ 0 ∷ []
unfolding slots_run with_fn text
fn-slots = refl

fn-clean : Every (HasConcreteType with_fn with_fn_end) (1 ∷ 2 ∷ 0 ∷ [])
unfolding Every with_fn_end check_run with_fn buffers text
fn-clean = (
  record { recorded = λ e. omega arith; no_unknown = refl; no_slot = refl },
  (record { recorded = λ e. omega arith; no_unknown = refl; no_slot = refl }, (record { recorded = λ e. omega arith; no_unknown = refl; no_slot = refl }, tt)),
)
