-- The walk as a whole, of accepted inputs (typecheck/lib.rs: `Typechecker::new`, `check`). Definitions.
use Rattle.std.specs.Prelude.{ℕ, ◌+◌, ◌-◌, ◌&&◌, cond, List, [], ◌∷◌, ◌++◌, length, replicate, leb}
use Rattle.tok.specs.Word.{kind_of}
use Rattle.tok.specs.Step.{Result, Refusal, refusal, ◌>>=◌, ◌>>◌, look, give, refuse, when}
use Rattle.ptype.specs.Ty.{depth_of}
use Rattle.ptype.specs.Words.{void_word}
use Rattle.ptype.specs.Add.{buffer, type_room, write}
use Rattle.ast.specs.Image.{node_count, root_count, slot_count}
use Rattle.ast.specs.Node.{Nodes, tree_of, nodes_from, first_roots}
use Rattle.refusals.specs.Inputs.{Inputs, Buffers, texts_in}
use Rattle.rules.specs.declared.Answer.TheVariants.{Known}
use Rattle.library.specs.Package.{Param, Function, Package, pool_of, packages_of}
use Rattle.rules.specs.World.{Ctx, World, Walk, with_types}
use Rattle.rules.specs.Steps.{Done, skip, tree}
use Rattle.rules.specs.Rules.{last}

unfoldable pub ctx_of : Inputs → Ctx
ctx_of i = record { texts = texts_in i; library = packages_of i.library; void = slot_count i.image }

-- "slot words (0 where none; slot V is Void)"
unfoldable pub empty_slots : (V' : ℕ) → List ℕ → List ℕ
empty_slots v slots = write slots 0 (replicate v 0 ++ (void_word ∷ []))

unfoldable pub start_of : Inputs → Buffers → World
start_of i b = record {
  slots = empty_slots (slot_count i.image) b.slots;
  functions = buffer b.functions 0;
  types = buffer b.types 0;
  diagnostics = buffer b.diagnostics 0;
  messages = buffer b.messages 0;
  env = [];
  packages = [];
  own = [];
  log = record {};
}

-- "Then the pool is copied (7)": "N for the pool". "The types buffer begins with the library pool".
unfoldable pub copy_pool : (n : ℕ) → (pool : List ℕ) → Walk Done
copy_pool n pool = do
  s ← look
  when (leb (length pool) (type_room s.types)) (give tt (with_types s (buffer (write s.types.words 0 pool) (length pool)))) (refuse (refusal 7 n))

-- every type word of the pool, those of field lists too: kinds 1 to 11; a field count has kind 0, a name 12
unfoldable pub pool_types : List ℕ → List ℕ
pool_types [] = []
pool_types (w ∷ ws) = cond (leb 1 (kind_of w) && leb (kind_of w) 11) (w ∷ pool_types ws) (pool_types ws)

unfoldable pub param_types : List Param → List ℕ
param_types [] = []
param_types (p ∷ ps) = p.type ∷ param_types ps

unfoldable pub function_types : List Function → List ℕ
function_types [] = []
function_types (f ∷ fs) = param_types f.sig.params ++ (f.sig.ret ∷ function_types fs)

unfoldable pub package_types : List Package → List ℕ
package_types [] = []
package_types (p ∷ ps) = function_types p.functions ++ package_types ps

-- "and every library type measured (8)": "N for the library"
unfoldable pub measure : Ctx → (n : ℕ) → (words : List ℕ) → Walk Done
measure c n [] = skip
measure c n (w ∷ ws) = do
  t ← tree c w
  when (leb (depth_of t) 32) (measure c n ws) (refuse (refusal 8 n))

-- Typechecker::check: for &node in self.ast.roots { self.node(node); }, of the first k roots
unfoldable pub walk_first : Inputs → (k : ℕ) → Walk Done
walk_first i k = do
  copy_pool (node_count i.image) (pool_of i.library)
  measure (ctx_of i) (node_count i.image) (pool_types (pool_of i.library) ++ package_types (packages_of i.library))
  _ ← last (ctx_of i) (Known (slot_count i.image)) (first_roots i.image k)
  skip

-- the roots after the first k
unfoldable pub later_roots : (image : List ℕ) → (k : ℕ) → Nodes
later_roots image k = nodes_from (tree_of image) image (4 + k) (root_count image - k)

-- and of those, from where the walk of the first k ended: `walk_first i k >> walk_later i k` is the walk of all of them (tworuns: `walk-parts`)
unfoldable pub walk_later : Inputs → (k : ℕ) → Walk Done
walk_later i k = do
  _ ← last (ctx_of i) (Known (slot_count i.image)) (later_roots i.image k)
  skip

-- and of all of them
unfoldable pub walk : Inputs → Walk Done
walk i = walk_first i (root_count i.image)

unfoldable pub walk_of : Inputs → Buffers → Result World Refusal Done
walk_of i b = walk i (start_of i b)
