-- "Suppose further that any or all of this is done at once": packages after the library's last, statements after the script's last,
-- longer buffers. The walk of the old roots goes as before, and what follows keeps what it left. Assumes what refusals 1 to 6 leave
-- (`Accepts`), and that old packages and roots are read from the extended words as before (`Extends`).
use Prim.Native.Nat.{ℕ, ◌+◌, ◌-◌, ◌≤◌, ◌<◌}
use Rattle.std.proofs.Common.{arith, ◌∙◌, length-take, take-take}
use Rattle.std.proofs.Math.Path.{◌≡◌, sym, ap, subst}
use Rattle.std.specs.Prelude.{refl, get_or, drop}
use Rattle.std.proofs.Math.Option.{Option, none, some}
use mathlib.Core.List.{List, [], ◌∷◌, ◌++◌, append_assoc}
use Rattle.std.proofs.Math.ListN.{length, take}
use Rattle.std.proofs.Math.Seq.{take-append_seam}
use Rattle.tok.specs.Text.{Texts, longer, name_bytes}
use Rattle.tok.specs.Step.{Result, ok, refused, Refusal, next, ◌>>◌}
use Rattle.ptype.specs.Words.{ty_of}
use Rattle.ptype.proofs.GrowLaws.{name_bytes-longer}
use Rattle.ast.specs.Image.{node_count, root_count, slot_count}
use Rattle.ast.specs.Node.{Nodes, tree_of, nodes_from, first_roots, roots_of}
use Rattle.library.specs.Package.{pool_of}
use Rattle.refusals.specs.Inputs.{Inputs, Buffers, texts_in}
use Rattle.refusals.specs.Refusals.{refusal_of}
use Rattle.rules.specs.declared.Answer.{Answer}
use Rattle.rules.specs.declared.Answer.TheVariants.{Known}
use Rattle.rules.specs.World.{Ctx, World}
use Rattle.rules.specs.Steps.{Done}
use Rattle.rules.specs.Rules.{last}
use Rattle.rules.specs.Visited.{visited_in, visited_slots}
use Rattle.rules.specs.Walk.{ctx_of, start_of, pool_types, walk_first, later_roots, walk_later, walk, walk_of}
use Rattle.rules.specs.Check.{end_of, unless_refused, check_of}
use Rattle.rules.specs.Promises.{Every, Answered, AnsweredClean, Longer, MorePackages, MoreStatements, type_in, Entry, entries_of, old_functions, OldRootsSilent, Kept}
use Rattle.laws.specs.SlotsOf.{all_among_lem}
use Rattle.laws.specs.Keeps.{Keeps, kept, stopped}
use Rattle.laws.specs.RulesKeep.{in_last}
use Rattle.laws.specs.Grow.{kept-ok}
use Rattle.laws.specs.Scope.{Scope, scope_kept, scope_enters}
use Rattle.ptype.specs.Add.{Buffer}
use Rattle.tworuns.specs.Means.{means_grow, means-ty_of, grown-same}
use Rattle.tworuns.specs.Runs.{Runs, Each, each_map, each-length, SameFunction, function_grow, own, Worlds, tree-first}
use Rattle.tworuns.specs.Exprs.{Names}
use Rattle.tworuns.specs.Walk.{every-both, every_map, Walks, walks, cuts, parts, Beginning, over-walks}
use Rattle.tworuns.specs.Entries.{words_of, NotZero, Stays, walk-holds, start-holds}
use Rattle.tworuns.specs.Signatures.{forward, forward-append, entries_at, entries-front, entries-length, entries-own, entries-same, forward-same}
use Rattle.tworuns.specs.FnEntries.{walked_fns}
use Rattle.tworuns.specs.Refused.{Numbered, numbered}
use Rattle.tworuns.specs.Accepted.{TypeOf, Accepted, Accepts, library_types, walk-over, fresh_start}
use Rattle.tworuns.specs.Split.{nodes-joined, last-dropped, Split, goes, stays, over-split, split-is}
use Rattle.tworuns.specs.Kept.{Goes}
use Rattle.tworuns.proofs.Kept.{last_goes, slots-low}
use Rattle.tworuns.specs.Larger.{OwnedIn, here, further, roots_after, Extended, Extends, Ends}

-- the walk of the first k roots, and of more
walk_split : (i : Inputs) (k more : ℕ) (s : World) → Split (ctx_of i) (roots_after i.image k more) (walk_first i k s) (walk_first i (k + more) s)
unfolding first_roots
walk_split i k more s =
    rw (walk-over i k, walk-over i (k + more), nodes-joined (tree_of i.image) i.image 4 k more)
    (over-split (ctx_of i) (node_count i.image) (pool_of i.library) (library_types i.library) _ (roots_after i.image k more) s)

-- THE LAW: the first k roots, then the others, are the whole walk.
pub walk-parts : (i : Inputs) (k : ℕ) → k ≤ root_count i.image → (s : World) → walk i s ≡ (walk_first i k >> walk_later i k) s
unfolding walk walk_later later_roots ctx_of
walk-parts i k l s =
    let e : k + (root_count i.image - k) ≡ root_count i.image = omega arith in
    ap (λ (n : ℕ). walk_first i n s) (sym e) ∙ split-is (walk_split i k (root_count i.image - k) s)

pub ends : (i : Inputs) (b : Buffers) → Answered (check_of i b) → Ends i b
unfolding check_of unless_refused Numbered end_of NotZero walk_of walk
ends i b answered = by (refusal_of i b) refl (numbered i b) answered
  where
    walked : (x : Result World Refusal Done) → walk_of i b ≡ x → refusal_of i b ≡ none → Keeps (Stays b.functions) NotZero (start_of i b) x → (end_of b x).number ≡ 0 → Ends i b
    walked (ok a u) e n k z = record { passed = n; world = u; walked = e; ended = rw (n, e) }
    walked (refused x) e n (stopped q) z = absurd (q z)

    by : (o : Option Refusal) → refusal_of i b ≡ o → Numbered o → Answered (unless_refused o i b) → Ends i b
    by (some x) e n z = absurd (n z)
    by none e n z = walked (walk_of i b) refl e (walk-holds b.functions i (root_count i.image) (start_of i b)) z

-- two runs, alike tree for tree
abbrev pub both : (i i' : Inputs) → Runs
both i i' = record { strict = ⊥; first = ctx_of i; second = ctx_of i' }

module _ {i i' : Inputs} (mp : MorePackages i i') (ms : MoreStatements i i') where
  texts-longer : texts_in i' ≡ longer (texts_in i) ms.text mp.text
  texts-longer = rw (ms.longer_text, mp.longer_text)

  more-slots : slot_count i'.image ≡ slot_count i.image + ms.more_slots
  more-slots = ap (λ (l : List ℕ). get_or l 3 0) ms.longer

  more-roots : root_count i'.image ≡ root_count i.image + length ms.roots
  more-roots = ap (λ (l : List ℕ). get_or l 2 0) ms.longer

  pool-less : length (pool_of i.library) ≤ get_or i.library 0 0
  pool-less = omega (arith, length-take (get_or i.library 0 0) (drop 2 i.library))

  same-pool : take (length (pool_of i.library)) (pool_of i'.library) ≡ pool_of i.library
  same-pool =
      let old : List ℕ = pool_of i.library in
      ap (λ (l : List ℕ). take (length old) (pool_of l)) mp.longer
      ∙ (take-take (length old) (get_or i.library 0 0 + length mp.pool) _ (omega (arith, pool-less))
      ∙ (ap (take (length old)) (append_assoc old mp.pool _) ∙ take-append_seam old _))

  long-pool : length (pool_of i.library) ≤ length (pool_of i'.library)
  long-pool =
      let e = ap (λ (l : List ℕ). length l) same-pool in
      omega (arith, length-take (length (pool_of i.library)) (pool_of i'.library))

  names-longer : Names (both i i')
  unfolding ctx_of
  names-longer w l = name_bytes-longer (texts_in i) ms.text mp.text l ∙ ap (λ (t : Texts). name_bytes t w) (sym texts-longer)

  module _ {b b' : Buffers} (long : Longer b b') (a : Accepted i b) (a' : Accepted i' b') (x : Extended i i' (length ms.roots)) where
    begins : Beginning (both i i') (start_of i b) (start_of i' b') (pool_of i.library) (pool_of i'.library) (library_types i.library) (library_types i'.library)
    unfolding ctx_of start_of TypeOf
    begins = record {
      fresh = fresh_start i b a.slot_room;
      fresh' = fresh_start i' b' a'.slot_room;
      names = names-longer;
      up = omega (arith, more-slots);
      long_pool = long-pool;
      same_pool = same-pool;
      more = x.more;
      library = x.packages;
      library_names = a.names;
      others = pool_types (pool_of i.library);
      types = refl;
      fine = a.types;
      long_diagnostics = long.diagnostics;
      long_messages = long.messages;
      log = λ z. absurd z;
      long_types = λ z. absurd z;
      pools = λ z. absurd z;
      measures = λ z. absurd z;
      no_more = λ z. absurd z;
    }

    -- the old roots, in both
    old-walks : Walks (both i i') (walk_of i b) (walk_first i' (root_count i.image) (start_of i' b'))
    unfolding walk_of walk roots_of ctx_of
    old-walks =
        rw (walk-over i (root_count i.image), walk-over i' (root_count i.image), x.roots)
        (over-walks (both i i') begins (node_count i.image) (node_count i'.image) (first_roots i.image (root_count i.image)) a.roots)

    abbrev new : Nodes
    new = roots_after i'.image (root_count i.image) (length ms.roots)

    -- and then the new ones
    all_split : Split (ctx_of i') new (walk_first i' (root_count i.image) (start_of i' b')) (walk_of i' b')
    unfolding walk_of walk
    all_split = rw (more-roots) (walk_split i' (root_count i.image) (length ms.roots) (start_of i' b'))

-- The worlds after the old roots, and after all: the first run with no diagnostic, the second answered.
pub record Together (r : Runs) (c : Ctx) (new : Nodes) (u w : World) (x : Result World Refusal Done) : Type 0 where
  pub middle : World
  pub first : x ≡ ok tt middle
  pub agree : Worlds r u middle
  pub answer : Answer
  pub rest : ◌≡◌ {A = Result World Refusal Done} (next (last c answer new middle) (λ _ t. ok tt t)) (ok tt w)

not-ok : {e : Refusal} {w : World} → ◌≡◌ {A = Result World Refusal Done} (refused e) (ok tt w) → ⊥
not-ok e = let z : ◌≡◌ {A = ℕ} 0 1 = cc in omega arith

together : {r : Runs} {c : Ctx} {new : Nodes} {u w : World} {x y : Result World Refusal Done} → Walks r (ok tt u) x → Split c new x y → u.diagnostics.used ≡ 0 → y ≡ ok tt w → Together r c new u w x
together (walks {u' = m} ws) (goes a) clean e = record { middle = m; first = refl; agree = ws; answer = a; rest = e }
together (cuts k) stays clean e = absurd (not-ok e)
together (parts k l) s clean e = absurd (omega arith)

-- what the walk of the new roots keeps
same-world : {u w : World} → ◌≡◌ {A = Result World Refusal Done} (ok tt u) (ok tt w) → u ≡ w
same-world e = cc

pub after : {R : World → World → Type 0} {Q : ℕ → Type 0} {m w : World} {x : Result World Refusal Answer}
    → Keeps R Q m x → ◌≡◌ {A = Result World Refusal Done} (next x (λ _ t. ok tt t)) (ok tt w) → R m w
after {R} {m = m} (kept {u = u} p) e = subst (λ (t : World). R m t) (same-world e) p
after (stopped q) e = absurd (not-ok e)

all-owned : (xs : List ℕ) → Every (λ x. OwnedIn x xs) xs
unfolding Every
all-owned [] = tt
all-owned (x ∷ xs) = (here refl, every_map (λ y. OwnedIn y xs) (λ y. OwnedIn y (x ∷ xs)) (λ y h. further h) xs (all-owned xs))

-- the entries of an answer: those of the own functions
entries-of : {i : Inputs} {b : Buffers} (f : Ends i b) → Accepted i b → entries_of i (check_of i b) ≡ entries_at (texts_in i) f.world.types.words 0 (forward f.world.own)
unfolding entries_of end_of walk_of walk
entries-of {i} {b} f a =
    let u = f.world in
    let h = kept-ok (walk-holds b.functions i (root_count i.image) (start_of i b)) f.walked (start-holds i b) in
    let fits : u.functions.used ≤ length b.functions = a.function_room u f.walked in
    let used : u.functions.used ≡ length (words_of u.own) = ap (λ (x : Buffer). x.used) h.functions in
    rw (f.ended, h.functions) (entries-own (texts_in i) u.types.words b.functions u.own (omega arith))

-- and where no diagnostic was raised, those of the visited Fns
old-entries : {i : Inputs} {b : Buffers} (f : Ends i b) → Accepted i b → f.world.diagnostics.used ≡ 0 → entries_of i (check_of i b) ≡ old_functions i
unfolding old_functions
old-entries {i} {b} f a clean = entries-of f a ∙ walked_fns i b _ _ a.roots f.world f.walked clean

module _ {i i' : Inputs} {b b' : Buffers} (mp : MorePackages i i') (ms : MoreStatements i i') (long : Longer b b') (a : Accepted i b) (a' : Accepted i' b') (x : Extended i i' (length ms.roots))
    (f : Ends i b) (f' : Ends i' b') (clean : f.world.diagnostics.used ≡ 0) where
  run : Together (both i i') (ctx_of i') (roots_after i'.image (root_count i.image) (length ms.roots)) f.world f'.world (walk_first i' (root_count i.image) (start_of i' b'))
  run = together (rw f.walked at (old-walks mp ms long a a' x)) (all_split mp ms long a a' x) clean f'.walked

  -- "every diagnostic comes from the new statements"
  new-walked : walk_later i' (root_count i.image) run.middle ≡ ok tt f'.world
  unfolding walk_later later_roots ctx_of
  new-walked =
      let e : root_count i'.image - root_count i.image ≡ length ms.roots = omega (arith, more-roots mp ms) in
      rw e (last-dropped (ctx_of i') (Known (slot_count i'.image)) run.answer (roots_after i'.image (root_count i.image) (length ms.roots)) run.middle ∙ run.rest)

  pub old-silent : OldRootsSilent i i' b' (check_of i' b')
  old-silent = record {
    world = run.middle;
    walked = run.first;
    silent = sym run.agree.diagnostics.used ∙ clean;
    others = f'.ended ∙ ap (end_of b') (sym new-walked);
  }

  went : Goes (λ slot. OwnedIn slot (visited_slots i.image)) run.middle f'.world
  went = after (last_goes (λ slot. OwnedIn slot (visited_slots i.image)) (ctx_of i') run.answer (roots_after i'.image (root_count i.image) (length ms.roots)) x.others run.middle) run.rest

  -- "every node visited before has the same type in both answers"
  type-kept : (slot : ℕ) → slot < slot_count i.image → OwnedIn slot (visited_slots i.image)
      → ty_of (texts_in i') f'.world.types.words (get_or f'.world.slots slot 0) ≡ ty_of (texts_in i) f.world.types.words (get_or f.world.slots slot 0)
  unfolding ctx_of
  type-kept slot l o =
      let h = run.agree.slots slot slot (own l) in
      ap (ty_of (texts_in i') f'.world.types.words) (went.slots slot o)
      ∙ (means-ty_of (means_grow went.types h.right) (omega (arith, h.low)) ∙ sym (tree-first (both i i') h))

  pub types-kept : Every (λ slot. type_in i' (check_of i' b') slot ≡ type_in i (check_of i b) slot) (visited_slots i.image)
  unfolding end_of visited_in visited_slots roots_of ctx_of
  types-kept =
      rw (f.ended, f'.ended)
      (every-both Owned Low Same (λ slot o l. type-kept slot l o) (visited_slots i.image) (all-owned (visited_slots i.image)) (slots-low (both i i') (roots_of i.image) a.roots))
    where
      Owned : ℕ → Type 0
      Owned slot = OwnedIn slot (visited_slots i.image)

      Low : ℕ → Type 0
      Low slot = slot < slot_count i.image

      Same : ℕ → Type 0
      Same slot = ty_of (texts_in i') f'.world.types.words (get_or f'.world.slots slot 0) ≡ ty_of (texts_in i) f.world.types.words (get_or f.world.slots slot 0)

  -- "every old function the same signature and place"
  more-own : Scope run.middle f'.world
  more-own =
      after (in_last scope_kept scope_enters (ctx_of i') run.answer (roots_after i'.image (root_count i.image) (length ms.roots)) (all_among_lem (λ _. tt) _) run.middle) run.rest

  pub functions-kept : take (length (entries_of i (check_of i b))) (entries_of i' (check_of i' b')) ≡ entries_of i (check_of i b)
  unfolding ctx_of
  functions-kept =
      let e = entries-of f a in
      let e' = entries-of f' a' in
      let u = f.world in
      let w = f'.world in
      let same : Each (SameFunction (both i i') u.types w.types) (forward u.own) (forward run.middle.own)
      = forward-same (both i i') u.types w.types (each_map (function_grow (both i i') (grown-same u.types) went.types) run.agree.own) in
      let olds = forward run.middle.own in
      let news = forward more-own.own.part in
      let long : length (entries_of i (check_of i b)) ≡ length olds
      = ap (λ (l : List Entry). length l) e ∙ (entries-length (texts_in i) u.types.words (forward u.own) 0 ∙ each-length same) in
      let all : entries_of i' (check_of i' b') ≡ entries_at (texts_in i') w.types.words 0 (olds ++ news)
      = e' ∙ ap (entries_at (texts_in i') w.types.words 0) (ap forward more-own.own.whole ∙ forward-append more-own.own.part run.middle.own) in
      ap (λ (n : ℕ). take n (entries_of i' (check_of i' b'))) long
      ∙ (ap (take (length olds)) all
      ∙ (entries-front (texts_in i') w.types.words olds news 0 ∙ (sym (entries-same (both i i') u.types w.types same 0) ∙ sym e)))

  pub kept-all : Kept i i' b' (check_of i b) (check_of i' b')
  kept-all = record { types = types-kept; old_entries = old-entries f a clean; functions = functions-kept; diagnostics = old-silent }

  -- "so that without new ones there is none"
  pub none_told : ms.roots ≡ [] → (check_of i' b').diagnostics ≡ 0
  unfolding end_of nodes_from last
  none_told e =
      let k : length ms.roots ≡ 0 = ap (λ (l : List ℕ). length l) e in
      let rest : ◌≡◌ {A = Result World Refusal Done} (ok tt run.middle) (ok tt f'.world)
      = subst
      (λ (n : ℕ). ◌≡◌ {A = Result World Refusal Done}
      (next (last (ctx_of i') run.answer (roots_after i'.image (root_count i.image) n) run.middle) (λ _ t. ok tt t)) (ok tt f'.world)) k run.rest in
      rw f'.ended (ap (λ (t : World). t.diagnostics.used) (sym (same-world rest)) ∙ (sym run.agree.diagnostics.used ∙ clean))

-- no diagnostic in the answer, none in the world
clean-world : {i : Inputs} {b : Buffers} (f : Ends i b) → (check_of i b).diagnostics ≡ 0 → f.world.diagnostics.used ≡ 0
unfolding end_of
clean-world f e = rw f.ended at e

-- The theorem: `Larger`, for inputs that have what refusals 1 to 6 leave.
pub larger : Accepts → Extends → (i i' : Inputs) (b b' : Buffers) → MorePackages i i' → MoreStatements i i' → Longer b b'
    → AnsweredClean (check_of i b) → Answered (check_of i' b') → Kept i i' b' (check_of i b) (check_of i' b')
unfolding Accepts Extends
larger acc ext i i' b b' mp ms long clean answered =
    let f = ends i b clean.answered in
    let f' = ends i' b' answered in
    kept-all mp ms long (acc i b f.passed) (acc i' b' f'.passed) (ext i i' b b' mp ms f.passed f'.passed) f f' (clean-world f clean.clean)

-- and `LargerWithoutStatements`
pub larger-without-statements : Accepts → Extends → (i i' : Inputs) (b b' : Buffers) → MorePackages i i' → (more : MoreStatements i i') → more.roots ≡ [] → Longer b b'
    → AnsweredClean (check_of i b) → Answered (check_of i' b') → (check_of i' b').diagnostics ≡ 0
unfolding Accepts Extends
larger-without-statements acc ext i i' b b' mp ms e long clean answered =
    let f = ends i b clean.answered in
    let f' = ends i' b' answered in
    none_told mp ms long (acc i b f.passed) (acc i' b' f'.passed) (ext i i' b b' mp ms f.passed f'.passed) f f' (clean-world f clean.clean) e

-- and `FunctionsVisited`
pub functions-visited : Accepts → (i : Inputs) (b : Buffers) → AnsweredClean (check_of i b) → entries_of i (check_of i b) ≡ old_functions i
unfolding Accepts
functions-visited acc i b clean = let f = ends i b clean.answered in old-entries f (acc i b f.passed) (clean-world f clean.clean)
