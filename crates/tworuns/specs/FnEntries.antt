-- The entries of the own functions after a walk without diagnostics: those of the visited Fns, in the order of visits, each at its place.
-- Assumes that the roots are sound, as those of an accepted image are.
use Rattle.std.specs.Prelude.{ℕ, suc, ◌+◌, ◌*◌, ◌≡◌}
use Rattle.std.proofs.Common.{arith, ◌∙◌}
use Rattle.std.proofs.Math.Path.{refl, sym, ap}
use mathlib.Core.List.{List, [], ◌∷◌, ◌++◌, append_assoc, append-nil}
use Rattle.std.proofs.Math.ListN.{length}
use Rattle.tok.specs.Text.{Texts}
use Rattle.tok.specs.Step.{Result, ok, Refusal}
use Rattle.ptype.specs.Add.{Buffer, buffer, write}
use Rattle.ast.specs.TypeExpr.{Arg}
use Rattle.ast.specs.Node.{roots_of}
use Rattle.library.specs.Package.{Param, Function}
use Rattle.refusals.specs.Inputs.{Inputs, Buffers, texts_in}
use Rattle.rules.specs.World.{World, with_types}
use Rattle.rules.specs.Steps.{Done}
use Rattle.rules.specs.Walk.{ctx_of, start_of, copy_pool, walk_first, walk, walk_of}
use Rattle.rules.specs.Visited.{visited_in}
use Rattle.rules.specs.Functions.{FnHead, fns_in}
use Rattle.rules.specs.Promises.{fn_parameters, fn_entries}
use Rattle.laws.specs.Keeps.{Keeps, kept, stopped, StepsKeep}
use Rattle.laws.specs.RulesKeep as K
use Rattle.tworuns.specs.Sound.{SoundAll}
use Rattle.tworuns.specs.ExprTrees.{word-tree}
use Rattle.tworuns.specs.Signatures.{forward, parameters_of, entry_for, entries_at}
use Rattle.tworuns.specs.Met.{Any, Nothing, ParamsOf, end, and, FunctionOf, Met, no_fn, one_fn, Went, Quiet, quiet-kept, Gives, gives, step, quietly, quiet-first, quiet-last}
use Rattle.tworuns.specs.Fns.{last_fns}

module _ (t : Texts) (b : Buffer) where
  -- functions of Fns, both in the order in which they were met
  data FunctionsOf : List FnHead → List Function → Type 0 where
    no_function : FunctionsOf [] []
    one_function : {d : FnHead} {ds : List FnHead} {f : Function} {fs : List Function} → FunctionOf t b d f → FunctionsOf ds fs → FunctionsOf (d ∷ ds) (f ∷ fs)

  record After (o : List Function) (ds : List FnHead) (u : List Function) : Type 0 where
    new : List Function
    whole : forward u ≡ forward o ++ new
    each : FunctionsOf ds new

  met-after : {o u : List Function} {ds : List FnHead} → Met t b o ds u → After o ds u
  unfolding forward
  met-after {o} no_fn = record { new = []; whole = sym (append-nil (forward o)); each = no_function }
  met-after {o} (one_fn {f = f} h rest) =
      let x = met-after rest in
      record { new = f ∷ x.new; whole = x.whole ∙ append_assoc (forward o) (f ∷ []) x.new; each = one_function h x.each }

  params-entry : {args : List Arg} {ps : List Param} → ParamsOf t b args ps → parameters_of t b.words ps ≡ fn_parameters t args
  unfolding parameters_of fn_parameters
  params-entry end = refl
  params-entry (and {a = a} w rest) = cc (word-tree t w, params-entry rest)

  params-long : {args : List Arg} {ps : List Param} → ParamsOf t b args ps → length ps ≡ length args
  params-long end = refl
  params-long (and w rest) = ap suc (params-long rest)

  functions-entries : {ds : List FnHead} {fs : List Function} → FunctionsOf ds fs → (at : ℕ) → entries_at t b.words at fs ≡ fn_entries t at ds
  unfolding entries_at entry_for fn_entries
  functions-entries no_function at = refl
  functions-entries (one_function {d = d} {f = f} h rest) at =
      let e = params-long h.params in
      let k : at + 3 + 2 * length f.sig.params ≡ at + 3 + 2 * length d.args = ap (λ (n : ℕ). at + 3 + 2 * n) e in
      cc (h.name, params-entry h.params, word-tree t h.ret, k, functions-entries rest (at + 3 + 2 * length d.args))

module _ (i : Inputs) (b : Buffers) (P N : ℕ → Type 0) (sound : SoundAll P N (roots_of i.image)) where
  abbrev Q : World → World → Type 0
  Q = Quiet (ctx_of i).texts

  law : StepsKeep Q Any Any
  law = quiet-kept (ctx_of i).texts

  -- before the pool is copied no type word is used
  copies : (n : ℕ) (pool : List ℕ) → Keeps Q Any (start_of i b) (copy_pool n pool (start_of i b))
  unfolding copy_pool start_of
  copies n pool =
      K.at-when law _ _ _ (start_of i b)
      (λ _. kept {u = with_types (start_of i b) (buffer (write b.types 0 pool) (length pool))}
      (record { more = omega arith; grown = record { more = omega arith; front = λ j l. absurd (omega arith) }; met = λ e. no_fn })) (λ _. stopped tt)

  walk_fns : Gives (ctx_of i).texts Nothing (fns_in i.image) (start_of i b) (walk_of i b)
  unfolding walk_of walk walk_first roots_of fns_in visited_in
  walk_fns =
      step (ctx_of i).texts _ (quietly (ctx_of i).texts (copies _ _)) (λ _ u _ _. quiet-first (ctx_of i).texts _ (K.in_measure law (ctx_of i) _ _) (λ _ v.
      quiet-last (ctx_of i).texts _ (last_fns (ctx_of i) P N _ (roots_of i.image) sound v) (λ _. K.in_return law tt)))

gave : {t : Texts} {ds : List FnHead} {s u : World} {x : Result World Refusal Done} → Gives t Nothing ds s x → x ≡ ok tt u → Went t ds s u
gave {t} {ds} {s} {u} h e = go (rw e at h)
  where
    go : Gives t {A = Done} Nothing ds s (ok tt u) → Went t ds s u
    go (gives w q) = w

-- THE LAW
pub walked_fns : (i : Inputs) (b : Buffers) (P N : ℕ → Type 0) → SoundAll P N (roots_of i.image) → (u : World) → walk_of i b ≡ ok tt u → u.diagnostics.used ≡ 0
    → entries_at (texts_in i) u.types.words 0 (forward u.own) ≡ fn_entries (texts_in i) 0 (fns_in i.image)
unfolding ctx_of start_of forward
walked_fns i b P N sound u e clean =
    let x = met-after (texts_in i) u.types ((gave (walk_fns i b P N sound) e).met clean) in
    ap (entries_at (texts_in i) u.types.words 0) x.whole ∙ functions-entries (texts_in i) u.types x.each 0
