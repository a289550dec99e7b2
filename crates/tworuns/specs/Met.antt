-- Own functions and the Fns that are met: what is claimed of steps, as long as no diagnostic is raised. Definitions, and how steps follow each
-- other. Assumes nothing.
use Rattle.std.specs.Prelude.{ℕ, ◌≤◌, ◌<◌, ◌≡◌, List, [], ◌∷◌, ◌++◌}
use Rattle.std.proofs.Common.{arith, subst, append-nil}
use Rattle.tok.specs.Text.{Texts}
use Rattle.tok.specs.Step.{Result, ok, refused, Refusal, next}
use Rattle.ptype.specs.Add.{Buffer}
use Rattle.ast.specs.TypeExpr.{Arg}
use Rattle.library.specs.Package.{Param, param, Function}
use Rattle.rules.specs.World.{World, Walk, with_env}
use Rattle.rules.specs.Steps.{framed, apart}
use Rattle.rules.specs.Functions.{type_meant, FnHead}
use Rattle.laws.specs.Keeps.{Keeps, kept, stopped, StepsKeep}
use Rattle.tworuns.specs.Means.{Grown, grown-same, grown-trans}
use Rattle.tworuns.specs.Written.{grown-append}
use Rattle.tworuns.specs.ExprTrees.{WordOf, word_grow}

-- any refusal, any slot; nothing is claimed of the answer
abbrev pub Any : ℕ → Type 0
Any k = Unit {0}

abbrev pub Nothing : {A : Type 0} → World → A → Type 0
Nothing u a = Unit {0}

module _ (t : Texts) where
  -- the words of an Fn's arguments: the names as they are, and words of the types that their type expressions mean
  pub data ParamsOf (b : Buffer) : List Arg → List Param → Type 0 where
    end : ParamsOf b [] []
    and : {a : Arg} {w : ℕ} {args : List Arg} {ps : List Param} → WordOf t (type_meant t a.type) b w → ParamsOf b args ps → ParamsOf b (a ∷ args) (param a.name w ∷ ps)

  -- the own function of an Fn
  pub record FunctionOf (b : Buffer) (d : FnHead) (f : Function) : Type 0 where
    pub name : f.name ≡ d.name
    pub params : ParamsOf b d.args f.sig.params
    pub ret : WordOf t (type_meant t d.ret) b f.sig.ret

  -- from one list of own functions, newest first, to another by meeting Fns, the first one first
  pub data Met (b : Buffer) : List Function → List FnHead → List Function → Type 0 where
    no_fn : {o : List Function} → Met b o [] o
    one_fn : {o u : List Function} {d : FnHead} {ds : List FnHead} {f : Function} → FunctionOf b d f → Met b (f ∷ o) ds u → Met b o (d ∷ ds) u

  module _ {b d : Buffer} (g : Grown b d) where
    pub params_grow : {args : List Arg} {ps : List Param} → ParamsOf b args ps → ParamsOf d args ps
    params_grow end = end
    params_grow (and w rest) = and (word_grow t g w) (params_grow rest)

    met_grow : {o u : List Function} {ds : List FnHead} → Met b o ds u → Met d o ds u
    met_grow no_fn = no_fn
    met_grow (one_fn h rest) = one_fn (record { name = h.name; params = params_grow h.params; ret = word_grow t g h.ret }) (met_grow rest)

  met-both : {b : Buffer} {o u v : List Function} {ds es : List FnHead} → Met b o ds u → Met b u es v → Met b o (ds ++ es) v
  met-both no_fn k = k
  met-both (one_fn h rest) k = one_fn h (met-both rest k)

  -- From s to u: diagnostics are only added, types only added; and where no diagnostic was, the Fns are met.
  pub record Went (ds : List FnHead) (s u : World) : Type 0 where
    pub more : s.diagnostics.used ≤ u.diagnostics.used
    pub grown : Grown s.types u.types
    pub met : u.diagnostics.used ≡ s.diagnostics.used → Met u.types s.own ds u.own

  went-both : {ds es : List FnHead} {s m u : World} → Went ds s m → Went es m u → Went (ds ++ es) s u
  went-both x y = record {
    more = omega (arith, x.more, y.more);
    grown = grown-trans x.grown y.grown;
    met = λ e. met-both (met_grow y.grown (x.met (omega (arith, x.more, y.more)))) (y.met (omega (arith, x.more, y.more)));
  }

  -- a diagnostic was raised: then nothing is claimed
  went-told : {ds : List FnHead} {s u : World} → s.diagnostics.used < u.diagnostics.used → Grown s.types u.types → Went ds s u
  went-told l g = record { more = omega arith; grown = g; met = λ e. absurd (omega arith) }

  -- Steps that visit nothing: an instance of `Keeps`.
  abbrev pub Quiet : World → World → Type 0
  Quiet s u = Went [] s u

  pub quiet-kept : StepsKeep Quiet Any Any
  quiet-kept = record {
    same = λ s. record { more = omega arith; grown = grown-same s.types; met = λ e. no_fn };
    trans = λ {s} {t} {u} x y. went-both x y;
    slot = λ i w s p. record { more = omega arith; grown = grown-same s.types; met = λ e. no_fn };
    type = λ texts k new s e deep. record { more = omega arith; grown = grown-append s.types new; met = λ e. no_fn };
    told = λ d s e. record { more = omega arith; grown = grown-same s.types; met = λ e. no_fn };
    binds = λ l s. record { more = omega arith; grown = grown-same s.types; met = λ e. no_fn };
    frame = λ {s} {u} h. record { more = h.more; grown = h.grown; met = h.met };
    alone = λ {s} {u} h. record { more = h.more; grown = h.grown; met = h.met };
    holds = λ p s. record { more = omega arith; grown = grown-same s.types; met = λ e. no_fn };
    logs = λ l s. record { more = omega arith; grown = grown-same s.types; met = λ e. no_fn };
    types_full = tt;
    too_deep = tt;
    told_full = tt;
  }

  abbrev pub InQuiet : {A : Type 0} → Walk A → Type 0
  InQuiet m = (s : World) → Keeps Quiet Any s (m s)

  -- What a step gives: the Fns met, and what is claimed of its answer.
  pub data Gives {A : Type 0} (Q : World → A → Type 0) (ds : List FnHead) (s : World) : Result World Refusal A → Type 0 where
    gives : {a : A} {u : World} → Went ds s u → Q u a → Gives Q ds s (ok a u)
    ceases : {e : Refusal} → Gives Q ds s (refused e)

  pub step : {A B : Type 0} {P : World → A → Type 0} {Q : World → B → Type 0} {ds es : List FnHead} {s : World} {x : Result World Refusal A} (f : A → Walk B) → Gives P ds s x
      → ((a : A) (u : World) → Went ds s u → P u a → Gives Q es u (f a u)) → Gives Q (ds ++ es) s (next x f)
  step {B = B} {Q = Q} {ds = ds} {es = es} {s = s} f (gives {a = a} {u = u} w p) k = more (k a u w p)
    where
      more : {y : Result World Refusal B} → Gives Q es u y → Gives Q (ds ++ es) s y
      more (gives v q) = gives (went-both w v) q
      more ceases = ceases
  step f ceases k = ceases

  pub of_equal : {A : Type 0} {Q : World → A → Type 0} {ds es : List FnHead} {s : World} {x : Result World Refusal A} → ds ≡ es → Gives Q ds s x → Gives Q es s x
  of_equal {Q = Q} {s = s} {x = x} e h = subst (λ (l : List FnHead). Gives Q l s x) e h

  -- a quiet step, before others and after them
  pub quietly : {A : Type 0} {s : World} {x : Result World Refusal A} → Keeps Quiet Any s x → Gives Nothing [] s x
  quietly (kept w) = gives w tt
  quietly (stopped q) = ceases

  pub quiet-first : {A B : Type 0} {m : Walk A} {Q : World → B → Type 0} {ds : List FnHead} {s : World} (f : A → Walk B) → InQuiet m → ((a : A) (u : World) → Gives Q ds u (f a u))
      → Gives Q ds s (next (m s) f)
  quiet-first {s = s} f h k = step f (quietly (h s)) (λ a u w p. k a u)

  pub quiet-last : {A B : Type 0} {P : World → A → Type 0} {ds : List FnHead} {s : World} {x : Result World Refusal A} (f : A → Walk B) → Gives P ds s x → ((a : A) → InQuiet (f a))
      → Gives Nothing ds s (next x f)
  quiet-last {ds = ds} f h k = of_equal (append-nil ds) (step f h (λ a u w p. quietly (k a u)))

  -- A diagnostic is raised.
  pub data Raises (s : World) {A : Type 0} : Result World Refusal A → Type 0 where
    raises : {a : A} {u : World} → s.diagnostics.used < u.diagnostics.used → Grown s.types u.types → Raises s (ok a u)
    fails : {e : Refusal} → Raises s (refused e)

  pub after_raise : {A : Type 0} {Q : World → A → Type 0} {ds : List FnHead} {s : World} {x : Result World Refusal A} → ((u : World) (a : A) → Q u a) → Raises s x → Gives Q ds s x
  after_raise q (raises l g) = gives (went-told l g) (q _ _)
  after_raise q fails = ceases

  pub raises-next : {A B : Type 0} {s : World} {x : Result World Refusal A} (f : A → Walk B) → Raises s x → ((a : A) → InQuiet (f a)) → Raises s (next x f)
  raises-next {B = B} {s = s} f (raises {a = a} {u = u} l g) k = on (k a u)
    where
      on : {y : Result World Refusal B} → Keeps Quiet Any u y → Raises s y
      on (kept {u = v} w) = raises {u = v} (omega (arith, w.more)) (grown-trans g w.grown)
      on (stopped q) = fails
  raises-next f fails k = fails

  -- ── Frames ──

  module _ {A : Type 0} {ds : List FnHead} {s : World} where
    frame_back : {x : Result World Refusal A} → Gives Nothing ds s x → Gives Nothing ds s (next x (λ a after. ok a (with_env after s.env)))
    frame_back (gives w q) = gives (record { more = w.more; grown = w.grown; met = w.met }) tt
    frame_back ceases = ceases

    alone-back : {x : Result World Refusal A} → Gives Nothing ds (with_env s []) x → Gives Nothing ds s (next x (λ a after. ok a (with_env after s.env)))
    alone-back (gives w q) = gives (record { more = w.more; grown = w.grown; met = w.met }) tt
    alone-back ceases = ceases

    pub in_frame : (m : Walk A) → Gives Nothing ds s (m s) → Gives Nothing ds s (framed m s)
    unfolding framed
    in_frame m h = frame_back h

    pub set_apart : (m : Walk A) → Gives Nothing ds (with_env s []) (m (with_env s [])) → Gives Nothing ds s (apart m s)
    unfolding apart framed
    set_apart m h = alone-back h
