-- Names in scope, frames, packages held and own functions: the steps on them, and lists of steps. Assumes nothing.
use Rattle.std.specs.Prelude.{ℕ, false, List, [], ◌∷◌}
use native.Mathlib.Omega.{arith}
use Rattle.std.proofs.Math.Option.{Option}
use Rattle.tok.specs.Step.{Result, ok, Refusal, next, for_each}
use Rattle.ptype.specs.Add.{Buffer, append}
use Rattle.ast.specs.Node.{Node}
use Rattle.library.specs.Package.{Param, signature, function, Package}
use Rattle.rules.specs.declared.Answer.{Answer}
use Rattle.rules.specs.World.{Local, World, Walk, with_env, with_packages, with_functions}
use Rattle.rules.specs.Steps.{env_insert, framed, apart, hold, entry_of, enter}
use Rattle.tworuns.specs.Means.{Grown, grown-same}
use Rattle.onerun.specs.Claim.{Run, All, end, and, Bound, LocalOk, FunctionOk, PackageOk, Recorded, Holds, AnswerOk, poison}
use Rattle.onerun.specs.Claim as C
use Rattle.onerun.specs.Grows.{all_map, local_grow}
use Rattle.onerun.specs.Logic.{Claimed, Later, Silent, before, After, Gives, gives, stopped, g_next, g_return}
use Rattle.onerun.proofs.Seen.{AllRecorded, Seen}

module _ (r : Run) where
  -- what only slots say stays where only the environment differs
  pub recorded-env : {s : World} {e : List Local} {a : ℕ} → Recorded r s a → Recorded r (with_env s e) a
  recorded-env h = record { other = h.other; low = h.low }

  pub answer-env : {s : World} {e : List Local} {a : Answer} → AnswerOk r s a → AnswerOk r (with_env s e) a
  answer-env (C.known h) = C.known (recorded-env h)
  answer-env (poison l) = poison l

  pub slots-env : {s : World} {e : List Local} {slots : List ℕ} → AllRecorded r s slots → AllRecorded r (with_env s e) slots
  slots-env h = all_map (λ slot x. recorded-env x) h

  pub seen-env : {s : World} {e : List Local} {ys : List Node} → Seen r s ys → Seen r (with_env s e) ys
  seen-env h = all_map (λ y x. slots-env x) h

  pub holds-env : {s : World} {e : List Local} → All (LocalOk r s.types) e → Holds r s → Holds r (with_env s e)
  holds-env l h = record {
    slots = λ a x. h.slots a (record { other = x.other; low = x.low });
    voids = record { other = h.voids.other; low = h.voids.low };
    room = h.room;
    env = l;
    packages = h.packages;
    own = h.own;
    library = h.library;
    told = h.told;
    log = h.log;
  }

  -- nothing is claimed of the answer
  abbrev pub Any : {A : Type 0} → World → A → Type 0
  Any u a = Unit {0}

  pub g_insert : (name : ℕ) {o : Option ℕ} {s : World} → Claimed r s → (Silent r s → Bound r s.types o) → Gives r Any s (env_insert name o s)
  unfolding env_insert
  g_insert name {o} {s} h k = gives {u = with_env s (record { name = name; type = o } ∷ s.env)} (record { more = omega arith }) (λ z.
      let z₀ : Silent r s = record { none = z.none } in
      record {
        grown = grown-same s.types;
        recorded = λ a x. recorded-env x;
        holds = holds-env (and (record { type = k z₀ }) (h z₀).env) (h z₀);
        value = tt;
      })

  pub g_hold : (p : Package) {s : World} → Claimed r s → (Silent r s → PackageOk r s.types p) → Gives r Any s (hold p s)
  unfolding hold
  g_hold p {s} h k = gives {u = with_packages s (p ∷ s.packages)} (record { more = omega arith }) (λ z. after (h (record { none = z.none })) (k (record { none = z.none })))
    where
      after : Holds r s → PackageOk r s.types p → After r Any s (with_packages s (p ∷ s.packages)) (tt {0})
      after h k = record {
        grown = grown-same s.types;
        recorded = λ a x. record { other = x.other; low = x.low };
        holds = record {
          slots = λ a x. h.slots a (record { other = x.other; low = x.low });
          voids = record { other = h.voids.other; low = h.voids.low };
          room = h.room;
          env = h.env;
          packages = and k h.packages;
          own = h.own;
          library = h.library;
          told = h.told;
          log = h.log;
        };
        value = tt;
      }

  pub g_enter : (name : ℕ) (ps : List Param) (ret : ℕ) {s : World} → Claimed r s
      → (Silent r s → FunctionOk r s.types (function name (signature ps ret false))) → Gives r Any s (enter name ps ret s)
  unfolding enter
  g_enter name ps ret {s} h k = gives {u = u} (record { more = omega arith }) (λ z. after (h (record { none = z.none })) (k (record { none = z.none })))
    where
      u : World
      u = with_functions s (append s.functions (entry_of name ps ret)) (function name (signature ps ret false) ∷ s.own)

      after : Holds r s → FunctionOk r s.types (function name (signature ps ret false)) → After r Any s u (tt {0})
      after h k = record {
        grown = grown-same s.types;
        recorded = λ a x. record { other = x.other; low = x.low };
        holds = record {
          slots = λ a x. h.slots a (record { other = x.other; low = x.low });
          voids = record { other = h.voids.other; low = h.voids.low };
          room = h.room;
          env = h.env;
          packages = h.packages;
          own = and k h.own;
          library = h.library;
          told = h.told;
          log = h.log;
        };
        value = tt;
      }

  -- ── Frames ──

  module _ {A : Type 0} {Q : World → A → Type 0} (stays : (u : World) (e : List Local) (a : A) → Q u a → Q (with_env u e) a) (m : Walk A) {s : World} (h : Claimed r s) where
    after_frame : {u : World} {a : A} → Later s u → (Silent r u → After r Q s u a) → Silent r (with_env u s.env) → After r Q s (with_env u s.env) a
    after_frame {u} {a} t p z =
        let z₁ : Silent r u = record { none = z.none } in
        let x = p z₁ in
        record {
          grown = x.grown;
          recorded = λ b y. recorded-env (x.recorded b y);
          holds = holds-env (all_map (local_grow r x.grown) (h (before r t z₁)).env) x.holds;
          value = stays u s.env a x.value;
        }

    -- "a block has its own frame"
    pub g_framed : Gives r Q s (m s) → Gives r Q s (framed m s)
    unfolding framed
    g_framed g = back g
      where
        back : {x : Result World Refusal A} → Gives r Q s x → Gives r Q s (next x (λ a after. ok a (with_env after s.env)))
        back (gives {u = u} t p) = gives {u = with_env u s.env} (record { more = t.more }) (after_frame t p)
        back stopped = stopped

    -- "a function body sees only its arguments"
    pub g_apart : Gives r Q (with_env s []) (m (with_env s [])) → Gives r Q s (apart m s)
    unfolding apart framed
    g_apart g = back g
      where
        back : {x : Result World Refusal A} → Gives r Q (with_env s []) x → Gives r Q s (next x (λ a after. ok a (with_env after s.env)))
        back (gives {u = u} t p) =
            gives {u = with_env u s.env} (record { more = t.more })
            (after_frame (record { more = t.more }) (λ z. let x = p z in
            record { grown = x.grown; recorded = λ b y. x.recorded b (record { other = y.other; low = y.low }); holds = x.holds; value = x.value }))
        back stopped = stopped

  pub alone : {s : World} → Claimed r s → Claimed r (with_env s [])
  alone h z = holds-env end (h (record { none = z.none }))

  -- ── A step for each of a list ──

  module _ {A B : Type 0} (P : A → Type 0) (R : Buffer → B → Type 0) (grow : (b d : Buffer) → Grown b d → (x : B) → R b x → R d x) (f : A → Walk B)
      (each : (a : A) → P a → (s : World) → Claimed r s → Gives r (λ u x. R u.types x) s (f a s)) where
    pub g_each : {xs : List A} → All P xs → {s : World} → Claimed r s → Gives r (λ u ys. All (R u.types) ys) s (for_each f xs s)
    unfolding for_each
    g_each end h = g_return r h (λ z. end)
    g_each (and {a = a} p ps) {s} h =
        g_next r _ (each a p s h) (λ x u t k. g_next r _ (g_each ps (λ z. (k z).holds)) (λ ys v t₁ k₁.
        g_return r (λ z. (k₁ z).holds) (λ z. and (grow u.types v.types (k₁ z).grown x (k (before r t₁ z)).value) (k₁ z).value)))
