-- The walk as a whole: the pool copied, the library's types measured, the roots visited. Assumes nothing.
use Rattle.std.specs.Prelude.{ℕ, ◌≤◌, ◌≡◌, Bool, List, get_or, length}
use Rattle.std.proofs.Common.{arith, subst}
use Rattle.std.proofs.Math.Decide.{ℕ_discrete}
use Rattle.std.proofs.Math.Path.{refl}
use Rattle.std.proofs.Math.Bool.{true, false}
use Rattle.std.proofs.Math.Dec.{leb}
use Rattle.std.proofs.Math.Seq.{take-length}
use borrow.Author.Tests.{leb-true}
use Rattle.tok.specs.Step.{Result, ok, refused, Refusal, refusal, next, give, refuse, when}
use Rattle.ptype.specs.Ty.{depth_of}
use Rattle.ptype.specs.Words.{ty_of}
use Rattle.ptype.specs.Add.{buffer, write, type_room}
use Rattle.ptype.specs.Inside.{Throughout}
use Rattle.ast.specs.Node.{Nodes}
use Rattle.rules.specs.declared.Answer.{Answer}
use Rattle.rules.specs.declared.Answer.TheVariants.{Known}
use Rattle.rules.specs.World.{World, with_types}
use Rattle.rules.specs.Steps.{Done, skip}
use Rattle.rules.specs.Rules.{last}
use Rattle.rules.specs.Walk.{copy_pool, measure}
use Rattle.rules.specs.Visited.{visited_among}
use Rattle.rules.specs.Promises.{Every}
use Rattle.tworuns.specs.Pool.{TypeFine, Begins, begins-grown, begins-tree}
use Rattle.tworuns.specs.Walk.{over, every-both, Low, Measured, low, deep, measured, Fresh, begins-pool}
use Rattle.onerun.specs.Claim.{Run, All, end, NameAt, Good, PackageOk, Recorded, Holds}
use Rattle.onerun.specs.Claim as C
use Rattle.onerun.specs.Grows.{all_map, package_grow, typed-other}
use Rattle.onerun.specs.Logic.{Silent, Gives, gives, stopped}
use Rattle.onerun.proofs.Seen.{Seen}
use Rattle.onerun.proofs.Types.{void-good}
use Rattle.onerun.specs.Proper.{ProperAll}
use Rattle.onerun.proofs.Functions.{Below, BlockOk}
use Rattle.onerun.proofs.Nodes.{g_last}

-- what a walk ends in
pub record Claimed (r : Run) (roots : Nodes) (u : World) : Type 0 where
  pub holds : Holds r u
  pub seen : r.clean → Seen r u (visited_among roots)

pub data Ends (r : Run) (roots : Nodes) : Result World Refusal Done → Type 0 where
  ends : {u : World} → (Silent r u → Claimed r roots u) → Ends r roots (ok tt u)
  stops : {e : Refusal} → Ends r roots (refused e)

-- the world of a result
ok-world : {s u : World} → ◌≡◌ {A = Result World Refusal Done} (ok tt s) (ok tt u) → s ≡ u
ok-world e = cc e

pub not-refused : {x : Refusal} {u : World} → ◌≡◌ {A = Result World Refusal Done} (refused x) (ok tt u) → ⊥
not-refused e = let z : ◌≡◌ {A = ℕ} 0 1 = cc e in omega arith

module _ (r : Run) (pool : List ℕ) where
  -- a type of the library that was measured
  abbrev pub Shallow : ℕ → Type 0
  Shallow w = depth_of (ty_of r.ctx.texts pool w) ≤ 32

  abbrev pub FineType : ℕ → Type 0
  FineType w = Throughout (TypeFine r.ctx.texts pool (length pool)) pool 33 w

  -- the world once the pool is copied
  module _ {s : World} (fresh : Fresh r.ctx.void s) (fits : length pool ≤ length s.types.words) where
    abbrev copied : World
    copied = with_types s (buffer (write s.types.words 0 pool) (length pool))

    begins : Begins pool copied.types
    begins = begins-pool s.types.words pool pool fits (omega arith) (take-length pool)

    slot-void : (a : ℕ) → Recorded r copied a → Good r copied.types (get_or s.slots a 0)
    slot-void a e = by (ℕ_discrete a r.ctx.void)
      where
        by : Dec (a ≡ r.ctx.void) → Good r copied.types (get_or s.slots a 0)
        by (yes q) = rw (q, fresh.voids) (void-good r copied.types)
        by (no n) = absurd (e.other (fresh.empty a (omega (arith, e.low))))

    start-holds : All (PackageOk r (buffer pool (length pool))) r.ctx.library → Holds r copied
    start-holds lib = record {
      slots = slot-void;
      voids = record { other = λ e. typed-other r (void-good r copied.types) (rw fresh.voids at e); low = omega arith };
      room = fresh.room;
      env = rw fresh.env end;
      packages = rw fresh.packages end;
      own = rw fresh.own end;
      library = all_map (package_grow r (begins-grown begins)) lib;
      told = λ l k i. absurd (omega (arith, fresh.diagnostics));
      log = λ l. record {};
    }

    module _ (words : List ℕ) (fine : Every FineType words) (lib : Every Shallow words → All (PackageOk r (buffer pool (length pool))) r.ctx.library)
        (roots : Nodes) (proper : ProperAll (Below r) (NameAt r) roots) where
      after_last : {x : Result World Refusal Answer} → Gives r (BlockOk r (visited_among roots)) copied x → Ends r roots (next x (λ _. skip))
      after_last (gives t p) = ends (λ z. let x = p z in record { holds = x.holds; seen = x.value.seen })
      after_last stopped = stops

      after-measure : {x : Result World Refusal Done} → Measured r.ctx copied words x → Ends r roots (next x (λ _ t. next (last r.ctx (Known r.ctx.void) roots t) (λ _. skip)))
      after-measure (low ms) =
          let k = lib (every-both FineType (Low r.ctx copied) Shallow (λ w f l. rw (begins-tree r.ctx.texts w begins f) l) words fine ms) in
          let h = start-holds k in
          after_last (g_last r roots proper (λ z. h) (λ z. C.known h.voids))
      after-measure (deep n) = stops

  -- Where the pool was copied and every type of the library measured, the claim holds.
  module _ (words : List ℕ) (fine : Every FineType words) (lib : Every Shallow words → All (PackageOk r (buffer pool (length pool))) r.ctx.library) {s : World} (fresh : Fresh r.ctx.void s) where
    measured-holds : (fits : length pool ≤ length s.types.words) {x : Result World Refusal Done} {u : World} → Measured r.ctx (copied fresh fits) words x → x ≡ ok tt u → Holds r u
    measured-holds fits (low ms) e =
        let k = lib (every-both FineType (Low r.ctx (copied fresh fits)) Shallow (λ w f l. rw (begins-tree r.ctx.texts w (begins fresh fits) f) l) words fine ms) in
        subst (Holds r) (ok-world e) (start-holds fresh fits k)
    measured-holds fits (deep n) e = absurd (not-refused e)

    pub begun-holds : (n : ℕ) {u : World} → next (copy_pool n pool s) (λ _. measure r.ctx n words) ≡ ok tt u → Holds r u
    unfolding copy_pool when
    begun-holds n {u} = by (leb (length pool) (type_room s.types)) refl
      where
        by : (t : Bool) → leb (length pool) (type_room s.types) ≡ t
            → next (when t (give (tt {0}) (with_types s (buffer (write s.types.words 0 pool) (length pool)))) (refuse (refusal 7 n)) s) (λ _. measure r.ctx n words) ≡ ok tt u → Holds r u
        by true e q =
            let l = leb-true (length pool) (type_room s.types) e in
            measured-holds (omega arith) (measured r.ctx n words (with_types s (buffer (write s.types.words 0 pool) (length pool)))) q
        by false e q = absurd (not-refused q)

  -- The walk of some roots, from a fresh world, of a library that is as claimed where its types were measured.
  pub walk_ends : (n : ℕ) (words : List ℕ) → Every FineType words → (Every Shallow words → All (PackageOk r (buffer pool (length pool))) r.ctx.library)
      → (roots : Nodes) → ProperAll (Below r) (NameAt r) roots → {s : World} → Fresh r.ctx.void s → Ends r roots (over r.ctx n pool words roots s)
  unfolding over copy_pool when
  walk_ends n words fine lib roots proper {s} fresh = by (leb (length pool) (type_room s.types)) refl
    where
      by : (t : Bool) → leb (length pool) (type_room s.types) ≡ t
          → Ends r roots (next (when t (give (tt {0}) (with_types s (buffer (write s.types.words 0 pool) (length pool)))) (refuse (refusal 7 n)) s)
          (λ _ t. next (measure r.ctx n words t) (λ _ t. next (last r.ctx (Known r.ctx.void) roots t) (λ _. skip))))
      by true e =
          let l = leb-true (length pool) (type_room s.types) e in
          after-measure fresh (omega arith) words fine lib roots proper (measured r.ctx n words (with_types s (buffer (write s.types.words 0 pool) (length pool))))
      by false e = stops
