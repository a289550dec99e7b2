-- The walk as a whole in two runs: the pool copied, the library's types measured, the roots visited. Assumes nothing.
use Rattle.std.specs.Prelude.{ℕ, ◌≤◌, ◌<◌, ◌≡◌, Bool, get_or, take}
use Rattle.std.proofs.Common.{zero-add, arith, sym, ◌∙◌, subst, take-take}
use Rattle.std.proofs.Math.Path.{refl, ap}
use Rattle.std.proofs.Math.Bool.{true, false, true≢false}
use mathlib.Core.List.{List, [], ◌∷◌, ◌++◌}
use Rattle.std.proofs.Math.Dec.{leb}
use Rattle.std.proofs.Math.ListN.{length}
use Rattle.std.proofs.Math.Seq.{take-length}
use borrow.Author.Tests.{leb-true, le-leb}
use Rattle.tok.specs.Step.{Result, ok, refused, Refusal, refusal, next, ◌>>=◌, ◌>>◌, give, refuse, when}
use Rattle.ptype.specs.Ty.{depth_of}
use Rattle.ptype.specs.Words.{ty_of, void_word}
use Rattle.ptype.specs.Add.{Buffer, buffer, write, type_room}
use Rattle.ptype.specs.Inside.{Throughout}
use Rattle.ast.specs.Node.{Nodes}
use Rattle.library.specs.Package.{Package}
use Rattle.rules.specs.declared.Answer.TheVariants.{Known}
use Rattle.rules.specs.World.{Ctx, World, Walk, with_types}
use Rattle.rules.specs.Steps.{Done, skip, tree}
use Rattle.rules.specs.Rules.{last}
use Rattle.rules.specs.Names.{package_names}
use Rattle.rules.specs.Walk.{copy_pool, measure, package_types}
use Rattle.rules.specs.Promises.{Every}
use Rattle.laws.specs.Writes.{length-write}
use Rattle.tworuns.specs.Runs.{Runs, Each, end, and, Front, ends, longer, before, Slot, own, void, SameType, Used, Worlds, tree-second}
use Rattle.tworuns.specs.Runs as R
use Rattle.tworuns.specs.Sound.{SoundAll}
use Rattle.laws.specs.RulesKeep.{in_return}
use Rattle.tworuns.specs.Logic.{gives, stopped, cut, p_return, Nothing, told-kept, Parts, fine, parted, q_next}
use Rattle.tworuns.specs.Written.{take-written}
use Rattle.tworuns.specs.Exprs.{Names, In, plain-same}
use Rattle.tworuns.specs.Operators.{plain-low}
use Rattle.tworuns.specs.Rules.{Own, void-same}
use Rattle.tworuns.specs.Nodes.{q_last}
use Rattle.tworuns.specs.Pool.{TypeFine, Begins, pool-same, packages-same, every_back}

-- the walk, of a context, a pool, the types that are measured and the roots
unfoldable pub over : Ctx → (n : ℕ) → (pool measured : List ℕ) → Nodes → Walk Done
over c n pool words roots = do
  copy_pool n pool
  measure c n words
  _ ← last c (Known c.void) roots
  skip

pub every-both : {A : Type 0} (P Q R : A → Type 0) → ((a : A) → P a → Q a → R a) → (xs : List A) → Every P xs → Every Q xs → Every R xs
unfolding Every
every-both P Q R f [] h k = tt
every-both P Q R f (x ∷ xs) h k = (f x h.0 k.0, every-both P Q R f xs h.1 k.1)

pub every_map : {A : Type 0} (P Q : A → Type 0) → ((a : A) → P a → Q a) → (xs : List A) → Every P xs → Every Q xs
every_map P Q f xs h = every-both P P Q (λ a x _. f a x) xs h h

-- "every library type measured": the world stays, or one is too deep
abbrev pub Low : Ctx → World → ℕ → Type 0
Low c s w = depth_of (ty_of c.texts s.types.words w) ≤ 32

pub data Measured (c : Ctx) (s : World) (words : List ℕ) : Result World Refusal Done → Type 0 where
  low : Every (Low c s) words → Measured c s words (ok tt s)
  deep : {e : Refusal} → (Every (Low c s) words → ⊥) → Measured c s words (refused e)

pub measured : (c : Ctx) (n : ℕ) (words : List ℕ) (s : World) → Measured c s words (measure c n words s)
unfolding measure Every tree when
measured c n [] s = low tt
measured c n (w ∷ ws) s = by (leb (depth_of (ty_of c.texts s.types.words w)) 32) refl (measured c n ws s)
  where
    more : {x : Result World Refusal Done} → Low c s w → Measured c s ws x → Measured c s (w ∷ ws) x
    more l (low h) = low (l, h)
    more l (deep h) = deep (λ k. h k.1)

    by : (b : Bool) → leb (depth_of (ty_of c.texts s.types.words w)) 32 ≡ b → Measured c s ws (measure c n ws s) → Measured c s (w ∷ ws) (when b (measure c n ws) (refuse (refusal 8 n)) s)
    by true e m = more (leb-true _ 32 e) m
    by false e m = deep (λ k. true≢false (sym (le-leb _ 32 k.0) ∙ e))

-- A world before the walk.
pub record Fresh (v : ℕ) (s : World) : Type 0 where
  pub empty : (a : ℕ) → a < v → get_or s.slots a 0 ≡ 0
  pub voids : get_or s.slots v 0 ≡ void_word
  pub room : v < length s.slots
  pub env : s.env ≡ []
  pub packages : s.packages ≡ []
  pub own : s.own ≡ []
  pub diagnostics : s.diagnostics.used ≡ 0
  pub messages : s.messages.used ≡ 0

-- the pool in a types buffer
pub begins-pool : (words pool part : List ℕ) → length pool ≤ length words → length part ≤ length pool → take (length part) pool ≡ part → Begins part (buffer (write words 0 pool) (length pool))
begins-pool words pool part fits less e = record {
  front =
      let whole : take (length pool) (write words 0 pool) ≡ pool = ap (λ (n : ℕ). take n (write words 0 pool)) (sym (zero-add (length pool))) ∙ take-written words 0 pool (rw zero-add fits) in
      sym (take-take (length part) (length pool) (write words 0 pool) less) ∙ (ap (take (length part)) whole ∙ e);
  more = less;
}

-- What the walks of two runs begin with. The packages of the first are the same words in both.
pub record Beginning (r : Runs) (s s' : World) (pool pool' measured measured' : List ℕ) : Type 0 where
  pub fresh : Fresh r.first.void s
  pub fresh' : Fresh r.second.void s'
  pub names : Names r
  pub up : r.first.void ≤ r.second.void
  pub long_pool : length pool ≤ length pool'
  pub same_pool : take (length pool) pool' ≡ pool
  pub more : List Package
  pub library : r.second.library ≡ r.first.library ++ more
  pub library_names : Every (In r) (package_names r.first.library)
  pub others : List ℕ
  pub types : measured ≡ others ++ package_types r.first.library
  pub fine : Every (λ w. Throughout (TypeFine r.first.texts pool (length pool)) pool 33 w) measured
  pub long_diagnostics : length s.diagnostics.words ≤ length s'.diagnostics.words
  pub long_messages : length s.messages.words ≤ length s'.messages.words
  -- where they are alike word for word
  pub log : r.strict → R.SameLog r s.log s'.log
  pub long_types : r.strict → length s.types.words ≤ length s'.types.words
  pub pools : r.strict → pool ≡ pool'
  pub measures : r.strict → measured ≡ measured'
  pub no_more : r.strict → more ≡ []

-- the same packages, and more after them in the second unless the runs are alike word for word
each-front : {A : Type 0} {E : Type 0} {R : A → A → Type 0} {xs ys : List A} (more : List A) → (E → more ≡ []) → Each R xs ys → Front E R xs (ys ++ more)
each-front [] n end = ends
each-front (x ∷ more) n end = longer (λ z. no_cons (n z))
  where
    no_cons : x ∷ more ≡ [] → ⊥
    no_cons e = let z : ◌≡◌ {A = ℕ} 0 1 = cc in omega arith
each-front more n (and h rest) = before h (each-front more n rest)

-- what two walks end in
pub data Walks (r : Runs) : Result World Refusal Done → Result World Refusal Done → Type 0 where
  walks : {u u' : World} → Worlds r u u' → Walks r (ok tt u) (ok tt u')
  stops : {e : Refusal} {x : Result World Refusal Done} → Walks r (refused e) x
  cuts : {e : Refusal} {x : Result World Refusal Done} → (r.strict → ⊥) → Walks r x (refused e)
  -- only after a diagnostic of the first
  parts : {u : World} {x : Result World Refusal Done} → (r.strict → ⊥) → 1 ≤ u.diagnostics.used → Walks r (ok tt u) x

to-walks : {r : Runs} {u u' : World} {x x' : Result World Refusal Done} → Parts r (Nothing r) u u' x x' → Walks r x x'
to-walks (fine (gives g g' ws q)) = walks ws
to-walks (fine stopped) = stops
to-walks (fine (cut k)) = cuts k
to-walks (parted k l) = parts k l

module _ (r : Runs) {s s' : World} {pool pool' words words' : List ℕ} (h : Beginning r s s' pool pool' words words') where
  abbrev d : Buffer
  d = buffer (write s.types.words 0 pool) (length pool)

  abbrev d' : Buffer
  d' = buffer (write s'.types.words 0 pool') (length pool')

  module _ (fits : length pool ≤ type_room s.types) (fits' : length pool' ≤ type_room s'.types) where
    first-begins : Begins pool d
    first-begins = begins-pool s.types.words pool pool (omega arith) (omega arith) (take-length pool)

    second-begins : Begins pool d'
    second-begins = begins-pool s'.types.words pool' pool (omega arith) h.long_pool h.same_pool

    used-pool : Used r d d'
    used-pool z =
        let e = h.pools z in
        record {
          used = ap (λ (x : List ℕ). length x) e;
          front = first-begins.front ∙ sym second-begins.front;
          long = rw (length-write s.types.words 0 pool, length-write s'.types.words 0 pool') (h.long_types z);
        }

    module _ (depths : Every (Low r.first (with_types s d)) words) where
      all_same : Every (λ w. SameType r d d' w w) words
      all_same =
          every-both (λ w. Throughout (TypeFine r.first.texts pool (length pool)) pool 33 w) (Low r.first (with_types s d)) (λ w. SameType r d d' w w)
          (λ w f l. pool-same r pool first-begins second-begins h.names w f l) words h.fine depths

      slots_same : (a a' : ℕ) → Slot r a a' → SameType r d d' (get_or s.slots a 0) (get_or s'.slots a' 0)
      slots_same a a' (own l) = rw (h.fresh.empty a l, h.fresh'.empty a (omega (arith, h.up))) (plain-same r d d' 0 (plain-low 0 (omega arith)))
      slots_same a a' void = rw (h.fresh.voids, h.fresh'.voids) (void-same r d d')

      begun : Worlds r (with_types s d) (with_types s' d')
      begun = record {
        names = h.names;
        up = h.up;
        slots = slots_same;
        room = h.fresh.room;
        room' = h.fresh'.room;
        types = used-pool;
        env = rw (h.fresh.env, h.fresh'.env) end;
        packages = rw (h.fresh.packages, h.fresh'.packages) end;
        own = rw (h.fresh.own, h.fresh'.own) end;
        library = subst (λ (l : List Package). Front r.strict (R.SamePackage r d d') r.first.library l) (sym h.library)
            (each-front h.more h.no_more (packages-same r d d' h.names r.first.library h.library_names
            (every_back (λ w. SameType r d d' w w) h.others (package_types r.first.library) (rw h.types at all_same))));
        diagnostics = record { used = h.fresh.diagnostics ∙ sym h.fresh'.diagnostics; front = rw h.fresh.diagnostics refl; long = h.long_diagnostics };
        messages = record { used = h.fresh.messages ∙ sym h.fresh'.messages; front = rw h.fresh.messages refl; long = h.long_messages };
        log = h.log;
      }

      -- and the second run measures them so too
      measured_too : r.strict → Every (Low r.second (with_types s' d')) words'
      measured_too z =
          rw (h.measures z) at (every_map (λ w. SameType r d d' w w) (Low r.second (with_types s' d')) (λ w x. rw (tree-second r x) x.low) words all_same)

  -- The walk: the same answer in both runs.
  module _ (n n' : ℕ) (roots : Nodes) (sound : SoundAll (Own r) (In r) roots) where
    visited : (fits : length pool ≤ type_room s.types) (fits' : length pool' ≤ type_room s'.types) {x x' : Result World Refusal Done}
        → Measured r.first (with_types s d) words x → Measured r.second (with_types s' d') words' x'
        → Parts r (Nothing r) (with_types s d) (with_types s' d')
        (next x (λ _. ◌>>=◌ (last r.first (Known r.first.void) roots) (λ _. skip)))
        (next x' (λ _. ◌>>=◌ (last r.second (Known r.second.void) roots) (λ _. skip)))
    visited f f' (deep k) m = fine stopped
    visited f f' (low l) (deep k) = fine (cut (λ z. k (measured_too f f' l z)))
    visited f f' (low l) (low l') =
        q_next r _ _ (q_last r roots sound (R.known void) (begun f f' l)) (λ _. in_return told-kept tt) (λ _ _ u u' g g' v _. fine (p_return r v tt))

    pub over-walks : Walks r (over r.first n pool words roots s) (over r.second n' pool' words' roots s')
    unfolding over copy_pool when
    over-walks = go (leb (length pool) (type_room s.types)) refl (leb (length pool') (type_room s'.types)) refl
      where
        go : (a : Bool) → leb (length pool) (type_room s.types) ≡ a → (a' : Bool) → leb (length pool') (type_room s'.types) ≡ a'
            → Walks r
            (next (when a (give (tt {0}) (with_types s d)) (refuse (refusal 7 n)) s)
            (λ _ t. next (measure r.first n words t) (λ _. ◌>>=◌ (last r.first (Known r.first.void) roots) (λ _. skip))))
            (next (when a' (give (tt {0}) (with_types s' d')) (refuse (refusal 7 n')) s')
            (λ _ t. next (measure r.second n' words' t) (λ _. ◌>>=◌ (last r.second (Known r.second.void) roots) (λ _. skip))))
        go false e a' e' = stops
        go true e false e' =
            cuts (λ z. let q = ap (λ (x : List ℕ). length x) (h.pools z) in
            true≢false (sym (le-leb (length pool') (type_room s'.types) (omega (arith, leb-true (length pool) (type_room s.types) e, h.long_types z))) ∙ e'))
        go true e true e' =
            to-walks (visited (leb-true (length pool) (type_room s.types) e) (leb-true (length pool') (type_room s'.types) e')
            (measured r.first n words (with_types s d)) (measured r.second n' words' (with_types s' d')))
