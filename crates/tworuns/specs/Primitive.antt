-- The primitive steps of two runs: a diagnostic, a name in scope, frames, packages held and own functions. Assumes nothing.
use Rattle.std.specs.Prelude.{ℕ, ◌+◌, ◌*◌, ◌/◌, ◌≤◌, ◌<◌, min, ◌≡◌, Bool, true, false, List, [], ◌∷◌, leb, ltb, length}
use Rattle.std.proofs.Common.{arith, sym, ap, leb-true, ltb-true, le-leb, lt-ltb}
use Rattle.std.proofs.Math.Path.{refl}
use Rattle.std.proofs.Math.Bool.{and-eq-true_iff}
use Rattle.std.proofs.Math.Option.{Option}
use Rattle.tok.specs.Step.{Result, ok, Refusal, refusal, next, give, refuse, when, for_each}
use Rattle.ptype.specs.Add.{Buffer, buffer, write, append}
use Rattle.err.specs.Message.{Diagnostic}
use Rattle.laws.specs.Writes.{length-write}
use Rattle.library.specs.Package.{Param, signature, function, Package}
use Rattle.rules.specs.World.{Local, World, Walk, with_told, with_env}
use Rattle.err.specs.Report.{Output, added, tell, six_words, bytes_of, has_room, one_more}
use Rattle.rules.specs.Steps.{Done, raised_told, report, poison, env_insert, framed, apart, hold, enter, output_of}
use Rattle.tworuns.specs.Means.{grown-same}
use Rattle.tworuns.specs.Runs.{Runs, Relation, Each, end, and, Both?, each_map, SameTold, Worlds, SameName, SameType, SameLocal, SamePackage, SameFunction, local_grow}
use Rattle.tworuns.specs.Runs as R
use Rattle.tworuns.specs.Logic.{Gives, gives, stopped, cut, p_next, p_return, Answers, Nothing, Parts, fine, parted}
use Rattle.tworuns.specs.Written.{take-written}

-- the room for a diagnostic, as lengths
pub record Room (s : World) (d : Diagnostic) : Type 0 where
  pub told : s.diagnostics.used < min (length s.diagnostics.words / 6) 256
  pub bytes : s.messages.used + length (bytes_of d) ≤ min (length s.messages.words) 65536

pub room-true : (s : World) (d : Diagnostic) → has_room (output_of s) d ≡ true → Room s d
room-true s d e =
    let h = (and-eq-true_iff (ltb s.diagnostics.used (min (length s.diagnostics.words / 6) 256)) (leb (s.messages.used + length (bytes_of d)) (min (length s.messages.words) 65536))).0 e in
    record {
      told = ltb-true s.diagnostics.used (min (length s.diagnostics.words / 6) 256) h.0;
      bytes = leb-true (s.messages.used + length (bytes_of d)) (min (length s.messages.words) 65536) h.1;
    }

true-room : (s : World) (d : Diagnostic) → Room s d → has_room (output_of s) d ≡ true
true-room s d h =
    (and-eq-true_iff (ltb s.diagnostics.used (min (length s.diagnostics.words / 6) 256)) (leb (s.messages.used + length (bytes_of d)) (min (length s.messages.words) 65536))).1
    (lt-ltb s.diagnostics.used (min (length s.diagnostics.words / 6) 256) h.told, le-leb (s.messages.used + length (bytes_of d)) (min (length s.messages.words) 65536) h.bytes)

module _ (r : Runs) where
  -- words written at the end of what was told
  told_more : (m : ℕ) {b b' : Buffer} (at at' : ℕ) (new : List ℕ) (k : ℕ) → SameTold r m b b' → at ≡ m * b.used → at' ≡ at → at + length new ≡ m * (b.used + k)
      → at + length new ≤ length b.words → SameTold r m (buffer (write b.words at new) (b.used + k)) (buffer (write b'.words at' new) (b'.used + k))
  told_more m {b} {b'} at at' new k t e f sum fits = record {
    used = ap (λ (n : ℕ). n + k) t.used;
    front = rw (← sum, f, take-written b.words at new fits, take-written b'.words at new (omega (arith, t.long)), e, t.front);
    long = rw (length-write b.words at new, length-write b'.words at' new) t.long;
  }

  -- a test that stays true, or the first run is refused
  p_test : {A : Type 0} {Q : Relation A} {b b' : Bool} (x x' y' : Walk A) (e : Refusal) {s s' : World} → (b ≡ true → b' ≡ true) → (b ≡ true → Gives r Q s s' (x s) (x' s'))
      → Gives r Q s s' (when b x (refuse e) s) (when b' x' y' s')
  unfolding when
  p_test {b = true} x x' y' e h k = rw (h refl) (k refl)
  p_test {b = false} x x' y' e h k = stopped

  -- and where the steps are those of the diagnostics and messages
  p_told : {Q : Relation Done} {b b' : Bool} (o o' : Output) (e : Refusal) {s s' : World} → (b ≡ true → b' ≡ true)
      → (b ≡ true → Gives r Q s s' (ok tt (with_told s o.diagnostics o.messages)) (ok tt (with_told s' o'.diagnostics o'.messages)))
      → Gives r Q s s' (raised_told s (when b (give tt o) (refuse e) (output_of s))) (raised_told s' (when b' (give tt o') (refuse e) (output_of s')))
  unfolding when raised_told
  p_told {b = true} o o' e h k = rw (h refl) (k refl)
  p_told {b = false} o o' e h k = stopped

  module _ {s s' : World} (ws : Worlds r s s') where
    room-more : (d : Diagnostic) → Room s d → Room s' d
    room-more d h = record {
      told = omega (arith, h.told, ws.diagnostics.used, ws.diagnostics.long);
      bytes = omega (arith, h.bytes, ws.messages.used, ws.messages.long);
    }

    after-report : (d : Diagnostic) → Room s d
        → Worlds r (with_told s (one_more s.diagnostics (six_words d s.messages.used)) (append s.messages (bytes_of d)))
        (with_told s' (one_more s'.diagnostics (six_words d s'.messages.used)) (append s'.messages (bytes_of d)))
    unfolding append six_words
    after-report d h = record {
      names = ws.names;
      up = ws.up;
      slots = ws.slots;
      room = ws.room;
      room' = ws.room';
      types = ws.types;
      env = ws.env;
      packages = ws.packages;
      own = ws.own;
      library = ws.library;
      diagnostics = rw (← ws.messages.used)
          (told_more 6 (6 * s.diagnostics.used) (6 * s'.diagnostics.used) (six_words d s.messages.used) 1 ws.diagnostics refl
          (omega (arith, ws.diagnostics.used)) (omega arith) (omega (arith, h.told)));
      messages = told_more 1 s.messages.used s'.messages.used (bytes_of d) (length (bytes_of d)) ws.messages (omega arith) (sym ws.messages.used) (omega arith) (omega (arith, h.bytes));
      log = ws.log;
    }

    reported : (n : ℕ) (d : Diagnostic) → Gives r (Nothing r) s s' (report n d s) (report n d s')
    unfolding report tell
    reported n d =
        p_told (added (output_of s) d) (added (output_of s') d) _ (λ e. true-room s' d (room-more d (room-true s d e)))
        (λ e. gives (grown-same s.types) (grown-same s'.types) (after-report d (room-true s d e)) tt)

    pub p_report : (n : ℕ) {d d' : Diagnostic} → d ≡ d' → Gives r (Nothing r) s s' (report n d s) (report n d' s')
    p_report n {d} {d'} e = rw (← e) (reported n d)

    pub p_poison : (n : ℕ) {d d' : Diagnostic} → d ≡ d' → Gives r (Answers r) s s' (poison n d s) (poison n d' s')
    unfolding poison
    p_poison n e = p_next r _ _ (p_report n e) (λ a a' u u' g g' v _. p_return r v R.poison)

    -- one more name in scope, package held or own function
    pub p_insert : (name : ℕ) (o o' : Option ℕ) → SameName r name name → Both? (SameType r s.types s'.types) o o' → Gives r (Nothing r) s s' (env_insert name o s) (env_insert name o' s')
    unfolding env_insert
    p_insert name o o' n h =
        gives (grown-same s.types) (grown-same s'.types) (record {
          names = ws.names;
          up = ws.up;
          slots = ws.slots;
          room = ws.room;
          room' = ws.room';
          types = ws.types;
          env = and (record { name = n; type = h }) ws.env;
          packages = ws.packages;
          own = ws.own;
          library = ws.library;
          diagnostics = ws.diagnostics;
          messages = ws.messages;
          log = ws.log;
        }) tt

    pub p_hold : {p p' : Package} → SamePackage r s.types s'.types p p' → Gives r (Nothing r) s s' (hold p s) (hold p' s')
    unfolding hold
    p_hold h =
        gives (grown-same s.types) (grown-same s'.types) (record {
          names = ws.names;
          up = ws.up;
          slots = ws.slots;
          room = ws.room;
          room' = ws.room';
          types = ws.types;
          env = ws.env;
          packages = and h ws.packages;
          own = ws.own;
          library = ws.library;
          diagnostics = ws.diagnostics;
          messages = ws.messages;
          log = ws.log;
        }) tt

    pub p_enter : (name : ℕ) (ps ps' : List Param) (ret ret' : ℕ) → SameFunction r s.types s'.types (function name (signature ps ret false)) (function name (signature ps' ret' false))
        → Gives r (Nothing r) s s' (enter name ps ret s) (enter name ps' ret' s')
    unfolding enter
    p_enter name ps ps' ret ret' h =
        gives (grown-same s.types) (grown-same s'.types) (record {
          names = ws.names;
          up = ws.up;
          slots = ws.slots;
          room = ws.room;
          room' = ws.room';
          types = ws.types;
          env = ws.env;
          packages = ws.packages;
          own = and h ws.own;
          library = ws.library;
          diagnostics = ws.diagnostics;
          messages = ws.messages;
          log = ws.log;
        }) tt

    pub worlds_env : {e e' : List Local} → Each (SameLocal r s.types s'.types) e e' → Worlds r (with_env s e) (with_env s' e')
    worlds_env h = record {
      names = ws.names;
      up = ws.up;
      slots = ws.slots;
      room = ws.room;
      room' = ws.room';
      types = ws.types;
      env = h;
      packages = ws.packages;
      own = ws.own;
      library = ws.library;
      diagnostics = ws.diagnostics;
      messages = ws.messages;
      log = ws.log;
    }

-- Steps that only read: the same value in both, and the worlds as they are.
pub record Reads {A : Type 0} (s s' : World) (x x' : Result World Refusal A) : Type 0 where
  pub value : A
  pub first : x ≡ ok value s
  pub second : x' ≡ ok value s'

pub p_reads : {r : Runs} {A B : Type 0} {Q : Relation B} {s s' : World} {x x' : Result World Refusal A} (f f' : A → Walk B) (h : Reads s s' x x')
    → Gives r Q s s' (f h.value s) (f' h.value s') → Gives r Q s s' (next x f) (next x' f')
p_reads f f' h k = rw (h.first, h.second) k

pub reads-each : {A B : Type 0} {P : A → A → Type 0} {s s' : World} (f f' : A → Walk B) {xs xs' : List A} → Each P xs xs' → ((a a' : A) → P a a' → Reads s s' (f a s) (f' a' s'))
    → Reads s s' (for_each f xs s) (for_each f' xs' s')
unfolding for_each
reads-each f f' end k = record { value = []; first = refl; second = refl }
reads-each f f' (and {a = a} {b = a'} p rest) k =
    let x = k a a' p in
    let y = reads-each f f' rest k in
    record { value = x.value ∷ y.value; first = rw (x.first, y.first); second = rw (x.second, y.second) }

-- frames, where the runs may part
module _ (r : Runs) {A : Type 0} {Q : Relation A} {s s' : World} (ws : Worlds r s s') (m m' : Walk A) where
  pub q_framed : Parts r Q s s' (m s) (m' s') → Parts r Q s s' (framed m s) (framed m' s')
  unfolding framed
  q_framed h = back h
    where
      back : {x x' : Result World Refusal A} → Parts r Q s s' x x' → Parts r Q s s' (next x (λ a after. ok a (with_env after s.env))) (next x' (λ a after. ok a (with_env after s'.env)))
      back (fine (gives g g' v q)) = fine (gives g g' (worlds_env r v (each_map (local_grow r g g') ws.env)) q)
      back (fine stopped) = fine stopped
      back (fine (cut n)) = fine (cut n)
      back (parted n l) = parted n l

  pub q_apart : (Worlds r (with_env s []) (with_env s' []) → Parts r Q (with_env s []) (with_env s' []) (m (with_env s [])) (m' (with_env s' []))) → Parts r Q s s' (apart m s) (apart m' s')
  unfolding apart framed
  q_apart h = back (h (worlds_env r ws end))
    where
      back : {x x' : Result World Refusal A} → Parts r Q (with_env s []) (with_env s' []) x x'
          → Parts r Q s s' (next x (λ a after. ok a (with_env after s.env))) (next x' (λ a after. ok a (with_env after s'.env)))
      back (fine (gives g g' v q)) = fine (gives g g' (worlds_env r v (each_map (local_grow r g g') ws.env)) q)
      back (fine stopped) = fine stopped
      back (fine (cut n)) = fine (cut n)
      back (parted n l) = parted n l

-- A diagnostic of the first run alone, where the runs part.
pub q_told : {r : Runs} {s s' : World} (n : ℕ) (d : Diagnostic) → (r.strict → ⊥) → (x : Result World Refusal Done) → Parts r (Nothing r) s s' (report n d s) x
unfolding report tell raised_told when
q_told {r} {s} {s'} n d k x = by (has_room (output_of s) d)
  where
    by : (b : Bool) → Parts r (Nothing r) s s' (raised_told s (when b (give (tt {0}) (added (output_of s) d)) (refuse (refusal 9 n)) (output_of s))) x
    by true = parted {u = with_told s (one_more s.diagnostics (six_words d s.messages.used)) (append s.messages (bytes_of d))} k (omega arith)
    by false = fine stopped
