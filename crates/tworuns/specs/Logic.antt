-- Program logic of two runs: where the first gives an answer, the second gives the same one, or it is refused and the runs are
-- not alike word for word. The steps that the rules are made of. Assumes nothing.
use Rattle.std.specs.Prelude.{ℕ, ◌≤◌, ◌<◌, ◌≡◌, refl, Bool, true, false, get_or, set}
use Rattle.std.proofs.Common.{arith, length-set}
use Rattle.std.proofs.Math.Decide.{ℕ_discrete}
use Rattle.std.proofs.Math.Option.{Option}
use Rattle.std.proofs.Math.Seq.{get_or-set_same, get_or-set_other}
use Rattle.tok.specs.Step.{Result, ok, refused, Step, Refusal, next, when}
use Rattle.ptype.specs.Add.{Buffer}
use Rattle.rules.specs.declared.Answer.{Answer}
use Rattle.rules.specs.World.{Log, World, Walk, with_slots}
use Rattle.rules.specs.Steps.{Done, known, if_known, on_option, set_known, raised, on_types, raised_log, on_log}
use Rattle.laws.specs.Keeps.{Keeps, kept, StepsKeep, Enters}
use Rattle.laws.specs.Keeps as K
use Rattle.tworuns.specs.Means.{Grown, grown-same, grown-trans}
use Rattle.tworuns.specs.Runs.{Runs, Relation, Both?, neither, present, Used, Slot, own, void, SameAnswer, SameLog, Worlds, worlds_grow, worlds_log, SameType}
use Rattle.tworuns.specs.Runs as R

module _ (r : Runs) where
  -- results of steps of the types buffers b and b', with answers in a relation
  pub data Typed {A : Type 0} (Q : Relation A) (b b' : Buffer) : Result Buffer Refusal A → Result Buffer Refusal A → Type 0 where
    typed : {a a' : A} {d d' : Buffer} → Grown b d → Grown b' d' → Used r d d' → Q d d' a a' → Typed Q b b' (ok a d) (ok a' d')
    stopped : {e : Refusal} {x : Result Buffer Refusal A} → Typed Q b b' (refused e) x
    cut : {e : Refusal} {x : Result Buffer Refusal A} → (r.strict → ⊥) → Typed Q b b' x (refused e)

  -- and of steps of the logs, beside these types buffers
  pub data Logged {A : Type 0} (Q : Relation A) (b b' : Buffer) : Result Log Refusal A → Result Log Refusal A → Type 0 where
    logged : {a a' : A} {l l' : Log} → (r.strict → SameLog r l l') → Q b b' a a' → Logged Q b b' (ok a l) (ok a' l')
    stopped : {e : Refusal} {x : Result Log Refusal A} → Logged Q b b' (refused e) x
    cut : {e : Refusal} {x : Result Log Refusal A} → (r.strict → ⊥) → Logged Q b b' x (refused e)

  -- and of steps of the walk, from the worlds s and s'
  pub data Gives {A : Type 0} (Q : Relation A) (s s' : World) : Result World Refusal A → Result World Refusal A → Type 0 where
    gives : {a a' : A} {u u' : World} → Grown s.types u.types → Grown s'.types u'.types → Worlds r u u' → Q u.types u'.types a a'
        → Gives Q s s' (ok a u) (ok a' u')
    stopped : {e : Refusal} {x : Result World Refusal A} → Gives Q s s' (refused e) x
    cut : {e : Refusal} {x : Result World Refusal A} → (r.strict → ⊥) → Gives Q s s' x (refused e)

  module _ {B : Type 0} {Q : Relation B} where
    t_more : {b b' d d' : Buffer} {x x' : Result Buffer Refusal B} → Grown b d → Grown b' d' → Typed Q d d' x x' → Typed Q b b' x x'
    t_more g g' (typed h h' u q) = typed (grown-trans g h) (grown-trans g' h') u q
    t_more g g' stopped = stopped
    t_more g g' (cut n) = cut n

    more : {s s' u u' : World} {x x' : Result World Refusal B} → Grown s.types u.types → Grown s'.types u'.types → Gives Q u u' x x' → Gives Q s s' x x'
    more g g' (gives h h' ws q) = gives (grown-trans g h) (grown-trans g' h') ws q
    more g g' stopped = stopped
    more g g' (cut n) = cut n

  -- One step and the rest: what the rest gives, from the buffers or worlds that the step left.
  module _ {A B : Type 0} {P : Relation A} {Q : Relation B} where
    pub t_next : {b b' : Buffer} {x x' : Result Buffer Refusal A} (f f' : A → Step Buffer Refusal B) → Typed P b b' x x'
        → ((a a' : A) (d d' : Buffer) → Grown b d → Grown b' d' → Used r d d' → P d d' a a' → Typed Q d d' (f a d) (f' a' d'))
        → Typed Q b b' (next x f) (next x' f')
    t_next f f' (typed {a = a} {a' = a'} {d = d} {d' = d'} g g' u p) k = t_more g g' (k a a' d d' g g' u p)
    t_next f f' stopped k = stopped
    t_next f f' (cut n) k = cut n

    pub p_next : {s s' : World} {x x' : Result World Refusal A} (f f' : A → Walk B) → Gives P s s' x x'
        → ((a a' : A) (u u' : World) → Grown s.types u.types → Grown s'.types u'.types → Worlds r u u' → P u.types u'.types a a' → Gives Q u u' (f a u) (f' a' u'))
        → Gives Q s s' (next x f) (next x' f')
    p_next f f' (gives {a = a} {a' = a'} {u = u} {u' = u'} g g' ws p) k = more g g' (k a a' u u' g g' ws p)
    p_next f f' stopped k = stopped
    p_next f f' (cut n) k = cut n

  module _ {A : Type 0} {Q : Relation A} where
    pub p_return : {s s' : World} {a a' : A} → Worlds r s s' → Q s.types s'.types a a' → Gives Q s s' (ok a s) (ok a' s')
    p_return {s} {s'} ws q = gives (grown-same s.types) (grown-same s'.types) ws q

    -- a test of what is the same in both
    pub p_when : {b b' : Bool} (x y x' y' : Walk A) {s s' : World} → b ≡ b' → (b ≡ true → Gives Q s s' (x s) (x' s')) → (b ≡ false → Gives Q s s' (y s) (y' s'))
        → Gives Q s s' (when b x y s) (when b' x' y' s')
    unfolding when
    p_when {b = true} x y x' y' e h k = rw (← e) (h refl)
    p_when {b = false} x y x' y' e h k = rw (← e) (k refl)

    pub t_when : {b b' : Bool} (x y x' y' : Step Buffer Refusal A) {d d' : Buffer} → b ≡ b' → (b ≡ true → Typed Q d d' (x d) (x' d')) → (b ≡ false → Typed Q d d' (y d) (y' d'))
        → Typed Q d d' (when b x y d) (when b' x' y' d')
    unfolding when
    t_when {b = true} x y x' y' e h k = rw (← e) (h refl)
    t_when {b = false} x y x' y' e h k = rw (← e) (k refl)

    -- where two answers or two options are related
    pub p_option : {B : Type 0} {P : B → B → Type 0} {o o' : Option B} (m m' : Walk A) (f f' : B → Walk A) {s s' : World} → Both? P o o'
        → Gives Q s s' (m s) (m' s') → ((a a' : B) → P a a' → Gives Q s s' (f a s) (f' a' s')) → Gives Q s s' (on_option o m f s) (on_option o' m' f' s')
    unfolding on_option
    p_option m m' f f' neither h k = h
    p_option m m' f f' (present {a = a} {b = b} p) h k = k a b p

    pub p_on_types : (m m' : Step Buffer Refusal A) {s s' : World} → Worlds r s s' → Typed Q s.types s'.types (m s.types) (m' s'.types)
        → Gives Q s s' (on_types m s) (on_types m' s')
    unfolding on_types raised
    p_on_types m m' {s} {s'} ws h = go h
      where
        go : {x x' : Result Buffer Refusal A} → Typed Q s.types s'.types x x' → Gives Q s s' (raised s x) (raised s' x')
        go (typed g g' u q) = gives g g' (worlds_grow r g g' u ws) q
        go stopped = stopped
        go (cut n) = cut n

    pub p_on_log : (m m' : Step Log Refusal A) {s s' : World} → Worlds r s s' → Logged Q s.types s'.types (m s.log) (m' s'.log)
        → Gives Q s s' (on_log m s) (on_log m' s')
    unfolding on_log raised_log
    p_on_log m m' {s} {s'} ws h = go h
      where
        go : {x x' : Result Log Refusal A} → Logged Q s.types s'.types x x' → Gives Q s s' (raised_log s x) (raised_log s' x')
        go (logged l q) = gives (grown-same s.types) (grown-same s'.types) (worlds_log r l ws) q
        go stopped = stopped
        go (cut n) = cut n

    -- a step of the second run alone, where the runs are not alike word for word
    pub p_second : (r.strict → ⊥) → (a : A) (m' : Step Log Refusal A) {s s' : World} → Worlds r s s' → ((a' : A) → Q s.types s'.types a a')
        → Gives Q s s' (ok a s) (on_log m' s')
    unfolding on_log raised_log
    p_second n a m' {s} {s'} ws q = go (m' s'.log)
      where
        go : (x' : Result Log Refusal A) → Gives Q s s' (ok a s) (raised_log s' x')
        go (ok a' l') = gives (grown-same s.types) (grown-same s'.types) (worlds_log r {l = s.log} (λ z. absurd (n z)) ws) (q a')
        go (refused e) = cut n

  -- slots of answers
  abbrev pub Answers : Relation Answer
  Answers b b' a a' = SameAnswer r a a'

  abbrev pub Words : Relation ℕ
  Words b b' w w' = SameType r b b' w w'

  abbrev pub Nothing : Relation Done
  Nothing b b' a a' = Unit {0}

  abbrev pub Equal : {A : Type 0} → Relation A
  Equal b b' a a' = a ≡ a'

  pub p_known : {a a' : Answer} (f f' : ℕ → Walk Answer) {s s' : World} → Worlds r s s' → SameAnswer r a a'
      → ((x x' : ℕ) → Slot r x x' → Gives Answers s s' (f x s) (f' x' s')) → Gives Answers s s' (known a f s) (known a' f' s')
  unfolding known
  p_known f f' ws (R.known {a = a} {a' = a'} x) k = k a a' x
  p_known f f' ws R.poison k = p_return ws R.poison

  pub p_if_known : {a a' : Answer} (f f' : ℕ → Walk Done) {s s' : World} → Worlds r s s' → SameAnswer r a a'
      → ((x x' : ℕ) → Slot r x x' → Gives Nothing s s' (f x s) (f' x' s')) → Gives Nothing s s' (if_known a f s) (if_known a' f' s')
  unfolding if_known
  p_if_known f f' ws (R.known {a = a} {a' = a'} x) k = k a a' x
  p_if_known f f' ws R.poison k = p_return ws tt

  -- A node's own slot gets a word.
  pub p_set : {s s' : World} (slot : ℕ) {w w' : ℕ} → Worlds r s s' → slot < r.first.void → SameType r s.types s'.types w w'
      → Gives Answers s s' (set_known slot w s) (set_known slot w' s')
  unfolding set_known
  p_set {s} {s'} slot {w} {w'} ws l h =
      gives {u = with_slots s (set s.slots slot w)} {u' = with_slots s' (set s'.slots slot w')} (grown-same s.types) (grown-same s'.types) (record {
        names = ws.names;
        up = ws.up;
        slots = λ a a' x. after a a' x;
        room = rw (length-set s.slots slot w) ws.room;
        room' = rw (length-set s'.slots slot w') ws.room';
        types = ws.types;
        env = ws.env;
        packages = ws.packages;
        own = ws.own;
        library = ws.library;
        diagnostics = ws.diagnostics;
        messages = ws.messages;
        log = ws.log;
      }) (R.known (own l))
    where
      after : (a a' : ℕ) → Slot r a a' → SameType r s.types s'.types (get_or (set s.slots slot w) a 0) (get_or (set s'.slots slot w') a' 0)
      after a a' (own k) = at (ℕ_discrete a slot)
        where
          at : Dec (a ≡ slot) → SameType r s.types s'.types (get_or (set s.slots slot w) a 0) (get_or (set s'.slots slot w') a 0)
          at (yes e) =
              rw (e, get_or-set_same s.slots slot w 0 (omega (arith, ws.room)), get_or-set_same s'.slots slot w' 0 (omega (arith, ws.room', ws.up))) h
          at (no n) = rw (get_or-set_other s.slots slot a w 0 n, get_or-set_other s'.slots slot a w' 0 n) (ws.slots a a (own k))
      after a a' void =
          rw (
            get_or-set_other s.slots slot r.first.void w 0 (λ e. omega arith),
            get_or-set_other s'.slots slot r.second.void w' 0 (λ e. omega (arith, ws.up)),
          ) (ws.slots r.first.void r.second.void void)

-- Where the second library is longer, the runs may part: only after the first has a diagnostic, which it keeps.
abbrev pub Told : World → World → Type 0
Told s u = s.diagnostics.used ≤ u.diagnostics.used

abbrev pub Any : ℕ → Type 0
Any k = Unit {0}

pub told-kept : StepsKeep Told Any Any
told-kept = record {
  same = λ s. omega arith;
  trans = λ {s} {t} {u} x y. omega arith;
  slot = λ i w s p. omega arith;
  type = λ texts k new s e d. omega arith;
  told = λ d s e. omega arith;
  binds = λ l s. omega arith;
  frame = λ {s} {u} h. h;
  alone = λ {s} {u} h. h;
  holds = λ p s. omega arith;
  logs = λ l s. omega arith;
  types_full = tt;
  too_deep = tt;
  told_full = tt;
}

pub told-enters : Enters Told
told-enters = record { enters = λ name ps ret s. omega arith }

module _ (r : Runs) where
  pub data Parts {A : Type 0} (Q : Relation A) (s s' : World) : Result World Refusal A → Result World Refusal A → Type 0 where
    fine : {x x' : Result World Refusal A} → Gives r Q s s' x x' → Parts Q s s' x x'
    parted : {a : A} {u : World} {x : Result World Refusal A} → (r.strict → ⊥) → 1 ≤ u.diagnostics.used → Parts Q s s' (ok a u) x

  module _ {B : Type 0} {Q : Relation B} where
    q_more : {s s' u u' : World} {x x' : Result World Refusal B} → Grown s.types u.types → Grown s'.types u'.types → Parts Q u u' x x' → Parts Q s s' x x'
    q_more g g' (fine h) = fine (more r g g' h)
    q_more g g' (parted n l) = parted n l

    still : {s s' u : World} {x x' : Result World Refusal B} → (r.strict → ⊥) → 1 ≤ u.diagnostics.used → Keeps Told Any u x → Parts Q s s' x x'
    still n l (kept {u = v} h) = parted {u = v} n (omega arith)
    still n l (K.stopped q) = fine stopped

  module _ {A B : Type 0} {P : Relation A} {Q : Relation B} where
    pub q_next : {s s' : World} {x x' : Result World Refusal A} (f f' : A → Walk B) → Parts P s s' x x' → ((a : A) (u : World) → Keeps Told Any u (f a u))
        → ((a a' : A) (u u' : World) → Grown s.types u.types → Grown s'.types u'.types → Worlds r u u' → P u.types u'.types a a' → Parts Q u u' (f a u) (f' a' u'))
        → Parts Q s s' (next x f) (next x' f')
    q_next f f' (fine (gives {a = a} {a' = a'} {u = u} {u' = u'} g g' ws p)) t k = q_more g g' (k a a' u u' g g' ws p)
    q_next f f' (fine stopped) t k = fine stopped
    q_next f f' (fine (cut n)) t k = fine (cut n)
    q_next f f' (parted {a = a} {u = u} n l) t k = still n l (t a u)
