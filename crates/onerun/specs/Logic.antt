-- Program logic of one run: from a world of which something is claimed, an answer and a world of which it is claimed again, unless a
-- diagnostic was raised and nothing is claimed any more. The steps that the rules are made of. Assumes nothing.
use Rattle.std.specs.Prelude.{ℕ, ◌≤◌, ◌<◌, ◌≡◌, Bool, true, false, set}
use native.Mathlib.Omega.{arith}
use Rattle.std.proofs.Math.Decide.{ℕ_discrete}
use Rattle.std.proofs.Math.Path.{refl}
use Rattle.std.proofs.Math.Option.{Option, none, some}
use Rattle.std.proofs.Math.ListN.{get_or}
use Rattle.std.proofs.Common.{length-set, get_or-set_other}
use Rattle.std.proofs.Math.Seq.{get_or-set_same}
use Rattle.tok.specs.Step.{Result, ok, refused, Step, Refusal, next, when}
use Rattle.ptype.specs.Add.{Buffer}
use Rattle.rules.specs.declared.Answer.{Answer}
use Rattle.rules.specs.declared.Answer.TheVariants.{Known, Poison}
use Rattle.rules.specs.World.{Log, World, Walk, with_slots, with_types, with_log}
use Rattle.rules.specs.Steps.{Done, known, if_known, on_option, set_known, raised, on_types, raised_log, on_log}
use Rattle.tworuns.specs.Means.{Grown, grown-same, grown-trans}
use Rattle.onerun.specs.Claim.{Run, OfNames, Good, Recorded, LogWell, Holds, AnswerOk, poison}
use Rattle.onerun.specs.Claim as C
use Rattle.onerun.specs.Grows.{holds_grow, typed-other}

-- diagnostics are only added
pub record Later (s u : World) : Type 0 where
  pub more : s.diagnostics.used ≤ u.diagnostics.used

pub now : (s : World) → Later s s
now s = record { more = omega arith }

pub later : {s t u : World} → Later s t → Later t u → Later s u
later x y = record { more = omega (arith, x.more, y.more) }

module _ (r : Run) where
  -- no diagnostic was raised, or that is not asked
  pub record Silent (s : World) : Type 0 where
    pub none : r.clean → s.diagnostics.used ≡ 0

  -- what the run claims of a world: it holds where all is silent
  abbrev pub Claimed : World → Type 0
  Claimed s = Silent s → Holds r s

  pub before : {s u : World} → Later s u → Silent u → Silent s
  before t z = record { none = λ q. omega (arith, t.more, z.none q) }

  -- what is claimed of a step from s to u with answer a
  pub record After {A : Type 0} (Q : World → A → Type 0) (s u : World) (a : A) : Type 0 where
    pub grown : Grown s.types u.types
    pub recorded : (slot : ℕ) → Recorded r s slot → Recorded r u slot
    pub holds : Holds r u
    pub value : Q u a

  pub data Gives {A : Type 0} (Q : World → A → Type 0) (s : World) : Result World Refusal A → Type 0 where
    gives : {a : A} {u : World} → Later s u → (Silent u → After Q s u a) → Gives Q s (ok a u)
    stopped : {e : Refusal} → Gives Q s (refused e)

  -- of steps of the types buffer
  pub data GivesT {A : Type 0} (Q : Buffer → A → Type 0) (b : Buffer) : Result Buffer Refusal A → Type 0 where
    typed : {a : A} {d : Buffer} → Grown b d → Q d a → GivesT Q b (ok a d)
    stopped_t : {e : Refusal} → GivesT Q b (refused e)

  -- of steps of the log, beside this types buffer
  pub data GivesL {A : Type 0} (Q : Buffer → A → Type 0) (b : Buffer) : Result Log Refusal A → Type 0 where
    logged : {a : A} {l : Log} → (OfNames r → LogWell l) → Q b a → GivesL Q b (ok a l)
    stopped_l : {e : Refusal} → GivesL Q b (refused e)

  pub t_next : {A B : Type 0} {P : Buffer → A → Type 0} {Q : Buffer → B → Type 0} {b : Buffer} {x : Result Buffer Refusal A} (f : A → Step Buffer Refusal B) → GivesT P b x
      → ((a : A) (d : Buffer) → Grown b d → P d a → GivesT Q d (f a d)) → GivesT Q b (next x f)
  t_next {Q = Q} {b = b} f (typed {a = a} {d = d} g p) k = more (k a d g p)
    where
      more : {y : Result Buffer Refusal _} → GivesT Q d y → GivesT Q b y
      more (typed h q) = typed (grown-trans g h) q
      more stopped_t = stopped_t
  t_next f stopped_t k = stopped_t

  pub t_map : {A : Type 0} {P Q : Buffer → A → Type 0} {b : Buffer} {x : Result Buffer Refusal A} → ((a : A) (d : Buffer) → P d a → Q d a) → GivesT P b x → GivesT Q b x
  t_map f (typed {a = a} {d = d} g p) = typed g (f a d p)
  t_map f stopped_t = stopped_t

  pub t_when : {A : Type 0} {Q : Buffer → A → Type 0} {t : Bool} (x y : Step Buffer Refusal A) {b : Buffer} → (t ≡ true → GivesT Q b (x b)) → (t ≡ false → GivesT Q b (y b)) → GivesT Q b (when t x y b)
  unfolding when
  t_when {t = true} x y h k = h refl
  t_when {t = false} x y h k = k refl

  -- One step and the rest.
  pub g_next : {A B : Type 0} {P : World → A → Type 0} {Q : World → B → Type 0} {s : World} {x : Result World Refusal A} (f : A → Walk B) → Gives P s x
      → ((a : A) (u : World) → Later s u → (Silent u → After P s u a) → Gives Q u (f a u)) → Gives Q s (next x f)
  g_next {B = B} {Q = Q} {s = s} f (gives {a = a} {u = u} t p) k = more (k a u t p)
    where
      more : {y : Result World Refusal B} → Gives Q u y → Gives Q s y
      more (gives {u = v} t₁ q) =
          gives {u = v} (later t t₁) (λ z.
          let x = p (before t₁ z) in
          let y = q z in
          record { grown = grown-trans x.grown y.grown; recorded = λ a h. y.recorded a (x.recorded a h); holds = y.holds; value = y.value })
      more stopped = stopped
  g_next f stopped k = stopped

  module _ {A : Type 0} {Q : World → A → Type 0} {s : World} where
    pub g_return : {a : A} → (Silent s → Holds r s) → (Silent s → Q s a) → Gives Q s (ok a s)
    g_return h q = gives {u = s} (now s) (λ z. record { grown = grown-same s.types; recorded = λ a x. x; holds = h z; value = q z })

    pub g_when : {t : Bool} (x y : Walk A) → (t ≡ true → Gives Q s (x s)) → (t ≡ false → Gives Q s (y s)) → Gives Q s (when t x y s)
    unfolding when
    g_when {t = true} x y h k = h refl
    g_when {t = false} x y h k = k refl

    pub g_option : {B : Type 0} {o : Option B} (m : Walk A) (f : B → Walk A) → (o ≡ none → Gives Q s (m s)) → ((b : B) → o ≡ some b → Gives Q s (f b s)) → Gives Q s (on_option o m f s)
    unfolding on_option
    g_option {o = none} m f h k = h refl
    g_option {o = some b} m f h k = k b refl

    -- a weaker claim
    pub g_map : {P : World → A → Type 0} {x : Result World Refusal A} → ((u : World) (a : A) → Later s u → (Silent u → After P s u a) → Silent u → Q u a) → Gives P s x → Gives Q s x
    g_map f (gives {a = a} {u = u} t p) =
        gives {u = u} t (λ z. let x = p z in record { grown = x.grown; recorded = x.recorded; holds = x.holds; value = f u a t p z })
    g_map f stopped = stopped

  pub g_on_types : {A : Type 0} {Q : Buffer → A → Type 0} (m : Step Buffer Refusal A) {s : World} → (Silent s → Holds r s) → (Silent s → GivesT Q s.types (m s.types))
      → Gives (λ u a. Q u.types a) s (on_types m s)
  unfolding on_types raised
  g_on_types {A} {Q} m {s} h k = go (m s.types) k
    where
      after : (a : A) (d : Buffer) → Holds r s → GivesT Q s.types (ok a d) → After (λ u a. Q u.types a) s (with_types s d) a
      after a d h (typed g q) = record { grown = g; recorded = λ x e. record { other = e.other; low = e.low }; holds = holds_grow r g h; value = q }

      go : (x : Result Buffer Refusal A) → (Silent s → GivesT Q s.types x) → Gives (λ u a. Q u.types a) s (raised s x)
      go (ok a d) k = gives {u = with_types s d} (record { more = omega arith }) (λ z. after a d (h (record { none = z.none })) (k (record { none = z.none })))
      go (refused e) k = stopped

  pub g_on_log : {A : Type 0} {Q : Buffer → A → Type 0} (m : Step Log Refusal A) {s : World} → (Silent s → Holds r s) → (Silent s → GivesL Q s.types (m s.log))
      → Gives (λ u a. Q u.types a) s (on_log m s)
  unfolding on_log raised_log
  g_on_log {A} {Q} m {s} h k = go (m s.log) k
    where
      after : (a : A) (l : Log) → Holds r s → GivesL Q s.types (ok a l) → After (λ u a. Q u.types a) s (with_log s l) a
      after a l h (logged w q) = record {
        grown = grown-same s.types;
        recorded = λ x e. record { other = e.other; low = e.low };
        holds = record {
          slots = λ x e. h.slots x (record { other = e.other; low = e.low });
          voids = record { other = h.voids.other; low = h.voids.low };
          room = h.room;
          env = h.env;
          packages = h.packages;
          own = h.own;
          library = h.library;
          told = h.told;
          log = w;
        };
        value = q;
      }

      go : (x : Result Log Refusal A) → (Silent s → GivesL Q s.types x) → Gives (λ u a. Q u.types a) s (raised_log s x)
      go (ok a l) k = gives {u = with_log s l} (record { more = omega arith }) (λ z. after a l (h (record { none = z.none })) (k (record { none = z.none })))
      go (refused e) k = stopped

  -- ── Answers ──

  pub answer-later : {A : Type 0} {Q : World → A → Type 0} {s u : World} {a : A} {x : Answer} → After Q s u a → AnswerOk r s x → AnswerOk r u x
  answer-later h (C.known {a = slot} e) = C.known (h.recorded slot e)
  answer-later h (poison l) = poison l

  -- the answer of a node's rule: its own slot has a type, or it is poisoned
  pub record Own (slot : ℕ) (u : World) (a : Answer) : Type 0 where
    pub answer : AnswerOk r u a
    pub own : r.clean → Recorded r u slot

  pub own-poison : {slot : ℕ} {u : World} → OfNames r → Own slot u Poison
  own-poison l = record { answer = poison l; own = λ q. absurd (l q) }

  -- "a Known answer yields its slot, otherwise Poison ends the rule"
  pub g_known : {Q : World → Answer → Type 0} {a : Answer} (f : ℕ → Walk Answer) {s : World} → (Silent s → Holds r s) → (Silent s → AnswerOk r s a) → (OfNames r → Q s Poison)
      → ((x : ℕ) → (Silent s → Recorded r s x) → Gives Q s (f x s)) → Gives Q s (known a f s)
  unfolding known
  g_known {a = Known x} f h k p g = g x (λ z. has (k z))
    where
      has : {u : World} → AnswerOk r u (Known x) → Recorded r u x
      has (C.known e) = e
  g_known {a = Poison} f h k p g = g_return h (λ z. p (of_names (k z)))
    where
      of_names : {u : World} → AnswerOk r u Poison → OfNames r
      of_names (poison l) = l

  pub g_if_known : {Q : World → Done → Type 0} {a : Answer} (f : ℕ → Walk Done) {s : World} → (Silent s → Holds r s) → (Silent s → AnswerOk r s a) → (Silent s → Q s tt)
      → ((x : ℕ) → (Silent s → Recorded r s x) → Gives Q s (f x s)) → Gives Q s (if_known a f s)
  unfolding if_known
  g_if_known {a = Known x} f h k p g = g x (λ z. has (k z))
    where
      has : {u : World} → AnswerOk r u (Known x) → Recorded r u x
      has (C.known e) = e
  g_if_known {a = Poison} f h k p g = g_return h p

  -- A node's own slot gets a word.
  pub g_set : {s : World} (slot : ℕ) {w : ℕ} → slot < r.ctx.void → (Silent s → Holds r s) → (Silent s → Good r s.types w) → Gives (Own slot) s (set_known slot w s)
  unfolding set_known
  g_set {s} slot {w} l h k = gives {u = with_slots s (set s.slots slot w)} (record { more = omega arith }) (λ z. after (h (record { none = z.none })) (k (record { none = z.none })))
    where
      after : Holds r s → Good r s.types w → After (Own slot) s (with_slots s (set s.slots slot w)) (Known slot)
      after h k = record {
        grown = grown-same s.types;
        recorded = kept;
        holds = record {
          slots = λ a e. at a e (ℕ_discrete a slot);
          voids = kept r.ctx.void h.voids;
          room = rw (length-set s.slots slot w) h.room;
          env = h.env;
          packages = h.packages;
          own = h.own;
          library = h.library;
          told = h.told;
          log = h.log;
        };
        value = record { answer = C.known here; own = λ q. here };
      }
        where
          same : get_or (set s.slots slot w) slot 0 ≡ w
          same = get_or-set_same s.slots slot w 0 (omega (arith, h.room))

          here : Recorded r (with_slots s (set s.slots slot w)) slot
          here = record { other = λ e. typed-other r k (rw same at e); low = omega arith }

          kept : (a : ℕ) → Recorded r s a → Recorded r (with_slots s (set s.slots slot w)) a
          kept a x = by (ℕ_discrete a slot)
            where
              by : Dec (a ≡ slot) → Recorded r (with_slots s (set s.slots slot w)) a
              by (yes e) = rw e here
              by (no n) = record { other = λ e. x.other (rw (get_or-set_other s.slots slot a w 0 n) at e); low = x.low }

          at : (a : ℕ) → Recorded r (with_slots s (set s.slots slot w)) a → Dec (a ≡ slot) → Good r s.types (get_or (set s.slots slot w) a 0)
          at a e (yes q) = rw (q, same) k
          at a e (no n) = rw (get_or-set_other s.slots slot a w 0 n) (h.slots a (record { other = λ i. e.other (rw (get_or-set_other s.slots slot a w 0 n) i); low = e.low }))
