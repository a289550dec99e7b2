-- What is claimed of a walk without diagnostic, given the types that its end has in slots. A slot that has a type keeps it, so that what is
-- known of the end is known before: `Fixed` goes backwards, as `Silent` does. Assumes nothing.
use Rattle.std.specs.Prelude.{ℕ, ◌+◌, ◌<◌, ◌≡◌, List, [], ◌∷◌, ◌++◌, set}
use native.Mathlib.Omega.{arith}
use Rattle.std.proofs.Math.Path.{refl, ap}
use Rattle.std.proofs.Common.{sym, ◌∙◌}
use Rattle.std.proofs.Math.Option.{some}
use Rattle.std.proofs.Math.ListN.{get_or}
use Rattle.std.proofs.Math.Seq.{get_or-set_same, get_or-set_other}
use Rattle.tok.specs.Step.{Result, ok, refused, Refusal, Step, next}
use Rattle.ptype.specs.Ty.{Ty, void_ty}
use Rattle.ptype.specs.Words.{ty_of}
use Rattle.ptype.specs.Add.{Buffer}
use Rattle.ast.specs.Node.{Node, Nodes, Ident, slot_of}
use Rattle.rules.specs.declared.Answer.{Answer}
use Rattle.rules.specs.declared.Answer.TheVariants.{Known, Poison}
use Rattle.rules.specs.World.{Ctx, Local, Log, World, Walk, with_slots}
use Rattle.err.specs.Message.{Diagnostic}
use Rattle.rules.specs.Steps.{Done, known, set_known, on_types, raised, on_log, raised_log}
use Rattle.rules.specs.Steps as S
use Rattle.rules.specs.Rules.{node, block}
use Rattle.rules.specs.Visited.{visited_below, visited_among}
use Rattle.rules.specs.Promises.{Every}
use Rattle.laws.specs.Keeps.{Keeps, kept, stopped}
use Rattle.laws.specs.Owns.{Owns, knows, poisons, refuses, own-node, end_slot, own_block}
use Rattle.tworuns.specs.Means.{Grown, grown-trans}
use Rattle.ast.specs.Claims.{count_from}
use Rattle.accepts.specs.Count.{total, total-append, one, count}
use Rattle.rules.specs.Visited.{slots_of, arguments_of}
use Rattle.accepts.proofs.Once.{own-slot}
use Rattle.accepts.proofs.OtherSlots.{owned}
use Rattle.onerun.specs.Claim.{Run, NameAt, Is, Good, Recorded, Holds, AnswerOk, poison}
use Rattle.onerun.specs.Claim as C
use Rattle.onerun.specs.Grows.{is_grow, is-tree}
use Rattle.onerun.specs.Logic.{Claimed, Later, later, Silent, before, After, Gives, gives, stopped, GivesT, GivesL, g_next, g_map, g_on_types, g_on_log, g_set, Own}
use Rattle.onerun.proofs.Report.{g_report}
use Rattle.onerun.specs.Proper.{Proper, ProperAll}
use Rattle.onerun.proofs.Functions.{Below}
use Rattle.onerun.proofs.Nodes.{g_node, g_block}
use Rattle.stops.specs.Ready.{Fits, Ready, ready-own, ready-then, Leaves, Any, node_leaves, block_leaves}
use Rattle.runs_laws.specs.Judged as J

-- the run of which silence is claimed
abbrev pub silent : Ctx → Run
silent c = record { ctx = c; clean = Unit {0}; sig = λ f xs. Unit {0}; plain = λ ps ret xs. tt }

-- a slot that has a type keeps it
pub record Keep (s u : World) : Type 0 where
  pub word : (slot : ℕ) → (get_or s.slots slot 0 ≡ 0 → ⊥) → get_or u.slots slot 0 ≡ get_or s.slots slot 0

pub keep_same : (s : World) → Keep s s
keep_same s = record { word = λ slot n. refl }

pub keep-trans : {s u v : World} → Keep s u → Keep u v → Keep s v
keep-trans {s} x y = record { word = λ slot n. y.word slot (λ e. n (sym (x.word slot n) ∙ e)) ∙ x.word slot n }

pub same-slots : {s u : World} → u.slots ≡ s.slots → Keep s u
same-slots e = record { word = λ q _. ap (λ (l : List ℕ). get_or l q 0) e }

-- names, packages and own functions are as they were
pub record Same (s u : World) : Type 0 where
  pub env : u.env ≡ s.env
  pub packages : u.packages ≡ s.packages
  pub own : u.own ≡ s.own

pub same-trans : {s u v : World} → Same s u → Same u v → Same s v
same-trans x y = record { env = y.env ∙ x.env; packages = y.packages ∙ x.packages; own = y.own ∙ x.own }

pub same-world : {s u : World} → u ≡ s → Same s u
same-world e = record { env = ap (λ (w : World). w.env) e; packages = ap (λ (w : World). w.packages) e; own = ap (λ (w : World). w.own) e }

-- what a visited node's answer can be
pub data OwnAnswer (slot : ℕ) : Answer → Type 0 where
  is_known : OwnAnswer slot (Known slot)
  is_poison : OwnAnswer slot Poison

-- the own slot last: it is written after the parts were visited. An Ident of that slot stands for it.
abbrev pub last-slot : ℕ → List Node
last-slot slot = Ident 0 slot 0 ∷ []

-- an answer without diagnostic
pub no-poison : {c : Ctx} {s : World} → AnswerOk (silent c) s Poison → ⊥
no-poison (poison l) = l tt

pub has-known : {c : Ctx} {s : World} {q : ℕ} → AnswerOk (silent c) s (Known q) → Recorded (silent c) s q
has-known (C.known e) = e

module _ (c : Ctx) (type : ℕ → Ty) where
  -- the types at the end are those that slots have now
  pub record Fixed (u : World) : Type 0 where
    pub at : (slot : ℕ) → Recorded (silent c) u slot → type slot ≡ ty_of c.texts u.types.words (get_or u.slots slot 0)
    -- slot V
    pub void : type c.void ≡ void_ty

  pub fixed_back : {s u : World} → Holds (silent c) s → Grown s.types u.types → Keep s u → Fixed u → Fixed s
  fixed_back {s} {u} h g k f = record {
    at = λ slot e.
        let w = k.word slot e.other in
        let good = h.slots slot e in
        f.at slot (record { other = λ z. e.other (sym w ∙ z); low = e.low })
        ∙ (ap (ty_of c.texts u.types.words) w ∙ (is-tree (silent c) (is_grow (silent c) g good.is) ∙ sym (is-tree (silent c) good.is)));
    void = f.void;
  }

  pub record Says {A : Type 0} (P : World → A → Type 0) (s u : World) (a : A) : Type 0 where
    pub keep : Keep s u
    pub fact : Fixed u → P u a

  abbrev pub Tells : {A : Type 0} → (World → A → Type 0) → World → Result World Refusal A → Type 0
  Tells P s x = Gives (silent c) (Says P s) s x

  -- what was known before a step is known after it
  pub earlier : {A : Type 0} {P : World → A → Type 0} {s u : World} {a : A} → Holds (silent c) s → After (silent c) (Says P s) s u a → Fixed u → Fixed s
  earlier h x f = fixed_back h x.grown x.value.keep f

  pub h_next : {A B : Type 0} {P : World → A → Type 0} {Q : World → B → Type 0} {s : World} {x : Result World Refusal A} (f : A → Walk B) → Tells P s x
      → ((a : A) (u : World) → Later s u → (Silent (silent c) u → After (silent c) (Says P s) s u a) → Tells Q u (f a u)) → Tells Q s (next x f)
  h_next f g k = g_next (silent c) f g (λ a u t p. g_map (silent c) (λ v b t₁ p₁ z. record {
    keep = keep-trans (p (before (silent c) t₁ z)).value.keep (p₁ z).value.keep;
    fact = (p₁ z).value.fact;
  }) (k a u t p))

  -- a part with an answer, before others that are still to be visited
  pub h_answer : {B : Type 0} {O P : World → Answer → Type 0} {Q : World → B → Type 0} {slot : ℕ} (xs ys : List Node) {s : World} {y : Result World Refusal Answer}
      (f : Answer → Walk B) → Ready s (xs ++ ys) → Owns slot y → Keeps (Leaves ys) Any s y → Gives (silent c) O s y → Tells P s y
      → ((a : Answer) (u : World) → OwnAnswer slot a → (Silent (silent c) u → O u a) → Ready u ys → Later s u → (Silent (silent c) u → After (silent c) (Says P s) s u a)
      → Tells Q u (f a u)) → Tells Q s (next y f)
  h_answer {B} {O} {P} {Q} {slot} xs ys {s} f d w l o g k = go w l o g
    where
      more : {u : World} {a : Answer} {y : Result World Refusal B} → Later s u → (Silent (silent c) u → After (silent c) (Says P s) s u a) → Tells Q u y → Tells Q s y
      more {u} {a} {y} t p h = g_map' h
        where
          g_map' : {y : Result World Refusal B} → Tells Q u y → Tells Q s y
          g_map' (gives {u = v} t₁ q) = gives {u = v} (later t t₁) (λ z.
              let i = p (before (silent c) t₁ z) in
              let j = q z in
              record {
                grown = grown-trans i.grown j.grown;
                recorded = λ a h. j.recorded a
                    (i.recorded a h);
                holds = j.holds;
                value = record { keep = keep-trans i.value.keep j.value.keep; fact = j.value.fact };
              })
          g_map' stopped = stopped

      go : {y : Result World Refusal Answer} → Owns slot y → Keeps (Leaves ys) Any s y → Gives (silent c) O s y → Tells P s y → Tells Q s (next y f)
      go (knows u) (kept l) (gives t₀ o) (gives t p) = more t p (k (Known slot) u is_known (λ z. (o z).value) (ready-then xs ys d l) t p)
      go (poisons u) (kept l) (gives t₀ o) (gives t p) = more t p (k Poison u is_poison (λ z. (o z).value) (ready-then xs ys d l) t p)
      go (refuses e) m i g = stopped

  -- a node visited
  pub h_visit : {B : Type 0} {P : World → Answer → Type 0} {Q : World → B → Type 0} (x : Node) (ys : List Node) {s : World} (f : Answer → Walk B)
      → Proper (Below (silent c)) (NameAt (silent c)) x → Claimed (silent c) s → Ready s ((x ∷ visited_below x) ++ ys) → Tells P s (node c x s)
      → ((a : Answer) (u : World) → OwnAnswer (slot_of x) a → (Silent (silent c) u → Own (silent c) (slot_of x) u a) → Ready u ys → Later s u
      → (Silent (silent c) u → After (silent c) (Says P s) s u a) → Tells Q u (f a u)) → Tells Q s (next (node c x s) f)
  h_visit x ys {s} f pr h d g k = h_answer (x ∷ visited_below x) ys f d (own-node c x s) (node_leaves c ys x s d) (g_node (silent c) x pr h) g (λ a u o i. k a u o (λ z. (i z).own))

  -- a block
  pub h_visit-block : {B : Type 0} {P : World → Answer → Type 0} {Q : World → B → Type 0} (xs : Nodes) (ys : List Node) {s : World} (f : Answer → Walk B)
      → ProperAll (Below (silent c)) (NameAt (silent c)) xs → Claimed (silent c) s → Ready s (visited_among xs ++ ys) → Tells P s (block c xs s)
      → ((a : Answer) (u : World) → OwnAnswer (end_slot c.void xs) a → (Silent (silent c) u → AnswerOk (silent c) u a) → Ready u ys → Later s u
      → (Silent (silent c) u → After (silent c) (Says P s) s u a) → Tells Q u (f a u)) → Tells Q s (next (block c xs s) f)
  h_visit-block xs ys {s} f pr h d g k = h_answer (visited_among xs) ys f d (own_block c xs s) (block_leaves c ys xs s d) (g_block (silent c) xs pr h) g
      (λ a u o i. k a u o (λ z. (i z).answer))

  -- "a Known answer yields its slot, otherwise Poison ends the rule": where all is silent it is known
  pub h_known : {Q : World → Answer → Type 0} {i : ℕ} {a : Answer} (f : ℕ → Walk Answer) {s : World} → Claimed (silent c) s → OwnAnswer i a
      → (Silent (silent c) s → AnswerOk (silent c) s a)
      → Tells Q s (f i s) → Tells Q s (known a f s)
  unfolding known
  h_known f h is_known k g = g
  h_known {Q} f {s} h is_poison k g = gives {u = s} (record { more = omega arith }) (λ z. absurd (no-poison (k z)))

  -- a step that leaves the slots that have a type
  pub h_step : {A B : Type 0} {P : World → A → Type 0} {Q : World → B → Type 0} {s : World} {x : Result World Refusal A} (f : A → Walk B) → Gives (silent c) P s x
      → ((a : A) (u : World) → P u a → Keep s u)
      → ((a : A) (u : World) → Later s u → (Silent (silent c) u → After (silent c) P s u a) → Tells Q u (f a u)) → Tells Q s (next x f)
  h_step f g keeps k = g_next (silent c) f g (λ a u t p. g_map (silent c) (λ v b t₁ p₁ z. record {
    keep = keep-trans (keeps a u (p (before (silent c) t₁ z)).value) (p₁ z).value.keep;
    fact = (p₁ z).value.fact;
  }) (k a u t p))

  -- and is known to write no slot of the nodes that are still to be visited
  pub h_after : {A B : Type 0} {P : World → A → Type 0} {Q : World → B → Type 0} (ys : List Node) {s : World} {x : Result World Refusal A} (f : A → Walk B) → Ready s ys
      → Keeps (Leaves ys) Any s x → Gives (silent c) P s x
      → ((a : A) (u : World) → P u a → Keep s u) → ((a : A) (u : World) → Ready u ys → Later s u → (Silent (silent c) u → After (silent c) P s u a) → Tells Q u (f a u))
      → Tells Q s (next x f)
  h_after {A} {B} {P} {Q} ys {s} f d l g keeps k = go l g
    where
      go : {y : Result World Refusal A} → Keeps (Leaves ys) Any s y → Gives (silent c) P s y → Tells Q s (next y f)
      go (kept {a = a} {u = u} l) (gives t p) = more (k a u (ready-then [] ys d l) t p)
        where
          more : {y : Result World Refusal B} → Tells Q u y → Tells Q s y
          more (gives {u = v} t₁ q) = gives {u = v} (later t t₁) (λ z.
              let i = p (before (silent c) t₁ z) in
              let j = q z in
              record {
                grown = grown-trans i.grown j.grown;
                recorded = λ a h. j.recorded a
                    (i.recorded a h);
                holds = j.holds;
                value = record { keep = keep-trans (keeps a u i.value) j.value.keep; fact = j.value.fact };
              })
          more stopped = stopped
      go (stopped e) g = stopped

  -- a diagnostic: nothing is claimed any more
  pub h_report : {Q : World → Done → Type 0} {s : World} → Claimed (silent c) s → (n : ℕ) (d : Diagnostic) → Gives (silent c) Q s (S.report n d s)
  h_report h n d = g_map (silent c) (λ u _ t x z. absurd ((x z).value tt)) (g_report (silent c) h n (λ l z. absurd (l tt)))

  pub h_poison : {Q : World → Answer → Type 0} {s : World} → Claimed (silent c) s → (n : ℕ) (d : Diagnostic) → Tells Q s (S.poison n d s)
  unfolding S.poison
  h_poison h n d = g_next (silent c) _ (h_report {Q = λ _ _. ⊥} h n d) (λ _ u t p. gives {u = u} (record { more = omega arith }) (λ z. absurd (p z).value))

  pub told-set : {Q : World → Answer → Type 0} (slot w : ℕ) {s : World} → (Silent (silent c) s → ⊥) → Gives (silent c) Q s (set_known slot w s)
  unfolding set_known
  told-set slot w {s} h = gives {u = with_slots s (set s.slots slot w)} (record { more = omega arith }) (λ z. absurd (h (record { none = z.none })))

  -- a step of the types buffer: the rest is as it was
  pub record Built {A : Type 0} (Q : Buffer → A → Type 0) (s u : World) (a : A) : Type 0 where
    pub is : Q u.types a
    pub slots : u.slots ≡ s.slots
    pub same : Same s u

  pub h_on_types : {A : Type 0} {Q : Buffer → A → Type 0} (m : Step Buffer Refusal A) {s : World} → Claimed (silent c) s
      → (Silent (silent c) s → GivesT (silent c) Q s.types (m s.types))
      → Gives (silent c) (Built Q s) s (on_types m s)
  unfolding on_types raised
  h_on_types {A} {Q} m {s} h k = up (m s.types) (g_on_types (silent c) {Q = Q} m h k)
    where
      up : (x : Result Buffer Refusal A) → Gives (silent c) (λ u a. Q u.types a) s (raised s x) → Gives (silent c) (Built Q s) s (raised s x)
      up (ok a d) (gives t p) = gives t (λ z. let x = p z in
          record { grown = x.grown; recorded = x.recorded; holds = x.holds; value = record { is = x.value; slots = refl; same = record { env = refl; packages = refl; own = refl } } })
      up (refused r) g = stopped

  -- a step of the log: the rest is as it was
  pub h_on_log : {A : Type 0} {Q : Buffer → A → Type 0} (m : Step Log Refusal A) {s : World} → Claimed (silent c) s
      → (Silent (silent c) s → GivesL (silent c) Q s.types (m s.log))
      → Gives (silent c) (Built Q s) s (on_log m s)
  unfolding on_log raised_log
  h_on_log {A} {Q} m {s} h k = up (m s.log) (g_on_log (silent c) {Q = Q} m h k)
    where
      up : (x : Result Log Refusal A) → Gives (silent c) (λ u a. Q u.types a) s (raised_log s x) → Gives (silent c) (Built Q s) s (raised_log s x)
      up (ok a l) (gives t p) = gives t (λ z. let x = p z in
          record { grown = x.grown; recorded = x.recorded; holds = x.holds; value = record { is = x.value; slots = refl; same = record { env = refl; packages = refl; own = refl } } })
      up (refused r) g = stopped

  -- what was known before a step, and is no matter of the world, with what the step tells
  pub record With {A : Type 0} (X : Type 0) (Q : World → A → Type 0) (u : World) (a : A) : Type 0 where
    pub static : X
    pub told : Q u a

  pub h_with : {A : Type 0} {X : Type 0} {Q : World → A → Type 0} {s : World} {x : Result World Refusal A} → Claimed (silent c) s
      → (Silent (silent c) s → Fixed s → X) → Tells Q s x → Tells (With X Q) s x
  h_with h k g = g_map (silent c) (λ u a t p z. let z₀ = before (silent c) t z in
      record { keep = (p z).value.keep; fact = λ q. record { static = k z₀ (earlier (h z₀) (p z) q); told = (p z).value.fact q } }) g

  pub h_to : {A : Type 0} {P Q : World → A → Type 0} {s : World} {x : Result World Refusal A} → ((u : World) (a : A) → P u a → Q u a) → Tells P s x → Tells Q s x
  h_to f g = g_map (silent c) (λ u a t p z. record { keep = (p z).value.keep; fact = λ q. f u a ((p z).value.fact q) }) g

  -- two claims of one step
  pub g_both : {A : Type 0} {P Q : World → A → Type 0} {s : World} {x : Result World Refusal A} → Gives (silent c) P s x → Gives (silent c) Q s x
      → Gives (silent c) (λ u a. P u a × Q u a) s x
  g_both (gives t p) (gives t₁ q) = gives t (λ z. let i = p z in record { grown = i.grown; recorded = i.recorded; holds = i.holds; value = (i.value, (q z).value) })
  g_both stopped g = stopped

  -- a weaker claim
  pub h_map : {A : Type 0} {P Q : World → A → Type 0} {s : World} {x : Result World Refusal A}
      → ((u : World) (a : A) → Later s u → (Silent (silent c) u → After (silent c) (Says P s) s u a) → Silent (silent c) u → Fixed u → Q u a) → Tells P s x → Tells Q s x
  h_map f g = g_map (silent c) (λ u a t p z. record { keep = (p z).value.keep; fact = λ q. f u a t p z q }) g

  -- a node's own slot is written
  pub record Wrote (slot : ℕ) (x : Ty) (s u : World) (a : Answer) : Type 0 where
    pub is : type slot ≡ x
    pub same : Same s u

  pub h_set : {s : World} (slot : ℕ) {w : ℕ} → slot < c.void → (Silent (silent c) s → get_or s.slots slot 0 ≡ 0) → Claimed (silent c) s
      → (Silent (silent c) s → Good (silent c) s.types w)
      → Tells (Wrote slot (ty_of c.texts s.types.words w) s) s (set_known slot w s)
  unfolding set_known
  h_set {s} slot {w} l n h k = up (g_set (silent c) slot l h k)
    where
      after : Silent (silent c) s → After (silent c) (Own (silent c) slot) s (with_slots s (set s.slots slot w)) (Known slot)
          → After (silent c) (Says (Wrote slot (ty_of c.texts s.types.words w) s) s) s (with_slots s (set s.slots slot w)) (Known slot)
      after z₀ y =
          let same = get_or-set_same s.slots slot w 0 (omega (arith, (h z₀).room)) in
          record {
            grown = y.grown;
            recorded = y.recorded;
            holds = y.holds;
            value = record {
              keep = record { word = λ a q. get_or-set_other s.slots slot a w 0 (λ e. q (ap (λ (k : ℕ). get_or s.slots k 0) e ∙ n z₀)) };
              fact = λ f. record {
                is = f.at slot (y.value.own tt) ∙ ap (ty_of c.texts s.types.words) same;
                same = record { env = refl; packages = refl; own = refl };
              };
            };
          }

      up : Gives (silent c) (Own (silent c) slot) s (ok (Known slot) (with_slots s (set s.slots slot w)))
          → Tells (Wrote slot (ty_of c.texts s.types.words w) s) s (ok (Known slot) (with_slots s (set s.slots slot w)))
      up (gives t p) = gives t (λ z. after (record { none = z.none }) (p z))

  -- ── Names in scope ──

  pub data EnvRel (b : Buffer) : List Local → List J.Known → Type 0 where
    no_local : EnvRel b [] []
    one_local : {l : Local} {k : J.Known} {ls : List Local} {ks : List J.Known} {w : ℕ} → l.name ≡ k.name → l.type ≡ some w → Is (silent c) b w k.type
        → EnvRel b ls ks → EnvRel b (l ∷ ls) (k ∷ ks)

  pub env_grow : {b d : Buffer} {ls : List Local} {ks : List J.Known} → Grown b d → EnvRel b ls ks → EnvRel d ls ks
  env_grow g no_local = no_local
  env_grow g (one_local n e i rest) = one_local n e (is_grow (silent c) g i) (env_grow g rest)

-- ── What is yet to be visited, the own slot last ──

pub every-both : (xs ys : List Node) → Every Fits xs → Every Fits ys → Every Fits (xs ++ ys)
unfolding Every
every-both [] ys a b = b
every-both (x ∷ xs) ys a b = (a.0, every-both xs ys a.1 b)

pub own-count : (q slot : ℕ) → owned q (last-slot slot) ≡ one q slot
unfolding total slot_of arguments_of count_from
own-count q slot = omega arith

pub own-last : {s : World} (x : Node) (ys : List Node) → Ready s (x ∷ ys) → Ready s (ys ++ last-slot (slot_of x))
unfolding total Every Fits
own-last x ys h = record {
  once = λ q. omega (arith, h.once q, total-append (λ y. count q (slots_of y)) ys (last-slot (slot_of x)), own-count q (slot_of x), own-slot q x);
  unset = λ q l. h.unset q (omega (arith, l, total-append (λ y. count q (slots_of y)) ys (last-slot (slot_of x)), own-count q (slot_of x), own-slot q x));
  fit = every-both ys (last-slot (slot_of x)) h.fit.1 (tt, tt);
}

-- the own slot has no type yet
pub last-unset : {s : World} (slot : ℕ) → Ready s (last-slot slot) → get_or s.slots slot 0 ≡ 0
unfolding slot_of
last-unset slot h = ready-own (Ident 0 slot 0) [] h
