-- Buffers only grow: what was used stays, and so does what lies past the used part. An instance of `Keeps`. Assumes nothing.
use Rattle.std.specs.Prelude.{ℕ, ◌+◌, ◌*◌, ◌≤◌, ◌<◌, ◌≡◌, refl, List, length, take, drop, set}
use Rattle.std.proofs.Common.{arith, le_refl, ◌∙◌, length-set, drop-set-lt}
use Rattle.tok.specs.Step.{Result, ok, Refusal}
use Rattle.ptype.specs.Add.{Buffer, buffer, write, append}
use Rattle.ast.specs.Node.{first_roots}
use Rattle.err.specs.Message.{Diagnostic}
use Rattle.refusals.specs.Inputs.{Inputs, Buffers}
use Rattle.rules.specs.World.{World, with_told}
use Rattle.err.specs.Report.{six_words, bytes_of, one_more}
use Rattle.rules.specs.Steps.{Done}
use Rattle.rules.specs.Walk.{start_of, copy_pool, walk_first}
use Rattle.laws.specs.SlotsOf.{SlotsOfAll}
use Rattle.laws.specs.Keeps.{Keeps, kept, stopped, StepsKeep, Enters}
use Rattle.laws.specs.RulesKeep.{at-when, at-walk}
use Rattle.laws.specs.Writes.{length-write, front-write, past-write}

-- b became d: more is used, of as many words; what was used stays, and what lies past the used part. m words to each.
pub record Grew (m : ℕ) (b d : Buffer) : Type 0 where
  pub more : b.used ≤ d.used
  pub long : length d.words ≡ length b.words
  pub front : (k : ℕ) → k ≤ b.used → take (m * k) d.words ≡ take (m * k) b.words
  pub past : (k : ℕ) → d.used ≤ k → drop (m * k) d.words ≡ drop (m * k) b.words

grew_same : (m : ℕ) (b : Buffer) → Grew m b b
grew_same m b = record { more = le_refl b.used; long = refl; front = λ k h. refl; past = λ k h. refl }

grew_trans : {m : ℕ} {b d e : Buffer} → Grew m b d → Grew m d e → Grew m b e
grew_trans {m} {b} {d} {e} x y = record {
  more = omega (arith, x.more, y.more);
  long = y.long ∙ x.long;
  front = λ k h. y.front k (omega (arith, x.more)) ∙ x.front k h;
  past = λ k h. y.past k h ∙ x.past k (omega (arith, y.more));
}

-- new words written at a place: those used before stand in front of it, those not used after stand behind the new words
grew_write : (m : ℕ) (b : Buffer) (at u : ℕ) (new : List ℕ) → b.used ≤ u → ((k : ℕ) → k ≤ b.used → m * k ≤ at)
    → ((k : ℕ) → u ≤ k → at + length new ≤ m * k) → Grew m b (buffer (write b.words at new) u)
grew_write m b at u new h low high = record {
  more = h;
  long = length-write b.words at new;
  front = λ k i. front-write b.words (m * k) at new (low k i);
  past = λ k i. past-write b.words (m * k) at new (high k i);
}

grew_append : (b : Buffer) (new : List ℕ) → Grew 1 b (append b new)
unfolding append
grew_append b new = grew_write 1 b b.used (b.used + length new) new (omega arith) (λ k h. omega arith) (λ k h. omega arith)

grew_told : (b : Buffer) (d : Diagnostic) (at : ℕ) → Grew 6 b (one_more b (six_words d at))
unfolding six_words
grew_told b d at = grew_write 6 b (6 * b.used) (b.used + 1) (six_words d at) (omega arith) (λ k h. omega arith) (λ k h. omega arith)

-- the slots buffer is used to V
pub record Grow (v : ℕ) (s u : World) : Type 0 where
  pub slots_long : length u.slots ≡ length s.slots
  pub slots_past : drop (v + 1) u.slots ≡ drop (v + 1) s.slots
  pub functions : Grew 1 s.functions u.functions
  pub types : Grew 1 s.types u.types
  pub diagnostics : Grew 6 s.diagnostics u.diagnostics
  pub messages : Grew 1 s.messages u.messages

-- the walk's refusals
pub data Walked : ℕ → Type 0 where
  full : Walked 7
  deep : Walked 8
  told : Walked 9

module _ (v : ℕ) where
  -- nothing changed but the environment, the packages and the own functions
  rest : (s u : World) → u.slots ≡ s.slots → u.functions ≡ s.functions → u.types ≡ s.types → u.diagnostics ≡ s.diagnostics → u.messages ≡ s.messages
      → Grow v s u
  rest s u a f t d m = record {
    slots_long = rw a refl;
    slots_past = rw a refl;
    functions = rw f (grew_same 1 s.functions);
    types = rw t (grew_same 1 s.types);
    diagnostics = rw d (grew_same 6 s.diagnostics);
    messages = rw m (grew_same 1 s.messages);
  }

  same : (s : World) → Grow v s s
  same s = rest s s refl refl refl refl refl

  abbrev pub Below : ℕ → Type 0
  Below slot = slot < v + 1

  pub grow_kept : StepsKeep (Grow v) Walked Below
  grow_kept = record {
    same = same;
    trans = λ {s} {t} {u} x y. record {
      slots_long = y.slots_long ∙ x.slots_long;
      slots_past = y.slots_past ∙ x.slots_past;
      functions = grew_trans x.functions y.functions;
      types = grew_trans x.types y.types;
      diagnostics = grew_trans x.diagnostics y.diagnostics;
      messages = grew_trans x.messages y.messages;
    };
    slot = λ i w s h. record {
      slots_long = length-set s.slots i w;
      slots_past = drop-set-lt (v + 1) s.slots i w h;
      functions = (same s).functions;
      types = (same s).types;
      diagnostics = (same s).diagnostics;
      messages = (same s).messages;
    };
    type = λ texts k new s e low. record {
      slots_long = refl;
      slots_past = refl;
      functions = (same s).functions;
      types = grew_append s.types new;
      diagnostics = (same s).diagnostics;
      messages = (same s).messages;
    };
    told = λ d s e. record {
      slots_long = refl;
      slots_past = refl;
      functions = (same s).functions;
      types = (same s).types;
      diagnostics = grew_told s.diagnostics d s.messages.used;
      messages = grew_append s.messages (bytes_of d);
    };
    binds = λ l s. rest s _ refl refl refl refl refl;
    frame = λ {s} {u} h. record { slots_long = h.slots_long; slots_past = h.slots_past; functions = h.functions; types = h.types; diagnostics = h.diagnostics; messages = h.messages };
    alone = λ {s} {u} h. record { slots_long = h.slots_long; slots_past = h.slots_past; functions = h.functions; types = h.types; diagnostics = h.diagnostics; messages = h.messages };
    holds = λ p s. rest s _ refl refl refl refl refl;
    logs = λ l s. rest s _ refl refl refl refl refl;
    types_full = full;
    too_deep = deep;
    told_full = told;
  }

  pub grow_enters : Enters (Grow v)
  grow_enters = record {
    enters = λ name ps ret s. record {
      slots_long = refl;
      slots_past = refl;
      functions = grew_append s.functions _;
      types = (same s).types;
      diagnostics = (same s).diagnostics;
      messages = (same s).messages;
    };
  }

  pool_grows : (n : ℕ) (pool : List ℕ) (i : Inputs) (b : Buffers) → Keeps (Grow v) Walked (start_of i b) (copy_pool n pool (start_of i b))
  unfolding copy_pool start_of
  pool_grows n pool i b =
      at-when grow_kept _ _ _ (start_of i b)
      (λ _. kept (record {
        slots_long = refl;
        slots_past = refl;
        functions = grew_same 1 _;
        types = grew_write 1 (buffer b.types 0) 0 (length pool) pool (omega arith) (λ k h. omega arith) (λ k h. omega arith);
        diagnostics = grew_same 6 _;
        messages = grew_same 1 _;
      }))
      (λ _. stopped full)

  -- the walk of the first k roots: where their slots are below V + 1, every buffer grew, or it is refused with 7, 8 or 9
  pub walk_grows : (i : Inputs) (b : Buffers) (k : ℕ) → SlotsOfAll Below (first_roots i.image k) → Keeps (Grow v) Walked (start_of i b) (walk_first i k (start_of i b))
  walk_grows i b k h = at-walk grow_kept grow_enters i k (start_of i b) h (pool_grows _ _ i b)

pub kept-ok : {R : World → World → Type 0} {Q : ℕ → Type 0} {A : Type 0} {s u : World} {a : A} {r : Result World Refusal A} → Keeps R Q s r → r ≡ ok a u → R s u
kept-ok {R} {Q} {A} {s} {u} {a} h e = go (rw e at h)
  where
    go : Keeps R Q s (ok a u) → R s u
    go (kept p) = p
