-- `Demand1`: the table of "Answers that end the check", whatever is given. Numbers 1 to 6 leave every buffer, 7 to 9 zero them, an answer uses
-- what is lent and leaves what lies past it. Assumes nothing.
use Prim.Native.Nat.{ℕ, ◌+◌, ◌*◌, ◌≤◌, ◌<◌}
use native.Mathlib.Omega.{arith}
use Rattle.std.proofs.Common.{one-mul, ap, ◌∙◌, length-append, leb-true}
use Rattle.std.specs.Prelude.{◌≡◌, List, [], ◌∷◌, ◌++◌, length, drop, replicate}
use Rattle.std.proofs.Math.Path.{refl}
use Rattle.std.proofs.Math.Option.{Option, none, some}
use Rattle.std.proofs.lemmas.List.{length-replicate}
use Rattle.tok.specs.Step.{Result, ok, refused, Refusal}
use Rattle.tok.specs.Reader.{Cursor}
use Rattle.ptype.specs.Words.{void_word}
use Rattle.ptype.specs.Add.{Buffer, buffer, type_room, write}
use Rattle.library.specs.Package.{pool_of}
use Rattle.ast.specs.Image.{root_count, slot_count}
use Rattle.ast.specs.Node.{roots_of}
use Rattle.ast.specs.ImageFault.{Outlines}
use Rattle.refusals.specs.Inputs.{Inputs, Buffers}
use Rattle.refusals.specs.Refusals.{or_else, refusal_of_outlines, refusal_of_image, refusal_of}
use Rattle.rules.specs.World.{World, with_types}
use Rattle.rules.specs.Steps.{Done}
use Rattle.rules.specs.Walk.{empty_slots, start_of, copy_pool, walk, walk_of}
use Rattle.rules.specs.Check.{end_of, unless_refused, check_of}
use Rattle.rules.specs.Promises.{StaysPast, AnswerHolds, TableHolds}
use Rattle.laws.specs.SlotsOf.{all_among_lem}
use Rattle.laws.specs.Keeps.{Keeps, kept, stopped}
use Rattle.laws.specs.RulesKeep.{at-when, at-walk}
use Rattle.laws.specs.Writes.{length-write, past-write}
use Rattle.laws.specs.Grow.{Grew, Grow, Walked, full, deep, told, walk_grows}
use Rattle.laws.specs.Limits.{Within, Stays, limits_kept, limits_enters}
use Rattle.accepts.specs.Passed.{Passed}
use Rattle.accepts.proofs.Passed.{passed}
use Rattle.accepts.proofs.LowSlots.{low-slots}
use Rattle.accepts.proofs.FunctionRoom.{function-room}
use Rattle.accepts.specs.Table.{Early}

-- ── 1 to 6 ──

early_else : (n : ℕ) → 1 ≤ n → n ≤ 6 → (f : Option ℕ) (l : Option Refusal) → Early l → Early (or_else n f l)
unfolding or_else Early
early_else n low high (some p) l h = (low, high)
early_else n low high none l h = h

early-image : (b : Buffers) (x : Result Cursor ℕ Outlines) → Early (refusal_of_image b x)
unfolding refusal_of_image refusal_of_outlines Early
early-image b (refused p) = (omega arith, omega arith)
early-image b (ok o c) =
    early_else 4 (omega arith) (omega arith) _ _ (early_else 5 (omega arith) (omega arith) _ _ (early_else 6 (omega arith) (omega arith) _ none tt))

early : (i : Inputs) (b : Buffers) → Early (refusal_of i b)
unfolding refusal_of
early i b = early_else 1 (omega arith) (omega arith) _ _ (early_else 2 (omega arith) (omega arith) _ _ (early-image b _))

-- ── The walk ──

abbrev Any : ℕ → Type 0
Any k = Unit {0}

-- the limits hold where it ends
walk_limits : (i : Inputs) (b : Buffers) → Keeps Stays Any (start_of i b) (walk_of i b)
unfolding walk_of walk copy_pool
walk_limits i b =
    at-walk limits_kept limits_enters i (root_count i.image) (start_of i b) (all_among_lem (λ _. tt) _)
    (at-when limits_kept _ _ _ (start_of i b)
    (λ e. kept {u = with_types (start_of i b) (buffer (write (start_of i b).types.words 0 (pool_of i.library)) (length (pool_of i.library)))} (λ h. record {
      types = rw (length-write (start_of i b).types.words 0 (pool_of i.library)) (leb-true (length (pool_of i.library)) (type_room (start_of i b).types) e);
      diagnostics = h.diagnostics;
      messages = h.messages;
    }))
    (λ _. stopped tt))

start-within : (i : Inputs) (b : Buffers) → Within (start_of i b)
unfolding start_of
start-within i b = record { types = omega arith; diagnostics = omega arith; messages = omega arith }

-- what lies past the used part stays, of a buffer that grew
stays : {before : List ℕ} {d : Buffer} (m : ℕ) → Grew m (record { words = before; used = 0 }) d → m * d.used ≤ length before → StaysPast (m * d.used) before d.words
stays {d = d} m g l = record { long = g.long; fits = l; past = g.past d.used (omega arith) }

stays-one : {before : List ℕ} {d : Buffer} → Grew 1 (record { words = before; used = 0 }) d → d.used ≤ length before → StaysPast d.used before d.words
stays-one {before} {d} g l = rw (one-mul d.used) at (stays 1 g (omega arith))

-- the slots before the walk
module _ (v : ℕ) (slots : List ℕ) where
  first-long : length (replicate v 0 ++ (void_word ∷ [])) ≡ v + 1
  first-long = length-append (replicate v 0) (void_word ∷ []) ∙ ap (λ (n : ℕ). n + 1) (length-replicate {A = ℕ} v 0)

  empty-long : length (empty_slots v slots) ≡ length slots
  unfolding empty_slots
  empty-long = length-write slots 0 _

  empty-past : drop (v + 1) (empty_slots v slots) ≡ drop (v + 1) slots
  unfolding empty_slots
  empty-past = past-write slots (v + 1) 0 (replicate v 0 ++ (void_word ∷ [])) (omega (arith, first-long))

module _ (i : Inputs) (b : Buffers) (p : Passed i b) where
  -- an answer
  answer-holds : (u : World) → walk_of i b ≡ ok tt u → Grow (slot_count i.image) (start_of i b) u → Within u → AnswerHolds (slot_count i.image) b (end_of b (ok tt u))
  unfolding start_of end_of
  answer-holds u e g w =
      let v : ℕ = slot_count i.image in
      let t = w.types in
      let d = w.diagnostics in
      let m = w.messages in
      let tl = g.types.long in
      let dl = g.diagnostics.long in
      let ml = g.messages.long in
      record {
        place = refl;
        slots = record { long = g.slots_long ∙ empty-long v b.slots; fits = omega (arith, p.slots); past = g.slots_past ∙ empty-past v b.slots };
        functions = stays-one g.functions (function-room i b p u e);
        types = stays-one g.types (omega arith);
        diagnostics = stays 6 g.diagnostics (omega arith);
        messages = stays-one g.messages (omega arith);
        scratch = refl;
        most_types = omega arith;
        most_diagnostics = omega arith;
        most_messages = omega arith;
      }

  -- 7 to 9
  late-holds : (r : Refusal) → Walked r.number → TableHolds i b (end_of b (refused r))
  unfolding end_of
  late-holds r w =
      let low = least w in
      let high = most w in
      record {
        numbers = high;
        answered = λ e. absurd (omega arith);
        early = λ l h. absurd (omega arith);
        late = λ h. refl;
        counts = λ h. record { function_words = refl; type_words = refl; diagnostics = refl; message_bytes = refl };
      }
    where
      least : {n : ℕ} → Walked n → 7 ≤ n
      least full = omega arith
      least deep = omega arith
      least told = omega arith

      most : {n : ℕ} → Walked n → n ≤ 9
      most full = omega arith
      most deep = omega arith
      most told = omega arith

  walk-holds : (x : Result World Refusal Done) → walk_of i b ≡ x → Keeps (Grow (slot_count i.image)) Walked (start_of i b) x → Keeps Stays Any (start_of i b) x → TableHolds i b (end_of b x)
  unfolding end_of
  walk-holds (ok tt u) e (kept g) (kept w) = record {
    numbers = omega arith;
    answered = λ _. answer-holds u e g (w (start-within i b));
    early = λ l h. absurd (omega arith);
    late = λ h. absurd (omega arith);
    counts = λ h. absurd (omega arith);
  }
  walk-holds (refused r) e (stopped q) k = late-holds r q

  walked-holds : TableHolds i b (end_of b (walk_of i b))
  unfolding walk_of walk roots_of
  walked-holds =
      walk-holds (walk_of i b) refl (walk_grows (slot_count i.image) i b (root_count i.image) (low-slots p.image (λ slot. slot < slot_count i.image + 1) (λ slot l. omega arith))) (walk_limits i b)

-- THE LAW
by-refusal : (i : Inputs) (b : Buffers) (o : Option Refusal) → refusal_of i b ≡ o → Early o → TableHolds i b (unless_refused o i b)
unfolding unless_refused Early
by-refusal i b none e h = walked-holds i b (passed i b e)
by-refusal i b (some r) e h =
    let low = h.0 in
    let high = h.1 in
    record {
      numbers = omega arith;
      answered = λ z. absurd (omega arith);
      early = λ l k. refl;
      late = λ l. absurd (omega arith);
      counts = λ l. record { function_words = refl; type_words = refl; diagnostics = refl; message_bytes = refl };
    }

pub table-holds : (i : Inputs) (b : Buffers) → TableHolds i b (check_of i b)
unfolding check_of
table-holds i b = by-refusal i b (refusal_of i b) refl (early i b)
