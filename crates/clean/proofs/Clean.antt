-- "Suppose a script is answered with no diagnostic. Then every visited node has a recorded type free of Unknown and of slots": in each slot that
-- it owns. Assumes nothing.
use Rattle.std.specs.Prelude.{ℕ, ◌≡◌, refl, List}
use Rattle.std.proofs.Math.Option.{Option, none, some}
use Rattle.tok.specs.Step.{Result, ok, Refusal}
use Rattle.ast.specs.Image.{root_count}
use Rattle.ast.specs.Node.{roots_of}
use Rattle.refusals.specs.Inputs.{Inputs, Buffers}
use Rattle.refusals.specs.Refusals.{refusal_of}
use Rattle.rules.specs.World.{World}
use Rattle.rules.specs.Steps.{Done}
use Rattle.rules.specs.Walk.{ctx_of, start_of, walk, walk_of}
use Rattle.rules.specs.Check.{end_of, unless_refused, check_of}
use Rattle.rules.specs.Visited.{visited_in, visited_slots}
use Rattle.rules.specs.Promises.{Every, AnsweredClean, HasConcreteType, Clean}
use Rattle.laws.specs.Keeps.{Keeps, stopped}
use Rattle.tworuns.specs.Entries.{Stays, NotZero, walk-holds}
use Rattle.tworuns.specs.Refused.{Numbered, numbered}
use Rattle.accepts.specs.Passed.{Passed}
use Rattle.accepts.proofs.Passed.{passed}
use Rattle.onerun.specs.Claim.{end, and, Holds}
use Rattle.onerun.specs.Grows.{typed-known, typed_free}
use Rattle.onerun.proofs.Seen.{AllRecorded, seen-slots}
use Rattle.onerun.proofs.Walk.{Ends, ends, stops}
use Rattle.clean.proofs.Walked.{run, walked}

-- here it is silence that is claimed
all_concrete : (i : Inputs) (b : Buffers) (p : Passed i b) {u : World} → Holds (run (Unit {0}) i b p) u → {slots : List ℕ} → AllRecorded (run (Unit {0}) i b p) u slots
    → Every (HasConcreteType i (end_of b (ok tt u))) slots
unfolding Every end_of ctx_of
all_concrete i b p h end = tt
all_concrete i b p h (and {a = slot} x xs) =
    let g = h.slots slot x in
    (record { recorded = x.other; no_unknown = typed-known (run (Unit {0}) i b p) g tt; no_slot = typed_free (run (Unit {0}) i b p) g tt }, all_concrete i b p h xs)

ended-clean : (i : Inputs) (b : Buffers) (p : Passed i b) {x : Result World Refusal Done} → Ends (run (Unit {0}) i b p) (roots_of i.image) x → Keeps (Stays b.functions) NotZero (start_of i b) x
    → AnsweredClean (end_of b x) → Every (HasConcreteType i (end_of b x)) (visited_slots i.image)
unfolding end_of visited_in visited_slots NotZero
ended-clean i b p (ends h) k c = let e = h (record { none = λ q. c.clean }) in all_concrete i b p e.holds (seen-slots (run (Unit {0}) i b p) (e.seen tt))
ended-clean i b p stops (stopped n) c = absurd (n c.answered)

by-refusal : (i : Inputs) (b : Buffers) (o : Option Refusal) → refusal_of i b ≡ o → Numbered o → AnsweredClean (unless_refused o i b)
    → Every (HasConcreteType i (unless_refused o i b)) (visited_slots i.image)
unfolding unless_refused Numbered walk_of walk
by-refusal i b (some x) e n c = absurd (n c.answered)
by-refusal i b none e n c =
    let p = passed i b e in
    ended-clean i b p (walked (Unit {0}) i b p) (walk-holds b.functions i (root_count i.image) (start_of i b)) c

-- THE THEOREM
pub clean : Clean
unfolding Clean check_of
clean i b c = by-refusal i b (refusal_of i b) refl (numbered i b) c
