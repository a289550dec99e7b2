-- "names are read, and messages written, only as UTF-8 well formed by it [RFC 3629]": every message and primary message of every answer.
-- Assumes nothing.
use Rattle.std.specs.Prelude.{ℕ, ◌<◌, ◌≡◌, refl, true}
use Rattle.std.proofs.Common.{arith}
use Rattle.std.proofs.Math.Option.{Option, none, some}
use Rattle.utf8.specs.Rfc3629.{well_formed}
use Rattle.tok.specs.Step.{Result, ok, Refusal}
use Rattle.ast.specs.Node.{Nodes}
use Rattle.refusals.specs.Inputs.{Inputs, Buffers}
use Rattle.refusals.specs.Refusals.{refusal_of}
use Rattle.rules.specs.World.{Ctx, World}
use Rattle.rules.specs.Steps.{Done}
use Rattle.rules.specs.Check.{Ended, end_of, unless_refused, check_of}
use Rattle.rules.specs.Promises.{message_of, primary_of, MessagesWellFormed}
use Rattle.accepts.proofs.Passed.{passed}
use Rattle.onerun.specs.Claim.{Run, ToldWell}
use Rattle.onerun.proofs.Walk.{Ends, ends, stops}
use Rattle.clean.proofs.Walked.{walked}
use Rattle.clean.specs.Messages.{ReadWell}

-- here it is names that are claimed
abbrev named : Ctx → Run
named c = record { ctx = c; clean = ⊥; sig = λ f xs. Unit {0}; plain = λ ps ret xs. tt }

told-read : (b : Buffers) (u : World) (k : ℕ) → ToldWell u.diagnostics u.messages k → ReadWell (end_of b (ok tt u)) k
unfolding end_of
told-read b u k t = record { message = rw (t.start_is, t.message_is) t.message_well; primary = rw (t.start_is, t.message_is, t.primary_is) t.primary_well }

ended-read : (b : Buffers) {c : Ctx} {roots : Nodes} {x : Result World Refusal Done} → Ends (named c) roots x → (k : ℕ) → k < (end_of b x).diagnostics → ReadWell (end_of b x) k
unfolding end_of
ended-read b (ends {u = u} h) k l = told-read b u k ((h (record { none = λ q. absurd q })).holds.told (λ q. q) k l)
ended-read b stops k l = absurd (omega arith)

read-well : (i : Inputs) (b : Buffers) (o : Option Refusal) → refusal_of i b ≡ o → (k : ℕ) → k < (unless_refused o i b).diagnostics → ReadWell (unless_refused o i b) k
unfolding unless_refused
read-well i b (some x) e k l = absurd (omega arith)
read-well i b none e k l = ended-read b (walked ⊥ i b (passed i b e)) k l

-- THE THEOREM
pub messages-well_formed : MessagesWellFormed
unfolding MessagesWellFormed check_of
messages-well_formed i b answered k l = let h = read-well i b (refusal_of i b) refl k l in (h.message, h.primary)
