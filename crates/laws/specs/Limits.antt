-- The limits hold at every point of the walk: an instance of `Keeps` for a predicate of worlds. Assumes nothing.
use Rattle.std.specs.Prelude.{ℕ, suc, ◌+◌, ◌*◌, ◌/◌, ◌≤◌, min, Bool, true, false, ◌&&◌, ◌≡◌, refl, List, length, ltb}
use Rattle.std.proofs.Common.{arith, leb-true, ltb-true}
use Rattle.ptype.specs.Add.{Buffer, append, type_room}
use Rattle.ast.specs.Node.{Node}
use Rattle.err.specs.Message.{Diagnostic}
use Rattle.rules.specs.World.{Ctx, World, with_told}
use Rattle.err.specs.Report.{has_room, one_more, six_words, bytes_of}
use Rattle.rules.specs.Steps.{output_of}
use Rattle.rules.specs.Rules.{node}
use Rattle.laws.specs.SlotsOf.{all_slots}
use Rattle.laws.specs.Keeps.{Keeps, StepsKeep, Enters}
use Rattle.laws.specs.RulesKeep.{in_node}
use Rattle.laws.specs.Writes.{length-write}

-- "At most 8,192 words of the types buffer, 256 diagnostics and 65,536 message bytes are used", and no more than are lent
pub record Within (s : World) : Type 0 where
  pub types : s.types.used ≤ type_room s.types
  pub diagnostics : s.diagnostics.used ≤ min (length s.diagnostics.words / 6) 256
  pub messages : s.messages.used ≤ min (length s.messages.words) 65536

abbrev pub Stays : World → World → Type 0
Stays s u = Within s → Within u

abbrev Any : ℕ → Type 0
Any k = Unit {0}

and_left : (a b : Bool) → (a && b) ≡ true → a ≡ true
and_left true b e = refl
and_left false b e = e

and_right : (a b : Bool) → (a && b) ≡ true → b ≡ true
and_right true b e = e
and_right false true e = refl
and_right false false e = e

append-room : (b : Buffer) (new : List ℕ) (k : ℕ) → b.used + length new ≤ min (length b.words) k → (append b new).used ≤ min (length (append b new).words) k
unfolding append
append-room b new k h = rw (length-write b.words b.used new) h

one-room : (b : Buffer) (six : List ℕ) → suc b.used ≤ min (length b.words / 6) 256 → (one_more b six).used ≤ min (length (one_more b six).words / 6) 256
one-room b six h = rw (length-write b.words (6 * b.used) six) (omega (arith, h))

told-room : (d : Diagnostic) (s : World) → has_room (output_of s) d ≡ true → Stays s (with_told s (one_more s.diagnostics (six_words d s.messages.used)) (append s.messages (bytes_of d)))
told-room d s e h = record {
  types = h.types;
  diagnostics = one-room s.diagnostics _ (ltb-true s.diagnostics.used (min (length s.diagnostics.words / 6) 256) (and_left _ _ e));
  messages = append-room s.messages (bytes_of d) 65536 (leb-true (s.messages.used + length (bytes_of d)) (min (length s.messages.words) 65536)
      (and_right (ltb s.diagnostics.used (min (length s.diagnostics.words / 6) 256)) _ e));
}

pub limits_kept : StepsKeep Stays Any Any
limits_kept = record {
  same = λ s h. h;
  trans = λ {s} {t} {u} x y h. y (x h);
  slot = λ i w s p h. record { types = h.types; diagnostics = h.diagnostics; messages = h.messages };
  type = λ texts k new s e deep h. record { types = append-room s.types new 8192 (leb-true (s.types.used + length new) (type_room s.types) e); diagnostics = h.diagnostics; messages = h.messages };
  told = told-room;
  binds = λ l s h. record { types = h.types; diagnostics = h.diagnostics; messages = h.messages };
  frame = λ {s} {u} x h. record { types = (x h).types; diagnostics = (x h).diagnostics; messages = (x h).messages };
  alone = λ {s} {u} x h.
      let i : Within u = x (record { types = h.types; diagnostics = h.diagnostics; messages = h.messages }) in
      record { types = i.types; diagnostics = i.diagnostics; messages = i.messages };
  holds = λ p s h. record { types = h.types; diagnostics = h.diagnostics; messages = h.messages };
  logs = λ l s h. record { types = h.types; diagnostics = h.diagnostics; messages = h.messages };
  types_full = tt;
  too_deep = tt;
  told_full = tt;
}

pub limits_enters : Enters Stays
limits_enters = record { enters = λ name ps ret s h. record { types = h.types; diagnostics = h.diagnostics; messages = h.messages } }

pub node_limits : (c : Ctx) (t : Node) (s : World) → Keeps Stays Any s (node c t s)
node_limits c t s = in_node limits_kept limits_enters c t (all_slots (λ _. tt) t) s
