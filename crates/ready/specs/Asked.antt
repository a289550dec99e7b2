-- What the plain functions of the walk ask for, from a visit that is ready and the words of the node's record (places: `words_let` ..).
-- Assumes nothing.
use Rattle.std.specs.Prelude.{ℕ, ◌+◌, ◌*◌, ◌-◌, ◌/◌, ◌≤◌, ◌≡◌, List, length, get_or, eqb}
use Rattle.std.proofs.Common.{arith, eqb-true}
use Rattle.std.proofs.Math.Bool.{and-eq-true_iff}
use Rattle.tok.specs.Word.{kind_of}
use Rattle.tok.specs.Name.{good_name}
use Rattle.tok.specs.Text.{Texts}
use Rattle.ast.specs.Image.{word_at, record_length}
use Rattle.ast.specs.Node.{cases_end, externs_from}
use Rattle.image_laws.specs.RecordWords.{Named, LetWords, FnWords, MatchWords, CallWords, CastWords, ImportWords, ExternWords, RecordWords, ArrayWords}
use Rattle.trees.specs.SameWords.{cases_end_lem, cases_default}
use Rattle.state.specs.Signatures.{entries_end}
use Rattle.type_expr.specs.Ready.{TypeReady}
use Rattle.places.specs.NodesAt.{NodeReady, counts_of, record_room}
use Rattle.spans.specs.Ready.{NodesReady, ValuesReady, CasesReady}
use Rattle.visit.specs.declared.State.{State}
use Rattle.visit.specs.Whole.{Lent}
use Rattle.visit.specs.Free.{free-less, free-top}
use Rattle.room_laws.specs.Room.{extern_words}
use Rattle.names.specs.Bound.{Bindable}
use Rattle.imports.specs.Holding.{CanHoldAll}
use Rattle.functions.specs.Entering.{FnReady}
use Rattle.extern_package.specs.Packing.{ExternReady}
use Rattle.own_call.specs.OwnCalls.{OwnReady}
use Rattle.ready.specs.Ready.{Ready}

-- a good name is of kind 12
named-kind : {text image : List ℕ} {at : ℕ} → Named text image at → kind_of (word_at image at) ≡ 12
unfolding good_name
named-kind {image = image} {at = at} n = eqb-true (kind_of (word_at image at)) 12 ((and-eq-true_iff (eqb (kind_of (word_at image at)) 12) _).0 n.good).0

-- ── The lists in a record ──

module _ {image places : List ℕ} {n at : ℕ} (r : NodeReady image places n) (e : at ≡ get_or places n 0) where
  pub call-nodes : CallWords (counts_of r) image n at → {k : ℕ} → k ≡ record_length image at - 3 → NodesReady image places n (at + 3) k
  call-nodes w q = record { ready = r; nodes = rw q w.args; room = omega (arith, record_room r e, w.long) }

  pub array-nodes : ArrayWords (counts_of r) image n at → {k : ℕ} → k ≡ record_length image at - 3 → NodesReady image places n (at + 3) k
  array-nodes w q = record { ready = r; nodes = rw q w.members; room = omega (arith, record_room r e, w.long) }

  pub body-nodes : FnWords (counts_of r) image n at → {count k : ℕ} → count ≡ get_or image (at + 4) 0 → k ≡ record_length image at - (5 + 2 * count) → NodesReady image places n (at + 5 + 2 * count) k
  body-nodes w ec q = record { ready = r; nodes = rw (q, ec) w.body; room = omega (arith, record_room r e, w.long) }

  pub record_values : RecordWords (counts_of r) image n at → {k : ℕ} → k ≡ (record_length image at - 3) / 2 → ValuesReady image places n (at + 3) k
  record_values w q = record { ready = r; values = rw q w.values; room = omega (arith, record_room r e, w.long) }

  pub match-cases : MatchWords (counts_of r) image n at → {k : ℕ} → k ≡ get_or image (at + 2) 0 → CasesReady image places n (at + 3) k
  match-cases w q = record { ready = r; end = at + record_length image at; cases = rw q w.cases; room = record_room r e }

  -- the default's block, after the cases
  pub default_nodes : MatchWords (counts_of r) image n at → {k : ℕ} → k ≡ at + record_length image at - (cases_end image (at + 3) (get_or image (at + 2) 0) + 1)
      → NodesReady image places n (cases_end image (at + 3) (get_or image (at + 2) 0) + 1) k
  default_nodes w q = record { ready = r; nodes = rw q (cases_default w.cases); room = omega (arith, record_room r e, cases_end_lem w.cases) }

  pub cast-type : CastWords (counts_of r) image n at → {t : ℕ} → t ≡ get_or image (at + 4) 0 → TypeReady image places t
  cast-type w q = record { readable = r.readable; below = rw q w.type.under }

  pub return-type : FnWords (counts_of r) image n at → {t : ℕ} → t ≡ get_or image (at + 3) 0 → TypeReady image places t
  return-type w q = record { readable = r.readable; below = rw q w.ret.under }

-- ── Of a visit that is ready ──

module _ {T : Texts} {image places words : List ℕ} {room rows : ℕ} {st : State} {b : Lent} (y : Ready T image places words room rows st b) where
  -- Ident, and the beginning of a function's body
  pub few-names : st.names.base + st.names.depth ≤ 4096
  few-names = omega (arith, free-top y.free)

  -- the entries of own functions stand in the functions buffer
  pub entries-stand : entries_end b.functions 0 0 st.functions ≤ length b.functions
  entries-stand = omega (arith, y.rows.after)

  pub own-ready : {n args count : ℕ} → NodesReady image places n args count → OwnReady b.functions st.functions image places n args count
  own-ready h = record { entries = entries-stand; nodes = h }

  module _ {n at : ℕ} (r : NodeReady image places n) (e : at ≡ get_or places n 0) where
    -- Let
    pub let_bindable : LetWords (counts_of r) image n at → {name : ℕ} → name ≡ get_or image (at + 2) 0 → 2 ≤ room → Bindable st b.scratch name
    let_bindable w q l = record { free = free-less y.free l; kind = rw q (named-kind w.name) }

    -- Import
    pub can_hold : ImportWords (counts_of r) image n at → {count : ℕ} → count ≡ record_length image at - 3 → count ≤ room → CanHoldAll T words st b.scratch (at + 3) count
    can_hold w q l = record { fine = y.given.library; free = free-less y.free l; room = omega (arith, record_room r e, w.long) }

    -- Extern
    pub extern-ready : ExternWords (counts_of r) image n at → {count end : ℕ} → count ≡ get_or image (at + 4) 0 → end ≡ at + record_length image at
        → extern_words (externs_from image (at + 5) count) ≤ room
        → ExternReady image places st b.scratch (at + 5) end count
    extern-ready w ec q l = record {
      functions = record { readable = r.readable; functions = rw (ec, q) w.functions; low = omega (arith, record_room r e) };
      free = free-less y.free l;
    }

    -- Fn, of its own slot, argument count and return type
    pub fn-ready : FnWords (counts_of r) image n at → {slot ret count : ℕ} → slot ≡ get_or image (at + 1) 0 → ret ≡ get_or image (at + 3) 0 → count ≡ get_or image (at + 4) 0 → 2 * count ≤ room
        → 3 + 2 * count ≤ rows
        → FnReady image places st b.functions b.scratch (slot + 1) ret (at + 5) count
    fn-ready w es er ec l k = record {
      arguments = record {
        arguments = record { readable = r.readable; pairs = rw ec w.args; room = omega (arith, record_room r e, w.long) };
        free = free-less y.free l;
        slots = omega (arith, w.slots, r.readable.accepted.most-slots);
      };
      type = return-type r e w er;
      rows = record { after = omega (arith, y.rows.after) };
    }
