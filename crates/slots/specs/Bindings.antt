-- Bindings in a lent part of scratch, and what binding answers ("`HashMap` becomes lists in scratch"). Definitions.
use Rattle.std.specs.Prelude.{◌≡◌, Bool, true, false, eqb, cond, List, [], ◌∷◌, ℕ, zero, suc, ◌+◌, ◌*◌, ◌/◌, min, length, get_or, leb, ⊤, Option as Found, Some, None, Result, Ok, Err}
use Rattle.std.proofs.Math.Option.{Option, none, some}
use Rattle.tok.specs.Word.{kind_of}
use Rattle.tok.specs.Text.{Texts, name_bytes}
use Rattle.ptype.specs.Slots.{Binding, binding, bound_to, is_some, Bound, all_bound, conflict, void_slot}
use Rattle.slots.specs.declared.BindError.{BindError}
use Rattle.slots.specs.declared.Bindings.{Bindings}
use Rattle.slots.specs.declared.BoundSlots.{BoundSlots}
use Rattle.slots.specs.declared.BindError.TheVariants.{Conflict, Void, NoRoom}

-- Pairs of words, a slot's and its type's: the first k of them as bindings, the newest first.
unfoldable pub first_pairs : Texts → (pairs : List ℕ) → (k : ℕ) → List Binding
first_pairs texts pairs zero = []
first_pairs texts pairs (suc k) = binding (name_bytes texts (get_or pairs (2 * k) 0)) (get_or pairs (2 * k + 1) 0) ∷ first_pairs texts pairs k

-- how many pairs there is room for
abbrev pub pair_room : (pairs : List ℕ) → ℕ
pair_room pairs = length pairs / 2

-- the bindings that `count` pairs stand for, as far as the lent part goes
abbrev pub bindings_in : Texts → (pairs : List ℕ) → (count : ℕ) → List Binding
bindings_in texts pairs count = first_pairs texts pairs (min count (pair_room pairs))

-- the bindings in a struct
abbrev pub bindings_of : Texts → Bindings → List Binding
bindings_of texts b = bindings_in texts b.pairs.now b.count

-- and in a struct that only reads them
abbrev pub bound_slots : Texts → BoundSlots → List Binding
bound_slots texts b = bindings_in texts b.pairs.now b.count

-- that all is bound, or why a slot was not
abbrev pub Bind : Type 0
Bind = Result ⊤ BindError

-- bindings.get(slot)
abbrev pub found_of : Found ℕ → Option ℕ
found_of (Some w) = some w
found_of None = none

-- a word of a slot that is bound
abbrev pub is_bound_slot : List Binding → Texts → (word : ℕ) → Bool
is_bound_slot bs texts w = elim (eqb (kind_of w) 10) [ true ↦ is_some (bound_to (name_bytes texts w) bs) | false ↦ false ]

-- "what was bound before an error stays"
unfoldable pub bindings_after : Bound → List Binding
bindings_after (all_bound bs) = bs
bindings_after (conflict bs slot existing new) = bs
bindings_after (void_slot bs slot) = bs

-- what binding gives where all of its bindings have room, and none where they do not
unfoldable pub fitted : (room : ℕ) → Bound → Option Bound
fitted room b = cond (leb (length (bindings_after b)) room) (some b) none

-- The paper's values for each case of an answer, with the bindings that it leaves: all bound; "21 and 22 slot conflict and Void"; or no room.
abbrev pub bound_of : Texts → Bind → List Binding → Option Bound
bound_of texts (Ok done) bs = some (all_bound bs)
bound_of texts (Err (Conflict slot existing new)) bs = some (conflict bs (name_bytes texts slot) existing new)
bound_of texts (Err (Void slot)) bs = some (void_slot bs (name_bytes texts slot))
bound_of texts (Err NoRoom) bs = none

-- What a function that binds answers: r, and the bindings b' after it, in the lent part that b had. Where all bindings have room, it is exactly
-- what `bind` gives of the bindings that there were; else it is Err NoRoom, and the rules leave open what the pairs then hold.
pub record Binds (texts : Texts) (bind : List Binding → Bound) (b : Bindings) (r : Bind) (b' : Bindings) : Type 0 where
  pub lent : b'.pairs.ghost_name ≡ b.pairs.ghost_name
  pub keeps : length b'.pairs.now ≡ length b.pairs.now
  pub is : fitted (pair_room b.pairs.now) (bind (bindings_of texts b)) ≡ bound_of texts r (bindings_of texts b')
