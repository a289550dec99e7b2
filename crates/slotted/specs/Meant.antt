-- What the steps of an argument with slots take for granted. Definitions.
use Rattle.std.specs.Prelude.{ℕ, ◌≤◌, List, length, get_or}
use Rattle.tok.specs.Text.{Texts}
use Rattle.ptype.specs.Words.{ty_of}
use Rattle.ptype.specs.Add.{buffer}
use Rattle.ptype.specs.Slots.{bind_slots}
use Rattle.add.specs.Means.{Means}
use Rattle.slots.specs.declared.Bindings.{Bindings}
use Rattle.slots.specs.Bindings.{pair_room, bindings_of, bindings_after}

-- A type word refers only into the used part of the types buffer, and its type is at most 32 deep.
pub record Meant (texts : Texts) (types : List ℕ) (used w : ℕ) : Type 0 where
  pub means : Means texts (buffer types used) w (ty_of texts types w)

-- One argument: its type's word and the expected one mean types, and the bindings have room in the lent part once the one is bound to the other.
pub record ArgumentMeant (texts : Texts) (slots types : List ℕ) (used expected slot : ℕ) (b : Bindings) : Type 0 where
  pub expects : Meant texts types used expected
  pub provides : Meant texts types used (get_or slots slot 0)
  pub room : length (bindings_after (bind_slots texts types (ty_of texts types expected) (get_or slots slot 0) (bindings_of texts b))) ≤ pair_room b.pairs.now
