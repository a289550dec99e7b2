-- What a type word refers to in the types buffer, all the way down (document 01, "Words"). Definitions.
use Rattle.std.specs.Prelude.{ℕ, zero, suc, ◌+◌, ◌*◌, ◌≤◌, ◌<◌, ◌≡◌, true, List, get_or, length, take}
use Rattle.tok.specs.Word.{kind_of, payload_of, name_start, name_length, name_bit}
use Rattle.tok.specs.Text.{Texts, text_by}
use Rattle.ptype.specs.Words.{inner_word, field_count}
use Rattle.ptype.specs.Kinds.{wraps, names}

-- the name and the type word of field number i of a Record
abbrev pub field_name : List ℕ → (w i : ℕ) → ℕ
field_name types w i = get_or types (payload_of w + 1 + 2 * i) 0

abbrev pub field_type : List ℕ → (w i : ℕ) → ℕ
field_type types w i = get_or types (payload_of w + 1 + 2 * i + 1) 0

-- the type words that stand directly inside one
pub data Inside (types : List ℕ) (w : ℕ) : ℕ → Type 0 where
  wrapped : wraps (kind_of w) ≡ true → Inside types w (inner_word types w)
  in_field : kind_of w ≡ 8 → (i : ℕ) → i < field_count types w → Inside types w (field_type types w i)

-- P holds of a word and of every type word inside it, as deep as it is unfolded
pub data Throughout (P : ℕ → Type 0) (types : List ℕ) : (deep w : ℕ) → Type 0 where
  below : {w : ℕ} → Throughout P types zero w
  level : {f w : ℕ} → P w → ((v : ℕ) → Inside types w v → Throughout P types f v) → Throughout P types (suc f) w

-- "Option and Array carry the types-buffer index of the inner type word. Record carries the index of a field count, followed
-- by a name and a type word for each field": they lie among the first `used` words of the buffer.
pub record Refers (types : List ℕ) (used w : ℕ) : Type 0 where
  pub to_inner : wraps (kind_of w) ≡ true → payload_of w < used
  pub to_fields : kind_of w ≡ 8 → payload_of w + 1 + 2 * field_count types w ≤ used

-- Word w refers only into the first `used` words, all the way down.
abbrev pub Within : List ℕ → (used deep w : ℕ) → Type 0
Within types used deep w = Throughout (Refers types used) types deep w

-- "A word there only refers to smaller indices than its own, and a Record's whole list stands before it."
pub record Backward (types : List ℕ) (used : ℕ) : Type 0 where
  pub each : (j : ℕ) → j < used → Refers types j (get_or types j 0)

-- Two buffers agree on their first `used` words: one is the other after words were added.
pub record Agree (used : ℕ) (types types' : List ℕ) : Type 0 where
  pub front : take used types ≡ take used types'

-- A name or token word: "Each must lie in its text".
pub record Lies (t : Texts) (name : ℕ) : Type 0 where
  pub lies : name_start name + name_length name ≤ length (text_by t (name_bit name))

-- the name of a Foreign or a Slot, and those of a Record's fields
pub record NamesLie (t : Texts) (types : List ℕ) (w : ℕ) : Type 0 where
  pub own : names (kind_of w) ≡ true → Lies t w
  pub of_fields : kind_of w ≡ 8 → (i : ℕ) → i < field_count types w → Lies t (field_name types w i)

-- The names in the type of word w lie in their texts, all the way down.
abbrev pub NamesIn : Texts → List ℕ → (deep w : ℕ) → Type 0
NamesIn t types deep w = Throughout (NamesLie t types) types deep w
