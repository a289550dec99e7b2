-- What the answers of finding entries stand for. Definitions.
use Rattle.std.specs.Prelude.{ℕ, ◌+◌, ◌-◌, ◌≤◌, ◌≡◌, Bool, true, false, List, [], ◌∷◌, length, Option, Some, None}
use Rattle.tok.specs.Text.{Texts}
use Rattle.library.specs.Package.{Signature, Function, group_of}
use Rattle.library.specs.Signatures.{signature_at, entries_from}
use Rattle.library.specs.EntryList.{Entries}
use Rattle.library.specs.declared.Entry.{Entry}

-- how many words stand between an entry's name and its argument count: "its group name, a flag (1 has slots, 0 not), argument count" in the
-- library, "name, argument count" elsewhere
abbrev pub flag_words : (flagged : Bool) → ℕ
flag_words true = 1
flag_words false = 0

-- the functions that some entries are
abbrev pub functions_in : Entries → List Function
functions_in e = entries_from e.words (flag_words e.flagged) e.from e.count

-- the signature of an entry of a name, and those of its others: among `left` entries from word `next` on
abbrev pub entries_of : Texts → (name words : List ℕ) → (flags : ℕ) → Option Entry → List Signature
entries_of texts name words flags (Some e) = signature_at words e.at e.slotted ∷ group_of texts name (entries_from words flags e.next e.left)
entries_of texts name words flags None = []

-- the place that was found, and how many entries are left after it
abbrev pub place_of : Option Entry → ℕ
place_of (Some e) = e.at
place_of None = 0

abbrev pub left_of : Option Entry → ℕ
left_of (Some e) = e.left
left_of None = 0

-- What finding a name among k entries from a word on answers: the first of the group and where its others are. It stands in the words, and
-- fewer entries are left.
pub record Finds (texts : Texts) (name words : List ℕ) (flags from k : ℕ) (r : Option Entry) : Type 0 where
  pub is : group_of texts name (entries_from words flags from k) ≡ entries_of texts name words flags r
  pub near : place_of r ≤ length words + 2
  pub fewer : left_of r ≤ k - 1
