-- What the reader of an image knows and notes (document 01, "Words"). Definitions.
use Rattle.std.specs.Prelude.{ℕ, List}
use Rattle.tok.specs.Name.{good_name, in_script}
use Rattle.tok.specs.Step.{◌>>=◌}
use Rattle.tok.specs.Reader.{Read, word, below, many}

-- What refusals 4 to 6 ask of a node: its kind, its slot, how many arguments it has if it is an Fn (else 0), and the
-- nodes that are its parts, a call's target among them.
pub record Outline : Type 0 where
  pub kind : ℕ
  pub slot : ℕ
  pub arguments : ℕ
  pub parts : List ℕ

-- the script text, and "counts N nodes, T type expressions, .. V slots"
pub record Counts : Type 0 where
  pub text : List ℕ
  pub nodes : ℕ
  pub types : ℕ
  pub slots : ℕ

-- where a node record is read: the nodes before it, its number, kind and slot, and how many words follow the slot
pub record Here : Type 0 where
  pub counts : Counts
  pub before : List Outline
  pub number : ℕ
  pub kind : ℕ
  pub slot : ℕ
  pub left : ℕ

abbrev pub outline : Here → (arguments : ℕ) → (parts : List ℕ) → Outline
outline h n ps = record { kind = h.kind; slot = h.slot; arguments = n; parts = ps }

-- a node that is no Fn
abbrev pub owns : Here → (parts : List ℕ) → Outline
owns h ps = outline h 0 ps

-- "Name or token, kind 12"; "Bit 24 is clear throughout an image"
abbrev pub token : Counts → Read ℕ
token c = word (good_name in_script c.text)

abbrev pub name : Counts → Read ℕ
name c = token c

-- "A part's number is smaller than its owner's."
abbrev pub part : Here → Read ℕ
part h = below h.number

abbrev pub parts : Here → (n : ℕ) → Read (List ℕ)
parts h n = many n (part h)

-- "types below T"
abbrev pub type_part : Counts → Read ℕ
type_part c = below c.types

-- "name and type of each"
unfoldable pub typed_name : Counts → Read ℕ
typed_name c = do
  _ ← name c
  type_part c

abbrev pub typed_names : Counts → (n : ℕ) → Read (List ℕ)
typed_names c n = many n (typed_name c)
