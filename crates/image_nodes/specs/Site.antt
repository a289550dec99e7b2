-- Where the code reads a node record, in the terms of the definitions. Definitions.
use Rattle.std.specs.Prelude.{ℕ, ◌<◌, ◌≡◌, Bool, false, List, get_or, Result}
use Rattle.tok.specs.Reader.{Read}
use Rattle.reader.specs.declared.Fault.{Fault}
use Rattle.reader.specs.Reading.{Reader, onward, gave, Same}
use Rattle.ast.specs.Outline.{Outline, Counts, Here}
use Rattle.ast.specs.NodeRecords.{no_node, callable}
use Rattle.image_words.specs.Leads.{unanswered}
use Rattle.image_nodes.specs.declared.Counts as code
use Rattle.image_nodes.specs.declared.Site as declared

-- the script text and the counts
abbrev pub counts_of : code.Counts → Counts
counts_of c = record { text = c.text.now; nodes = c.nodes; types = c.types; slots = c.slots }

-- What contracts see of a place where a node record is read: the script text and the counts, the node's number and slot, and how many words
-- follow the slot.
pub record Site : Type 0 where
  pub counts : Counts
  pub number : ℕ
  pub slot : ℕ
  pub left : ℕ

abbrev pub site_of : Counts → (number slot left : ℕ) → Site
site_of c number slot left = record { counts = c; number = number; slot = slot; left = left }

-- what contracts see of the code's site: a type with a lifetime that is Copy can have no model of its own
abbrev pub site_at : declared.Site → Site
site_at s = site_of (counts_of s.counts) s.number s.slot s.left

-- with the node's kind and the nodes before
abbrev pub here_of : Site → (kind : ℕ) (before : List Outline) → Here
here_of s kind before = record { counts = s.counts; before = before; number = s.number; kind = kind; slot = s.slot; left = s.left }

-- A row of document 01's table, read at a site, comes to `to` in the same words, whatever the kind and the nodes before.
abbrev pub LeadsAt : {A : Type 0} → (from : Reader) → Site → (Here → Read A) → Result Reader Fault → Type 0
LeadsAt from s row to = ((kind : ℕ) (before : List Outline) → unanswered (onward from (row (here_of s kind before))) ≡ gave tt to) × Same from to

-- What a loop keeps that reads a row's list and has come from `from` to `to`: what is left leads where all of it leads, in the same words.
abbrev pub LeftAt : {A : Type 0} → (from : Reader) → Site → (all : Here → Read A) → (to : Reader) → (left : Here → Read A) → Type 0
LeftAt from s all to left =
    ((kind : ℕ) (before : List Outline) → let h = here_of s kind before in unanswered (onward to (left h)) ≡ unanswered (onward from (all h)))
    × (to.words ≡ from.words)

-- whether each node before node n may be called, as the code keeps it
pub record Kept (called : List Bool) (before : List Outline) (n : ℕ) : Type 0 where
  pub kept : (p : ℕ) → p < n → get_or called p false ≡ callable (get_or before p no_node)
