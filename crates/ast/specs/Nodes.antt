-- Node records: which lengths each kind may have, and the nodes one after the other (document 01, "Words"). Definitions.
use Rattle.std.specs.Prelude.{ℕ, zero, suc, ◌+◌, ◌-◌, ◌%◌, Bool, false, ◌&&◌, List, [], ◌∷◌, ◌++◌, get_or, leb, eqb}
use Rattle.tok.specs.Word.{kind_of, payload_of}
use Rattle.tok.specs.Step.{◌>>=◌, return}
use Rattle.tok.specs.Reader.{Read, owing, below}
use Rattle.ast.specs.Outline.{Outline, Counts, Here, owns}
use Rattle.ast.specs.NodeRecords.{atom, ident, bin, unary, binding, fn, match, call, field, cast, imports, extern, record_node, array}

-- "A record's first word holds its kind and, as payload, its whole length in words": which lengths a kind may have, and
-- how the words after the slot are read.
pub record Kind : Type 0 where
  pub long : ℕ → Bool
  pub rest : Here → Read Outline

abbrev exactly : ℕ → (Here → Read Outline) → Kind
exactly n r = record { long = λ k. eqb k n; rest = r }

abbrev at_least : ℕ → (Here → Read Outline) → Kind
at_least n r = record { long = λ k. leb n k; rest = r }

-- n words and pairs
abbrev and_pairs : ℕ → (Here → Read Outline) → Kind
and_pairs n r = record { long = λ k. leb n k && eqb ((k - n) % 2) 0; rest = r }

unfoldable pub node_kinds : List Kind
node_kinds =
    exactly 4 atom
    ∷ exactly 3 ident
    ∷ exactly 6 bin
    ∷ exactly 5 unary
    ∷ exactly 4 binding
    ∷ at_least 5 fn
    ∷ at_least 4 match
    ∷ at_least 3 call
    ∷ exactly 4 field
    ∷ exactly 5 cast
    ∷ at_least 3 imports
    ∷ at_least 5 extern
    ∷ and_pairs 3 record_node
    ∷ at_least 3 array
    ∷ []

abbrev no_kind : Kind
no_kind = record { long = λ _. false; rest = λ h. return (owns h []) }

unfoldable pub node_kind : (head : ℕ) → Kind
node_kind head = get_or node_kinds (kind_of head) no_kind

unfoldable pub good_node_head : (head : ℕ) → Bool
good_node_head head = (node_kind head).long (payload_of head)

-- Node number i. "a node's next word is its slot"; slots below V. Three of its words are owed by N already.
unfoldable pub node : Counts → (before : List Outline) → (i : ℕ) → Read Outline
node c before i = do
  head ← owing good_node_head (λ w. payload_of w - 3)
  slot ← below c.slots
  (node_kind head).rest (record { counts = c; before = before; number = i; kind = kind_of head; slot = slot; left = payload_of head - 2 })

-- `count` nodes, the first number i
unfoldable pub nodes : Counts → (count i : ℕ) → (before : List Outline) → Read (List Outline)
nodes c zero i before = return before
nodes c (suc count) i before = do
  o ← node c before i
  nodes c count (i + 1) (before ++ (o ∷ []))
