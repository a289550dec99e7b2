-- The rows of the table of kinds: a word's kind says how long its record may be and how its words are read. Assumes nothing.
use Prim.Native.Nat.{ℕ, suc, ◌-◌, ◌≤◌}
use mathlib.Core.Path.{◌≡◌, refl, sym, ap, ◌∙◌}
use Rattle.std.specs.Prelude.{Result}
use native.Mathlib.Omega.{arith}
use lib.ListN.{get_or}
use mathlib.Core.Bool.{false}
use mathlib.Core.List.{[]}
use Rattle.tok.specs.Word.{kind_of, payload_of}
use Rattle.tok.specs.Step.{return}
use Rattle.reader.specs.declared.Fault.{Fault}
use Rattle.reader.specs.Reading.{Reader, onward, gave, Same}
use Rattle.ast.specs.declared.NodeKind.{NodeKind}
use Rattle.ast.specs.declared.NodeKind.TheVariants as node
use Rattle.ast.specs.Kinds.{kind_of_node}
use Rattle.ast.specs.KindLaws.{node-number}
use Rattle.ast.specs.Outline.{Here, owns}
use Rattle.ast.specs.Nodes.{Kind, node_kinds, node_kind, good_node_head}
use Rattle.image_words.specs.Leads.{unanswered, Leads}

-- the number of a kind: the table ends before that of no kind
abbrev number_of : NodeKind → ℕ
number_of node.Atom = 0
number_of node.Ident = 1
number_of node.Bin = 2
number_of node.Unary = 3
number_of node.Let = 4
number_of node.Fn = 5
number_of node.Match = 6
number_of node.Call = 7
number_of node.Field = 8
number_of node.Cast = 9
number_of node.Import = 10
number_of node.Extern = 11
number_of node.Record = 12
number_of node.Array = 13
number_of node.None = 14

-- the row of a kind
abbrev pub row_of : NodeKind → Kind
row_of x = get_or node_kinds (number_of x) (record { long = λ _. false; rest = λ h. return (owns h []) })

-- a number that is none of the table's
beyond : (k : ℕ) → 14 ≤ k → (j : ℕ) × (k ≡ suc (suc (suc (suc (suc (suc (suc (suc (suc (suc (suc (suc (suc (suc j))))))))))))))
beyond k h = (k - 14, omega arith)

-- words of one kind have one row
pub row : (x : NodeKind) (head : ℕ) → x ≡ kind_of_node (kind_of head) → node_kind head ≡ row_of x
unfolding node_kind node_kinds
row node.Atom head e = let k : kind_of head ≡ 0 = node-number _ e in rw k refl
row node.Ident head e = let k : kind_of head ≡ 1 = node-number _ e in rw k refl
row node.Bin head e = let k : kind_of head ≡ 2 = node-number _ e in rw k refl
row node.Unary head e = let k : kind_of head ≡ 3 = node-number _ e in rw k refl
row node.Let head e = let k : kind_of head ≡ 4 = node-number _ e in rw k refl
row node.Fn head e = let k : kind_of head ≡ 5 = node-number _ e in rw k refl
row node.Match head e = let k : kind_of head ≡ 6 = node-number _ e in rw k refl
row node.Call head e = let k : kind_of head ≡ 7 = node-number _ e in rw k refl
row node.Field head e = let k : kind_of head ≡ 8 = node-number _ e in rw k refl
row node.Cast head e = let k : kind_of head ≡ 9 = node-number _ e in rw k refl
row node.Import head e = let k : kind_of head ≡ 10 = node-number _ e in rw k refl
row node.Extern head e = let k : kind_of head ≡ 11 = node-number _ e in rw k refl
row node.Record head e = let k : kind_of head ≡ 12 = node-number _ e in rw k refl
row node.Array head e = let k : kind_of head ≡ 13 = node-number _ e in rw k refl
row node.None head e = let past = beyond (kind_of head) (node-number _ e) in rw past.1 refl

-- how long its record may be
pub long_by : (x : NodeKind) (head long : ℕ) → x ≡ kind_of_node (kind_of head) → long ≡ payload_of head → good_node_head head ≡ (row_of x).long long
unfolding good_node_head
long_by x head long e p = ap (λ κ. κ.long (payload_of head)) (row x head e) ∙ ap (row_of x).long (sym p)

-- how its words are read
pub rest_by : {x : NodeKind} (head : ℕ) (from : Reader) (to : Result Reader Fault) (h : Here) → x ≡ kind_of_node (kind_of head)
    → unanswered (onward from ((row_of x).rest h)) ≡ gave tt to → Same from to → Leads from ((node_kind head).rest h) to
rest_by {x = x} head from to h e l s = (rw (row x head e) l, s)
