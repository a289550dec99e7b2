-- Nodes as trees (ast.rs, `enum Node`). Definitions.
use Rattle.std.specs.Prelude.{ℕ, zero, suc, ◌+◌, ◌*◌, ◌-◌, ◌/◌, List, [], ◌∷◌, get_or}
use Rattle.ast.specs.Image.{word_at, node_place, record_kind, record_length, root_count}
use Rattle.ast.specs.TypeExpr.{TypeExpr, Arg, type_of, args_from}

-- struct ExternFn: "each: name, return type, argument count, pairs"
pub record ExternFn : Type 0 where
  pub name : ℕ
  pub ret : TypeExpr
  pub args : List Arg

-- n is the node's number, slot its slot; then its words, in the order of document 01's table ("Rest of each"): nodes and types as trees.
mutual
  pub data Node : Type 0 where
    Atom : (n slot : ℕ) → (token kind : ℕ) → Node
    Ident : (n slot : ℕ) → (name : ℕ) → Node
    Bin : (n slot : ℕ) → (token op : ℕ) → (left right : Node) → Node
    Unary : (n slot : ℕ) → (token op : ℕ) → (right : Node) → Node
    Let : (n slot : ℕ) → (name : ℕ) → (right : Node) → Node
    Fn : (n slot : ℕ) → (name : ℕ) → (ret : TypeExpr) → (args : List Arg) → (body : Nodes) → Node
    Match : (n slot : ℕ) → (cases : Cases) → (token : ℕ) → (default : Nodes) → Node
    Call : (n slot : ℕ) → (target : Node) → (args : Nodes) → Node
    Field : (n slot : ℕ) → (target : Node) → (name : ℕ) → Node
    Cast : (n slot : ℕ) → (token : ℕ) → (left : Node) → (type : TypeExpr) → Node
    Import : (n slot : ℕ) → (token : ℕ) → (paths : List ℕ) → Node
    Extern : (n slot : ℕ) → (token name : ℕ) → (functions : List ExternFn) → Node
    Record : (n slot : ℕ) → (token : ℕ) → (fields : Values) → Node
    Array : (n slot : ℕ) → (token : ℕ) → (members : Nodes) → Node
    -- no node of that number or kind: not in an accepted image
    Absent : (n : ℕ) → Node

  pub data Nodes : Type 0 where
    done : Nodes
    then : Node → Nodes → Nodes

  -- of a Match: "per case token, condition, body count, body"
  pub data Cases : Type 0 where
    no_case : Cases
    case : (token : ℕ) → (condition : Node) → (body : Nodes) → Cases → Cases

  -- of a Record: "name and value pairs"
  pub data Values : Type 0 where
    no_value : Values
    value : (name : ℕ) → Node → Values → Values

-- Lists in a record; `go` reads the node of a number.
-- k nodes from word `at` on
unfoldable pub nodes_from : (ℕ → Node) → List ℕ → (at k : ℕ) → Nodes
nodes_from go image at zero = done
nodes_from go image at (suc k) = then (go (word_at image at)) (nodes_from go image (at + 1) k)

-- k cases from word `at` on, and the word after them
unfoldable pub cases_from : (ℕ → Node) → List ℕ → (at k : ℕ) → Cases
cases_from go image at zero = no_case
cases_from go image at (suc k) =
    case (word_at image at) (go (word_at image (at + 1))) (nodes_from go image (at + 3) (word_at image (at + 2)))
    (cases_from go image (at + 3 + word_at image (at + 2)) k)

unfoldable pub cases_end : List ℕ → (at k : ℕ) → ℕ
cases_end image at zero = at
cases_end image at (suc k) = cases_end image (at + 3 + word_at image (at + 2)) k

-- k values from word `at` on
unfoldable pub values_from : (ℕ → Node) → List ℕ → (at k : ℕ) → Values
values_from go image at zero = no_value
values_from go image at (suc k) = value (word_at image at) (go (word_at image (at + 1))) (values_from go image (at + 2) k)

-- k words from word `at` on
unfoldable pub words_from : List ℕ → (at k : ℕ) → List ℕ
words_from image at zero = []
words_from image at (suc k) = word_at image at ∷ words_from image (at + 1) k

-- k functions of an Extern from word `at` on
unfoldable pub externs_from : List ℕ → (at k : ℕ) → List ExternFn
externs_from image at zero = []
externs_from image at (suc k) =
    record { name = word_at image at; ret = type_of image (word_at image (at + 1)); args = args_from image (at + 3) (word_at image (at + 2)) }
    ∷ externs_from image (at + 3 + 2 * word_at image (at + 2)) k

-- One reader for each kind: node n, whose record stands at a place. Word 0 is kind and length, word 1 the slot, then document 01's table.
abbrev pub Reader : Type 0
Reader = (ℕ → Node) → List ℕ → (n at : ℕ) → Node

-- 0 Atom | token, type kind 2 to 5
abbrev pub read_atom : Reader
read_atom go image n at = Atom n (word_at image (at + 1)) (word_at image (at + 2)) (word_at image (at + 3))

-- 1 Ident | name
abbrev pub read_ident : Reader
read_ident go image n at = Ident n (word_at image (at + 1)) (word_at image (at + 2))

-- 2 Bin | token, operator, left, right
abbrev pub read_bin : Reader
read_bin go image n at = Bin n (word_at image (at + 1)) (word_at image (at + 2)) (word_at image (at + 3)) (go (word_at image (at + 4))) (go (word_at image (at + 5)))

-- 3 Unary | token, operator, right
abbrev pub read_unary : Reader
read_unary go image n at = Unary n (word_at image (at + 1)) (word_at image (at + 2)) (word_at image (at + 3)) (go (word_at image (at + 4)))

-- 4 Let | name, right
abbrev pub read_let : Reader
read_let go image n at = Let n (word_at image (at + 1)) (word_at image (at + 2)) (go (word_at image (at + 3)))

-- 5 Fn | name, return type, argument count, name and type of each, body
abbrev pub read_fn : Reader
read_fn go image n at =
    let count : ℕ = word_at image (at + 4) in
    Fn n (word_at image (at + 1)) (word_at image (at + 2)) (type_of image (word_at image (at + 3))) (args_from image (at + 5) count)
    (nodes_from go image (at + 5 + 2 * count) (record_length image at - (5 + 2 * count)))

-- 6 Match | case count; per case token, condition, body count, body; then default token, body
abbrev pub read_match : Reader
read_match go image n at =
    let count : ℕ = word_at image (at + 2) in
    let end : ℕ = cases_end image (at + 3) count in
    Match n (word_at image (at + 1)) (cases_from go image (at + 3) count) (word_at image end) (nodes_from go image (end + 1) (at + record_length image at - (end + 1)))

-- 7 Call | target (Ident or Field), arguments
abbrev pub read_call : Reader
read_call go image n at = Call n (word_at image (at + 1)) (go (word_at image (at + 2))) (nodes_from go image (at + 3) (record_length image at - 3))

-- 8 Field | target, name
abbrev pub read_field : Reader
read_field go image n at = Field n (word_at image (at + 1)) (go (word_at image (at + 2))) (word_at image (at + 3))

-- 9 Cast | token, left, type
abbrev pub read_cast : Reader
read_cast go image n at = Cast n (word_at image (at + 1)) (word_at image (at + 2)) (go (word_at image (at + 3))) (type_of image (word_at image (at + 4)))

-- 10 Import | token, paths
abbrev pub read_import : Reader
read_import go image n at = Import n (word_at image (at + 1)) (word_at image (at + 2)) (words_from image (at + 3) (record_length image at - 3))

-- 11 Extern | token, name, function count; each: name, return type, argument count, pairs
abbrev pub read_extern : Reader
read_extern go image n at = Extern n (word_at image (at + 1)) (word_at image (at + 2)) (word_at image (at + 3)) (externs_from image (at + 5) (word_at image (at + 4)))

-- 12 Record | token, name and value pairs
abbrev pub read_record : Reader
read_record go image n at = Record n (word_at image (at + 1)) (word_at image (at + 2)) (values_from go image (at + 3) ((record_length image at - 3) / 2))

-- 13 Array | token, members
abbrev pub read_array : Reader
read_array go image n at = Array n (word_at image (at + 1)) (word_at image (at + 2)) (nodes_from go image (at + 3) (record_length image at - 3))

abbrev pub read_absent : Reader
read_absent go image n at = Absent n

unfoldable pub readers : List Reader
readers =
    read_atom ∷ read_ident ∷ read_bin ∷ read_unary ∷ read_let ∷ read_fn ∷ read_match ∷ read_call ∷ read_field ∷ read_cast ∷ read_import ∷ read_extern ∷ read_record ∷ read_array ∷ []

-- "A part's number is smaller than its owner's": n + 1 levels are enough.
unfoldable pub tree_within : List ℕ → (deep n : ℕ) → Node
tree_within image zero n = Absent n
tree_within image (suc f) n = get_or readers (record_kind image (node_place image n)) read_absent (tree_within image f) image n (node_place image n)

unfoldable pub tree_of : List ℕ → (n : ℕ) → Node
tree_of image n = tree_within image (suc n) n

-- the first k roots, in order
unfoldable pub first_roots : List ℕ → (k : ℕ) → Nodes
first_roots image k = nodes_from (tree_of image) image 4 k

unfoldable pub roots_of : List ℕ → Nodes
roots_of image = first_roots image (root_count image)

-- Node::value_id: the node's slot
unfoldable pub slot_of : Node → ℕ
slot_of (Atom n slot token k) = slot
slot_of (Ident n slot name) = slot
slot_of (Bin n slot token op l r) = slot
slot_of (Unary n slot token op r) = slot
slot_of (Let n slot name r) = slot
slot_of (Fn n slot name ret args body) = slot
slot_of (Match n slot cs token d) = slot
slot_of (Call n slot target args) = slot
slot_of (Field n slot target name) = slot
slot_of (Cast n slot token l t) = slot
slot_of (Import n slot token paths) = slot
slot_of (Extern n slot token name fs) = slot
slot_of (Record n slot token fs) = slot
slot_of (Array n slot token ms) = slot
slot_of (Absent n) = 0
