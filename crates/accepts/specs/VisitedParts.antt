-- The numbers of a node's visited parts, and the words of the functions buffer that are its own. What is visited below some nodes
-- are these nodes' visited parts and those of what is visited below them. By induction on trees. Assumes nothing.
use Rattle.std.specs.Prelude.{ℕ, ◌+◌, ◌*◌, List, [], ◌∷◌, ◌++◌, length}
use Rattle.ast.specs.Node.{Node, Nodes, Cases, Values, Atom, Ident, Bin, Unary, Let, Fn, Match, Call, Field, Cast, Import, Extern, Record, Array, Absent, done, then, no_case, case, no_value, value}
use Rattle.rules.specs.Visited.{number_of}

unfoldable pub numbers_of : Nodes → List ℕ
numbers_of done = []
numbers_of (then x xs) = number_of x ∷ numbers_of xs

unfoldable pub case_numbers : Cases → List ℕ
case_numbers no_case = []
case_numbers (case token x body cs) = number_of x ∷ numbers_of body ++ case_numbers cs

unfoldable pub value_numbers : Values → List ℕ
value_numbers no_value = []
value_numbers (value name x vs) = number_of x ∷ value_numbers vs

-- "each part of a visited node but a call's target"
unfoldable pub visited_parts : Node → List ℕ
visited_parts (Atom n slot token k) = []
visited_parts (Ident n slot name) = []
visited_parts (Bin n slot token op l r) = number_of l ∷ number_of r ∷ []
visited_parts (Unary n slot token op r) = number_of r ∷ []
visited_parts (Let n slot name r) = number_of r ∷ []
visited_parts (Fn n slot name ret args body) = numbers_of body
visited_parts (Match n slot cs token d) = case_numbers cs ++ numbers_of d
visited_parts (Call n slot target args) = numbers_of args
visited_parts (Field n slot target name) = number_of target ∷ []
visited_parts (Cast n slot token l t) = number_of l ∷ []
visited_parts (Import n slot token paths) = []
visited_parts (Extern n slot token name fs) = []
visited_parts (Record n slot token fs) = value_numbers fs
visited_parts (Array n slot token ms) = numbers_of ms
visited_parts (Absent n) = []

-- "3 + 2 × arguments over all Fn nodes"
unfoldable pub entry_length : Node → ℕ
entry_length (Fn n slot name ret args body) = 3 + 2 * length args
entry_length (Atom n slot token k) = 0
entry_length (Ident n slot name) = 0
entry_length (Bin n slot token op l r) = 0
entry_length (Unary n slot token op r) = 0
entry_length (Let n slot name r) = 0
entry_length (Match n slot cs token d) = 0
entry_length (Call n slot target args) = 0
entry_length (Field n slot target name) = 0
entry_length (Cast n slot token l t) = 0
entry_length (Import n slot token paths) = 0
entry_length (Extern n slot token name fs) = 0
entry_length (Record n slot token fs) = 0
entry_length (Array n slot token ms) = 0
entry_length (Absent n) = 0
