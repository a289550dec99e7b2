-- Which nodes are visited (document 01, "Added for demand 3"): "Visited here are the roots and each part of a visited node but a call's
-- target." A static notion: it asks nothing of the walk. Definitions.
use Rattle.std.specs.Prelude.{ℕ, ◌+◌, List, [], ◌∷◌, ◌++◌, length}
use Rattle.ast.specs.Node.{Node, Nodes, Cases, Values, slot_of, roots_of}
use Rattle.ast.specs.Node.{Atom, Ident, Bin, Unary, Let, Fn, Match, Call, Field, Cast, Import, Extern, Record, Array, Absent, done, then, no_case, case, no_value, value}
use Rattle.ast.specs.Claims.{count_from}

-- what is visited below a visited node, and a list of visited nodes with what is visited below each
unfoldable mutual
  pub visited_below : Node → List Node
  visited_below (Atom n slot token k) = []
  visited_below (Ident n slot name) = []
  visited_below (Bin n slot token op l r) = (l ∷ visited_below l) ++ (r ∷ visited_below r)
  visited_below (Unary n slot token op r) = r ∷ visited_below r
  visited_below (Let n slot name r) = r ∷ visited_below r
  visited_below (Fn n slot name ret args body) = visited_among body
  visited_below (Match n slot cs token d) = visited_in_cases cs ++ visited_among d
  visited_below (Call n slot target args) = visited_among args
  visited_below (Field n slot target name) = target ∷ visited_below target
  visited_below (Cast n slot token l t) = l ∷ visited_below l
  visited_below (Import n slot token paths) = []
  visited_below (Extern n slot token name fs) = []
  visited_below (Record n slot token fs) = visited_in_values fs
  visited_below (Array n slot token ms) = visited_among ms
  visited_below (Absent n) = []

  pub visited_among : Nodes → List Node
  visited_among done = []
  visited_among (then x xs) = (x ∷ visited_below x) ++ visited_among xs

  pub visited_in_cases : Cases → List Node
  visited_in_cases no_case = []
  visited_in_cases (case token x body cs) = (x ∷ visited_below x) ++ visited_among body ++ visited_in_cases cs

  pub visited_in_values : Values → List Node
  visited_in_values no_value = []
  visited_in_values (value name x vs) = (x ∷ visited_below x) ++ visited_in_values vs

-- the visited nodes of an image
unfoldable pub visited_in : (image : List ℕ) → List Node
visited_in image = visited_among (roots_of image)

-- the number of a node
unfoldable pub number_of : Node → ℕ
number_of (Atom n slot token k) = n
number_of (Ident n slot name) = n
number_of (Bin n slot token op l r) = n
number_of (Unary n slot token op r) = n
number_of (Let n slot name r) = n
number_of (Fn n slot name ret args body) = n
number_of (Match n slot cs token d) = n
number_of (Call n slot target args) = n
number_of (Field n slot target name) = n
number_of (Cast n slot token l t) = n
number_of (Import n slot token paths) = n
number_of (Extern n slot token name fs) = n
number_of (Record n slot token fs) = n
number_of (Array n slot token ms) = n
number_of (Absent n) = n

-- the arguments of an Fn
unfoldable pub arguments_of : Node → ℕ
arguments_of (Fn n slot name ret args body) = length args
arguments_of (Atom n slot token k) = 0
arguments_of (Ident n slot name) = 0
arguments_of (Bin n slot token op l r) = 0
arguments_of (Unary n slot token op r) = 0
arguments_of (Let n slot name r) = 0
arguments_of (Match n slot cs token d) = 0
arguments_of (Call n slot target args) = 0
arguments_of (Field n slot target name) = 0
arguments_of (Cast n slot token l t) = 0
arguments_of (Import n slot token paths) = 0
arguments_of (Extern n slot token name fs) = 0
arguments_of (Record n slot token fs) = 0
arguments_of (Array n slot token ms) = 0
arguments_of (Absent n) = 0

-- "An Fn owns its slot and one after it per argument."
abbrev pub slots_of : Node → List ℕ
slots_of x = count_from (slot_of x) (arguments_of x + 1)

-- the slots that some nodes own, one after the other
unfoldable pub all_slots : List Node → List ℕ
all_slots [] = []
all_slots (x ∷ xs) = slots_of x ++ all_slots xs

-- the slots that the visited nodes of an image own
unfoldable pub visited_slots : (image : List ℕ) → List ℕ
visited_slots image = all_slots (visited_in image)
