-- A property of every slot that a tree's visited nodes own: a node's own, and an Fn's arguments'. Definitions.
use Rattle.std.specs.Prelude.{ℕ, ◌+◌, List, [], ◌∷◌}
use Rattle.ast.specs.TypeExpr.{Arg}
use Rattle.ast.specs.Node.{Node, Nodes, Cases, Values, Atom, Ident, Bin, Unary, Let, Fn, Match, Call, Field, Cast, Import, Extern, Record, Array, Absent, done, then, no_case, case, no_value, value}

-- "An Fn owns its slot and one after it per argument."
unfoldable pub ArgSlots : (P : ℕ → Type 0) → (slot : ℕ) → List Arg → Type 0
ArgSlots P slot [] = Unit {0}
ArgSlots P slot (a ∷ rest) = P slot × ArgSlots P (slot + 1) rest

unfoldable mutual
  pub SlotsOf : (P : ℕ → Type 0) → Node → Type 0
  SlotsOf P (Atom n slot token k) = P slot
  SlotsOf P (Ident n slot name) = P slot
  SlotsOf P (Bin n slot token op l r) = P slot × SlotsOf P l × SlotsOf P r
  SlotsOf P (Unary n slot token op r) = P slot × SlotsOf P r
  SlotsOf P (Let n slot name r) = P slot × SlotsOf P r
  SlotsOf P (Fn n slot name ret args body) = P slot × ArgSlots P (slot + 1) args × SlotsOfAll P body
  SlotsOf P (Match n slot cs token d) = P slot × SlotsOfCases P cs × SlotsOfAll P d
  SlotsOf P (Call n slot target args) = P slot × SlotsOfAll P args
  SlotsOf P (Field n slot target name) = P slot × SlotsOf P target
  SlotsOf P (Cast n slot token l t) = P slot × SlotsOf P l
  SlotsOf P (Import n slot token paths) = P slot
  SlotsOf P (Extern n slot token name fs) = P slot
  SlotsOf P (Record n slot token fs) = P slot × SlotsOfValues P fs
  SlotsOf P (Array n slot token ms) = P slot × SlotsOfAll P ms
  SlotsOf P (Absent n) = Unit {0}

  pub SlotsOfAll : (P : ℕ → Type 0) → Nodes → Type 0
  SlotsOfAll P done = Unit {0}
  SlotsOfAll P (then x xs) = SlotsOf P x × SlotsOfAll P xs

  pub SlotsOfCases : (P : ℕ → Type 0) → Cases → Type 0
  SlotsOfCases P no_case = Unit {0}
  SlotsOfCases P (case token x body cs) = SlotsOf P x × SlotsOfAll P body × SlotsOfCases P cs

  pub SlotsOfValues : (P : ℕ → Type 0) → Values → Type 0
  SlotsOfValues P no_value = Unit {0}
  SlotsOfValues P (value name x vs) = SlotsOf P x × SlotsOfValues P vs

-- the same of all but the node's own slot
unfoldable pub PartsOf : (P : ℕ → Type 0) → Node → Type 0
PartsOf P (Atom n slot token k) = Unit {0}
PartsOf P (Ident n slot name) = Unit {0}
PartsOf P (Bin n slot token op l r) = SlotsOf P l × SlotsOf P r
PartsOf P (Unary n slot token op r) = SlotsOf P r
PartsOf P (Let n slot name r) = SlotsOf P r
PartsOf P (Fn n slot name ret args body) = ArgSlots P (slot + 1) args × SlotsOfAll P body
PartsOf P (Match n slot cs token d) = SlotsOfCases P cs × SlotsOfAll P d
PartsOf P (Call n slot target args) = SlotsOfAll P args
PartsOf P (Field n slot target name) = SlotsOf P target
PartsOf P (Cast n slot token l t) = SlotsOf P l
PartsOf P (Import n slot token paths) = Unit {0}
PartsOf P (Extern n slot token name fs) = Unit {0}
PartsOf P (Record n slot token fs) = SlotsOfValues P fs
PartsOf P (Array n slot token ms) = SlotsOfAll P ms
PartsOf P (Absent n) = Unit {0}

-- the last of nodes one after the other
unfoldable pub last_node : Node → Nodes → Node
last_node x done = x
last_node x (then y ys) = last_node y ys

-- and of nodes one after the other, but the last one's own slot
unfoldable pub LastOf : (P : ℕ → Type 0) → Node → Nodes → Type 0
LastOf P x done = PartsOf P x
LastOf P x (then y ys) = SlotsOf P x × LastOf P y ys

-- what holds of every number holds of a tree's slots
pub all-args : {P : ℕ → Type 0} → ((slot : ℕ) → P slot) → (slot : ℕ) (args : List Arg) → ArgSlots P slot args
unfolding ArgSlots
all-args h slot [] = tt
all-args h slot (a ∷ rest) = (h slot, all-args h (slot + 1) rest)

mutual
  unfolding SlotsOf

  pub all_slots : {P : ℕ → Type 0} → ((slot : ℕ) → P slot) → (t : Node) → SlotsOf P t
  all_slots h (Atom n slot token k) = h slot
  all_slots h (Ident n slot name) = h slot
  all_slots h (Bin n slot token op l r) = (h slot, all_slots h l, all_slots h r)
  all_slots h (Unary n slot token op r) = (h slot, all_slots h r)
  all_slots h (Let n slot name r) = (h slot, all_slots h r)
  all_slots h (Fn n slot name ret args body) = (h slot, all-args h (slot + 1) args, all_among_lem h body)
  all_slots h (Match n slot cs token d) = (h slot, all-cases h cs, all_among_lem h d)
  all_slots h (Call n slot target args) = (h slot, all_among_lem h args)
  all_slots h (Field n slot target name) = (h slot, all_slots h target)
  all_slots h (Cast n slot token l t) = (h slot, all_slots h l)
  all_slots h (Import n slot token paths) = h slot
  all_slots h (Extern n slot token name fs) = h slot
  all_slots h (Record n slot token fs) = (h slot, all-values h fs)
  all_slots h (Array n slot token ms) = (h slot, all_among_lem h ms)
  all_slots h (Absent n) = tt

  pub all_among_lem : {P : ℕ → Type 0} → ((slot : ℕ) → P slot) → (xs : Nodes) → SlotsOfAll P xs
  all_among_lem h done = tt
  all_among_lem h (then x xs) = (all_slots h x, all_among_lem h xs)

  pub all-cases : {P : ℕ → Type 0} → ((slot : ℕ) → P slot) → (cs : Cases) → SlotsOfCases P cs
  all-cases h no_case = tt
  all-cases h (case token x body cs) = (all_slots h x, all_among_lem h body, all-cases h cs)

  pub all-values : {P : ℕ → Type 0} → ((slot : ℕ) → P slot) → (vs : Values) → SlotsOfValues P vs
  all-values h no_value = tt
  all-values h (value name x vs) = (all_slots h x, all-values h vs)
