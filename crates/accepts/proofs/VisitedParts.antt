-- The numbers of a node's visited parts, and the words of the functions buffer that are its own. What is visited below some nodes
-- are these nodes' visited parts and those of what is visited below them. By induction on trees. Assumes nothing.
use Rattle.std.specs.Prelude.{ℕ, ◌+◌, ◌≡◌, List, ◌∷◌, ◌++◌}
use Rattle.std.proofs.Common.{arith}
use Rattle.std.proofs.Math.Path.{refl}
use Rattle.ast.specs.Node.{Node, Nodes, Cases, Values, Atom, Ident, Bin, Unary, Let, Fn, Match, Call, Field, Cast, Import, Extern, Record, Array, Absent, done, then, no_case, case, no_value, value}
use Rattle.rules.specs.Visited.{visited_below, visited_among, visited_in_cases, visited_in_values, number_of}
use Rattle.accepts.specs.Count.{total, total-append, one, count}
use Rattle.accepts.specs.VisitedParts.{numbers_of, case_numbers, value_numbers, visited_parts}

-- ── What is visited ──

module _ (m : ℕ) where
  -- how often m is a node of a list, and a visited part of one
  abbrev pub as_node : List Node → ℕ
  as_node xs = total (λ x. one m (number_of x)) xs

  abbrev pub as_part : List Node → ℕ
  as_part xs = total (λ x. count m (visited_parts x)) xs

  -- a node before others, and lists after lists
  node-before : (x : Node) (xs : List Node) → as_node (x ∷ xs) ≡ one m (number_of x) + as_node xs
  unfolding total
  node-before x xs = refl

  part-before : (x : Node) (xs : List Node) → as_part (x ∷ xs) ≡ count m (visited_parts x) + as_part xs
  unfolding total
  part-before x xs = refl

  nodes-after : (xs ys : List Node) → as_node (xs ++ ys) ≡ as_node xs + as_node ys
  nodes-after xs ys = total-append (λ x. one m (number_of x)) xs ys

  parts-after : (xs ys : List Node) → as_part (xs ++ ys) ≡ as_part xs + as_part ys
  parts-after xs ys = total-append (λ x. count m (visited_parts x)) xs ys

  -- a visited node and what is visited below it, before others
  joined : (x : Node) (ys : List Node) (k : ℕ) → as_node (visited_below x) ≡ count m (visited_parts x) + as_part (visited_below x) → as_node ys ≡ k + as_part ys
      → as_node ((x ∷ visited_below x) ++ ys) ≡ one m (number_of x) + k + as_part ((x ∷ visited_below x) ++ ys)
  joined x ys k h i =
      omega (arith, nodes-after (x ∷ visited_below x) ys, parts-after (x ∷ visited_below x) ys, node-before x (visited_below x), part-before x (visited_below x))

  mutual
    unfolding visited_below visited_parts numbers_of case_numbers value_numbers total

    below_sum : (x : Node) → as_node (visited_below x) ≡ count m (visited_parts x) + as_part (visited_below x)
    below_sum (Atom n slot token k) = refl
    below_sum (Ident n slot name) = refl
    below_sum (Bin n slot token op l r) =
        let h = below_sum r in
        let e = node-before r (visited_below r) in
        let f = part-before r (visited_below r) in
        omega (arith, joined l (r ∷ visited_below r) (one m (number_of r)) (below_sum l) (omega arith))
    below_sum (Unary n slot token op r) = omega (arith, below_sum r)
    below_sum (Let n slot name r) = omega (arith, below_sum r)
    below_sum (Fn n slot name ret args body) = among_sum body
    below_sum (Match n slot cs token d) =
        let nodes = nodes-after (visited_in_cases cs) (visited_among d) in
        let parts = parts-after (visited_in_cases cs) (visited_among d) in
        omega (arith, cases_sum cs, among_sum d, nodes, parts, total-append (one m) (case_numbers cs) (numbers_of d))
    below_sum (Call n slot target args) = among_sum args
    below_sum (Field n slot target name) = omega (arith, below_sum target)
    below_sum (Cast n slot token l t) = omega (arith, below_sum l)
    below_sum (Import n slot token paths) = refl
    below_sum (Extern n slot token name fs) = refl
    below_sum (Record n slot token fs) = values_sum fs
    below_sum (Array n slot token ms) = among_sum ms
    below_sum (Absent n) = refl

    pub among_sum : (xs : Nodes) → as_node (visited_among xs) ≡ count m (numbers_of xs) + as_part (visited_among xs)
    among_sum done = refl
    among_sum (then x xs) = omega (arith, joined x (visited_among xs) (count m (numbers_of xs)) (below_sum x) (among_sum xs))

    cases_sum : (cs : Cases) → as_node (visited_in_cases cs) ≡ count m (case_numbers cs) + as_part (visited_in_cases cs)
    cases_sum no_case = refl
    cases_sum (case token x body cs) =
        let ys : List Node = (x ∷ visited_below x) ++ visited_among body in
        omega (
          arith,
          total-append (one m) (numbers_of body) (case_numbers cs),
          joined x (visited_among body) (count m (numbers_of body)) (below_sum x) (among_sum body),
          cases_sum cs,
          nodes-after ys (visited_in_cases cs),
          parts-after ys (visited_in_cases cs),
        )

    values_sum : (vs : Values) → as_node (visited_in_values vs) ≡ count m (value_numbers vs) + as_part (visited_in_values vs)
    values_sum no_value = refl
    values_sum (value name x vs) = omega (arith, joined x (visited_in_values vs) (count m (value_numbers vs)) (below_sum x) (values_sum vs))
