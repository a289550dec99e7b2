-- The words that visiting some nodes takes are the sum of what each visited node takes by itself. By induction on trees. Assumes nothing.
use Rattle.std.specs.Prelude.{ℕ, ◌+◌, ◌*◌, ◌≡◌, refl, List, ◌∷◌, ◌++◌, length}
use Rattle.std.proofs.Common.{arith}
use Rattle.ast.specs.Node.{Node, Nodes, Cases, Values, Atom, Ident, Bin, Unary, Let, Fn, Match, Call, Field, Cast, Import, Extern, Record, Array, Absent, done, then, no_case, case, no_value, value}
use Rattle.rules.specs.Visited.{visited_below, visited_among, visited_in_cases, visited_in_values}
use Rattle.accepts.specs.Count.{total, total-append}
use Rattle.accepts.specs.VisitedParts.{entry_length}
use Rattle.room_laws.specs.Room.{extern_words, room, rooms, case_rooms, value_rooms, call_room, rows, rows_all, case_rows, value_rows}
use Rattle.room_laws.specs.Sums.{own_room}

-- a sum over a visited node and what is visited below it, before others
before : (f : Node → ℕ) (x : Node) (ys : List Node) → total f ((x ∷ visited_below x) ++ ys) ≡ f x + total f (visited_below x) + total f ys
unfolding total
before f x ys = omega (arith, total-append f (visited_below x) ys)

mutual
  unfolding room visited_below own_room total

  room_sum : (x : Node) → room x ≡ own_room x + total own_room (visited_below x)
  room_sum (Atom n slot token k) = refl
  room_sum (Ident n slot name) = refl
  room_sum (Bin n slot token op l r) = omega (arith, room_sum l, room_sum r, before own_room l (r ∷ visited_below r))
  room_sum (Unary n slot token op r) = omega (arith, room_sum r)
  room_sum (Let n slot name r) = omega (arith, room_sum r)
  room_sum (Fn n slot name ret args body) = omega (arith, rooms_sum body)
  room_sum (Match n slot cs token d) = omega (arith, cases_sum cs, rooms_sum d, total-append own_room (visited_in_cases cs) (visited_among d))
  room_sum (Call n slot target args) = omega (arith, rooms_sum args)
  room_sum (Field n slot target name) = omega (arith, room_sum target)
  room_sum (Cast n slot token l t) = omega (arith, room_sum l)
  room_sum (Import n slot token paths) = omega arith
  room_sum (Extern n slot token name fs) = omega arith
  room_sum (Record n slot token fs) = omega (arith, values_sum fs)
  room_sum (Array n slot token ms) = omega (arith, rooms_sum ms)
  room_sum (Absent n) = refl

  pub rooms_sum : (xs : Nodes) → rooms xs ≡ total own_room (visited_among xs)
  rooms_sum done = refl
  rooms_sum (then x xs) = omega (arith, room_sum x, rooms_sum xs, before own_room x (visited_among xs))

  cases_sum : (cs : Cases) → case_rooms cs ≡ total own_room (visited_in_cases cs)
  cases_sum no_case = refl
  cases_sum (case token x body cs) =
      let ys : List Node = (x ∷ visited_below x) ++ visited_among body in
      omega (arith, room_sum x, rooms_sum body, cases_sum cs, before own_room x (visited_among body), total-append own_room ys (visited_in_cases cs))

  values_sum : (vs : Values) → value_rooms vs ≡ total own_room (visited_in_values vs)
  values_sum no_value = refl
  values_sum (value name x vs) = omega (arith, room_sum x, values_sum vs, before own_room x (visited_in_values vs))

mutual
  unfolding rows visited_below entry_length total

  row_sum : (x : Node) → rows x ≡ entry_length x + total entry_length (visited_below x)
  row_sum (Atom n slot token k) = refl
  row_sum (Ident n slot name) = refl
  row_sum (Bin n slot token op l r) = omega (arith, row_sum l, row_sum r, before entry_length l (r ∷ visited_below r))
  row_sum (Unary n slot token op r) = omega (arith, row_sum r)
  row_sum (Let n slot name r) = omega (arith, row_sum r)
  row_sum (Fn n slot name ret args body) = omega (arith, rows_sum body)
  row_sum (Match n slot cs token d) = omega (arith, case-rows_sum cs, rows_sum d, total-append entry_length (visited_in_cases cs) (visited_among d))
  row_sum (Call n slot target args) = omega (arith, rows_sum args)
  row_sum (Field n slot target name) = omega (arith, row_sum target)
  row_sum (Cast n slot token l t) = omega (arith, row_sum l)
  row_sum (Import n slot token paths) = omega arith
  row_sum (Extern n slot token name fs) = omega arith
  row_sum (Record n slot token fs) = omega (arith, value-rows_sum fs)
  row_sum (Array n slot token ms) = omega (arith, rows_sum ms)
  row_sum (Absent n) = refl

  pub rows_sum : (xs : Nodes) → rows_all xs ≡ total entry_length (visited_among xs)
  rows_sum done = refl
  rows_sum (then x xs) = omega (arith, row_sum x, rows_sum xs, before entry_length x (visited_among xs))

  case-rows_sum : (cs : Cases) → case_rows cs ≡ total entry_length (visited_in_cases cs)
  case-rows_sum no_case = refl
  case-rows_sum (case token x body cs) =
      let ys : List Node = (x ∷ visited_below x) ++ visited_among body in
      omega (arith, row_sum x, rows_sum body, case-rows_sum cs, before entry_length x (visited_among body), total-append entry_length ys (visited_in_cases cs))

  value-rows_sum : (vs : Values) → value_rows vs ≡ total entry_length (visited_in_values vs)
  value-rows_sum no_value = refl
  value-rows_sum (value name x vs) = omega (arith, row_sum x, value-rows_sum vs, before entry_length x (visited_in_values vs))
