-- A property of every slot that visited nodes own, from one of each slot that is counted among theirs; and visited nodes of joined lists. By
-- induction on trees. Assumes nothing.
use Rattle.std.specs.Prelude.{ℕ, ◌+◌, ◌≤◌, ◌≡◌, refl, length}
use Rattle.std.proofs.Common.{arith, add-one, sym, ap, ◌∙◌}
use mathlib.Core.List.{List, [], ◌∷◌, ◌++◌, append_assoc}
use Rattle.ast.specs.TypeExpr.{Arg}
use Rattle.ast.specs.Node.{Node, Nodes, Cases, Values, slot_of}
use Rattle.ast.specs.Node.{Atom, Ident, Bin, Unary, Let, Fn, Match, Call, Field, Cast, Import, Extern, Record, Array, Absent, done, then, no_case, case, no_value, value}
use Rattle.ast.specs.Claims.{count_from}
use Rattle.rules.specs.Visited.{visited_below, visited_among, visited_in_cases, visited_in_values, arguments_of, slots_of}
use Rattle.laws.specs.SlotsOf.{ArgSlots, SlotsOf, SlotsOfAll, SlotsOfCases, SlotsOfValues}
use Rattle.tworuns.specs.Split.{joined}
use Rattle.accepts.specs.Count.{total, total-append, one_same, count}
use Rattle.accepts.proofs.Once.{own-slot}

-- how often the nodes of a list own a slot
abbrev pub owned : (slot : ℕ) → List Node → ℕ
owned slot xs = total (λ x. count slot (slots_of x)) xs

pub own-owned : (x : Node) (xs : List Node) → 1 ≤ owned (slot_of x) (x ∷ xs)
unfolding total
own-owned x xs = omega (arith, own-slot (slot_of x) x, one_same (slot_of x))

pub visited-joined : (xs ys : Nodes) → visited_among (joined xs ys) ≡ visited_among xs ++ visited_among ys
unfolding joined visited_among
visited-joined done ys = refl
visited-joined (then x xs) ys =
    ap (λ (l : List Node). (x ∷ visited_below x) ++ l) (visited-joined xs ys) ∙ sym (append_assoc (x ∷ visited_below x) (visited_among xs) (visited_among ys))

module _ (Q : ℕ → Type 0) where
  -- Q holds of each slot that nodes of a list own
  pub record Holds (xs : List Node) : Type 0 where
    pub holds : (slot : ℕ) → 1 ≤ owned slot xs → Q slot

  -- parts of a list
  pub left : (xs ys : List Node) → Holds (xs ++ ys) → Holds xs
  left xs ys h = record { holds = λ slot l. h.holds slot (omega (arith, total-append (λ x. count slot (slots_of x)) xs ys)) }

  pub right : (xs ys : List Node) → Holds (xs ++ ys) → Holds ys
  right xs ys h = record { holds = λ slot l. h.holds slot (omega (arith, total-append (λ x. count slot (slots_of x)) xs ys)) }

  below : (x : Node) (xs : List Node) → Holds (x ∷ xs) → Holds xs
  unfolding total
  below x xs h = record { holds = λ slot l. h.holds slot (omega arith) }

  own : (x : Node) (xs : List Node) → Holds (x ∷ xs) → Q (slot_of x)
  unfolding total
  own x xs h = h.holds (slot_of x) (omega (arith, own-slot (slot_of x) x, one_same (slot_of x)))

  pub args-hold : (slot : ℕ) (args : List Arg) → ((s : ℕ) → 1 ≤ count s (count_from slot (length args)) → Q s) → ArgSlots Q slot args
  unfolding ArgSlots count_from total
  args-hold slot [] h = tt
  args-hold slot (a ∷ rest) h = (h slot (omega (arith, one_same slot)), args-hold (slot + 1) rest (λ s l. h s (omega arith)))

  pub fn-args : (n slot name : ℕ) (ret : _) (args : List Arg) (body : Nodes) (xs : List Node) → Holds (Fn n slot name ret args body ∷ xs) → ArgSlots Q (slot + 1) args
  unfolding count_from total slot_of arguments_of
  fn-args n slot name ret args body xs h =
      args-hold (slot + 1) args (λ s l. h.holds s (rw (add-one (length args)) (omega arith)))

  mutual
    unfolding SlotsOf visited_below slot_of

    pub slots-hold : (x : Node) → Holds (x ∷ visited_below x) → SlotsOf Q x
    slots-hold (Atom n slot token k) h = own _ _ h
    slots-hold (Ident n slot name) h = own _ _ h
    slots-hold (Bin n slot token op l r) h =
        let b = below (Bin n slot token op l r) _ h in
        (own (Bin n slot token op l r) _ h, slots-hold l (left (l ∷ visited_below l) (r ∷ visited_below r) b), slots-hold r (right (l ∷ visited_below l) (r ∷ visited_below r) b))
    slots-hold (Unary n slot token op r) h = (own (Unary n slot token op r) _ h, slots-hold r (below (Unary n slot token op r) _ h))
    slots-hold (Let n slot name r) h = (own (Let n slot name r) _ h, slots-hold r (below (Let n slot name r) _ h))
    slots-hold (Fn n slot name ret args body) h =
        (own (Fn n slot name ret args body) _ h, fn-args n slot name ret args body _ h, among-hold body (below (Fn n slot name ret args body) _ h))
    slots-hold (Match n slot cs token d) h =
        let b = below (Match n slot cs token d) _ h in
        (own (Match n slot cs token d) _ h, cases-hold cs (left (visited_in_cases cs) (visited_among d) b), among-hold d (right (visited_in_cases cs) (visited_among d) b))
    slots-hold (Call n slot target args) h = (own (Call n slot target args) _ h, among-hold args (below (Call n slot target args) _ h))
    slots-hold (Field n slot target name) h = (own (Field n slot target name) _ h, slots-hold target (below (Field n slot target name) _ h))
    slots-hold (Cast n slot token l t) h = (own (Cast n slot token l t) _ h, slots-hold l (below (Cast n slot token l t) _ h))
    slots-hold (Import n slot token paths) h = own _ _ h
    slots-hold (Extern n slot token name fs) h = own _ _ h
    slots-hold (Record n slot token fs) h = (own (Record n slot token fs) _ h, values-hold fs (below (Record n slot token fs) _ h))
    slots-hold (Array n slot token ms) h = (own (Array n slot token ms) _ h, among-hold ms (below (Array n slot token ms) _ h))
    slots-hold (Absent n) h = tt

    pub among-hold : (xs : Nodes) → Holds (visited_among xs) → SlotsOfAll Q xs
    among-hold done h = tt
    among-hold (then x xs) h = (slots-hold x (left (x ∷ visited_below x) (visited_among xs) h), among-hold xs (right (x ∷ visited_below x) (visited_among xs) h))

    pub cases-hold : (cs : Cases) → Holds (visited_in_cases cs) → SlotsOfCases Q cs
    cases-hold no_case h = tt
    cases-hold (case token x body cs) h =
        let ys : List Node = (x ∷ visited_below x) ++ visited_among body in
        let b = left ys (visited_in_cases cs) h in
        (slots-hold x (left (x ∷ visited_below x) (visited_among body) b), among-hold body (right (x ∷ visited_below x) (visited_among body) b), cases-hold cs (right ys (visited_in_cases cs) h))

    pub values-hold : (vs : Values) → Holds (visited_in_values vs) → SlotsOfValues Q vs
    values-hold no_value h = tt
    values-hold (value name x vs) h = (slots-hold x (left (x ∷ visited_below x) (visited_in_values vs) h), values-hold vs (right (x ∷ visited_below x) (visited_in_values vs) h))
