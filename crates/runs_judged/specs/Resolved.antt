-- The table has for each call what was in force when the call was visited: no slot is owned twice, so that nothing chosen later hides it.
-- By induction on trees. Assumes nothing.
use Rattle.std.specs.Prelude.{ℕ, ◌+◌, ◌≤◌, ◌≡◌, Bool, true, false}
use Rattle.std.proofs.Common.{arith, ◌∙◌, eq-eqb, ne_eqb}
use Rattle.std.proofs.Math.Path.{refl, ap}
use Rattle.std.proofs.Math.Option.{Option, none, some}
use mathlib.Core.List.{List, [], ◌∷◌, ◌++◌}
use Rattle.tok.specs.Text.{Texts, name_bytes}
use Rattle.ptype.specs.Ty.{Ty}
use Rattle.ast.specs.Node.{Node, Nodes, Cases, Values, slot_of}
use Rattle.ast.specs.Node.{Atom, Ident, Bin, Unary, Let, Fn, Match, Call, Field, Cast, Import, Extern, Record, Array, Absent, done, then, no_case, case, no_value, value}
use Rattle.rules.specs.Calls.{callee_of}
use Rattle.rules.specs.Visited.{visited_below, visited_among, visited_in_cases, visited_in_values}
use Rattle.accepts.specs.Count.{total, total-append, one_same, count}
use Rattle.rules.specs.Visited.{slots_of}
use Rattle.accepts.proofs.Once.{own-slot}
use Rattle.accepts.proofs.OtherSlots.{owned}
use Rattle.runs.specs.Declared.{Held, Target, Chosen, Scope, meeting, choosing, given_types, target_of, import_found}
use Rattle.runs.specs.Declared.{unless_held, imported, declare, declare_all, declare_cases, declare_values, target_at}

-- how often the nodes of a list, and of two lists, own a slot
both : (q : ℕ) (xs ys : List Node) → owned q (xs ++ ys) ≡ owned q xs + owned q ys
both q xs ys = total-append (λ x. count q (slots_of x)) xs ys

head : (q : ℕ) (x : Node) (xs : List Node) → owned q (x ∷ xs) ≡ count q (slots_of x) + owned q xs
unfolding total
head q x xs = refl

-- a node owns its own slot
self : (x : Node) → 1 ≤ count (slot_of x) (slots_of x)
self x = omega (arith, own-slot (slot_of x) x, one_same (slot_of x))

abbrev pick : Option Target → Option Target → Bool → Option Target
pick a b d = elim d [ true ↦ a | false ↦ b ]

module _ (t : Texts) (library : List Held) (type : ℕ → Ty) where
  -- ── What is chosen for other slots stays ──

  found-same : (o : Option Held) (s : Scope) → (import_found t library type o s).chosen ≡ s.chosen
  unfolding import_found
  found-same none s = refl
  found-same (some p) s = refl

  held_same : (o : Option Held) (path : List ℕ) (s : Scope) → (unless_held t library type o path s).chosen ≡ s.chosen
  unfolding unless_held
  held_same none path s = found-same _ s
  held_same (some p) path s = refl

  import_same : (ps : List ℕ) (s : Scope) → (imported t library type ps s).chosen ≡ s.chosen
  unfolding imported
  import_same [] s = refl
  import_same (p ∷ ps) s = import_same ps _ ∙ held_same _ (name_bytes t p) s

  choose-other : (n slot q : ℕ) (o : Option Target) (s : Scope) → (q ≡ slot → ⊥) → target_at q (choosing n slot o s).chosen ≡ target_at q s.chosen
  unfolding choosing target_at
  choose-other n slot q none s h = refl
  choose-other n slot q (some x) s h = ap (pick (some x) (target_at q s.chosen)) (ne_eqb q slot h)

  choose-own : (n slot : ℕ) (o : Option Target) (s : Scope) → target_at slot s.chosen ≡ none → target_at slot (choosing n slot o s).chosen ≡ o
  unfolding choosing target_at
  choose-own n slot none s h = h
  choose-own n slot (some x) s h = ap (pick (some x) (target_at slot s.chosen)) (eq-eqb slot slot refl)

  -- a slot that a node does not own is not its own
  not_own : (q : ℕ) (x : Node) (xs : List Node) → owned q (x ∷ xs) ≡ 0 → q ≡ slot_of x → ⊥
  not_own q x xs h e = let k = self x in let l : 1 ≤ count q (slots_of x) = rw e k in omega (arith, head q x xs)

  mutual
    unfolding declare visited_below slot_of

    other-node : (x : Node) (q : ℕ) (s : Scope) → owned q (x ∷ visited_below x) ≡ 0 → target_at q (declare t library type x s).chosen ≡ target_at q s.chosen
    other-node (Atom n slot token k) q s h = refl
    other-node (Ident n slot name) q s h = refl
    other-node (Bin n slot token op l r) q s h =
        let a = head q (Bin n slot token op l r) ((l ∷ visited_below l) ++ (r ∷ visited_below r)) in
        let b = both q (l ∷ visited_below l) (r ∷ visited_below r) in
        other-node r q (declare t library type l s) (omega arith) ∙ other-node l q s (omega arith)
    other-node (Unary n slot token op r) q s h = other-node r q s (omega (arith, head q (Unary n slot token op r) (r ∷ visited_below r)))
    other-node (Let n slot name r) q s h = other-node r q s (omega (arith, head q (Let n slot name r) (r ∷ visited_below r)))
    other-node (Fn n slot name ret args body) q s h = other-all body q _ (omega (arith, head q (Fn n slot name ret args body) (visited_among body)))
    other-node (Match n slot cs token d) q s h =
        let a = head q (Match n slot cs token d) (visited_in_cases cs ++ visited_among d) in
        let b = both q (visited_in_cases cs) (visited_among d) in
        other-all d q (declare_cases t library type cs s) (omega arith) ∙ other-cases cs q s (omega arith)
    other-node (Call n slot target args) q s h =
        choose-other n slot q _ (declare_all t library type args s) (not_own q (Call n slot target args) (visited_among args) h) ∙ other-all args q s
        (omega (arith, head q (Call n slot target args) (visited_among args)))
    other-node (Field n slot target name) q s h = other-node target q s (omega (arith, head q (Field n slot target name) (target ∷ visited_below target)))
    other-node (Cast n slot token l e) q s h = other-node l q s (omega (arith, head q (Cast n slot token l e) (l ∷ visited_below l)))
    other-node (Import n slot token paths) q s h = ap (target_at q) (import_same paths s)
    other-node (Extern n slot token name fs) q s h = refl
    other-node (Record n slot token fs) q s h = other-values fs q s (omega (arith, head q (Record n slot token fs) (visited_in_values fs)))
    other-node (Array n slot token ms) q s h = other-all ms q s (omega (arith, head q (Array n slot token ms) (visited_among ms)))
    other-node (Absent n) q s h = refl

    other-all : (xs : Nodes) (q : ℕ) (s : Scope) → owned q (visited_among xs) ≡ 0 → target_at q (declare_all t library type xs s).chosen ≡ target_at q s.chosen
    other-all done q s h = refl
    other-all (then x xs) q s h = let b = both q (x ∷ visited_below x) (visited_among xs) in other-all xs q (declare t library type x s) (omega arith) ∙ other-node x q s (omega arith)

    other-cases : (cs : Cases) (q : ℕ) (s : Scope) → owned q (visited_in_cases cs) ≡ 0 → target_at q (declare_cases t library type cs s).chosen ≡ target_at q s.chosen
    other-cases no_case q s h = refl
    other-cases (case token x body cs) q s h =
        let b = both q ((x ∷ visited_below x) ++ visited_among body) (visited_in_cases cs) in
        let c = both q (x ∷ visited_below x) (visited_among body) in
        other-cases cs q _ (omega arith) ∙ (other-all body q (declare t library type x s) (omega arith) ∙ other-node x q s (omega arith))

    other-values : (vs : Values) (q : ℕ) (s : Scope) → owned q (visited_in_values vs) ≡ 0 → target_at q (declare_values t library type vs s).chosen ≡ target_at q s.chosen
    other-values no_value q s h = refl
    other-values (value name x vs) q s h = let b = both q (x ∷ visited_below x) (visited_in_values vs) in other-values vs q (declare t library type x s) (omega arith)
        ∙ other-node x q s (omega arith)

  -- ── The table, call by call ──

  module _ (table : List Chosen) where
    -- for each call below a node: the table has what the scope of that point gives, its arguments passed
    unfoldable mutual
      pub Resolves : Node → Scope → Type 0
      Resolves (Atom n slot token k) s = Unit {0}
      Resolves (Ident n slot name) s = Unit {0}
      Resolves (Bin n slot token op l r) s = Resolves l s × Resolves r (declare t library type l s)
      Resolves (Unary n slot token op r) s = Resolves r s
      Resolves (Let n slot name r) s = Resolves r s
      Resolves (Fn n slot name ret args body) s = ResolvesAll body (meeting (record { name = name_bytes t name; node = n; args = args; ret = ret; body = body }) s)
      Resolves (Match n slot cs token d) s = ResolvesCases cs s × ResolvesAll d (declare_cases t library type cs s)
      Resolves (Call n slot target args) s =
          ResolvesAll args s × (target_at slot table ≡ target_of t library type (callee_of target) (given_types type args) (declare_all t library type args s))
      Resolves (Field n slot target name) s = Resolves target s
      Resolves (Cast n slot token l e) s = Resolves l s
      Resolves (Import n slot token paths) s = Unit {0}
      Resolves (Extern n slot token name fs) s = Unit {0}
      Resolves (Record n slot token fs) s = ResolvesValues fs s
      Resolves (Array n slot token ms) s = ResolvesAll ms s
      Resolves (Absent n) s = Unit {0}

      pub ResolvesAll : Nodes → Scope → Type 0
      ResolvesAll done s = Unit {0}
      ResolvesAll (then x xs) s = Resolves x s × ResolvesAll xs (declare t library type x s)

      pub ResolvesCases : Cases → Scope → Type 0
      ResolvesCases no_case s = Unit {0}
      ResolvesCases (case token x body cs) s =
          Resolves x s × ResolvesAll body (declare t library type x s) × ResolvesCases cs (declare_all t library type body (declare t library type x s))

      pub ResolvesValues : Values → Scope → Type 0
      ResolvesValues no_value s = Unit {0}
      ResolvesValues (value name x vs) s = Resolves x s × ResolvesValues vs (declare t library type x s)

    -- of nodes that are passed between two scopes: no slot is owned twice, none has a target before, and the table agrees after
    pub record Passes (xs : List Node) (s u : Scope) : Type 0 where
      pub once : (q : ℕ) → owned q xs ≤ 1
      pub fresh : (q : ℕ) → 1 ≤ owned q xs → target_at q s.chosen ≡ none
      pub agrees : (q : ℕ) → 1 ≤ owned q xs → target_at q table ≡ target_at q u.chosen

    -- two stretches, one after the other
    first : (xs ys : List Node) {s m u : Scope} → Passes (xs ++ ys) s u → ((q : ℕ) → owned q ys ≡ 0 → target_at q u.chosen ≡ target_at q m.chosen) → Passes xs s m
    first xs ys h k = record {
      once = λ q. omega (arith, h.once q, both q xs ys);
      fresh = λ q l. h.fresh q (omega (arith, both q xs ys));
      agrees = λ q l. h.agrees q (omega (arith, both q xs ys)) ∙ k q (omega (arith, h.once q, both q xs ys));
    }

    second : (xs ys : List Node) {s m u : Scope} → Passes (xs ++ ys) s u → ((q : ℕ) → owned q xs ≡ 0 → target_at q m.chosen ≡ target_at q s.chosen) → Passes ys m u
    second xs ys h k = record {
      once = λ q. omega (arith, h.once q, both q xs ys);
      fresh = λ q l. k q (omega (arith, h.once q, both q xs ys)) ∙ h.fresh q (omega (arith, both q xs ys));
      agrees = λ q l. h.agrees q (omega (arith, both q xs ys));
    }

    -- below a node
    under : (x : Node) (xs : List Node) {s u : Scope} → Passes (x ∷ xs) s u → Passes xs s u
    under x xs h = record {
      once = λ q. omega (arith, h.once q, head q x xs);
      fresh = λ q l. h.fresh q (omega (arith, head q x xs));
      agrees = λ q l. h.agrees q (omega (arith, head q x xs));
    }

    -- a slot owned below a node is not its own
    apart : (x : Node) (xs : List Node) (q : ℕ) {s u : Scope} → Passes (x ∷ xs) s u → 1 ≤ owned q xs → q ≡ slot_of x → ⊥
    apart x xs q h l e = let k = self x in let m : 1 ≤ count q (slots_of x) = rw e k in omega (arith, h.once q, head q x xs)

    mutual
      unfolding declare visited_below slot_of Resolves

      pub resolves : (x : Node) (s : Scope) → Passes (x ∷ visited_below x) s (declare t library type x s) → Resolves x s
      resolves (Atom n slot token k) s h = tt
      resolves (Ident n slot name) s h = tt
      resolves (Bin n slot token op l r) s h =
          let g = under (Bin n slot token op l r) _ h in (
            resolves l s (first (l ∷ visited_below l) (r ∷ visited_below r) g (λ q e. other-node r q (declare t library type l s) e)),
            resolves r (declare t library type l s) (second (l ∷ visited_below l) (r ∷ visited_below r) g (λ q e. other-node l q s e)),
          )
      resolves (Unary n slot token op r) s h = resolves r s (under (Unary n slot token op r) _ h)
      resolves (Let n slot name r) s h = resolves r s (under (Let n slot name r) _ h)
      resolves (Fn n slot name ret args body) s h =
          let g = under (Fn n slot name ret args body) _ h in
          resolves-all body _ (record { once = g.once; fresh = g.fresh; agrees = g.agrees })
      resolves (Match n slot cs token d) s h =
          let g = under (Match n slot cs token d) _ h in (
            resolves-cases cs s (first (visited_in_cases cs) (visited_among d) g (λ q e. other-all d q (declare_cases t library type cs s) e)),
            resolves-all d (declare_cases t library type cs s) (second (visited_in_cases cs) (visited_among d) g (λ q e. other-cases cs q s e)),
          )
      resolves (Call n slot target args) s h =
          let u : Scope = declare_all t library type args s in
          let x : Node = Call n slot target args in
          let k : 1 ≤ count slot (slots_of x) = self x in
          let a = head slot x (visited_among args) in (
            resolves-all args s (record {
              once = (under x (visited_among args) h).once;
              fresh = (under x (visited_among args) h).fresh;
              agrees = λ q l. (under x (visited_among args) h).agrees q l ∙ choose-other n slot q _ u (λ e. apart x (visited_among args) q h l e);
            }),
            h.agrees slot (omega arith) ∙ choose-own n slot _ u (other-all args slot s (omega (arith, h.once slot)) ∙ h.fresh slot (omega arith)),
          )
      resolves (Field n slot target name) s h = resolves target s (under (Field n slot target name) _ h)
      resolves (Cast n slot token l e) s h = resolves l s (under (Cast n slot token l e) _ h)
      resolves (Import n slot token paths) s h = tt
      resolves (Extern n slot token name fs) s h = tt
      resolves (Record n slot token fs) s h = resolves-values fs s (under (Record n slot token fs) _ h)
      resolves (Array n slot token ms) s h = resolves-all ms s (under (Array n slot token ms) _ h)
      resolves (Absent n) s h = tt

      pub resolves-all : (xs : Nodes) (s : Scope) → Passes (visited_among xs) s (declare_all t library type xs s) → ResolvesAll xs s
      resolves-all done s h = tt
      resolves-all (then x xs) s h = (
        resolves x s (first (x ∷ visited_below x) (visited_among xs) h (λ q e. other-all xs q (declare t library type x s) e)),
        resolves-all xs (declare t library type x s) (second (x ∷ visited_below x) (visited_among xs) h (λ q e. other-node x q s e)),
      )

      resolves-cases : (cs : Cases) (s : Scope) → Passes (visited_in_cases cs) s (declare_cases t library type cs s) → ResolvesCases cs s
      resolves-cases no_case s h = tt
      resolves-cases (case token x body cs) s h =
          let ys : List Node = (x ∷ visited_below x) ++ visited_among body in
          let u : Scope = declare_all t library type body (declare t library type x s) in
          let g : Passes ys s u = first ys (visited_in_cases cs) h (λ q e. other-cases cs q u e) in (
            resolves x s (first (x ∷ visited_below x) (visited_among body) g (λ q e. other-all body q (declare t library type x s) e)),
            resolves-all body (declare t library type x s) (second (x ∷ visited_below x) (visited_among body) g (λ q e. other-node x q s e)),
            resolves-cases cs u (second ys (visited_in_cases cs) h (λ q e. let b = both q (x ∷ visited_below x) (visited_among body) in other-all body q
                (declare t library type x s) (omega arith) ∙ other-node x q s (omega arith))),
          )

      resolves-values : (vs : Values) (s : Scope) → Passes (visited_in_values vs) s (declare_values t library type vs s) → ResolvesValues vs s
      resolves-values no_value s h = tt
      resolves-values (value name x vs) s h = (
        resolves x s (first (x ∷ visited_below x) (visited_in_values vs) h (λ q e. other-values vs q (declare t library type x s) e)),
        resolves-values vs (declare t library type x s) (second (x ∷ visited_below x) (visited_in_values vs) h (λ q e. other-node x q s e)),
      )
