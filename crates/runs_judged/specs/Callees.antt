-- Every own function that a call runs is judged: it was met as an Fn of judged roots. By induction on trees. Assumes nothing.
use Rattle.std.specs.Prelude.{ℕ, ◌+◌, ◌≡◌, Bool, eqb}
use Rattle.std.proofs.Math.Path.{subst}
use Rattle.std.proofs.Math.Bool.{true, false}
use Rattle.std.proofs.Math.Option.{Option, none, some}
use mathlib.Core.List.{List, [], ◌∷◌}
use Rattle.tok.specs.Text.{Texts, name_bytes, same_bytes}
use Rattle.ptype.specs.Ty.{Ty, void_ty}
use Rattle.ast.specs.Node.{Node, Nodes, Cases, Values, slot_of}
use Rattle.ast.specs.Node.{Atom, Ident, Bin, Unary, Let, Fn, Match, Call, Field, Cast, Import, Extern, Record, Array, Absent, done, then, no_case, case, no_value, value}
use Rattle.rules.specs.Calls.{Callee, own_function, package_function, through_field, no_callee, callee_of, overload_matches}
use Rattle.onerun.specs.Claim.{All, end, and}
use Rattle.rules.specs.Functions.{type_meant}
use Rattle.runs.specs.Declared.{Sig, Held, Own, Target, own, external, Chosen, Scope, find_own, find_held, group_in, first_equal, from_group, of_own, of_held, target_of}
use Rattle.runs.specs.Declared.{choosing, import_found, unless_held, imported, given_types, declare, declare_all, declare_cases, declare_values, nothing_met, target_at}
use Rattle.runs.specs.Stands.{Place, root, statement, operand}
use Rattle.runs_laws.specs.Judged.{Known, args_known, after, Judged, JudgedBody, JudgedAll, JudgedCases, JudgedValues, JudgedRoots, Bodies}

module _ (t : Texts) (library : List Held) (type : ℕ → Ty) (table : List Chosen) where
  abbrev JudgedOwn : Own → Type 0
  JudgedOwn f = JudgedBody t type table f.body (args_known t type table [] f.args) void_ty (type_meant t f.ret)

  unfoldable Safe : Target → Type 0
  Safe (own f) = JudgedOwn f
  Safe (external o k s g) = Unit {0}

  unfoldable IfSafe : Option Target → Type 0
  IfSafe none = Unit {0}
  IfSafe (some x) = Safe x

  record Judges (sc : Scope) : Type 0 where
    own_judged : All JudgedOwn sc.own
    chosen : All (λ (x : Chosen). Safe x.target) sc.chosen

  -- ── What a call finds ──

  either : (a b : Option Target) (d : Bool) → IfSafe a → IfSafe b → IfSafe (elim d [ true ↦ a | false ↦ b ])
  either a b true h k = h
  either a b false h k = k

  first_safe : (o k : ℕ) (given : List Ty) (gs : List Sig) → IfSafe (first_equal o k given gs)
  unfolding first_equal IfSafe Safe
  first_safe o k given [] = tt
  first_safe o k given (g ∷ gs) = either (some (external o k g given)) (first_equal o (k + 1) given gs) (overload_matches g.params given) tt (first_safe o (k + 1) given gs)

  group_safe : (o : ℕ) (given : List Ty) (gs : List Sig) → IfSafe (from_group o given gs)
  unfolding from_group IfSafe Safe
  group_safe o given [] = tt
  group_safe o given (g ∷ []) = tt
  group_safe o given (g ∷ h ∷ gs) = first_safe o 0 given (g ∷ h ∷ gs)

  held_safe : (name : List ℕ) (given : List Ty) (o : Option Held) → IfSafe (of_held name given o)
  unfolding of_held IfSafe
  held_safe name given none = tt
  held_safe name given (some p) = group_safe p.origin given (group_in name p.functions)

  own_safe : (name : List ℕ) {fs : List Own} → All JudgedOwn fs → IfSafe (of_own (find_own name fs))
  unfolding find_own of_own IfSafe Safe
  own_safe name end = tt
  own_safe name (and {a = f} {xs = fs} h rest) = by (own_safe name rest) (same_bytes name f.name)
    where
      by : IfSafe (of_own (find_own name fs)) → (d : Bool) → IfSafe (of_own (elim d [ true ↦ some f | false ↦ find_own name fs ]))
      by k true = h
      by k false = k

  target_safe : (f : Callee) (given : List Ty) (sc : Scope) → Judges sc → IfSafe (target_of t library type f given sc)
  unfolding target_of IfSafe
  target_safe (own_function name) given sc s = own_safe (name_bytes t name) s.own_judged
  target_safe (package_function pkg name) given sc s = held_safe (name_bytes t name) given (find_held (name_bytes t pkg) sc.held)
  target_safe (through_field name) given sc s = tt
  target_safe no_callee given sc s = tt

  choose_safe : (n slot : ℕ) (o : Option Target) (sc : Scope) → IfSafe o → Judges sc → Judges (choosing n slot o sc)
  unfolding choosing IfSafe
  choose_safe n slot none sc h s = s
  choose_safe n slot (some x) sc h s = record { own_judged = s.own_judged; chosen = and h s.chosen }

  -- ── Imports ──

  found_safe : (o : Option Held) (sc : Scope) → Judges sc → Judges (import_found t library type o sc)
  unfolding import_found
  found_safe none sc s = s
  found_safe (some p) sc s = record { own_judged = s.own_judged; chosen = s.chosen }

  unless_safe : (o : Option Held) (path : List ℕ) (sc : Scope) → Judges sc → Judges (unless_held t library type o path sc)
  unfolding unless_held
  unless_safe none path sc s = found_safe (find_held path library) sc s
  unless_safe (some p) path sc s = s

  import_safe : (ps : List ℕ) (sc : Scope) → Judges sc → Judges (imported t library type ps sc)
  unfolding imported
  import_safe [] sc s = s
  import_safe (p ∷ ps) sc s = import_safe ps _ (unless_safe (find_held (name_bytes t p) sc.held) (name_bytes t p) sc s)

  -- ── The pass ──

  mutual
    unfolding declare Judged

    safe_node : (x : Node) (p : Place) (ks : List Known) (sc : Scope) → Judged t type table x p ks → Judges sc → Judges (declare t library type x sc)
    safe_node (Atom n slot token k) p ks sc j s = s
    safe_node (Ident n slot name) p ks sc j s = s
    safe_node (Bin n slot token op l r) p ks sc j s = safe_node r operand ks (declare t library type l sc) j.1 (safe_node l operand ks sc j.0 s)
    safe_node (Unary n slot token op r) p ks sc j s = safe_node r operand ks sc j.0 s
    safe_node (Let n slot name r) p ks sc j s = safe_node r operand ks sc j.1 s
    safe_node (Fn n slot name ret args body) p ks sc j s = safe_body body (args_known t type table [] args) void_ty (type_meant t ret) _ j.1
        (record { own_judged = and j.1 s.own_judged; chosen = s.chosen })
    safe_node (Match n slot cs token d) p ks sc j s = safe_body d ks void_ty (type slot) (declare_cases t library type cs sc) j.1 (safe_cases cs ks (type slot) sc j.0 s)
    safe_node (Call n slot target args) p ks sc j s =
        let u = safe_all args ks sc j.0 s in
        choose_safe n slot _ (declare_all t library type args sc) (target_safe (callee_of target) (given_types type args) (declare_all t library type args sc) u) u
    safe_node (Field n slot target name) p ks sc j s = safe_node target operand ks sc j.0 s
    safe_node (Cast n slot token l e) p ks sc j s = safe_node l operand ks sc j.0 s
    safe_node (Import n slot token paths) p ks sc j s = import_safe paths sc s
    safe_node (Extern n slot token name fs) p ks sc j s = record { own_judged = s.own_judged; chosen = s.chosen }
    safe_node (Record n slot token fs) p ks sc j s = safe_values fs ks sc j.0 s
    safe_node (Array n slot token ms) p ks sc j s = safe_all ms ks sc j.0 s
    safe_node (Absent n) p ks sc j s = s

    safe_body : (xs : Nodes) (ks : List Known) (last whole : Ty) (sc : Scope) → JudgedBody t type table xs ks last whole → Judges sc → Judges (declare_all t library type xs sc)
    safe_body done ks last whole sc j s = s
    safe_body (then x xs) ks last whole sc j s = safe_body xs (after t type table x ks) (type (slot_of x)) whole (declare t library type x sc) j.1 (safe_node x statement ks sc j.0 s)

    safe_all : (xs : Nodes) (ks : List Known) (sc : Scope) → JudgedAll t type table xs ks → Judges sc → Judges (declare_all t library type xs sc)
    safe_all done ks sc j s = s
    safe_all (then x xs) ks sc j s = safe_all xs ks (declare t library type x sc) j.1 (safe_node x operand ks sc j.0 s)

    safe_cases : (cs : Cases) (ks : List Known) (whole : Ty) (sc : Scope) → JudgedCases t type table cs ks whole → Judges sc → Judges (declare_cases t library type cs sc)
    safe_cases no_case ks whole sc j s = s
    safe_cases (case token x body cs) ks whole sc j s = safe_cases cs ks whole _ j.3
        (safe_body body ks void_ty whole (declare t library type x sc) j.2 (safe_node x operand ks sc j.0 s))

    safe_values : (vs : Values) (ks : List Known) (sc : Scope) → JudgedValues t type table vs ks → Judges sc → Judges (declare_values t library type vs sc)
    safe_values no_value ks sc j s = s
    safe_values (value name x vs) ks sc j s = safe_values vs ks (declare t library type x sc) j.1 (safe_node x operand ks sc j.0 s)

  safe_roots : (xs : Nodes) (ks : List Known) (sc : Scope) → JudgedRoots t type table xs ks → Judges sc → Judges (declare_all t library type xs sc)
  unfolding declare_all JudgedRoots
  safe_roots done ks sc j s = s
  safe_roots (then x xs) ks sc j s = safe_roots xs (after t type table x ks) (declare t library type x sc) j.1 (safe_node x root ks sc j.0 s)

  at_safe : (q : ℕ) {xs : List Chosen} → All (λ (x : Chosen). Safe x.target) xs → IfSafe (target_at q xs)
  unfolding target_at IfSafe
  at_safe q end = tt
  at_safe q (and {a = x} {xs = xs} h rest) = either (some x.target) (target_at q xs) (eqb q x.slot) h (at_safe q rest)

  -- THE LAW, where the table is the pass's
  pub bodies : (xs : Nodes) → JudgedRoots t type table xs [] → (declare_all t library type xs nothing_met).chosen ≡ table → Bodies t type table
  unfolding IfSafe Safe
  bodies xs j e = record {
    each = λ slot f q. subst IfSafe q (at_safe slot (subst (All (λ (x : Chosen). Safe x.target)) e (safe_roots xs [] nothing_met j (record { own_judged = end; chosen = end })).chosen));
  }
