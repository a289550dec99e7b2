-- The rules: one clause for each node kind, beside `Typechecker::node` (typecheck/lib.rs). Definitions.
use Rattle.std.specs.Prelude.{ℕ, zero, suc, ◌+◌, Bool, true, false, ◌||◌, List, [], ◌∷◌, get_or, eqb}
use Rattle.std.proofs.Math.Option.{Option, none, some}
use Rattle.tok.specs.Word.{kind_of, payload_of, word_of}
use Rattle.tok.specs.Text.{Texts, name_bytes, same_bytes}
use Rattle.tok.specs.Step.{◌>>=◌, ◌>>◌, return, look, when, for_each}
use Rattle.ptype.specs.Ty.{same_ty, bool_ty, contains_unknown}
use Rattle.ptype.specs.Words.{void_word, unknown_word, field_count}
use Rattle.ptype.specs.Add.{add_wrap, add_record}
use Rattle.ast.specs.TypeExpr.{TypeExpr, Arg, type_token}
use Rattle.ast.specs.Node.{Node, Nodes, Cases, Values, ExternFn}
use Rattle.ast.specs.Node.{Atom, Ident, Bin, Unary, Let, Fn, Match, Call, Field, Cast, Import, Extern, Record, Array, Absent, done, then, no_case, case, no_value, value}
use Rattle.tok.specs.declared.Span.{Span}
use Rattle.ast.specs.Span.{span_of}
use Rattle.err.specs.Message.{empty_array, members_differ, no_binding, let_void, defined_already, bad_return, no_record, no_field_of, bad_condition, match_cases, empty_import, no_import}
use Rattle.rules.specs.declared.Member.{Member}
use Rattle.rules.specs.declared.Member.TheVariants.{Alike as alike, Silent as silent, Differs as differs}
use Rattle.rules.specs.declared.Answer.{Answer}
use Rattle.rules.specs.declared.Answer.TheVariants.{Known, Poison}
use Rattle.library.specs.Package.{Param, param, signature, Function, function, pkg, find_package, find_function}
use Rattle.rules.specs.World.{Ctx, name_in, Walk}
use Rattle.rules.specs.Steps.{Done, skip, known, if_known, is_poison, on_option, ty, tree, ty_tree, set_known, on_types}
use Rattle.rules.specs.Steps.{report, poison, env_insert, env_get, framed, apart, hold, enter, type_from_expr}
use Rattle.rules.specs.Operators.{fuse, unary, cast}
use Rattle.rules.specs.Calls.{callee_of, provided_of, call}

-- Node::Ident: 3 where no binding is found; a poisoned binding poisons in silence
unfoldable pub ident : Ctx → (n slot name : ℕ) → Walk Answer
ident c n slot name = do
  s ← look
  on_option (env_get c.texts (name_in c name) s.env)
      (poison n (no_binding name (name_in c name)))
      (λ binding. on_option binding (return Poison) (λ w. set_known slot w))

-- Node::Let, let binding = 'rhs: { .. }: Poison and Void bind to nothing, Void with 7
unfoldable pub let_binding : (n name : ℕ) → Answer → Walk (Option ℕ)
let_binding n name (Known right) = do
  w ← ty right
  when (eqb (kind_of w) 1)
      (do
        report n (let_void name)
        return none)
      (return (some w))
let_binding n name Poison = return none

-- Node::Fn: the arguments' types, each recorded in its slot ("An Fn owns its slot and one after it per argument") and bound
unfoldable pub fn_arguments : Ctx → (n slot : ℕ) → List Arg → Walk (List Param)
fn_arguments c n slot [] = return []
fn_arguments c n slot (a ∷ rest) = do
  w ← type_from_expr c n a.type
  _ ← set_known slot w
  env_insert a.name (some w)
  params ← fn_arguments c n (slot + 1) rest
  return (param a.name w ∷ params)

-- if let Some(computed_ret) = .. && self.ty(computed_ret) != &ret: 9, at the return type's token
unfoldable pub check_return : Ctx → (n name : ℕ) → TypeExpr → (ret : ℕ) → (computed : Answer) → Walk Done
check_return c n name retExpr ret computed =
    if_known computed (λ slot. do
      t ← tree c ret
      u ← ty_tree c slot
      when (same_ty u t) skip (report n (bad_return (type_token retExpr) (name_in c name) t u)))

-- Node::Fn, of a name not yet met: the signature is entered before the body is walked. `body` is the block.
unfoldable pub fn : Ctx → (n slot name : ℕ) → TypeExpr → List Arg → (body : Walk Answer) → Walk Answer
fn c n slot name retExpr args body = do
  ret ← apart do
    params ← fn_arguments c n (slot + 1) args
    ret ← type_from_expr c n retExpr
    enter name params ret
    computed ← body
    check_return c n name retExpr ret computed
    return ret
  set_known slot ret

-- if self.functions.contains_key(inner_name): 8, and nothing else of it
unfoldable pub unless_defined : Ctx → (n name : ℕ) → Walk Answer → Walk Answer
unless_defined c n name m = do
  s ← look
  on_option (find_function c.texts (name_in c name) s.own) m (λ _. poison n (defined_already name (name_in c name)))

-- Node::Field: the type word of the first field of a name, of k fields from index `at` on
unfoldable pub find_field : Texts → List ℕ → (name : List ℕ) → (at k : ℕ) → Option ℕ
find_field texts types name at zero = none
find_field texts types name at (suc k) =
    elim (same_bytes name (name_bytes texts (get_or types at 0))) [ true ↦ some (get_or types (at + 1) 0) | false ↦ find_field texts types name (at + 2) k ]

-- if field.ty == Type::Unknown { set_known_lem(Unknown); return Poison }
unfoldable pub field_type : (slot word : ℕ) → Walk Answer
field_type slot w =
    when (eqb (kind_of w) 11)
    (do
      _ ← set_known slot unknown_word
      return Poison)
    (set_known slot w)

-- 12 where the target is no record, 13 where it has no such field
unfoldable pub field : Ctx → (n slot name : ℕ) → (target : ℕ) → Walk Answer
field c n slot name target = do
  w ← ty target
  t ← tree c w
  s ← look
  when (eqb (kind_of w) 8)
      (on_option (find_field c.texts s.types.words (name_in c name) (payload_of w + 1) (field_count s.types.words w))
      (poison n (no_field_of name t (name_in c name)))
      (λ found. field_type slot found))
      (poison n (no_record name t))

-- Node::Record: a poisoned value makes its field Unknown
unfoldable pub value_type : Answer → Walk ℕ
value_type (Known slot) = ty slot
value_type Poison = return unknown_word

-- Node::Array: what a member after the first is: alike, silent (poisoned, or an Unknown stands in it or in the first), or different
unfoldable pub member_types : Ctx → (n : ℕ) → Span → (first member : ℕ) → Walk Member
member_types c n span first member = do
  f ← ty_tree c first
  t ← ty_tree c member
  when (contains_unknown t || contains_unknown f) (return silent)
      (when (same_ty t f) (return alike)
      (do
        report n (members_differ span f t)
        return differs))

unfoldable pub member : Ctx → (n : ℕ) → Span → (first member : Answer) → Walk Member
member c n span (Known f) (Known m) = member_types c n span f m
member c n span (Known f) Poison = return silent
member c n span Poison m = return silent

-- "a member that differs ends the array's visits"; a poisoned one does not
unfoldable pub go_on : Member → (poisoned : Bool) → (Bool → Walk Answer) → Walk Answer
go_on alike poisoned rest = rest poisoned
go_on silent poisoned rest = rest true
go_on differs poisoned rest = return Poison

-- if poisoned { return Poison }; set_known_lem(Type::Array(elem))
unfoldable pub array_of : Ctx → (n slot : ℕ) → (first : Answer) → (poisoned : Bool) → Walk Answer
array_of c n slot first poisoned =
    known first (λ f. when poisoned (return Poison) (do
      elem ← ty f
      w ← on_types (add_wrap c.texts n 7 elem)
      set_known slot w))

-- Node::Match: 23
unfoldable pub condition : Ctx → (n token : ℕ) → Answer → Walk Done
condition c n token a =
    if_known a (λ slot. do
      t ← ty_tree c slot
      when (same_ty t bool_ty) skip (report n (bad_condition token t)))

-- a case's token and what its body answered
pub record Branch : Type 0 where
  pub token : ℕ
  pub answer : Answer

-- for cur in &branch_types { .. }: 24 for each that differs from the default's type; a poisoned one is passed over
unfoldable pub compare_branches : Ctx → (n : ℕ) → (default : ℕ) → List Branch → Walk Done
compare_branches c n default [] = skip
compare_branches c n default (b ∷ bs) = do
  if_known b.answer (λ slot. do
    t ← ty_tree c slot
    d ← ty_tree c default
    when (same_ty t d) skip (report n (match_cases b.token d t)))
  compare_branches c n default bs

-- self.alias(*id, first_type)
unfoldable pub matched : Ctx → (n slot : ℕ) → List Branch → (default : Answer) → Walk Answer
matched c n slot branches default =
    known default (λ d. do
      compare_branches c n d branches
      w ← ty d
      set_known slot w)

-- Node::Import: "an Import of one already held does nothing; the first library package of a name is found"; 26 where there is none
unfoldable pub import_one : Ctx → (n path : ℕ) → Walk Done
import_one c n path = do
  s ← look
  on_option (find_package c.texts (name_in c path) s.packages)
      (on_option (find_package c.texts (name_in c path) c.library) (report n (no_import path (name_in c path))) hold)
      (λ _. skip)

-- 25 where there is no path
unfoldable pub import_all : Ctx → (n token : ℕ) → List ℕ → Walk Done
import_all c n token [] = report n (empty_import token)
import_all c n token (p ∷ ps) = do
  _ ← for_each (λ path. import_one c n path) (p ∷ ps)
  skip

-- register_extern: each function's arguments, then its return type
unfoldable pub extern_fn : Ctx → (n : ℕ) → ExternFn → Walk Function
extern_fn c n f = do
  params ← for_each
      (λ a. do
        w ← type_from_expr c n a.type
        return (param a.name w)) f.args
  ret ← type_from_expr c n f.ret
  return (function f.name (signature params ret false))

unfoldable mutual
  -- Typechecker::node. (`already_checked` never finds anything: after refusal 4 no node is visited twice and each owns its slot alone.)
  pub node : Ctx → Node → Walk Answer
  node c (Atom n slot token k) = set_known slot (word_of k 0)
  node c (Ident n slot name) = ident c n slot name
  node c (Bin n slot token op left right) = do
    l ← node c left
    r ← node c right
    known l (λ ls. known r (λ rs. fuse c n slot token op ls rs))
  node c (Unary n slot token op right) = do
    r ← node c right
    known r (λ rs. unary c n slot token op rs)
  node c (Let n slot name right) = do
    r ← node c right
    binding ← let_binding n name r
    env_insert name binding
    set_known slot void_word
  node c (Fn n slot name ret args body) = unless_defined c n name (fn c n slot name ret args (block c body))
  node c (Match n slot cs token default) = do
    branches ← cases c n cs
    d ← block c default
    matched c n slot branches d
  node c (Call n slot target args) = call c n slot (callee_of target) (provided_of args) (visit_all c args)
  node c (Field n slot target name) = do
    t ← node c target
    known t (λ ts. field c n slot name ts)
  node c (Cast n slot token left type) = do
    to ← type_from_expr c n type
    l ← node c left
    known l (λ ls. cast c n slot token ls to)
  node c (Import n slot token paths) = do
    import_all c n token paths
    set_known slot void_word
  node c (Extern n slot token name functions) = do
    fs ← for_each (λ f. extern_fn c n f) functions
    hold (pkg name fs)
    set_known slot void_word
  node c (Record n slot token fields) = do
    pairs ← values c fields
    w ← on_types (add_record c.texts n pairs)
    set_known slot w
  node c (Array n slot token ms) = array c n slot token ms
  node c (Absent n) = return Poison

  -- block_type: "a block has its own frame"; the last node's answer, or slot V, which is Void
  pub block : Ctx → Nodes → Walk Answer
  block c done = return (Known c.void)
  block c (then x xs) = framed (do
    a ← node c x
    last c a xs)

  -- the nodes after one that answered
  pub last : Ctx → Answer → Nodes → Walk Answer
  last c a done = return a
  last c a (then x xs) = do
    b ← node c x
    last c b xs

  -- a call's arguments, all of them: is one poisoned?
  pub visit_all : Ctx → Nodes → Walk Bool
  visit_all c done = return false
  visit_all c (then x xs) = do
    a ← node c x
    rest ← visit_all c xs
    return (is_poison a || rest)

  -- Node::Match: each case's condition, then its body
  pub cases : Ctx → (n : ℕ) → Cases → Walk (List Branch)
  cases c n no_case = return []
  cases c n (case token x body cs) = do
    a ← node c x
    condition c n token a
    b ← block c body
    rest ← cases c n cs
    return (record { token = token; answer = b } ∷ rest)

  -- Node::Record: name and type of each field
  pub values : Ctx → Values → Walk (List ℕ)
  values c no_value = return []
  values c (value name x vs) = do
    a ← node c x
    w ← value_type a
    rest ← values c vs
    return (name ∷ w ∷ rest)

  -- Node::Array: 1 where it is empty
  pub array : Ctx → (n slot token : ℕ) → Nodes → Walk Answer
  array c n slot token done = poison n (empty_array token)
  array c n slot token (then x xs) = do
    first ← node c x
    members c n slot first false xs

  -- the members after the first
  pub members : Ctx → (n slot : ℕ) → (first : Answer) → (poisoned : Bool) → Nodes → Walk Answer
  members c n slot first poisoned done = array_of c n slot first poisoned
  members c n slot first poisoned (then x xs) = do
    a ← node c x
    m ← member c n (span_of x) first a
    go_on m poisoned (λ p. members c n slot first p xs)
