-- The rules (rules: `Rules`) with every stop of the Rust's walk in its place, `already_checked`, and the number of frames of its environment.
-- A stop stands where the Rust has it or before it, so that it is met at least where the Rust's is. Definitions.
use Rattle.std.specs.Prelude.{ℕ, suc, Bool, false, ◌&&◌, ◌||◌, List, [], ◌∷◌, ◌++◌}
use Rattle.tok.specs.Word.{word_of}
use Rattle.tok.specs.Step.{◌>>=◌, ◌>>◌, return, for_each}
use Rattle.ptype.specs.Words.{void_word}
use Rattle.ptype.specs.Add.{add_record}
use Rattle.ast.specs.Image.{node_count, root_count, slot_count}
use Rattle.ast.specs.Node.{Node, Nodes, Cases, Values, first_roots}
use Rattle.ast.specs.Node.{Atom, Ident, Bin, Unary, Let, Fn, Match, Call, Field, Cast, Import, Extern, Record, Array, Absent, done, then, no_case, case, no_value, value}
use Rattle.ast.specs.Span.{span_of}
use Rattle.err.specs.Message.{empty_array}
use Rattle.library.specs.Package.{pkg, pool_of, packages_of}
use Rattle.refusals.specs.Inputs.{Inputs}
use Rattle.rules.specs.declared.Answer.{Answer}
use Rattle.rules.specs.declared.Answer.TheVariants.{Known}
use Rattle.rules.specs.World.{Ctx, Walk}
use Rattle.rules.specs.Steps.{Done, skip, known, is_poison, on_types, set_known, poison, env_insert, framed, hold, type_from_expr}
use Rattle.rules.specs.Operators.{fuse, unary, cast}
use Rattle.rules.specs.Calls.{callee_of, provided_of}
use Rattle.rules.specs.Rules.{ident, let_binding, fn, unless_defined, field, value_type, member, go_on, array_of, condition, Branch, matched, import_all, extern_fn}
use Rattle.rules.specs.Walk.{ctx_of, copy_pool, pool_types, package_types, measure}
use Rattle.stops.specs.Guards.{stop, unless, expect, expect_of, expect_branches, unless_checked, last_frame, atom_kind, lex_types, arg_lex_types, extern_lex_types, operator}
use Rattle.stops.specs.GuardedCalls.{call_or_stop}

-- a block's answer, once `ty` may be asked for it
unfoldable pub answered : (line : ℕ) → Walk Answer → Walk Answer
answered line m = do
  a ← m
  expect_of line a
  return a

unfoldable mutual
  pub node_or_stop : Ctx → (frames : ℕ) → Node → Walk Answer
  node_or_stop c f (Atom n slot token k) = unless_checked slot (do
    atom_kind k
    set_known slot (word_of k 0))
  node_or_stop c f (Ident n slot name) = unless_checked slot (ident c n slot name)
  node_or_stop c f (Bin n slot token op left right) = unless_checked slot (do
    l ← node_or_stop c f left
    r ← node_or_stop c f right
    known l (λ ls. known r (λ rs. do
      expect 232 ls
      expect 232 rs
      operator op
      fuse c n slot token op ls rs)))
  node_or_stop c f (Unary n slot token op right) = unless_checked slot (do
    r ← node_or_stop c f right
    known r (λ rs. do
      expect 232 rs
      unary c n slot token op rs))
  node_or_stop c f (Let n slot name right) = unless_checked slot (do
    r ← node_or_stop c f right
    expect_of 232 r
    expect_of 829 r
    binding ← let_binding n name r
    last_frame f
    env_insert name binding
    expect 225 c.void
    set_known slot void_word)
  -- its environment is new, and has one frame
  node_or_stop c f (Fn n slot name ret args body) = unless_checked slot (do
    unless (arg_lex_types args && lex_types ret) 11 44
    last_frame 1
    unless_defined c n name (fn c n slot name ret args (answered 232 (block_or_stop c 1 body))))
  node_or_stop c f (Match n slot cs token default) = unless_checked slot (do
    branches ← cases_or_stop c f n cs
    d ← block_or_stop c f default
    expect_of 232 d
    expect_branches 232 branches
    expect_of 225 d
    matched c n slot branches d)
  node_or_stop c f (Call n slot target args) = unless_checked slot (call_or_stop c n slot (callee_of target) (provided_of args) (visit_all_or_stop c f args))
  node_or_stop c f (Field n slot target name) = unless_checked slot (do
    t ← node_or_stop c f target
    known t (λ ts. do
      expect 232 ts
      field c n slot name ts))
  node_or_stop c f (Cast n slot token left type) = unless_checked slot (do
    unless (lex_types type) 11 44
    to ← type_from_expr c n type
    l ← node_or_stop c f left
    known l (λ ls. do
      expect 232 ls
      cast c n slot token ls to))
  node_or_stop c f (Import n slot token paths) = unless_checked slot (do
    import_all c n token paths
    expect 225 c.void
    set_known slot void_word)
  node_or_stop c f (Extern n slot token name functions) = unless_checked slot (do
    unless (extern_lex_types functions) 11 44
    fs ← for_each (λ x. extern_fn c n x) functions
    hold (pkg name fs)
    expect 225 c.void
    set_known slot void_word)
  node_or_stop c f (Record n slot token fields) = unless_checked slot (do
    pairs ← values_or_stop c f fields
    w ← on_types (add_record c.texts n pairs)
    set_known slot w)
  node_or_stop c f (Array n slot token ms) = unless_checked slot (array_or_stop c f n slot token ms)
  -- &self.nodes[id.0]
  node_or_stop c f (Absent n) = stop 12 28

  pub block_or_stop : Ctx → (frames : ℕ) → Nodes → Walk Answer
  block_or_stop c f done = return (Known c.void)
  block_or_stop c f (then x xs) = framed (do
    a ← node_or_stop c (suc f) x
    last_or_stop c (suc f) a xs)

  pub last_or_stop : Ctx → (frames : ℕ) → Answer → Nodes → Walk Answer
  last_or_stop c f a done = return a
  last_or_stop c f a (then x xs) = do
    b ← node_or_stop c f x
    last_or_stop c f b xs

  pub visit_all_or_stop : Ctx → (frames : ℕ) → Nodes → Walk Bool
  visit_all_or_stop c f done = return false
  visit_all_or_stop c f (then x xs) = do
    a ← node_or_stop c f x
    rest ← visit_all_or_stop c f xs
    return (is_poison a || rest)

  pub cases_or_stop : Ctx → (frames n : ℕ) → Cases → Walk (List Branch)
  cases_or_stop c f n no_case = return []
  cases_or_stop c f n (case token x body cs) = do
    a ← node_or_stop c f x
    expect_of 232 a
    condition c n token a
    b ← block_or_stop c f body
    rest ← cases_or_stop c f n cs
    return (record { token = token; answer = b } ∷ rest)

  pub values_or_stop : Ctx → (frames : ℕ) → Values → Walk (List ℕ)
  values_or_stop c f no_value = return []
  values_or_stop c f (value name x vs) = do
    a ← node_or_stop c f x
    expect_of 232 a
    w ← value_type a
    rest ← values_or_stop c f vs
    return (name ∷ w ∷ rest)

  pub array_or_stop : Ctx → (frames n slot token : ℕ) → Nodes → Walk Answer
  array_or_stop c f n slot token done = poison n (empty_array token)
  array_or_stop c f n slot token (then x xs) = do
    first ← node_or_stop c f x
    members_or_stop c f n slot first false xs

  pub members_or_stop : Ctx → (frames n slot : ℕ) → (first : Answer) → (poisoned : Bool) → Nodes → Walk Answer
  members_or_stop c f n slot first poisoned done = do
    expect_of 232 first
    array_of c n slot first poisoned
  members_or_stop c f n slot first poisoned (then x xs) = do
    a ← node_or_stop c f x
    expect_of 232 a
    expect_of 232 first
    m ← member c n (span_of x) first a
    go_on m poisoned (λ p. members_or_stop c f n slot first p xs)

-- Typechecker::new and `check`: the environment begins with one frame
unfoldable pub walk_or_stop : Inputs → Walk Done
walk_or_stop i = do
  copy_pool (node_count i.image) (pool_of i.library)
  measure (ctx_of i) (node_count i.image) (pool_types (pool_of i.library) ++ package_types (packages_of i.library))
  _ ← last_or_stop (ctx_of i) 1 (Known (slot_count i.image)) (first_roots i.image (root_count i.image))
  skip
