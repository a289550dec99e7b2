-- The steps that the rules are made of. Definitions.
use Rattle.std.specs.Prelude.{ℕ, Bool, true, false, List, [], ◌∷◌, ◌++◌, get_or, set, length}
use Rattle.std.proofs.Math.Option.{Option, none, some}
use Rattle.tok.specs.Text.{Texts, name_bytes, same_bytes}
use Rattle.tok.specs.Step.{Result, ok, refused, Step, Refusal, refusal, ◌>>=◌, ◌>>◌, return, look, give, refuse, when}
use Rattle.ptype.specs.Ty.{Ty}
use Rattle.ptype.specs.Words.{ty_of}
use Rattle.ptype.specs.Add.{Buffer, append}
use Rattle.ast.specs.TypeExpr.{TypeExpr}
use Rattle.ast.specs.TypeFrom.{type_from}
use Rattle.err.specs.Message.{Diagnostic}
use Rattle.err.specs.Report.{Output, tell}
use Rattle.rules.specs.declared.Answer.{Answer}
use Rattle.rules.specs.declared.Answer.TheVariants.{Known, Poison}
use Rattle.library.specs.Package.{Param, signature, function, Package}
use Rattle.rules.specs.World.{Ctx, Local, World, Walk, with_slots, with_functions, with_types, with_told, with_env, with_packages, Log, with_log}

abbrev pub Done : Type 0
Done = Unit {0}

abbrev pub skip : Walk Done
skip = return tt

-- "a Known answer yields its slot, otherwise Poison ends the rule": let Some(slot) = answer.known() else { return TcType::Poison; }
unfoldable pub known : Answer → (ℕ → Walk Answer) → Walk Answer
known (Known slot) f = f slot
known Poison f = return Poison

-- if let Some(slot) = answer.known() { .. }
unfoldable pub if_known : Answer → (ℕ → Walk Done) → Walk Done
if_known (Known slot) f = f slot
if_known Poison f = skip

-- self.node(arg).known().is_none()
unfoldable pub is_poison : Answer → Bool
is_poison (Known slot) = false
is_poison Poison = true

-- match o { None => .., Some(a) => .. }
unfoldable pub on_option : {A B : Type 0} → Option A → Walk B → (A → Walk B) → Walk B
on_option none m f = m
on_option (some a) m f = f a

-- Typechecker::ty: the type word in a slot
unfoldable pub ty : (slot : ℕ) → Walk ℕ
ty slot = do
  s ← look
  return (get_or s.slots slot 0)

-- what a type word means now
unfoldable pub tree : Ctx → (word : ℕ) → Walk Ty
tree c w = do
  s ← look
  return (ty_of c.texts s.types.words w)

-- the type in a slot
unfoldable pub ty_tree : Ctx → (slot : ℕ) → Walk Ty
ty_tree c slot = do
  w ← ty slot
  tree c w

-- Typechecker::set_known_lem (and `alias`, which copies a word)
unfoldable pub set_known : (slot word : ℕ) → Walk Answer
set_known slot w = do
  s ← look
  give (Known slot) (with_slots s (set s.slots slot w))

-- Steps of the types buffer, with its refusals 7 and 8.
unfoldable pub raised : {A : Type 0} → World → Result Buffer Refusal A → Result World Refusal A
raised s (ok a t) = ok a (with_types s t)
raised s (refused r) = refused r

unfoldable pub on_types : {A : Type 0} → Step Buffer Refusal A → Walk A
on_types m = λ s. raised s (m s.types)

-- Steps of the log.
unfoldable pub raised_log : {A : Type 0} → World → Result Log Refusal A → Result World Refusal A
raised_log s (ok a l) = ok a (with_log s l)
raised_log s (refused r) = refused r

unfoldable pub on_log : {A : Type 0} → Step Log Refusal A → Walk A
on_log m = λ s. raised_log s (m s.log)

-- Steps of the diagnostics and their messages, with refusal 9.
unfoldable pub raised_told : {A : Type 0} → World → Result Output Refusal A → Result World Refusal A
raised_told s (ok a o) = ok a (with_told s o.diagnostics o.messages)
raised_told s (refused r) = refused r

abbrev pub output_of : World → Output
output_of s = record { diagnostics = s.diagnostics; messages = s.messages }

-- Typechecker::report, of node n
unfoldable pub report : (n : ℕ) → Diagnostic → Walk Done
report n d = λ s. raised_told s (tell n d (output_of s))

-- report, and return TcType::Poison
unfoldable pub poison : (n : ℕ) → Diagnostic → Walk Answer
poison n d = report n d >> return Poison

-- Typechecker::env_insert
unfoldable pub env_insert : (name : ℕ) → Option ℕ → Walk Done
env_insert name t = do
  s ← look
  give tt (with_env s (record { name = name; type = t } ∷ s.env))

-- Typechecker::env_get, "innermost frame last; lookups walk from top to bottom": here the newest is first
unfoldable pub env_get : Texts → (name : List ℕ) → List Local → Option (Option ℕ)
env_get texts name [] = none
env_get texts name (l ∷ ls) = elim (same_bytes name (name_bytes texts l.name)) [ true ↦ some l.type | false ↦ env_get texts name ls ]

-- "a block has its own frame": self.env.push(..), .., self.env.pop()
unfoldable pub framed : {A : Type 0} → Walk A → Walk A
framed m = do
  before ← look
  a ← m
  after ← look
  give a (with_env after before.env)

-- "a function body sees only its arguments": mem::replace(&mut self.env, ..), .., self.env = prev_env
unfoldable pub apart : {A : Type 0} → Walk A → Walk A
apart m = framed do
  s ← look
  _ ← give s (with_env s [])
  m

-- self.packages.insert(name, registered)
unfoldable pub hold : Package → Walk Done
hold p = do
  s ← look
  give tt (with_packages s (p ∷ s.packages))

-- the words of a list of arguments: "pairs"
unfoldable pub pairs_of : List Param → List ℕ
pairs_of [] = []
pairs_of (p ∷ ps) = p.name ∷ p.type ∷ pairs_of ps

-- self.functions.insert(inner_name, f_type): "functions in order (name, argument count, pairs, return type)".
-- Refusal 6 came before where the buffer is too short for all Fn nodes.
unfoldable pub entry_of : (name : ℕ) → List Param → (ret : ℕ) → List ℕ
entry_of name ps ret = (name ∷ length ps ∷ pairs_of ps) ++ (ret ∷ [])

unfoldable pub enter : (name : ℕ) → List Param → (ret : ℕ) → Walk Done
enter name ps ret = do
  s ← look
  give tt (with_functions s (append s.functions (entry_of name ps ret)) (function name (signature ps ret false) ∷ s.own))

-- the type of a type expression, for node n
unfoldable pub type_from_expr : Ctx → (n : ℕ) → TypeExpr → Walk ℕ
type_from_expr c n e = on_types (type_from c.texts n e)
