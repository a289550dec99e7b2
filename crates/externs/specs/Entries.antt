-- The functions of an Extern: what the functions that write them ask for and say. Definitions.
use Rattle.std.specs.Prelude.{ℕ, ◌+◌, ◌*◌, ◌≤◌, ◌≡◌, List, get_or, length}
use Rattle.tok.specs.Text.{Texts}
use Rattle.tok.specs.Step.{for_each, ◌>>=◌, return}
use Rattle.library.specs.Package.{Package, Param, param, params_from}
use Rattle.ast.specs.Image.{word_at}
use Rattle.ast.specs.TypeExpr.{Arg, type_of, args_from}
use Rattle.ast.specs.Node.{ExternFn}
use Rattle.type_expr.specs.Ready.{TypeReady}
use Rattle.rules.specs.World.{Ctx, Walk}
use Rattle.rules.specs.Steps.{Done, type_from_expr}
use Rattle.rules.specs.Rules.{extern_fn}
use Rattle.state.specs.declared.Used.{Used}
use Rattle.state.specs.Context.{ctx}
use Rattle.state.specs.Signatures.{entry_at}
use Rattle.state.specs.World.{Step, with_answer, Steps}
use Rattle.parameters.specs.Arguments.{Arguments}
use Rattle.externs.specs.Framed.{Framed}

-- ── What is asked for ──

pub record ArgumentsRoom (image places scratch : List ℕ) (from at count : ℕ) : Type 0 where
  pub arguments : Arguments image places from count
  pub room : at + 2 * count ≤ 8192
  pub long : 8192 ≤ length scratch

-- a function in an accepted image, and room for its entry
pub record FunctionRoom (image places scratch : List ℕ) (from at : ℕ) : Type 0 where
  pub ret : TypeReady image places (word_at image (from + 1))
  pub arguments : Arguments image places (from + 3) (word_at image (from + 2))
  pub room : at + 3 + 2 * word_at image (from + 2) ≤ 8192
  pub long : 8192 ≤ length scratch

-- ── What is said ──

-- an argument's name and type (register_extern)
unfoldable pub extern_arg : Ctx → (n : ℕ) → Arg → Walk Param
extern_arg c n a = do
  w ← type_from_expr c n a.type
  return (param a.name w)

-- a function of an Extern, by its place in the image
abbrev pub function_in : (image : List ℕ) → (at : ℕ) → ExternFn
function_in image at = record { name = word_at image at; ret = type_of image (word_at image (at + 1)); args = args_from image (at + 3) (word_at image (at + 2)) }

-- the pairs of the arguments stand in scratch, and nothing else of it has changed
pub record ArguesExtern (image : List ℕ) (n from at count : ℕ) (t : List ℕ) (u : Used) (e t' e' : List ℕ) (r : Step Done) : Type 0 where
  pub steps : (T : Texts) (ls : List Package) (v : ℕ) (s d m : List ℕ)
      → Steps (for_each (λ a. extern_arg (ctx T ls v) n a) (args_from image from count)) s t d m u s t' d m (with_answer (λ _. params_from e' at count) r)
  pub frame : Framed at (at + 2 * count) e e'

-- the entry stands in scratch
pub record EntersExtern (image : List ℕ) (n from at : ℕ) (t : List ℕ) (u : Used) (e t' e' : List ℕ) (r : Step Done) : Type 0 where
  pub steps : (T : Texts) (ls : List Package) (v : ℕ) (s d m : List ℕ)
      → Steps (extern_fn (ctx T ls v) n (function_in image from)) s t d m u s t' d m (with_answer (λ _. entry_at e' 0 at) r)
  pub frame : Framed at (at + 3 + 2 * word_at image (from + 2)) e e'
  pub count : get_or e' (at + 1) 0 ≡ word_at image (from + 2)
