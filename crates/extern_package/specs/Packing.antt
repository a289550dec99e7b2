-- The package of an Extern: what the functions that write it ask for and say. Laws of it. Assumes nothing.
use Rattle.std.specs.Prelude.{ℕ, zero, suc, ◌+◌, ◌*◌, ◌-◌, ◌≤◌, ◌≡◌, refl, List, length, Ok}
use Rattle.std.proofs.Common.{arith}
use Rattle.tok.specs.Text.{Texts}
use Rattle.tok.specs.Step.{for_each, ◌>>=◌, ◌>>◌}
use Rattle.ptype.specs.Words.{void_word}
use Rattle.library.specs.Package.{Package, pkg}
use Rattle.ast.specs.Image.{word_at}
use Rattle.ast.specs.Node.{Extern, ExternFn, externs_from}
use Rattle.image_laws.specs.RecordWords.{FunctionsWords, no_functions, function_words}
use Rattle.image_laws.proofs.Accepted.{counts_in}
use Rattle.places.specs.Readable.{Readable}
use Rattle.rules.specs.declared.Answer.{Answer}
use Rattle.rules.specs.World.{Ctx, World, Walk}
use Rattle.rules.specs.Steps.{Done, hold, set_known}
use Rattle.rules.specs.Rules.{extern_fn, node}
use Rattle.state.specs.declared.Used.{Used}
use Rattle.state.specs.Context.{ctx}
use Rattle.state.specs.Signatures.{entries_from, entries_end}
use Rattle.state.specs.World.{Step, with_answer, Steps}
use Rattle.visit.specs.declared.State.{State}
use Rattle.room_laws.specs.Room.{extern_words}
use Rattle.visit.specs.Free.{Free}
use Rattle.parameters.specs.Arguments.{length-args}
use Rattle.externs.specs.Framed.{Framed}
use Rattle.externs.specs.Entries.{FunctionRoom}

-- the state with an Extern's package held from word `start` on
abbrev pub extern_held : State → Used → (start : ℕ) → State
extern_held st u start = record { used = u; names = st.names; held = start; packages = st.packages + 1; functions = st.functions }

-- Node::Extern
unfoldable pub extern_rule : Ctx → (n slot name : ℕ) → List ExternFn → Walk Answer
extern_rule c n slot name functions = do
  fs ← for_each (λ f. extern_fn c n f) functions
  hold (pkg name fs)
  set_known slot void_word

pub extern-rule : (c : Ctx) (n slot token name : ℕ) (functions : List ExternFn) (w : World) → node c (Extern n slot token name functions) w ≡ extern_rule c n slot name functions w
unfolding node extern_rule
extern-rule c n slot token name functions w = refl

-- ── What is asked for ──

-- `count` functions of an accepted image, from word `from` to before word `end`
pub record Functions (image places : List ℕ) (from end count : ℕ) : Type 0 where
  pub readable : Readable image places
  pub functions : FunctionsWords (counts_in readable.text image) image end from count
  pub low : end ≤ 8192

pub record FunctionsRoom (image places scratch : List ℕ) (from at count : ℕ) : Type 0 where
  pub end : ℕ
  pub functions : Functions image places from end count
  pub room : at + (end - from) ≤ 8192
  pub long : 8192 ≤ length scratch

pub record ExternReady (image places : List ℕ) (st : State) (scratch : List ℕ) (from end count : ℕ) : Type 0 where
  pub functions : Functions image places from end count
  pub free : Free (extern_words (externs_from image from count)) st scratch

-- ── What is said ──

-- the entries stand in scratch, as many words as in the image, and nothing else of it has changed
pub record WritesFunctions (image : List ℕ) (n from at count : ℕ) (t : List ℕ) (u : Used) (e t' e' : List ℕ) (r : Step Done) : Type 0 where
  pub steps : (T : Texts) (ls : List Package) (v : ℕ) (s d m : List ℕ)
      → Steps (for_each (λ f. extern_fn (ctx T ls v) n f) (externs_from image from count)) s t d m u s t' d m (with_answer (λ _. entries_from e' 0 at count) r)
  pub frame : (end : ℕ) {text : List ℕ} → FunctionsWords (counts_in text image) image end from count → Framed at (at + (end - from)) e e'
  pub ends : {d : Done} {after : Used} → r ≡ Ok (d, after) → (end : ℕ) {text : List ℕ} → FunctionsWords (counts_in text image) image end from count → entries_end e' 0 at count ≡ at + (end - from)

-- ── Functions one after the other ──

-- the place after them is not before them
pub functions-after : {text image : List ℕ} {end at k : ℕ} → FunctionsWords (counts_in text image) image end at k → at ≤ end
functions-after (no_functions e) = omega arith
functions-after (function_words a b c rest) = omega (arith, functions-after rest)

pub functions-first : {text image : List ℕ} {end at k : ℕ} → FunctionsWords (counts_in text image) image end at (suc k)
    → FunctionsWords (counts_in text image) image end (at + 3 + 2 * word_at image (at + 2)) k
functions-first (function_words a b c rest) = rest

pub functions-over : {text image : List ℕ} {end at : ℕ} → FunctionsWords (counts_in text image) image end at 0 → at ≡ end
functions-over (no_functions e) = e

-- the first of them, with room for its entry
pub first-room : {image places scratch : List ℕ} {from end k at : ℕ} → Functions image places from end (suc k)
    → at + (end - from) ≤ 8192 → 8192 ≤ length scratch → FunctionRoom image places scratch from at
first-room {image} {places} {scratch} {from} {end} {k} {at} f room long = by f.functions
  where
    by : FunctionsWords (counts_in f.readable.text image) image end from (suc k) → FunctionRoom image places scratch from at
    by (function_words a b c rest) = record {
      ret = record { readable = f.readable; below = b.under };
      arguments = record { readable = f.readable; pairs = c; room = omega (arith, functions-after rest, f.low) };
      room = omega (arith, functions-after rest, f.low);
      long = long;
    }

-- as many words in scratch as in the image, and three for the package
pub extern-size : {text image : List ℕ} {end at : ℕ} (k : ℕ) → FunctionsWords (counts_in text image) image end at k → extern_words (externs_from image at k) ≡ 3 + (end - at)
unfolding extern_words externs_from
extern-size {text = text} {image = image} {end = end} {at = at} zero (no_functions e) = omega arith
extern-size {text = text} {image = image} {end = end} {at = at} (suc k) (function_words a b c rest) =
    omega (arith, extern-size {text = text} {image = image} {end = end} {at = at + 3 + 2 * word_at image (at + 2)} k rest, functions-after rest, length-args image (at + 3) (word_at image (at + 2)))
