-- What the walk works on (typecheck/lib.rs, `struct Typechecker`). Definitions.
use Rattle.std.specs.Prelude.{ℕ, List}
use Rattle.std.proofs.Math.Option.{Option}
use Rattle.tok.specs.Text.{Texts, name_bytes}
use Rattle.tok.specs.Step.{Step, Refusal}
use Rattle.ptype.specs.Add.{Buffer}
use Rattle.library.specs.Package.{Function, Package}

-- What stays: the two texts, the library's packages (the Rust's `libs`), and slot V, which is Void (the Rust's `self.void`).
pub record Ctx : Type 0 where
  pub texts : Texts
  pub library : List Package
  pub void : ℕ

-- the bytes of a name or token, as the Rust's `&str`
abbrev pub name_in : Ctx → (word : ℕ) → List ℕ
name_in c w = name_bytes c.texts w

-- A name in scope and its type's word; none is a poisoned binding, "its uses stay silent".
pub record Local : Type 0 where
  pub name : ℕ
  pub type : Option ℕ

-- What later requests add beside the five buffers: nothing yet.
pub record Log : Type 0 where

-- Each lent buffer whole, with what is used of it; and what the Rust keeps in its maps, newest first, so that the first of a name is found.
pub record World : Type 0 where
  -- map: the type word of each slot, 0 where none; used to V
  pub slots : List ℕ
  -- functions: "functions in order (name, argument count, pairs, return type)"
  pub functions : Buffer
  -- the arena's types
  pub types : Buffer
  -- diagnostics: here `used` counts diagnostics, of six words each
  pub diagnostics : Buffer
  -- their messages, in bytes
  pub messages : Buffer
  -- env: the frames one after the other; "a block has its own frame" is to take the old list again
  pub env : List Local
  -- packages held: "an Extern replaces a package of its name" by standing before it
  pub packages : List Package
  -- own functions met: "calls visited from there on find the new one"
  pub own : List Function
  pub log : Log

abbrev pub Walk : Type 0 → Type 0
Walk A = Step World Refusal A

-- A world that differs in one thing.
abbrev pub with_slots : World → List ℕ → World
with_slots s x = record { slots = x; functions = s.functions; types = s.types; diagnostics = s.diagnostics; messages = s.messages; env = s.env; packages = s.packages; own = s.own; log = s.log }

abbrev pub with_functions : World → Buffer → List Function → World
with_functions s x o = record { slots = s.slots; functions = x; types = s.types; diagnostics = s.diagnostics; messages = s.messages; env = s.env; packages = s.packages; own = o; log = s.log }

abbrev pub with_types : World → Buffer → World
with_types s x = record { slots = s.slots; functions = s.functions; types = x; diagnostics = s.diagnostics; messages = s.messages; env = s.env; packages = s.packages; own = s.own; log = s.log }

abbrev pub with_told : World → (diagnostics messages : Buffer) → World
with_told s d m = record { slots = s.slots; functions = s.functions; types = s.types; diagnostics = d; messages = m; env = s.env; packages = s.packages; own = s.own; log = s.log }

abbrev pub with_env : World → List Local → World
with_env s e = record { slots = s.slots; functions = s.functions; types = s.types; diagnostics = s.diagnostics; messages = s.messages; env = e; packages = s.packages; own = s.own; log = s.log }

abbrev pub with_packages : World → List Package → World
with_packages s p = record { slots = s.slots; functions = s.functions; types = s.types; diagnostics = s.diagnostics; messages = s.messages; env = s.env; packages = p; own = s.own; log = s.log }

abbrev pub with_log : World → Log → World
with_log s l = record { slots = s.slots; functions = s.functions; types = s.types; diagnostics = s.diagnostics; messages = s.messages; env = s.env; packages = s.packages; own = s.own; log = l }
