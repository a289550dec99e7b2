-- The pool of a library as a buffer: what a type word of the library may refer into. Definition only.
use Prim.Native.Nat.{ℕ}
use Rattle.std.specs.Prelude.{length}
use mathlib.Core.List.{List}
use Rattle.ptype.specs.Add.{Buffer, buffer}
use Rattle.library.specs.Package.{pool_of}

module _ (words : List ℕ) where
  abbrev pub pool_buffer : Buffer
  pool_buffer = buffer (pool_of words) (length (pool_of words))
